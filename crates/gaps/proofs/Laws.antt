-- Turns of the loops over gaps, on the characters at a place.
use Prim.Native.Nat.{◌+◌, ◌-◌, ◌<◌, ◌≤◌, suc, ℕ}
use mathlib.Core.Bool.{Bool, ◌&&◌, ◌||◌, false, not, or_assoc, or-false, or_self, true}
use mathlib.Core.List.{List, [], ◌∷◌}
use mathlib.Core.Path.{◌∙◌, ◌≡◌, ap, refl, sym}
use native.Mathlib.Omega.{arith}
use lib.Dec.{T, eqb, ltb}
use Rattle.std.specs.List.{prefix_len}
use Rattle.std.proofs.Common.{get_or-drop, length-drop, take_all}
use Rattle.std.proofs.lemmas.List.{get_or_past}
use Rattle.std.proofs.lemmas.List.Sums.{prefix_len_stops}
use lib.ListN.{drop, get_or, length, take}
use borrow.Author.Tests.{eqb-true, ltb-false, ltb-true}
use Rattle.yaml_text.specs.declared.Mark.{Mark}
use Rattle.yaml_text.specs.Char.{'#', carriage_return, line_feed, space, tab}
use Rattle.yaml_text.specs.Class.{is_blank, is_break, peek}
use Rattle.yaml_text.specs.Mark.{Run, along, along_by, before_run, here, look, new_line, nothing_at, over, run_of}
use Rattle.yaml_text.specs.Mark as definition
use Rattle.yaml_text.specs.MarkLaws.{over_along, over_break, over_crlf}
use Rattle.yaml_text.specs.Refusal.{Read, got, refused}
use Rattle.yaml_text.specs.Test.{by_pick, by_test, true_false}
use Rattle.yaml_text.specs.Utf8.{chars}
use Rattle.yaml_lexeme.specs.declared.Before.{Before}
use Rattle.yaml_lexeme.specs.declared.Before.TheVariants.{AfterText, InComment, Leading, Spaced, Tabbed}
use Rattle.yaml_text.specs.PlaceLaws.{fits_left}
use Rattle.yaml_lexeme.specs.Fits.{to_break_fit}
use Rattle.yaml_lexeme.specs.Gap.{Gap, blanks, comment_after, gap_turn, is_leading, on_blank, on_hash, on_other, skip_gap, stop, to_break}
use Rattle.yaml_lexeme.specs.Turns.{blanks_more, blanks_stop, gap_turned, to_break_more, to_break_stop}
use Rattle.chars.specs.declared.mark.Place.{Place}
use Rattle.chars.specs.Ascii.{ascii_low, blank_ascii, blank_unbroken, break_ascii, low}
use Rattle.chars.specs.Blocks.{is_space}
use Rattle.chars.specs.Bytes.{CharAt, ascii_at, eq_at, ne_char}
use Rattle.chars.specs.Reach.{more, reach_within}
use Rattle.chars.specs.View.{Moves, Stands, past, view}
use Rattle.gaps.specs.Breaks.{BreakAt, Breaks, none, one, two}
use Rattle.gaps.specs.Gap.{Open, Other, gap_from}
use Rattle.gaps.specs.Line.{is_low, line, line_more, line_row, line_stop, low_row, low_run}
use Rattle.gaps.specs.Row.{Row, done, next, row, row_reach}
use Rattle.gaps.specs.Spaces.{space_row, space_run}
use Rattle.gaps.specs.Walk.{Walks, moves_some, walks_along, walks_done, walks_start}
use Rattle.gaps.specs.Span.{Spanning, spans_along}

-- blanks

blank_turn : {s : List ℕ} {at c : ℕ} (m : Mark) → CharAt s at c 1 → is_blank c ≡ true → blanks m (chars (drop at s)) ≡ blanks (along m) (chars (drop (at + 1) s))
blank_turn {s} {at} {c} m x e = rw x.next (blanks_more m c (chars (drop (at + 1) s)) e)

pub blank_done : (m : Mark) (cs : List ℕ) → is_blank (peek cs 0) ≡ false → blanks m cs ≡ here m cs
unfolding blanks
blank_done m [] e = refl
blank_done m (c ∷ cs) e = blanks_stop m c cs e

blanks_row : {s : List ℕ} {at k : ℕ} → Row is_blank s at k → (m : Mark) → blanks m (chars (drop at s)) ≡ blanks (along_by k m) (chars (drop (at + k) s))
blanks_row {at = at} done m =
    let e : at + 0 ≡ at = omega arith in
    let i : m.index + 0 ≡ m.index = omega arith in
    let c : m.col + 0 ≡ m.col = omega arith in
    rw (e, i, c)
blanks_row {s} {at} (next {k = k} x f r) m =
    let e : at + 1 + k ≡ at + suc k = omega arith in
    let i : m.index + 1 + k ≡ m.index + suc k = omega arith in
    let c : m.col + 1 + k ≡ m.col + suc k = omega arith in
    blank_turn m x f ∙ rw (e, i, c) at (blanks_row r (along m))

-- what `&s[at..]` lends
pub to_end : (s : List ℕ) (at : ℕ) → take (length s - at) (drop at s) ≡ drop at s
to_end s at = take_all (length s - at) (drop at s) (rw length-drop (omega arith))

-- behind the bytes of a class in a row stands none of them
row_stops : (p : ℕ → Bool) (s : List ℕ) (at : ℕ) → p 0 ≡ false → p (get_or s (at + prefix_len p (drop at s)) 0) ≡ false
row_stops p s at z =
    let n = prefix_len p (drop at s) in
    let e = get_or-drop at s n 0 in
    by_test (ltb n (length (drop at s)))
    (λ t. rw (← e) (prefix_len_stops p (drop at s) 0 (ltb-true n (length (drop at s)) t)))
    (λ t. rw (← e, get_or_past (drop at s) n 0 (ltb-false n (length (drop at s)) t)) z)

module _ {text : List ℕ} {p : Place} {n : ℕ} (h : Stands text p) (e : n ≡ prefix_len is_blank (drop p.at text)) where
  there : Row is_blank text p.at n
  there = rw e (row is_blank (λ b f. (ascii_low blank_ascii b f).1) text p.at)

  pub blanks_past : {r : Place} → r ≡ past p n (along_by n p.mark) → Moves text p r (blanks p.mark (chars (drop p.at text)))
  unfolding is_blank
  blanks_past f =
      let z : is_blank (get_or text (p.at + n) 0) ≡ false = rw e (row_stops is_blank text p.at refl) in
      rw f
      (walks_done (walks_along (walks_start h) n n (row_reach there) (blanks_row there p.mark))
      (blank_done _ _ (ascii_at text (p.at + n) _ refl blank_ascii ∙ z)))

-- the line's end

pub line_turn : {s : List ℕ} {at c n : ℕ} (m : Mark) → CharAt s at c n → is_break c ≡ false
    → line m (chars (drop at s)) ≡ before_run (take 1 (chars (drop at s))) (line (along m) (chars (drop (at + n) s)))
line_turn {s} {at} {c} {n} m x e = rw x.next (line_more m c (chars (drop (at + n) s)) e)

pub line_done : {s : List ℕ} {at c n : ℕ} (m : Mark) → CharAt s at c n → is_break c ≡ true → line m (chars (drop at s)) ≡ nothing_at (here m (chars (drop at s)))
line_done {s} {at} {c} {n} m x e = rw x.next (line_stop m c (chars (drop (at + n) s)) e)

pub end_done : (m : Mark) (cs : List ℕ) → cs ≡ [] → line m cs ≡ nothing_at (here m cs)
unfolding run_of
end_done m cs e = rw e

-- a character that is no break is passed over
pub line_some : {s : List ℕ} {p q : Place} {c n : ℕ} → CharAt s p.at c n → is_break c ≡ false → Moves s p q (to_break p.mark (chars (drop p.at s))) → p.at < q.at
line_some {s} {p} {q} {c} {n} x e w =
    let cs = chars (drop (p.at + n) s) in
    let f = fits_left (to_break_fit (along p.mark) cs) in
    moves_some w (rw (x.next, to_break_more p.mark c cs e) (omega arith))

-- over the characters of one byte in a row
module _ {text : List ℕ} {p : Place} {n : ℕ} (e : n ≡ low_run (drop p.at text)) where
  pub low_spans : {start q : Place} {x : Run} → Spanning text start p x (line p.mark (chars (drop p.at text)))
      → q ≡ past p n (along_by n p.mark) → Spanning text start q x (line q.mark (chars (drop q.at text)))
  low_spans w f = let r : Row is_low text p.at n = rw e (low_row text p.at) in rw f (spans_along w n n (row_reach r) (line_row r p.mark))

-- the comment behind blanks

-- an ASCII character at the place that was reached, by the byte there
pub look_at : {s : List ℕ} {p r : Place} {q : definition.Place} {b : ℕ} (k : ℕ) → Moves s p r q → b ≡ get_or s r.at 0 → T (low k) → eqb (look q) k ≡ eqb b k
look_at {s} {p} {r} {q} {b} k w e t = ap (λ (x : definition.Place). eqb (look x) k) (sym w.same) ∙ eq_at s r.at b e k t

module _ (blank : Bool) (p : definition.Place) where
  pub comment_none : eqb (look p) '#' ≡ false → comment_after blank p ≡ got p
  unfolding comment_after
  comment_none e = rw (e, comment_after)

  pub comment_some : blank ≡ true → eqb (look p) '#' ≡ true → comment_after blank p ≡ got (to_break p.mark p.rest)
  unfolding comment_after
  comment_some f e = rw (e, f, comment_after)

  pub comment_wrong : blank ≡ false → eqb (look p) '#' ≡ true → comment_after blank p ≡ refused 44 p.mark
  unfolding comment_after
  comment_wrong f e = rw (e, f, comment_after)

-- gaps

pub gap_blank : {s : List ℕ} {at c : ℕ} (flow a : Bool) (b : Before) (m : Mark) → CharAt s at c 1 → is_blank c ≡ true
    → skip_gap flow a b m (chars (drop at s)) ≡ skip_gap flow a (on_blank flow m c b) (along m) (chars (drop (at + 1) s))
unfolding gap_turn
gap_blank {s} {at} {c} flow a b m x e =
    let f = blank_unbroken c e in
    let cs = chars (drop (at + 1) s) in
    rw x.next (gap_turned flow a b m c cs ∙ rw (f, e, or-false a, over_along m c (peek cs 0) f))

space_is : (c : ℕ) → is_space c ≡ true → c ≡ space
unfolding is_space
space_is c e = eqb-true c space e

space_blank : is_blank space ≡ true
unfolding is_blank
space_blank = refl

-- spaces behind a blank change nothing but the place
behind_blank : (flow : Bool) (m n : Mark) (c : ℕ) (b : Before) → on_blank flow n space (on_blank flow m c b) ≡ on_blank flow m c b
unfolding on_blank
behind_blank flow m n c Leading = by_pick (λ (b : Before). on_blank flow n space b ≡ b) (not flow && eqb c tab) (Tabbed m) Leading refl (leads flow)
  where
    leads : (f : Bool) → on_blank f n space Leading ≡ Leading
    leads true = refl
    leads false = refl
behind_blank flow m n c (Tabbed t) = refl
behind_blank flow m n c Spaced = refl
behind_blank flow m n c AfterText = refl
behind_blank flow m n c InComment = refl

gap_spaces : {s : List ℕ} {at k : ℕ} (flow a : Bool) (b : Before) → ((n : Mark) → on_blank flow n space b ≡ b) → Row is_space s at k → (m : Mark)
    → skip_gap flow a b m (chars (drop at s)) ≡ skip_gap flow a b (along_by k m) (chars (drop (at + k) s))
gap_spaces {at = at} flow a b h done m =
    let e : at + 0 ≡ at = omega arith in
    let i : m.index + 0 ≡ m.index = omega arith in
    let c : m.col + 0 ≡ m.col = omega arith in
    rw (e, i, c)
gap_spaces {s} {at} flow a b h (next {b = d} {k = k} x f r) m =
    let e : at + 1 + k ≡ at + suc k = omega arith in
    let i : m.index + 1 + k ≡ m.index + suc k = omega arith in
    let c : m.col + 1 + k ≡ m.col + suc k = omega arith in
    let g : d ≡ space = space_is d f in
    gap_blank flow a b m x (rw g space_blank) ∙ rw (g, h m) (rw (e, i, c) at (gap_spaces flow a b h r (along m)))

-- over a blank and the spaces behind it
module _ {text : List ℕ} (p : Place) {c r : ℕ} (x : CharAt text p.at c 1) (e : r ≡ p.at + 1 + space_run (drop (p.at + 1) text)) where
  pub blanks_some : (p.at < r) × (r ≤ length text)
  blanks_some = let w = reach_within (row_reach (space_row text (p.at + 1))) x.within in omega (arith, w, e)

  pub gap_blanks : {start q : Place} {y : Read Gap} (flow a : Bool) (b : Before) → is_blank c ≡ true
      → Walks text start p y (gap_from flow a b (view text p)) → q ≡ past p (r - p.at) (along_by (r - p.at) p.mark)
      → Walks text start q y (gap_from flow a (on_blank flow p.mark c b) (view text q))
  gap_blanks flow a b h w f =
      let k = space_run (drop (p.at + 1) text) in
      let l = space_row text (p.at + 1) in
      let n : r - p.at ≡ suc k = omega (arith, e) in
      let j : p.at + 1 + k ≡ p.at + suc k = omega arith in
      let i : p.mark.index + 1 + k ≡ p.mark.index + suc k = omega arith in
      let d : p.mark.col + 1 + k ≡ p.mark.col + suc k = omega arith in
      let b' = on_blank flow p.mark c b in
      rw (f, n)
      (walks_along w (suc k) (suc k) (more x (rw j at (row_reach l)))
      (gap_blank flow a b p.mark x h ∙ rw (j, i, d) at (gap_spaces flow a b' (λ n. behind_blank flow p.mark n c b) l (along p.mark))))

gap_break : (flow a : Bool) (b : Before) (m : Mark) {cs : List ℕ} {n : ℕ} → Breaks cs n → is_break (peek cs 0) ≡ true
    → skip_gap flow a b m cs ≡ skip_gap flow (a || not flow) Leading (new_line n m) (drop n cs)
unfolding gap_turn is_break
gap_break flow a b m (two {cs = cs}) h =
    gap_turned flow a b m carriage_return (line_feed ∷ cs)
    ∙ gap_turned flow (a || not flow) Leading (over m carriage_return line_feed) line_feed cs
    ∙ rw (or_assoc a (not flow) (not flow), or_self (not flow), over_crlf m (peek cs 0))
gap_break flow a b m (one {c = c} {cs = cs} e f) h = gap_turned flow a b m c cs ∙ rw (e, over_break m c (peek cs 0) f e)
gap_break flow a b m (none e) h = true_false (sym h ∙ e)

pub gap_line : {s : List ℕ} {p : Place} {n : ℕ} (flow a : Bool) (b : Before) → BreakAt s p n
    → gap_from flow a b (view s p) ≡ gap_from flow (a || not flow) Leading (view s (past p n (new_line n p.mark)))
gap_line {s} {p} flow a b x =
    gap_break flow a b p.mark x.breaks x.is_break ∙ ap (gap_from flow (a || not flow) Leading) (sym x.moves.same)

-- a comment runs to the break; behind it the gap goes on as behind a blank
comment_turn : (flow a : Bool) (m : Mark) (c : ℕ) (cs : List ℕ) → is_break c ≡ false → skip_gap flow a InComment m (c ∷ cs) ≡ skip_gap flow a InComment (along m) cs
unfolding gap_turn on_blank on_hash on_other
comment_turn flow a m c cs e =
    gap_turned flow a InComment m c cs
    ∙ by_test (is_blank c)
    (λ f. rw (e, f, or-false a, over_along m c (peek cs 0) e))
    (λ f. by_test (eqb c '#')
    (λ g. rw (e, f, g, or-false a, over_along m c (peek cs 0) e))
    (λ g. rw (e, f, g, or-false a, over_along m c (peek cs 0) e)))

comment_runs : (flow a : Bool) (m : Mark) (cs : List ℕ) → skip_gap flow a InComment m cs ≡ gap_from flow a Spaced (to_break m cs)
unfolding skip_gap to_break is_leading gap_turn
comment_runs flow a m [] = refl
comment_runs flow a m (c ∷ cs) =
    by_test (is_break c)
    (λ e. rw (to_break_stop m c cs e, gap_turned flow a InComment m c cs, gap_turned flow a Spaced m c cs, e))
    (λ e. comment_turn flow a m c cs e ∙ comment_runs flow a (along m) cs ∙ rw (to_break_more m c cs e))

comment_start : (flow a : Bool) (b : Before) (m : Mark) (cs : List ℕ) → (b ≡ AfterText → ⊥)
    → skip_gap flow a b m ('#' ∷ cs) ≡ skip_gap flow a InComment m ('#' ∷ cs)
unfolding skip_gap gap_turn is_break is_blank on_hash
comment_start flow a Leading m cs h = refl
comment_start flow a (Tabbed t) m cs h = refl
comment_start flow a Spaced m cs h = refl
comment_start flow a AfterText m cs h = absurd (h refl)
comment_start flow a InComment m cs h = refl

pub gap_comment : {s : List ℕ} {p q : Place} (flow a : Bool) (b : Before) → CharAt s p.at '#' 1 → (b ≡ AfterText → ⊥)
    → Moves s p q (to_break p.mark (chars (drop p.at s))) → gap_from flow a b (view s p) ≡ gap_from flow a Spaced (view s q)
gap_comment {s} {p} {q} flow a b x h w =
    let cs = chars (drop p.at s) in
    let e : skip_gap flow a b p.mark cs ≡ skip_gap flow a InComment p.mark cs = rw x.next (comment_start flow a b p.mark (chars (drop (p.at + 1) s)) h) in
    e ∙ comment_runs flow a p.mark cs ∙ ap (gap_from flow a Spaced) (sym w.same)

pub gap_wrong : {s : List ℕ} {at : ℕ} (flow a : Bool) (b : Before) (m : Mark) → CharAt s at '#' 1 → b ≡ AfterText → skip_gap flow a b m (chars (drop at s)) ≡ refused 44 m
unfolding gap_turn is_break is_blank on_hash
gap_wrong {s} {at} flow a b m x e = rw (x.next, e) (gap_turned flow a AfterText m '#' (chars (drop (at + 1) s)))

-- on the way no comment is open
pub open_blank : (flow : Bool) (m : Mark) (c : ℕ) (b : Before) → Open b → Open (on_blank flow m c b)
unfolding on_blank
open_blank flow m c Leading h = by_pick Open (not flow && eqb c tab) (Tabbed m) Leading tt tt
open_blank flow m c (Tabbed t) h = tt
open_blank flow m c Spaced h = tt
open_blank flow m c AfterText h = tt
open_blank flow m c InComment h = h

-- where the gap ends, by the byte there
pub other_at : (s : List ℕ) (at b : ℕ) → b ≡ get_or s at 0 → is_blank b ≡ false → is_break b ≡ false → (b ≡ '#' → ⊥) → Other (chars (drop at s))
other_at s at b e f g h = record { no_break = ascii_at s at b e break_ascii ∙ g; no_blank = ascii_at s at b e blank_ascii ∙ f; no_hash = ne_char s at b e '#' tt h }

-- a token begins here, where no tab leads its line and no comment is open
stops : (b : Before) → Open b → ((t : Mark) → b ≡ Tabbed t → ⊥) → on_other b ≡ stop
unfolding on_other
stops Leading o t = refl
stops (Tabbed m) o t = absurd (t m refl)
stops Spaced o t = refl
stops AfterText o t = refl
stops InComment o t = absurd o

pub gap_ends : (flow a : Bool) {b : Before} {l : Bool} (m : Mark) (cs : List ℕ) → l ≡ is_leading b → Open b → ((t : Mark) → b ≡ Tabbed t → ⊥) → Other cs
    → skip_gap flow a b m cs ≡ got (record { place = here m cs; simple_key_allowed = a; leading_whitespace = l })
unfolding skip_gap gap_turn
gap_ends flow a m [] e h t o = rw e
gap_ends flow a {b} m (c ∷ cs) e h t o = gap_turned flow a b m c cs ∙ rw (o.no_break, o.no_blank, o.no_hash, stops b h t, e)

pub gap_nothing : (flow a : Bool) (b : Before) {l : Bool} (m : Mark) (cs : List ℕ) → l ≡ is_leading b → cs ≡ []
    → skip_gap flow a b m cs ≡ got (record { place = here m cs; simple_key_allowed = a; leading_whitespace = l })
unfolding skip_gap
gap_nothing flow a b m cs e f = rw (f, e)

pub gap_tabbed : (flow a : Bool) {b : Before} (t m : Mark) (c : ℕ) (cs ds : List ℕ) → b ≡ Tabbed t → cs ≡ c ∷ ds → Other cs → skip_gap flow a b m cs ≡ refused 45 t
unfolding gap_turn on_other
gap_tabbed flow a t m c cs ds f e o =
    rw (f, e) (gap_turned flow a (Tabbed t) m c ds ∙ (let n = rw e at o.no_break in let k = rw e at o.no_blank in let h = rw e at o.no_hash in rw (n, k, h)))
