-- The content's lines, at the places of the code.
use Prim.Native.Nat.{◌+◌, ◌-◌, ◌<◌, ◌≤◌, ℕ}
use mathlib.Core.Bool.{Bool, ◌&&◌, false, true}
use mathlib.Core.List.{List, [], ◌++◌, ◌∷◌}
use mathlib.Core.Path.{◌∙◌, ◌≡◌, ap, refl, sym}
use native.Mathlib.Omega.{arith}
use lib.Dec.{eqb}
use lib.ListN.{drop, length, length-drop, take}
use lib.Seq.{length-take-le, sets}
use borrow.Author.Tests.{ne_eqb}
use Rattle.yaml_text.specs.declared.Mark.{Mark}
use Rattle.yaml_text.specs.Class.{is_blank, is_break, is_breakz, is_z, none_left, peek}
use Rattle.yaml_text.specs.Mark.{along, break_length, here, new_line, skip_break}
use Rattle.yaml_text.specs.Mark as definition
use Rattle.yaml_text.specs.Test.{both_true, by_test, true_false}
use Rattle.yaml_text.specs.Utf8.{chars, encode}
use Rattle.yaml_lexeme.specs.Block.{BetweenLines, Layout, behind, between, inside, lines_on, margin, opens_content, separator}
use Rattle.yaml_text.specs.PlaceLaws.{fits_left, run_of_fit}
use Rattle.chars.specs.declared.mark.Place.{Place}
use Rattle.chars.specs.View.{Moves, view}
use Rattle.chars.specs.Parts.{Spans}
use Rattle.gaps.specs.Breaks.{breaks, breaks_some}
use Rattle.gaps.specs.Line.{in_line, line, line_more}
use Rattle.gaps.specs.Walk.{moves_some}
use Rattle.block_content.specs.declared.Between.TheVariants.{Ahead, Behind}
use Rattle.block_content.specs.declared.Content.{Content}
use Rattle.block_content.specs.declared.Layout.{Layout as CodeLayout}
use Rattle.block_header.specs.declared.margin.Margin.{Margin}
use Rattle.block_content.specs.Content.{LineEnd, OpensContent, Reads, Rests, Settles, layout_of, line_at, line_of, lines_of, more_of, opens_at, own_of}
use Rattle.block_content.specs.Lines.{before_lines, behind_line, content_line, content_stop, inside_break, inside_end, line_ends, line_here, lines_from, margin_runs}
use Rattle.block_header.specs.Margin.{Margins, margin_ends, margin_goes}
use Rattle.reading.specs.Puts.{Puts, puts_then}
use Rattle.block_content.proofs.Ends.{separator_few}
use Rattle.block_content.proofs.Wrote.{Wrote, wrote_more, wrote_none}

-- past the break

skipped : (p : definition.Place) → is_break (peek p.rest 0) ≡ true
    → skip_break p ≡ here (new_line (break_length p.rest) p.mark) (drop (break_length p.rest) p.rest)
unfolding skip_break
skipped p h =
    let n = break_length p.rest in
    rw (ne_eqb n 0 (λ e. absurd (omega (arith, e, breaks_some (breaks p.rest) h))))

fewer : (n : ℕ) (cs : List ℕ) → is_break (peek cs 0) ≡ true → 1 ≤ n → length (drop n cs) < length cs
unfolding is_break
fewer n [] h k = true_false (sym h)
fewer n (c ∷ cs) h k = omega (arith, length-drop n (c ∷ cs))

skip_fewer : (p : definition.Place) → is_break (peek p.rest 0) ≡ true → length (skip_break p).rest < length p.rest
skip_fewer p h = rw (skipped p h) (fewer (break_length p.rest) p.rest h (breaks_some (breaks p.rest) h))

inside_skip : (b : Layout) (w : Bool) (p : definition.Place) → is_break (peek p.rest 0) ≡ true
    → lines_from b (inside w) p ≡ lines_from b (between (behind w 0)) (skip_break p)
inside_skip b w p h = inside_break b w p.mark (breaks p.rest) h ∙ ap (lines_from b (between (behind w 0))) (sym (skipped p h))

-- behind a content line

behind_on : (blank : Bool) (k n : ℕ) → lines_on k (behind blank n) ≡ behind blank (n + k)
unfolding lines_on
behind_on blank k n = refl

inside_behind : (b : Layout) (w : Bool) (p : definition.Place) → (none_left p.rest ≡ false → is_break (peek p.rest 0) ≡ true)
    → lines_from b (inside w) p ≡ lines_from b (between (behind_line b w p).line) (behind_line b w p).place
unfolding behind_line
inside_behind b w p h =
    let s = skip_break p in
    by_test (none_left p.rest)
    (λ e. rw (e, behind_line) (inside_end b w p.mark p.rest e))
    (λ e. rw (e, behind_line) (inside_skip b w p (h e) ∙ margin_runs b (behind w) (behind_on w) 0 s.mark s.rest))

-- over one line
line_before : (b : Layout) (l : BetweenLines) (p : definition.Place) → margin_goes b.column p.mark (peek p.rest 0) ≡ false
    → (eqb p.mark.col b.column && opens_content p.mark p.rest) ≡ true
    → lines_from b (between l) p ≡ before_lines (line_here b l p).text (lines_from b (between (line_here b l p).line) (line_here b l p).place)
line_before b l p e f =
    let blank = is_blank (peek p.rest 0) in
    let m = p.mark in
    let cs = p.rest in
    content_line b l m cs e f
    ∙ ap (before_lines (separator b.literal blank l ++ (line m cs).text)) (inside_behind b blank (line m cs).place (line_ends m cs))

no_char : (column : ℕ) (m : Mark) (cs : List ℕ) → none_left cs ≡ true → margin_goes column m (peek cs 0) ≡ false
unfolding none_left is_break
no_char column m [] h = refl
no_char column m (c ∷ cs) h = true_false (sym h)

pub rests_end : {text : List ℕ} {e : Place} {count : ℕ} (b : CodeLayout) (blank : Bool) → LineEnd text e count → none_left (chars (drop e.at text)) ≡ true
    → Rests text b blank e count (record { place = e; line = Ahead 0; count = count })
unfolding line_of own_of more_of behind_line
rests_end {text} {e} b blank l h =
    let cs = chars (drop e.at text) in
    record {
      kept = refl;
      line = rw (h, behind_line);
      place = rw (h, behind_line);
      settles = record { stands = l.stands; short = l.short; few = omega (arith, l.few); settled = no_char b.column e.mark cs h };
      onward = omega arith;
    }

pub rests_margin : {text : List ℕ} {e s : Place} {count : ℕ} {g : Margin} (b : CodeLayout) (blank : Bool) → LineEnd text e count
    → none_left (chars (drop e.at text)) ≡ false → Moves text e s (skip_break (view text e))
    → Margins text s g (margin b.column 0 s.mark (chars (drop s.at text)))
    → Rests text b blank e count (record { place = g.place; line = Behind blank g.breaks; count = count })
unfolding line_of own_of more_of behind_line
rests_margin {text} {e} {s} {count} {g} b blank l h k x =
    let on = moves_some k (skip_fewer (view text e) (l.ends h)) in
    record {
      kept = refl;
      line = rw (h, behind_line, ← k.same, x.breaks);
      place = rw (h, behind_line, ← k.same) x.moves.same;
      settles = record {
        stands = x.moves.stands;
        short = l.short;
        few = omega (arith, l.few, on, x.few);
        settled = ap (λ (p : definition.Place). margin_goes b.column p.mark (peek p.rest 0)) x.moves.same
            ∙ margin_ends b.column 0 s.mark (chars (drop s.at text));
      };
      onward = omega (arith, on, x.moves.onward);
    }

-- at a content line, or at the end

opens_no_break : (m : Mark) (c : ℕ) (cs : List ℕ) → opens_content m (c ∷ cs) ≡ true → is_break c ≡ false
unfolding opens_content is_breakz
opens_no_break m c cs h =
    by_test (is_break c) (λ e. true_false (sym h ∙ rw e)) (λ e. e)

line_fewer : (m : Mark) (cs : List ℕ) → opens_content m cs ≡ true → length (line m cs).place.rest < length cs
unfolding opens_content is_breakz is_z is_break
line_fewer m [] h = true_false (sym h)
line_fewer m (c ∷ cs) h =
    let e = opens_no_break m c cs h in
    rw (line_more m c cs e) (let k = fits_left (run_of_fit in_line (along m) cs) in omega arith)

-- a content line: its separator, its text, and what is behind it
module _ {text : List ℕ} {b : CodeLayout} {c : Content} {e : Place} (o : OpensContent text b c)
    (s : Spans text c.place e (line c.place.mark (chars (drop c.place.at text)))) where
  pub line_onward : c.place.at < e.at
  line_onward =
      let m = c.place.mark in
      let cs = chars (drop c.place.at text) in
      moves_some s.moves (line_fewer m cs (both_true (eqb m.col b.column) (opens_content m cs) o.opens).1)

  module _ {before mid : List ℕ} {n : ℕ} (blank : Bool) (p : Puts before c.count mid n (separator b.literal blank (line_of c.line))) where
    pub line_end : LineEnd text e (n + (e.at - c.place.at))
    line_end =
        record {
          stands = s.moves.stands;
          short = o.settles.short;
          few = omega (arith, o.settles.few, p.next, separator_few b.literal blank c.line, s.moves.onward);
          ends = λ h.
              let q = s.moves.same in
              ap (λ (x : definition.Place). is_break (peek x.rest 0)) q
              ∙ line_ends c.place.mark (chars (drop c.place.at text)) (sym (ap (λ (x : definition.Place). none_left x.rest) q) ∙ h);
        }

    pub turns_line : {after : List ℕ} {r : Content} → blank ≡ is_blank (peek (chars (drop c.place.at text)) 0)
        → after ≡ sets mid n (take (e.at - c.place.at) (drop c.place.at text)) → Rests text b blank e (n + (e.at - c.place.at)) r
        → Reads text b before c after r (line_at text b c) × (c.place.at < r.place.at)
    turns_line {after} {r} f g x =
        let at = c.place.at in
        let k = e.at - at in
        let u : k ≤ length (drop at text) = omega (arith, length-drop at text, s.moves.stands.within) in
        let t : Puts mid n after (n + k) (line c.place.mark (chars (drop at text))).text =
        record { bytes = rw s.bytes g; next = rw (s.bytes, length-take-le k (drop at text) u) } in (
          record {
            puts = rw (x.kept, ← f) (puts_then p t);
            line = x.line ∙ rw (f, s.moves.same);
            place = x.place ∙ rw (f, s.moves.same);
            settles = x.settles;
          },
          omega (arith, line_onward, x.onward),
        )

-- the loop over content lines, from c
pub record Going (text : List ℕ) (b : CodeLayout) (before : List ℕ) (c : Content) (out : List ℕ) (k : Content) : Type 0 where
  pub size : length out ≡ length before
  pub wrote : Wrote before c.count (lines_of text b c) out k.count (lines_of text b k)
  pub settles : Settles text b k

pub going_start : {text before : List ℕ} {b : CodeLayout} {c : Content} → Settles text b c → Going text b before c before c
going_start s = record { size = refl; wrote = wrote_none; settles = s }

pub going_more : {text before out next : List ℕ} {b : CodeLayout} {c k l : Content} → Going text b before c out k → opens_at text b k ≡ true → length next ≡ length out
    → Reads text b out k next l (line_at text b k) → Going text b before c next l
going_more {text} {b = b} {k = k} {l = l} g o e t =
    let y = line_at text b k in
    let v = line_before (layout_of b) (line_of k.line) (view text k.place) g.settles.settled o in
    let u : lines_of text b l ≡ lines_from (layout_of b) (between y.line) y.place =
    ap (λ (x : BetweenLines). lines_from (layout_of b) (between x) (view text l.place)) t.line ∙ ap (lines_from (layout_of b) (between y.line)) t.place in
    record { size = e ∙ g.size; wrote = wrote_more g.wrote t.puts (v ∙ ap (before_lines y.text) (sym u)); settles = t.settles }

pub going_done : {text before out : List ℕ} {b : CodeLayout} {c k : Content} → Going text b before c out k → opens_at text b k ≡ false
    → Reads text b before c out k (lines_of text b c)
unfolding encode
going_done {text} {b = b} {k = k} g e =
    let stop = content_stop (layout_of b) (line_of k.line) k.place.mark (chars (drop k.place.at text)) g.settles.settled e in
    let w = rw stop at g.wrote in
    record {
      puts = record { bytes = sym w.text; next = omega (arith, w.size) };
      line = sym w.line;
      place = sym w.place;
      settles = g.settles;
    }
