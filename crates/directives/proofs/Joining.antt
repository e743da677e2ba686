-- The parameters of a reserved directive, as code joins them: what is left gives the whole.
use Rattle.std.specs.Prelude.{Ok}
use Prim.Native.Nat.{◌+◌, ◌-◌, ◌<◌, ◌≤◌, ℕ}
use mathlib.Core.Bool.{Bool, false, true}
use mathlib.Core.List.{List, ◌++◌}
use mathlib.Core.Path.{◌∙◌, ◌≡◌, ap, refl, sym}
use native.Mathlib.Omega.{arith}
use lib.Dec.{eqb, ltb}
use lib.ListN.{drop, length, length-append, set}
use lib.Seq.{length-sets, sets}
use borrow.Author.Tests.{eq-eqb, eqb-true, le-ltb, lt-ltb, ltb-false, ltb-true}
use Rattle.rooms.specs.Room.{sets_join}
use Rattle.yaml_text.specs.Char.{space}
use Rattle.yaml_text.specs.Class.{is_blank, is_non_space, peek}
use Rattle.yaml_text.specs.Mark.{Run, look, run_of}
use Rattle.yaml_text.specs.Mark as definition
use Rattle.yaml_text.specs.Refusal.{before_read, got}
use Rattle.yaml_text.specs.Test.{by_test, true_false}
use Rattle.yaml_text.specs.Utf8.{char_bytes, chars, encode}
use Rattle.yaml_text.specs.Utf8Laws.{encode_append}
use Rattle.yaml_lexeme.specs.Directive.{blanks_at, parameters}
use Rattle.chars.specs.declared.mark.Place.{Place}
use Rattle.chars.specs.Parts.{Spans, part}
use Rattle.chars.specs.View.{Moves, Stands, view}
use Rattle.reading.specs.declared.Written.{Written}
use Rattle.runs.specs.Run.{Writes, seen_run, written}
use Rattle.runs.specs.RunLaws.{span_none, span_size, span_some, written_before}
use Rattle.directives.specs.Name.{spaced}
use Rattle.directives.proofs.Spans.{span_long}
use Rattle.directives.proofs.Words.{blanks_end, first_blanks, join_blanks, join_none, join_word, nonspace_end, run_of_end, run_of_none, run_of_some}

-- the parameters from a place on, behind others or not
abbrev from_here : Bool → Bool → definition.Place → Run
from_here some blank p = parameters some blank p.mark p.rest

abbrev seen : List ℕ → Place → ℕ
seen text p = peek (chars (drop p.at text)) 0

-- from n on, up to k and p; the next word, behind a space, has been read for
pub record Joining (text before : List ℕ) (from : Place) (n : ℕ) (out : List ℕ) (p : Place) (k : ℕ) : Type 0 where
  pub stands : Stands text p
  pub many : n ≤ k
  pub few : k + from.at ≤ n + p.at
  pub room : is_non_space (seen text p) ≡ true → n < k → k + from.at < n + p.at
  pub kept : length out ≡ length before
  pub clear : is_blank (seen text p) ≡ false
  pub whole : written before n (got (from_here false false (view text from))) ≡ written out k (got (from_here (ltb n k) (ltb n k) (view text p)))

-- where blanks were passed
passed : {text : List ℕ} {p q : Place} → Moves text p q (blanks_at (view text p)) → is_blank (seen text q) ≡ false
passed {text} {p} m = ap (λ (x : definition.Place). is_blank (look x)) m.same ∙ blanks_end p.mark (chars (drop p.at text))

pub joining_start : {text before : List ℕ} {from p : Place} (n : ℕ) → Moves text from p (blanks_at (view text from)) → Joining text before p n before p n
joining_start n m =
    record {
      stands = m.stands;
      many = omega arith;
      few = omega arith;
      room = λ _ h. absurd (omega arith);
      kept = refl;
      clear = passed m;
      whole = rw (le-ltb n n (omega arith));
    }

-- the blanks before the first word count as read
pub joining_from : {text before out : List ℕ} {from p : Place} {n : ℕ} {x : Written} → Moves text from p (blanks_at (view text from))
    → Writes text before out p n (Ok x) (got (from_here false false (view text p)))
    → Writes text before out from n (Ok x) (got (from_here false false (view text from)))
joining_from {text} {before} {from = from} {n = n} m w =
    let e = first_blanks false from.mark (chars (drop from.at text)) ∙ ap (from_here false false) (sym m.same) in
    record { same = rw e w.same; kept = w.kept; ahead = (w.ahead.0, omega (arith, w.ahead.1, m.onward)) }

-- a space before every word but the first
pub space_put : {n k : ℕ} (out : List ℕ) {after : List ℕ} → n < k → after ≡ set out k space
    → (after ≡ sets out k (spaced n k)) × (k + 1 ≡ k + length (spaced n k))
space_put {n} {k} out h e = rw (lt-ltb n k h) (e, refl)

pub space_none : {n k : ℕ} (out : List ℕ) → k ≤ n → (out ≡ sets out k (spaced n k)) × (k ≡ k + length (spaced n k))
space_none {n} {k} out h = rw (le-ltb n k h) (refl, omega arith)

spaced_bytes : (n k : ℕ) → encode (spaced n k) ≡ spaced n k
unfolding encode char_bytes
spaced_bytes n k = by_test (ltb n k) (λ e. rw e) (λ e. rw e)

spaced_one : (n k : ℕ) → length (spaced n k) ≤ 1
spaced_one n k = by_test (ltb n k) (λ e. rw e (omega arith)) (λ e. rw e (omega arith))

-- a space is paid for by a blank
spaced_few : (n k a b : ℕ) → k + a ≤ b → (n < k → k + a < b) → k + length (spaced n k) + a ≤ b
spaced_few n k a b h g =
    by_test (ltb n k)
    (λ e. let l = g (ltb-true n k e) in rw e (omega arith))
    (λ e. rw e (omega arith))

module _ {text before out : List ℕ} {from p e : Place} {n k : ℕ} (w : Joining text before from n out p k)
    (s : Spans text p e (run_of is_non_space p.mark (chars (drop p.at text)))) where
  -- the word that stands here
  pub word_none : eqb (length (part text p.at e.at)) 0 ≡ true → e.at ≡ p.at
  word_none f = let l = span_long s in let z = eqb-true (length (part text p.at e.at)) 0 f in omega (arith, s.moves.onward)

  pub word_some : eqb (length (part text p.at e.at)) 0 ≡ false → e.at ≡ p.at → ⊥
  word_some f z = let l = span_long s in true_false (sym (eq-eqb (length (part text p.at e.at)) 0 (omega arith)) ∙ f)

  pub joining_done : e.at ≡ p.at → Writes text before out from n (Ok (record { count = k; place = p })) (got (from_here false false (view text from)))
  unfolding seen_run written encode
  joining_done z =
      let y : k + 0 ≡ k = omega arith in
      let cs = chars (drop p.at text) in
      let none = join_none (ltb n k) p.mark cs w.clear (run_of_none is_non_space nonspace_end p.mark cs (span_none s z)) in
      record { same = sym (w.whole ∙ rw (none, y)); kept = w.kept; ahead = (w.stands, w.few) }

  abbrev named : Run
  named = run_of is_non_space p.mark (chars (drop p.at text))

  -- no character of a word stands behind it, so the next word is behind a blank
  ended : is_non_space (seen text e) ≡ false
  ended = ap (λ (x : definition.Place). is_non_space (look x)) s.moves.same ∙ run_of_end is_non_space nonspace_end p.mark (chars (drop p.at text))

  apart : (q : Place) → e.at ≤ q.at → is_non_space (seen text q) ≡ true → e.at < q.at
  apart q o f =
      by_test (ltb e.at q.at) (ltb-true e.at q.at)
      (λ g. let z : q.at ≡ e.at = omega (arith, ltb-false e.at q.at g) in
      true_false (sym f ∙ rw z ended))

  rest : {q : Place} → Moves text e q (blanks_at (view text e)) → from_here true false named.place ≡ from_here true true (view text q)
  rest m =
      ap (from_here true false) (sym s.moves.same)
      ∙ join_blanks e.mark (chars (drop e.at text)) ended
      ∙ ap (from_here true true) (sym m.same)

  pub joining_small : {j : ℕ} → j ≡ k + length (spaced n k) → j + (e.at - p.at) ≤ n + 1 + length text
  joining_small b = omega (arith, spaced_one n k, w.few, s.moves.onward, s.moves.stands.within)

  -- behind a word
  pub joining_more : {mid out' : List ℕ} {j k' : ℕ} {q : Place} → (e.at ≡ p.at → ⊥) → mid ≡ sets out k (spaced n k) → j ≡ k + length (spaced n k)
      → out' ≡ sets mid j (part text p.at e.at) → k' ≡ j + (e.at - p.at) → Moves text e q (blanks_at (view text e))
      → Joining text before from n out' q k'
  unfolding before_read
  joining_more {out' = out'} {k' = k'} {q = q} z a b c d m =
      let cs = chars (drop p.at text) in
      let sp = spaced n k in
      let x = sp ++ named.text in
      let o = s.moves.onward in
      let l = span_size s in
      let bytes : encode x ≡ sp ++ encode named.text = encode_append sp named.text ∙ rw (spaced_bytes n k) in
      let room_is : sets out k (encode x) ≡ out' = rw (bytes, s.bytes) (sym (c ∙ rw (a, b) (sets_join sp (part text p.at e.at) out k))) in
      let count : k + length (encode x) ≡ k' = rw (bytes, length-append sp (encode named.text)) (omega arith) in
      let some = span_some s z in
      let few = spaced_few n k from.at (n + p.at) w.few (w.room (run_of_some is_non_space nonspace_end p.mark cs some)) in
      record {
        stands = m.stands;
        many = omega (arith, w.many);
        few = omega (arith, m.onward);
        room = λ f h. let g = apart q m.onward f in omega arith;
        kept = ap length (sym room_is) ∙ length-sets out k (encode x) ∙ w.kept;
        clear = passed m;
        whole = w.whole
            ∙ ap (λ (r : Run). written out k (got r)) (join_word (ltb n k) p.mark cs some)
            ∙ written_before out k x (got (from_here true false named.place))
            ∙ rw (room_is, count, rest m, lt-ltb n k' (omega (arith, w.many)));
      }
