-- Entries that go: one turn of the definition, and the invariants of the loops over a slice.
use Prim.Native.Nat.{◌%◌, ◌+◌, ◌-◌, ◌<◌, ◌≤◌, ℕ}
use mathlib.Core.Bool.{Bool, false, true}
use mathlib.Core.List.{List, [], ◌∷◌}
use mathlib.Core.Path.{◌∙◌, ◌≡◌, refl, sym}
use native.Mathlib.Omega.{arith}
use lib.Dec.{eqb, ltb}
use lib.ListN.{get_or}
use borrow.Author.Tests.{eqb-false, eqb-true, le-leb, le-ltb, lt-leb, lt-ltb, ne_eqb}
use Rattle.yaml_text.specs.Pick.{pick}
use Rattle.yaml_text.specs.Test.{by_test, true_false}
use Rattle.yaml_scan.specs.Indent.{Entry, drop_for, drop_non_ending, indents_of, top_ends, unroll, with_end}
use Rattle.yaml_scan.specs.Indent as definition
use Rattle.stacks.specs.Indent.{Below, Lowers, Unrolls, entries_of, entry_of, left_below, most_at}
use Rattle.stacks.specs.declared.indent.Indents.{Indents}
use Rattle.stacks.proofs.Entries.{below_pop, below_same, entries_none, entries_pop}

-- top_ends

pub top_none : (a : List ℕ) (d : ℕ) → d ≤ 0 → ltb 0 d ≡ top_ends (entries_of a d)
unfolding top_ends
top_none a d h = rw (entries_none a d h, le-ltb 0 d h)

pub top_some : (a : List ℕ) (d : ℕ) → 0 < d → eqb (get_or a (d - 1) 0 % 2) 1 ≡ top_ends (entries_of a d)
unfolding top_ends
top_some a d h = rw (entries_pop a d h)

-- unroll

bit_least : (n : ℕ) → n < 2 → pick {A = ℕ} (eqb n 1) 1 0 ≡ n
bit_least n h =
    by_test (eqb n 1)
    (λ e. rw e (sym (eqb-true n 1 e)))
    (λ e. let f = eqb-false n 1 e in rw e (omega arith))

unroll_more : (edge i : ℕ) (e : Entry) (es : List Entry) → ltb edge i ≡ true → unroll edge i (e ∷ es) ≡ with_end e.ends (unroll edge e.old es)
unfolding unroll
unroll_more edge i e es h = rw (h, unroll)

unroll_stop : (edge i : ℕ) (es : List Entry) → ltb edge i ≡ false → unroll edge i es ≡ record { ended = 0; indents = indents_of i es }
unfolding unroll
unroll_stop edge i [] h = refl
unroll_stop edge i (e ∷ es) h = rw (h, unroll)

unroll_none : (edge i : ℕ) → unroll edge i [] ≡ record { ended = 0; indents = indents_of i [] }
unfolding unroll
unroll_none edge i = refl

abbrev plus : ℕ → definition.Unrolled → definition.Unrolled
plus n u = record { ended = n + u.ended; indents = u.indents }

-- what is left gives the whole: the entries below a place
pub record Unrolling (a : List ℕ) (edge : ℕ) (i r : Indents) (place ended : ℕ) : Type 0 where
  pub whole : unroll edge i.indent (entries_of a i.depth) ≡ plus ended (unroll edge r.indent (entries_of a place))
  pub below : Below i r
  pub few : ended + place ≤ i.depth
  pub at : r.depth ≡ place

pub unrolling_start : (a : List ℕ) (edge : ℕ) (i : Indents) → i.indent ≤ most_at i.depth → Unrolling a edge i i i.depth 0
unrolling_start a edge i h =
    let u = unroll edge i.indent (entries_of a i.depth) in
    let z : 0 + u.ended ≡ u.ended = omega arith in
    record { whole = rw z; below = below_same h; few = omega arith; at = refl }

module _ {a : List ℕ} {edge : ℕ} {i r : Indents} {place ended : ℕ} (u : Unrolling a edge i r place ended) where
  pub unrolling_more : 0 < place → edge < r.indent
      → Unrolling a edge i (left_below a (place - 1)) (place - 1) (ended + get_or a (place - 1) 0 % 2)
  unrolling_more h l =
      let w = get_or a (place - 1) 0 in
      let rest = unroll edge (left_below a (place - 1)).indent (entries_of a (place - 1)) in
      let turn = unroll_more edge r.indent (entry_of (place - 1) w) (entries_of a (place - 1)) (lt-ltb edge r.indent l) in
      let sum : ended + (w % 2 + rest.ended) ≡ ended + w % 2 + rest.ended = omega arith in
      record {
        whole = u.whole ∙ rw (entries_pop a place h, turn, bit_least (w % 2) (omega arith), sum);
        below = below_pop a (place - 1) u.below (omega (arith, u.at));
        few = omega (arith, u.few);
        at = refl;
      }

  unrolled : unroll edge r.indent (entries_of a place) ≡ record { ended = 0; indents = indents_of r.indent (entries_of a place) }
      → Unrolls a edge i (record { ended = ended; indents = r })
  unrolled e =
      let z : ended + 0 ≡ ended = omega arith in
      record { same = rw u.at (sym (u.whole ∙ rw (e, z))); below = u.below; few = omega (arith, u.few, u.at) }

  pub unrolled_stop : r.indent ≤ edge → Unrolls a edge i (record { ended = ended; indents = r })
  unrolled_stop h = unrolled (unroll_stop edge r.indent (entries_of a place) (le-ltb edge r.indent h))

  pub unrolled_none : place ≤ 0 → Unrolls a edge i (record { ended = ended; indents = r })
  unrolled_none h = unrolled (rw (entries_none a place h) (unroll_none edge r.indent))

-- drop_non_ending

drop_more : (i : ℕ) (e : Entry) (es : List Entry) → e.ends ≡ false → drop_non_ending i (e ∷ es) ≡ drop_non_ending e.old es
unfolding drop_non_ending
drop_more i e es h = rw (h, drop_non_ending)

drop_stop : (i old : ℕ) (ends : Bool) (es : List Entry) → ends ≡ true
    → drop_non_ending i (record { old = old; ends = ends } ∷ es) ≡ indents_of i (record { old = old; ends = ends } ∷ es)
unfolding drop_non_ending
drop_stop i old true es h = refl
drop_stop i old false es h = true_false (sym h)

drop_none : (i : ℕ) → drop_non_ending i [] ≡ indents_of i []
unfolding drop_non_ending
drop_none i = refl

pub record Dropping (a : List ℕ) (i r : Indents) (place : ℕ) : Type 0 where
  pub whole : drop_non_ending i.indent (entries_of a i.depth) ≡ drop_non_ending r.indent (entries_of a place)
  pub below : Below i r
  pub at : r.depth ≡ place

pub dropping_start : (a : List ℕ) (i : Indents) → i.indent ≤ most_at i.depth → Dropping a i i i.depth
dropping_start a i h = record { whole = refl; below = below_same h; at = refl }

module _ {a : List ℕ} {i r : Indents} {place : ℕ} (u : Dropping a i r place) (h : 0 < place) where
  abbrev w : ℕ
  w = get_or a (place - 1) 0

  pub dropping_more : (w % 2 ≡ 1 → ⊥) → Dropping a i (left_below a (place - 1)) (place - 1)
  dropping_more o =
      record {
        whole = u.whole ∙ rw (entries_pop a place h) (drop_more r.indent (entry_of (place - 1) w) (entries_of a (place - 1)) (ne_eqb (w % 2) 1 o));
        below = below_pop a (place - 1) u.below (omega (arith, u.at));
        at = refl;
      }

  pub dropped_stop : w % 2 ≡ 1 → Lowers a i r (drop_non_ending i.indent (entries_of a i.depth))
  dropped_stop e =
      record {
        same = rw u.at (sym (u.whole ∙ rw (entries_pop a place h) (drop_stop r.indent (left_below a (place - 1)).indent (eqb (w % 2) 1) (entries_of a (place - 1)) (rw e refl))));
        below = u.below;
      }

pub dropped_none : {a : List ℕ} {i r : Indents} {place : ℕ} → Dropping a i r place → place ≤ 0 → Lowers a i r (drop_non_ending i.indent (entries_of a i.depth))
dropped_none {a} {r = r} {place = place} u h = record { same = rw u.at (sym (u.whole ∙ rw (entries_none a place h) (drop_none r.indent))); below = u.below }

-- drop_for

module _ (a : List ℕ) (edge : ℕ) (i : Indents) (low : i.indent ≤ most_at i.depth) where
  abbrev drops : Indents → Type 0
  drops r = Lowers a i r (drop_for edge i.indent (entries_of a i.depth))

  pub keep_none : i.depth ≡ 0 → drops i
  unfolding drop_for
  keep_none e = record { same = rw (entries_none a i.depth (omega arith)); below = below_same low }

  module _ (n : i.depth ≡ 0 → ⊥) where
    pub keep_deep : edge < i.indent → drops i
    unfolding drop_for
    keep_deep h = record { same = rw (entries_pop a i.depth (omega arith), lt-leb i.indent edge h); below = below_same low }

    module _ (h : i.indent ≤ edge) where
      -- the last bit of the top entry tells whether it ends a block
      bit_tells : {b : Bool} → b ≡ top_ends (entries_of a i.depth) → eqb (get_or a (i.depth - 1) 0 % 2) 1 ≡ b
      bit_tells e = top_some a i.depth (omega arith) ∙ sym e

      pub keep_ending : true ≡ top_ends (entries_of a i.depth) → drops i
      unfolding drop_for
      keep_ending e = record { same = rw (entries_pop a i.depth (omega arith), le-leb i.indent edge h, bit_tells e); below = below_same low }

      pub drop_top : false ≡ top_ends (entries_of a i.depth) → drops (left_below a (i.depth - 1))
      unfolding drop_for
      drop_top e = record {
        same = rw (entries_pop a i.depth (omega arith), le-leb i.indent edge h, bit_tells e);
        below = below_pop a (i.depth - 1) (below_same low) (omega arith);
      }
