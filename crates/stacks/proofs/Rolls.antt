-- Entries that come: the code stores one word, below the frames and above the entries that stay, where the definition's stack has one entry more.
use Prim.Native.Nat.{◌+◌, ◌<◌, ◌≤◌, ℕ}
use Rattle.std.specs.Prelude.{Ok, Err}
use mathlib.Core.Bool.{Bool, false, true}
use mathlib.Core.List.{List, ◌∷◌}
use mathlib.Core.Path.{◌∙◌, ◌≡◌, refl, sym}
use native.Mathlib.Omega.{arith}
use lib.Dec.{ltb}
use lib.ListN.{length, set}
use lib.Seq.{get_or-set_other}
use borrow.Author.Tests.{le-ltb, lt-ltb}
use Rattle.yaml_text.specs.declared.Mark.{Mark}
use Rattle.yaml_text.specs.declared.Refusal.{Refusal}
use Rattle.yaml_text.specs.Refusal.{Read, ◌>>=◌, got, refused}
use Rattle.yaml_text.specs.Test.{by_test}
use Rattle.yaml_scan.specs.Indent.{drop_for, indents_of, roll, stack}
use Rattle.yaml_scan.specs.Indent as definition
use Rattle.stacks.specs.Stack.{entry_words, stack_words}
use Rattle.stacks.specs.Indent.{Low, Lowers, entries_of, indents_seen, most_at, word_of}
use Rattle.stacks.specs.Roll.{Rolls, Stacks, full_at, one_more, rolled_words, stored}
use Rattle.stacks.specs.declared.indent.Indents.{Indents}
use Rattle.stacks.proofs.Entries.{entries_length, entries_push, entries_set, low_below}
use Rattle.stacks.proofs.Frames.{frames_stay, frames_stay_same}

-- stack

stack_fits : (room : ℕ) (m : Mark) (i : ℕ) (ends : Bool) (s : definition.Indents) → ltb (length s.entries) room ≡ true
    → stack room m i ends s ≡ got (indents_of i (record { old = s.indent; ends = ends } ∷ s.entries))
unfolding stack
stack_fits room m i ends s h = rw (h, stack)

stack_refused : (room : ℕ) (m : Mark) (i : ℕ) (ends : Bool) (s : definition.Indents) → ltb (length s.entries) room ≡ false
    → stack room m i ends s ≡ refused 48 m
unfolding stack
stack_refused room m i ends s h = rw (h, stack)

module _ (a : List ℕ) (room : ℕ) (m : Mark) (indent : ℕ) (ends : Bool) (i : Indents) where
  pub stack_full : room ≤ i.depth → Stacks a a room m indent ends i (Err (full_at m))
  stack_full h =
      let t : ltb (length (entries_of a i.depth)) room ≡ false = rw (entries_length a i.depth) (le-ltb i.depth room h) in
      record {
        same = sym (stack_refused room m indent ends (indents_seen a i) t);
        words = rw t;
        below = λ n g. refl;
        frames = frames_stay_same a;
        low = tt;
      }

  pub stack_got : room ≤ entry_words → stack_words ≤ length a → i.depth < room → i.indent ≤ most_at i.depth → indent ≤ most_at (i.depth + 1)
      → Stacks a (set a i.depth (word_of i.indent ends)) room m indent ends i (Ok (one_more indent i))
  stack_got g w h l n =
      let e = entries_length a i.depth in
      let t : ltb (length (entries_of a i.depth)) room ≡ true = rw e (lt-ltb i.depth room h) in
      let k : i.depth < length a = omega arith in
      let v = word_of i.indent ends in
      record {
        same = rw (entries_push a i.depth i.indent ends k l) (sym (stack_fits room m indent ends (indents_seen a i) t));
        words = rw (t, e);
        below = λ n q. entries_set a n i.depth v q;
        frames = frames_stay a (set a i.depth v) (λ j m. get_or-set_other a i.depth j v 0 (λ q. omega arith));
        low = record { deep = omega arith; indent = n };
      }

-- roll

module _ (room : ℕ) (m : Mark) (edge : ℕ) (s d : definition.Indents) (e : drop_for edge s.indent s.entries ≡ d) where
  roll_stacks : ltb d.indent edge ≡ true → roll room m edge s ≡ stack room m edge true d >>= λ i. got (record { starts = true; indents = i })
  unfolding roll
  roll_stacks h = rw (e, h, roll, e)

  roll_stays : ltb d.indent edge ≡ false → roll room m edge s ≡ got (record { starts = false; indents = d })
  unfolding roll
  roll_stays h = rw (e, h, roll, e)

module _ {a : List ℕ} {edge : ℕ} {i d : Indents} (room : ℕ) (m : Mark) (w : Lowers a i d (drop_for edge i.indent (entries_of a i.depth))) where
  pub rolled_stays : Low room i → edge ≤ d.indent → Rolls a a room m edge i (Ok (record { starts = false; indents = d }))
  rolled_stays l h =
      let t = le-ltb d.indent edge h in
      record {
        same = sym (roll_stays room m edge (indents_seen a i) (indents_seen a d) (sym w.same) t);
        words = rw (← w.same, t);
        frames = frames_stay_same a;
        low = low_below l w.below;
      }

  module _ (h : d.indent < edge) where
    on : {r : Read definition.Indents} → r ≡ stack room m edge true (indents_seen a d)
        → (r >>= λ i. got (record { starts = true; indents = i })) ≡ roll room m edge (indents_seen a i)
    on q = rw q (sym (roll_stacks room m edge (indents_seen a i) (indents_seen a d) (sym w.same) (lt-ltb d.indent edge h)))

    words : {e : List ℕ} → e ≡ stored room true a (indents_seen a d) → e ≡ rolled_words room edge a (indents_seen a i)
    words q = rw (← w.same, lt-ltb d.indent edge h) q

    pub rolled_full : {e : List ℕ} {f : Refusal} → Stacks a e room m edge true d (Err f) → Rolls a e room m edge i (Err f)
    unfolding ◌>>=◌
    rolled_full s = record { same = on s.same; words = words s.words; frames = s.frames; low = tt }

    pub rolled_starts : {e : List ℕ} {k : Indents} → Stacks a e room m edge true d (Ok k) → Rolls a e room m edge i (Ok (record { starts = true; indents = k }))
    unfolding ◌>>=◌
    rolled_starts s = record {
      same = on s.same;
      words = words s.words;
      frames = s.frames;
      low = s.low;
    }

-- a refusal leaves the words as they are

pub refused_got : {A P : Type 0} {x : A} {n : ℕ} {k : Mark} → refused n k ≡ got x → P
refused_got e = let z : ◌≡◌ {A = ℕ} 0 1 = cc e in absurd (omega arith)

abbrev begun : definition.Indents → definition.Rolled
begun i = record { starts = true; indents = i }

fits_on : (room : ℕ) (m : Mark) (edge : ℕ) (d : definition.Indents) → ltb (length d.entries) room ≡ true
    → (stack room m edge true d >>= λ i. got (begun i)) ≡ got (begun (indents_of edge (record { old = d.indent; ends = true } ∷ d.entries)))
unfolding ◌>>=◌
fits_on room m edge d t = rw (stack_fits room m edge true d t)

module _ {a e : List ℕ} {room : ℕ} {m : Mark} {i : Indents} {f : Refusal} where
  pub roll_kept : {edge : ℕ} → Rolls a e room m edge i (Err f) → e ≡ a
  roll_kept {edge} w =
      let d = drop_for edge i.indent (entries_of a i.depth) in
      w.words
      ∙ by_test (ltb d.indent edge)
      (λ t. by_test (ltb (length d.entries) room)
      (λ u. refused_got (w.same ∙ roll_stacks room m edge (indents_seen a i) d refl t ∙ fits_on room m edge d u))
      (λ u. rw (t, u)))
      (λ t. refused_got (w.same ∙ roll_stays room m edge (indents_seen a i) d refl t))
