-- The way to the next token over more words than the stacks: what it makes of the first is what it makes of all, and the rest stays.
use Prim.Native.Nat.{ℕ}
use Rattle.std.specs.Prelude.{Result, Ok, Err}
use mathlib.Core.List.{List, ◌++◌}
use mathlib.Core.Path.{◌∙◌, ◌≡◌, ap, sym}
use native.Mathlib.Omega.{arith}
use lib.ListN.{drop, length, length-append, take}
use Rattle.yaml_text.specs.declared.Refusal.{Refusal}
use Rattle.yaml_scan.specs.declared.Limits.{Limits}
use Rattle.stacks.specs.Stack.{stack_words}
use Rattle.states.specs.declared.State.{State}
use Rattle.states.specs.Answer.{ready_key}
use Rattle.states.specs.Fetch.{Ready}
use Rattle.states.specs.State.{s_with_indents, state_of}
use Rattle.states.proofs.Longer.{behind_longer, first_longer, indents_longer, lapsed_longer, state_longer}
use Rattle.choices.specs.declared.advance.Advanced.{Advanced}
use Rattle.choices.specs.Advance.{Advances}

-- from the words a, the first of which became e
module _ {limits : Limits} {text : List ℕ} (a e : List ℕ) {s : State} (y : Ready limits text a s) (long : length e ≡ stack_words) where
  abbrev x : List ℕ
  x = drop stack_words a

  abbrev same : (count : ℕ) → state_of text a count s ≡ state_of text (take stack_words a) count s
  same count = let k = ready_key y in state_longer (first_longer a y) s k.0 k.1 text count

  pub advances_longer : (r : Result Advanced Refusal) → Advances limits text (take stack_words a) e s r → Advances limits text a (e ++ x) s r
  advances_longer (Ok r) w =
      let t = r.state in
      let m = ready_key w.ready in
      let h = first_longer a y in
      let l = behind_longer x long in
      let i = state_longer l (s_with_indents t s.indents) m.0 (ready_key y).1 text in
      let n = length-append e x in
      record {
        found = λ count. rw (same count, i count) (w.found count);
        left = λ count. rw (i count, indents_longer l t m.1) (w.left count);
        words = ap (λ (b : List ℕ). b ++ x) w.words ∙ sym (lapsed_longer h t m.0).is;
        onward = w.onward;
        few = w.few;
        ready = record {
          stands = w.ready.stands;
          low = w.ready.low;
          deep = w.ready.deep;
          lent = record { room = omega arith; entries_most = y.lent.entries_most; levels_most = y.lent.levels_most };
        };
      }
  advances_longer (Err f) w =
      record { same = λ count. rw (same count) (w.same count); words = ap (λ (b : List ℕ). b ++ x) w.words ∙ sym (first_longer a y).is }
