-- A refusal is held: behind the tokens that can be given it is the answer, again and again.
use Prim.Native.Nat.{◌+◌, ◌<◌, ℕ}
use mathlib.Core.List.{List, [], ◌++◌, append-nil}
use mathlib.Core.Path.{◌∙◌, ◌≡◌, refl, subst, sym}
use Rattle.std.specs.Prelude.{Result, Err}
use native.Mathlib.Omega.{arith}
use lib.ListN.{get_or, length, length-set, set}
use lib.Seq.{get_or-set_other, get_or-set_same, length-sets, sets}
use Rattle.yaml_text.specs.declared.Mark.{Mark}
use Rattle.yaml_text.specs.declared.Refusal.{Refusal}
use Rattle.yaml_scan.specs.declared.Limits.{Limits}
use Rattle.yaml_scan.specs.Slots.{flat}
use Rattle.yaml_stream.specs.Ahead.{there}
use Rattle.yaml_stream.specs.Answers.{refused_again}
use Rattle.yaml_stream.specs.Stream.{Called, Stream, broken, call, called, refusal}
use Rattle.stacks.proofs.Frames.{get_d_sets, getD_sets_other}
use Rattle.sink.specs.SlotWords.{slot_texts, slot_words}
use Rattle.driver.specs.Held.{held_words, mark_at, mark_words, number_at, phase_at, slot_at, until_at, word}
use Rattle.stream.specs.declared.Next.{Next}
use Rattle.stream.specs.Holds.{Breaks, Calls, Holds, Says, breaks, text_given}
use Rattle.stream.specs.Words.{no_token, put_refusal, refusal_held, refused_held}

module _ (h : List ℕ) (f : Refusal) (all : length h ≡ held_words) where
  abbrev broke : List ℕ
  broke = set h phase_at 3

  abbrev marked : List ℕ
  marked = sets broke mark_at (mark_words f.mark)

  marked_length : length marked ≡ held_words
  marked_length = length-sets broke mark_at (mark_words f.mark) ∙ length-set h phase_at 3 ∙ all

  refusal_length : length (put_refusal h f) ≡ held_words
  refusal_length = length-set marked number_at f.number ∙ marked_length

  mark_word : (j : ℕ) → j < 3 → word (put_refusal h f) (mark_at + j) ≡ get_or (mark_words f.mark) j 0
  mark_word j o =
      get_or-set_other marked number_at (mark_at + j) f.number 0 (λ e. omega arith)
      ∙ get_d_sets (mark_words f.mark) broke mark_at j (omega (arith, length-set h phase_at 3)) o

  pub refusal_phase : word (put_refusal h f) phase_at ≡ 3
  refusal_phase =
      get_or-set_other marked number_at phase_at f.number 0 (λ e. omega arith)
      ∙ getD_sets_other (mark_words f.mark) broke mark_at phase_at (λ a b. omega arith)
      ∙ get_or-set_same h phase_at 3 0 (omega arith)

  -- the words between the phase and the state
  pub refusal_other : (j : ℕ) → phase_at < j → j < mark_at → word (put_refusal h f) j ≡ word h j
  refusal_other j o p =
      get_or-set_other marked number_at j f.number 0 (λ e. omega arith)
      ∙ getD_sets_other (mark_words f.mark) broke mark_at j (λ a b. omega arith)
      ∙ get_or-set_other h phase_at j 3 0 (λ e. omega arith)

  pub refusal_is : refusal_held (put_refusal h f) ≡ f
  refusal_is =
      rw (get_or-set_same marked number_at f.number 0 (omega (arith, marked_length)), mark_word 0 (omega arith), mark_word 1 (omega arith), mark_word 2 (omega arith))

  -- nothing can be given

  abbrev slotted : List ℕ
  slotted = set (put_refusal h f) slot_at 0

  refused_other : (j : ℕ) → (j ≡ slot_at → ⊥) → (j ≡ until_at → ⊥) → word (refused_held h f) j ≡ word (put_refusal h f) j
  refused_other j d e = get_or-set_other slotted until_at j 0 0 e ∙ get_or-set_other (put_refusal h f) slot_at j 0 0 d

  pub refused_breaks : (l b : List ℕ) → Breaks (refused_held h f) l b [] [] f.number f.mark
  unfolding slot_words slot_texts
  refused_breaks l b =
      let len : length slotted ≡ held_words = length-set (put_refusal h f) slot_at 0 ∙ refusal_length in
      let slot : word (refused_held h f) slot_at ≡ 0 =
      get_or-set_other slotted until_at slot_at 0 0 (λ e. omega arith) ∙ get_or-set_same (put_refusal h f) slot_at 0 0 (omega (arith, refusal_length)) in
      let until : word (refused_held h f) until_at ≡ 0 = get_or-set_same slotted until_at 0 0 (omega arith) in
      record {
        phase = omega (arith, refused_other phase_at (λ e. omega arith) (λ e. omega arith), refusal_phase);
        is = rw (
          refused_other number_at (λ e. omega arith) (λ e. omega arith),
          refused_other mark_at (λ e. omega arith) (λ e. omega arith),
          refused_other (mark_at + 1) (λ e. omega arith) (λ e. omega arith),
          refused_other (mark_at + 2) (λ e. omega arith) (λ e. omega arith),
        ) refusal_is;
        waits = record { fit = omega arith; slots = refl; texts = refl; until = omega arith; noted = tt };
        records = λ e. absurd (omega arith);
      }

-- the answer where nothing can be given
pub broken_answer : {limits : Limits} {text b h l r gone : List ℕ} {a : Result Next Refusal} {k : ℕ} {m : Mark} (x : Stream) → call limits (length b) x ≡ called (refusal k m) (broken k m)
    → Breaks h l b gone [] k m → a ≡ Err (record { number = k; mark = m }) → r ≡ no_token → Calls limits text b h l b r a gone x
unfolding flat
broken_answer {limits} {text} {b} {h} {l} {r} {gone} {a} {k} {m} x e w i j =
    record {
      says = subst (λ (c : Called). Says (length gone) c.answer r a) (sym e) (i, j);
      holds = subst (λ (c : Called). Holds limits text h l b (gone ++ text_given c.answer) c.stream) (sym e)
          (subst (λ (g : List ℕ). Holds limits text h l b g (broken k m)) (sym (append-nil gone)) (breaks there (refused_again limits (length b) k m) w));
    }
