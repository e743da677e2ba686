-- Laws of the indent stack: how many blocks are open, at what indent the innermost stands, and how unrolling and rolling change that.
use Rattle.std.specs.Prelude.{◌+◌, ◌<◌, ◌≤◌, ℕ, Bool, ◌&&◌, false, not, true, List, [], ◌∷◌, ◌≡◌, refl, leb, ltb, length}
use Rattle.std.proofs.Common.{◌∙◌, ap, sym, le_refl, arith, ltb-false, ltb-true}
use Rattle.std.proofs.lemmas.Bool.{not-true}
use Rattle.yaml_text.specs.declared.Mark.{Mark}
use Rattle.yaml_text.specs.Test.{both_true, by_test, on_pick, true_false}
use Rattle.yaml_text.specs.All.{All, all_bind, all_weak, holds, not_read}
use Rattle.yaml_lexeme.specs.Block.{one_if}
use Rattle.yaml_scan.specs.Indent.{Entry, Indents, Rolled, drop_for, drop_non_ending, indents_of, roll, roll_at, stack, unroll}

-- how many blocks are open: the entries that end in BlockEnd
unfoldable pub open_blocks : List Entry → ℕ
open_blocks [] = 0
open_blocks (e ∷ es) = one_if e.ends + open_blocks es

-- the indent of the innermost block; 0: none is open
unfoldable pub block_indent : ℕ → List Entry → ℕ
block_indent i [] = 0
block_indent i (e ∷ es) =
    elim e.ends [
      | true ↦ i
      | false ↦ block_indent e.old es
    ]

-- each entry stands further in than the indent that it takes back
abbrev pub Rising : ℕ → List Entry → Type 0
Rising i [] = Unit {0}
Rising i (e ∷ es) = (e.old < i) × Rising e.old es

abbrev pub blocks_of : Indents → ℕ
blocks_of i = open_blocks i.entries

abbrev pub innermost : Indents → ℕ
innermost i = block_indent i.indent i.entries

abbrev pub Rises : Indents → Type 0
Rises i = Rising i.indent i.entries

block_at_most : (i : ℕ) (es : List Entry) → Rising i es → block_indent i es ≤ i
unfolding block_indent
block_at_most i [] r = omega arith
block_at_most i (e ∷ es) r =
    by_test e.ends
    (λ k. rw (k, block_indent) (le_refl i))
    (λ k. rw (k, block_indent) (omega (arith, r.0, block_at_most e.old es r.1)))

-- unrolling: each block that ends was open

pub unroll_blocks : (edge i : ℕ) (es : List Entry) → (unroll edge i es).ended + blocks_of (unroll edge i es).indents ≡ open_blocks es
unfolding unroll open_blocks
unroll_blocks edge i [] = refl
unroll_blocks edge i (e ∷ es) =
    by_test (ltb edge i)
    (λ k. rw (k, unroll) (omega (arith, unroll_blocks edge e.old es)))
    (λ k. rw (k, unroll) (omega arith))

pub unroll_rises : (edge i : ℕ) (es : List Entry) → Rising i es → Rises (unroll edge i es).indents
unfolding unroll
unroll_rises edge i [] r = tt
unroll_rises edge i (e ∷ es) r =
    by_test (ltb edge i)
    (λ k. rw (k, unroll) (unroll_rises edge e.old es r.1))
    (λ k. rw (k, unroll) r)

-- no block is left that stands further in than the edge
pub unroll_within : (edge i : ℕ) (es : List Entry) → Rising i es → innermost (unroll edge i es).indents ≤ edge
unfolding unroll block_indent
unroll_within edge i [] r = omega arith
unroll_within edge i (e ∷ es) r =
    by_test (ltb edge i)
    (λ k. rw (k, unroll) (unroll_within edge e.old es r.1))
    (λ k. rw (k, unroll) (omega (arith, ltb-false edge i k, block_at_most i (e ∷ es) r)))

-- where none stood further in, none ends
pub unroll_none : (edge i : ℕ) (es : List Entry) → block_indent i es ≤ edge
    → ((unroll edge i es).ended ≡ 0) × (innermost (unroll edge i es).indents ≡ block_indent i es)
unfolding unroll block_indent
unroll_none edge i [] h = (refl, refl)
unroll_none edge i (e ∷ es) h =
    by_test (ltb edge i)
    (λ k. by_test e.ends
    (λ b. let j : i ≤ edge = rw (b, block_indent) at h in absurd (omega (arith, ltb-true edge i k)))
    (λ b. let j = unroll_none edge e.old es (rw (b, block_indent) at h) in rw (k, unroll, b, block_indent) (omega (arith, j.0), j.1)))
    (λ k. rw (k, unroll) (refl, refl))

-- outside every block none is left
pub unroll_all : (i : ℕ) (es : List Entry) → Rising i es → blocks_of (unroll 0 i es).indents ≡ 0
unfolding unroll open_blocks
unroll_all i [] r = refl
unroll_all i (e ∷ es) r =
    by_test (ltb 0 i)
    (λ k. rw (k, unroll) (unroll_all e.old es r.1))
    (λ k. absurd (omega (arith, ltb-false 0 i k, r.0)))

-- entries that end no block come and go, and the blocks stay
pub record Same (i j : Indents) : Type 0 where
  pub blocks : blocks_of j ≡ blocks_of i
  pub at : innermost j ≡ innermost i
  pub rises : Rises i → Rises j

pub same_refl : (i : Indents) → Same i i
same_refl i = record { blocks = refl; at = refl; rises = λ r. r }

-- without an entry that ends none
same_drop : {j : Indents} (i : ℕ) (e : Entry) (es : List Entry) → e.ends ≡ false → Same (indents_of e.old es) j → Same (indents_of i (e ∷ es)) j
unfolding open_blocks block_indent
same_drop i e es b s = record { blocks = rw b (s.blocks ∙ omega arith); at = rw (b, block_indent) s.at; rises = λ r. s.rises r.1 }

pub drop_non_ending_same : (i : ℕ) (es : List Entry) → Same (indents_of i es) (drop_non_ending i es)
unfolding drop_non_ending
drop_non_ending_same i [] = same_refl _
drop_non_ending_same i (e ∷ es) = by_ends e.ends refl (drop_non_ending_same e.old es)
  where
    by_ends : (b : Bool) → e.ends ≡ b → Same (indents_of e.old es) (drop_non_ending e.old es)
        → Same (indents_of i (e ∷ es)) (elim b [ true ↦ indents_of i (e ∷ es) | false ↦ drop_non_ending e.old es ])
    by_ends true k s = same_refl _
    by_ends false k s = same_drop i e es k s

drop_for_same : (edge i : ℕ) (es : List Entry) → Same (indents_of i es) (drop_for edge i es)
unfolding drop_for
drop_for_same edge i [] = same_refl _
drop_for_same edge i (e ∷ es) =
    on_pick (Same (indents_of i (e ∷ es))) (leb i edge && not e.ends)
    (λ k. same_drop i e es (not-true e.ends (both_true (leb i edge) _ k).1) (same_refl _))
    (λ _. same_refl _)

-- a new entry on top
pub record Stacked (new : ℕ) (ends : Bool) (i j : Indents) : Type 0 where
  pub blocks : blocks_of j ≡ one_if ends + blocks_of i
  pub at : ends ≡ false → innermost j ≡ innermost i
  pub rises : i.indent < new → Rises i → Rises j

stacked : (new : ℕ) (ends : Bool) (i : Indents) → Stacked new ends i (indents_of new (record { old = i.indent; ends = ends } ∷ i.entries))
unfolding open_blocks block_indent
stacked new true i = record { blocks = refl; at = λ b. true_false b; rises = λ h r. (h, r) }
stacked new false i = record { blocks = refl; at = λ _. refl; rises = λ h r. (h, r) }

stack_stacked : (room : ℕ) (m : Mark) (new : ℕ) (ends : Bool) (i : Indents) → All Indents (Stacked new ends i) (stack room m new ends i)
unfolding stack
stack_stacked room m new ends i =
    by_test (ltb (length i.entries) room)
    (λ k. rw (k, stack) (holds (stacked new ends i)))
    (λ k. rw (k, stack) not_read)

pub stack_same : (room : ℕ) (m : Mark) (i : Indents) → All Indents (Same i) (stack room m (i.indent + 1) false i)
stack_same room m i =
    all_weak (λ j s. record { blocks = s.blocks ∙ omega arith; at = s.at refl; rises = s.rises (omega arith) }) (stack_stacked room m (i.indent + 1) false i)

-- K4: a block begins if a start token is to be added; in flow none does
pub record Rolls (flow : Bool) (i : Indents) (r : Rolled) : Type 0 where
  pub blocks : blocks_of r.indents ≡ one_if r.starts + blocks_of i
  pub rises : Rises i → Rises r.indents
  pub flows : flow ≡ true → r ≡ record { starts = false; indents = i }

rolls_none : {flow : Bool} {i j : Indents} → Same i j → (flow ≡ true → j ≡ i) → Rolls flow i (record { starts = false; indents = j })
rolls_none {j = j} s h = record { blocks = omega (arith, s.blocks); rises = s.rises; flows = λ f. ap (λ (k : Indents). record { starts = false; indents = k }) (h f) }

roll_rolls : (room : ℕ) (m : Mark) (edge : ℕ) (i : Indents) → All Rolled (Rolls false i) (roll room m edge i)
unfolding roll
roll_rolls room m edge i =
    let d = drop_for edge i.indent i.entries in
    let s = drop_for_same edge i.indent i.entries in
    by_test (ltb d.indent edge)
    (λ k. rw (k, roll) (all_bind _ (stack_stacked room m edge true d)
    (λ j h. holds (record { blocks = omega (arith, h.blocks, s.blocks); rises = λ r. h.rises (ltb-true d.indent edge k) (s.rises r); flows = λ f. true_false (sym f) }))))
    (λ k. rw (k, roll) (holds (rolls_none s (λ f. true_false (sym f)))))

pub roll_at_rolls : (room : ℕ) (flow : Bool) (m : Mark) (edge : ℕ) (i : Indents) → All Rolled (Rolls flow i) (roll_at room flow m edge i)
unfolding roll_at
roll_at_rolls room true m edge i = holds (rolls_none (same_refl i) (λ _. refl))
roll_at_rolls room false m edge i = roll_rolls room m edge i
