-- Line ends that are written: before a content line, and behind the last.
use Prim.Native.Nat.{◌+◌, ◌≤◌, suc, ℕ}
use mathlib.Core.Bool.{Bool, ◌||◌, false, true}
use mathlib.Core.List.{List, [], ◌∷◌}
use mathlib.Core.Path.{◌≡◌, refl}
use native.Mathlib.Numerals.{add-one}
use native.Mathlib.Omega.{arith}
use mir.Val.{bool_byte}
use lib.ListN.{replicate, replicate-append-replicate}
use lib.Seq.{sets}
use Rattle.yaml_text.specs.Char.{line_feed}
use Rattle.yaml_text.specs.Pick.{pick}
use Rattle.yaml_text.specs.Test.{by_pick}
use Rattle.yaml_lexeme.specs.declared.Chomping.{Chomping}
use Rattle.yaml_lexeme.specs.declared.Chomping.TheVariants.{Clip, Keep, Strip}
use Rattle.yaml_lexeme.specs.Fold.{fold}
use Rattle.yaml_lexeme.specs.Sizes.{fold_size, size_feeds}
use Rattle.yaml_lexeme.specs.Token.{size}
use Rattle.yaml_lexeme.specs.Block.{between, chomped, lines_after, one_if, own_break, separator}
use Rattle.block_content.specs.declared.Between.{Between}
use Rattle.block_content.specs.declared.Between.TheVariants.{Ahead, Behind}
use Rattle.block_content.specs.Content.{behind_breaks, line_of, more_of, own_of, pending}
use Rattle.reading.specs.Puts.{Puts, puts_breaks}

-- before a content line

module _ {before after : List ℕ} {at r : ℕ} {keeps : Bool} (n : ℕ) where
  pub breaks_kept : keeps ≡ true → (after ≡ sets before at (replicate (n + 1) 10)) × (r ≡ at + (n + 1)) → Puts before at after r (behind_breaks keeps n)
  unfolding behind_breaks
  breaks_kept e f = rw e (rw (add-one n) at (puts_breaks (n + 1) f))

  pub breaks_folded : keeps ≡ false → Puts before at after r (fold (suc n)) → Puts before at after r (behind_breaks keeps n)
  unfolding behind_breaks
  breaks_folded e p = rw e p

pub separator_ahead : {l : Between} {n : ℕ} (literal blank : Bool) → l ≡ Ahead n → separator literal blank (line_of l) ≡ replicate n 10
unfolding separator line_of
separator_ahead literal blank e = rw e

pub separator_behind : {l : Between} {n : ℕ} {w : Bool} (literal blank : Bool) → l ≡ Behind w n → separator literal blank (line_of l) ≡ behind_breaks (literal || w || blank) n
unfolding separator line_of behind_breaks
separator_behind literal blank e = rw e

-- behind the content

own_replicate : (l : Between) → own_break (between (line_of l)) ≡ replicate (own_of l) 10
unfolding own_break line_of own_of
own_replicate (Ahead n) = refl
own_replicate (Behind w n) = refl

more_replicate : (l : Between) → lines_after (between (line_of l)) ≡ replicate (more_of l) 10
unfolding lines_after line_of more_of
more_replicate (Ahead n) = refl
more_replicate (Behind w n) = refl

-- a flag as a number
pub flag_number : {n : ℕ} (b : Bool) → n ≡ bool_byte b → (n ≡ one_if b) × (n ≤ 1)
flag_number true e = rw e (refl, omega arith)
flag_number false e = rw e (refl, omega arith)

pub last_replicate : (last : Bool) → pick last (line_feed ∷ []) [] ≡ replicate (one_if last) 10
last_replicate true = refl
last_replicate false = refl

module _ {k : Chomping} (last : Bool) (l : Between) where
  pub chomped_strip : k ≡ Strip → chomped k last (between (line_of l)) ≡ replicate 0 10
  unfolding chomped
  chomped_strip e = rw e

  pub chomped_clip : k ≡ Clip → chomped k last (between (line_of l)) ≡ replicate (own_of l + one_if last) 10
  unfolding chomped
  chomped_clip e = rw (e, own_replicate l, last_replicate last) (replicate-append-replicate (own_of l) (one_if last) 10)

  pub chomped_keep : k ≡ Keep → chomped k last (between (line_of l)) ≡ replicate (own_of l + one_if last + more_of l) 10
  unfolding chomped
  chomped_keep e =
      rw (e, own_replicate l, last_replicate last, more_replicate l, replicate-append-replicate {A = ℕ} (own_of l) (one_if last) 10)
      (replicate-append-replicate (own_of l + one_if last) (more_of l) 10)

-- a separator takes no more bytes than line ends are pending
pub separator_few : (literal blank : Bool) (l : Between) → size (separator literal blank (line_of l)) ≤ pending l
unfolding separator line_of own_of more_of
separator_few literal blank (Ahead n) = omega (arith, size_feeds n)
separator_few literal blank (Behind w n) =
    by_pick (λ (t : List ℕ). size t ≤ 1 + n) (literal || w || blank) (replicate (suc n) line_feed) _ (omega (arith, size_feeds (suc n)))
    (let h = fold_size (suc n) in omega arith)
