-- What '?' and ':' do to the current level, which is the definition's innermost one; at level 0 there is none.
use Prim.Native.Nat.{suc, zero, ℕ}
use mathlib.Core.Bool.{Bool}
use mathlib.Core.List.{List}
use mathlib.Core.Path.{◌∙◌, ◌≡◌, refl}
use native.Mathlib.Omega.{arith}
use borrow.Author.Tests.{lt-ltb}
use Rattle.yaml_scan.specs.State.{on_level}
use Rattle.yaml_scan.specs.Value.{begins_pair, colon_seen, questioned}
use Rattle.stacks.specs.Frame.{SetsLevel, frame_levels, level_of, with_level}
use Rattle.indicators.specs.Indicator.{SeesColon}
use Rattle.indicators.specs.Words.{colon_of, pair_of, questioned_of}

questions : (a : List ℕ) (d : ℕ) → with_level (questioned_of (level_of a d)) (frame_levels a d) ≡ questioned (frame_levels a d)
unfolding with_level frame_levels on_level
questions a zero = refl
questions a (suc d) = refl

pub question_levels : {a e : List ℕ} (d : ℕ) → SetsLevel a e d (questioned_of (level_of a d)) → frame_levels e d ≡ questioned (frame_levels a d)
question_levels {a} d w = w.levels ∙ questions a d

pub pair_levels : (a : List ℕ) (d : ℕ) → begins_pair (frame_levels a d) ≡ pair_of d (level_of a d)
unfolding begins_pair frame_levels pair_of
pair_levels a zero = refl
pair_levels a (suc d) = rw (lt-ltb 0 (suc d) (omega arith))

colons : (a : List ℕ) (d : ℕ) → with_level (colon_of (level_of a d) (pair_of d (level_of a d))) (frame_levels a d) ≡ colon_seen (frame_levels a d)
unfolding with_level frame_levels on_level begins_pair pair_of
colons a zero = refl
colons a (suc d) = rw (lt-ltb 0 (suc d) (omega arith))

pub colon_levels : {a e : List ℕ} {pair : Bool} (d : ℕ) → SeesColon a e d pair → frame_levels e d ≡ colon_seen (frame_levels a d)
colon_levels {a} d w = w.sets.levels ∙ rw w.is (colons a d)
