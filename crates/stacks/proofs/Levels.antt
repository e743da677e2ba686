-- A flow level that is opened, and one that is closed.
use Prim.Native.Nat.{◌+◌, ◌-◌, ◌<◌, suc, zero, ℕ}
use mathlib.Core.List.{List, ◌∷◌}
use mathlib.Core.Path.{◌∙◌, ◌≡◌, refl}
use native.Mathlib.Omega.{arith}
use Rattle.yaml_scan.specs.declared.Candidate.TheVariants.{Absent}
use Rattle.yaml_scan.specs.declared.Level.{Level}
use Rattle.stacks.specs.Frame.{SetsKey, SetsLevel, frame_keys, frame_levels, key_of, level_of, with_level}

-- frame number n is made anew, of the words a, b and e, one level deeper than d
module _ {a b e : List ℕ} {n : ℕ} {l : Level} (d : ℕ) (q : n ≡ d + 1) (k : SetsKey a b n Absent) (w : SetsLevel b e n l) where
  pub keys_opened : frame_keys e (suc n) ≡ Absent ∷ frame_keys a (suc d)
  keys_opened = let f : n ≡ suc d = omega arith in w.keys (suc n) ∙ k.keys ∙ rw f

  pub levels_opened : frame_levels e n ≡ l ∷ frame_levels a d
  unfolding frame_levels with_level
  levels_opened = let f : n ≡ suc d = omega arith in w.levels ∙ rw (k.levels n, f)

-- the candidate and the level of a depth are the first
pub keys_first : (a : List ℕ) (d : ℕ) → frame_keys a (suc d) ≡ key_of a d ∷ frame_keys a d
unfolding frame_keys
keys_first a d = refl

pub levels_first : (a : List ℕ) (d : ℕ) → 0 < d → frame_levels a d ≡ level_of a d ∷ frame_levels a (d - 1)
unfolding frame_levels
levels_first a zero h = absurd (omega arith)
levels_first a (suc d) h = let e : suc d - 1 ≡ d = omega arith in rw e
