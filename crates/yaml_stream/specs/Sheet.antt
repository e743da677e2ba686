-- The instance of InList for a sheet: in the stream of `seeds: [1, 1, ]`, however many seeds it has, at most 4 tokens wait, and 51 is not met.
use Rattle.std.specs.Prelude.{ℕ, false, List, ◌∷◌}
use Rattle.yaml_text.specs.Char.{':', '[', space}
use Rattle.yaml_scan.specs.State.{State}
use Rattle.yaml_scan.specs.Scan.{standard}
use Rattle.yaml_stream.specs.OnKeyLine.{KeyLine}
use Rattle.yaml_stream.specs.SeedList as seeds
use Rattle.yaml_stream.specs.SeedList.{entries}

abbrev pub sheet : ℕ → List ℕ
sheet k = 115 ∷ 101 ∷ 101 ∷ 100 ∷ 115 ∷ ':' ∷ space ∷ '[' ∷ entries k

-- the bracket stands on its key's line

abbrev pub behind_key : ℕ → State
behind_key k = seeds.behind_key 0 1 k 1 false

pub key_line : (k : ℕ) → KeyLine standard (behind_key k) (seeds.behind_bracket 0 1 k 1)
key_line k = seeds.key_line 0 1 k 1 false

-- a step
