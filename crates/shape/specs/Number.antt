-- The number that a seed's text is.
use Rattle.std.specs.Prelude.{ℕ, ◌&&◌, List, None, Option, Some, leb}
use Rattle.yaml_text.specs.Pick.{pick}
use Rattle.yaml_job.specs.Job.{all_digits, is_number, most_seed, value_from}

-- of digits behind digits of value n, however they are led
unfoldable pub number_from : ℕ → List ℕ → Option ℕ
number_from n ds = pick (all_digits ds && leb (value_from n ds) most_seed) (Some (value_from n ds)) None

abbrev pub number_in : List ℕ → Option ℕ
number_in ds = pick (is_number ds) (Some (value_from 0 ds)) None
