-- What a run stores and counts, held against the definition.
use Rattle.std.specs.Prelude.{ℕ, List, ◌≡◌, length, Result, Ok, Err}
use Rattle.yaml_text.specs.declared.Refusal.{Refusal}
use Rattle.yaml_scan.specs.State.{Event}
use Rattle.yaml_scan.specs.Scan.{scanned, stopped}
use Rattle.yaml_scan.specs.Scan as definition
use Rattle.events.specs.declared.Counts.{Counts}
use Rattle.sink.specs.Stored.{CountsWithin, Stored}

-- a run whose outcome is d: all that was said is stored and counted
pub record RunScans (d : definition.Outcome) (n m : Counts) (l b l' b' : List ℕ) : Type 0 where
  pub said : List Event
  pub same : d ≡ scanned said
  pub stored : Stored 0 n m l b l' b' said
  pub few : CountsWithin m 1_048_577

-- a run that is refused: words and bytes keep their lengths, and whoever ran it clears them
pub record RunStops (d : definition.Outcome) (l b l' b' : List ℕ) (f : Refusal) : Type 0 where
  pub same : d ≡ stopped f.number f.mark
  pub words : length l' ≡ length l
  pub bytes : length b' ≡ length b

abbrev pub RunComes : definition.Outcome → Counts → List ℕ → List ℕ → List ℕ → List ℕ → Result Counts Refusal → Type 0
RunComes d n l b l' b' (Ok m) = RunScans d n m l b l' b'
RunComes d n l b l' b' (Err f) = RunStops d l b l' b' f
