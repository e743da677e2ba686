-- Theorems about specs/Lowest, and what rests on them.
use Rattle.std.specs.Prelude.{ℕ, List, ◌≡◌}
use Rattle.yaml_scan.specs.declared.Limits.{Limits}
use Rattle.yaml_scan.specs.State.{State}
use Rattle.yaml_scan.specs.Slots.{Slot}
use Rattle.yaml_scan.specs.Candidates.{Fall}
use Rattle.yaml_stream.specs.Stream.{fresh, possible, scanning}
use Rattle.yaml_stream.specs.Kept.{From}
use Rattle.yaml_stream.specs.Waiting.{StreamReaches, fresh_keeps}
use Rattle.yaml_stream.proofs.Waiting.{reaches_keeps}
use Rattle.yaml_stream.specs.Lowest.{lowest, names, possible_lowest}

-- in every stream that calls come to
pub first_possible : (limits : Limits) (bytes : List ℕ) (words room : ℕ) {s : State} {n used : ℕ} {xs : List Slot}
    → StreamReaches limits room (fresh limits bytes words) (scanning s n xs used)
    → From n s.keys × Fall s.count s.keys × (possible n s.keys ≡ names n (lowest s.keys))
first_possible limits bytes words room {s = s} {n = n} r =
    let h = reaches_keeps limits room (fresh_keeps limits bytes words) r in
    (h.from, h.falls, possible_lowest n s.count s.keys h.from h.falls)
