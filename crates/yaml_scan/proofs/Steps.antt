-- Theorems about specs/Steps, and what rests on them.
use Rattle.std.specs.Prelude.{◌+◌, [], ◌≡◌}
use Rattle.std.proofs.Common.{arith}
use Rattle.yaml_text.specs.Class.{is_z}
use Rattle.yaml_text.specs.Mark.{edge_of, look}
use Rattle.yaml_text.specs.Test.{by_test}
use Rattle.yaml_text.specs.All.{All, all_bind, all_both, holds}
use Rattle.yaml_scan.specs.declared.Limits.{Limits}
use Rattle.yaml_scan.specs.IndentLaws.{blocks_of, unroll_blocks}
use Rattle.yaml_scan.specs.State.{News, State, block_ends, ends_with, goes_on, in_flow, mark_of, preceded, rest_of}
use Rattle.yaml_scan.specs.Choice.{choice}
use Rattle.yaml_scan.specs.Fetch.{fetch, fetch_next}
use Rattle.yaml_scan.specs.Scan.{step, unrolled}
use Rattle.yaml_scan.specs.ChoiceLaws.{choice_says}
use Rattle.yaml_scan.specs.Runs.{TakesOrEnds, some_left}
use Rattle.yaml_scan.proofs.Runs.{next_news}
use Rattle.yaml_scan.specs.Moves.{Moves}
use Rattle.yaml_scan.specs.FetchMoves.{stream_end_moves}
use Rattle.yaml_scan.proofs.FetchMoves.{fetch_moves}
use Rattle.yaml_scan.specs.Steps.{Gapped, to_next_token_gapped, Takes, unrolled_state}

takes : (s : State) (w : News) → TakesOrEnds [] s w → Takes s w
takes s (goes_on es u) h = (h.0, h.1)
takes s (ends_with es) h = tt

pub next_moves : (limits : Limits) (s : State) → All News (Moves s) (fetch_next limits s)
unfolding choice fetch
next_moves limits s =
    by_test (is_z (look s.place))
    (λ e. rw (e, choice) (stream_end_moves s))
    (λ e. fetch_moves limits (choice s) s (choice_says s) (some_left (rest_of s) e))

-- to show something of every step, show it of every gap and move
pub step_by : {Q : News → Type 0} (limits : Limits) (s : State)
    → ((t : State) → Gapped s t → (w : News) → Moves (unrolled_state t) w → Takes (unrolled_state t) w → Q (preceded (block_ends (unrolled t).ended (mark_of t)) w))
    → All News Q (step limits s)
unfolding step
step_by limits s h =
    all_bind _ (to_next_token_gapped s)
    (λ t g. all_bind _ (all_both (next_moves limits (unrolled_state t)) (next_news [] limits (unrolled_state t)))
    (λ w k. holds (h t g w k.0 (takes (unrolled_state t) w k.1))))

-- the ends of blocks: each was open
pub unrolled_blocks : (s : State) → (unrolled s).ended + blocks_of (unrolled s).indents ≡ blocks_of s.indents
unfolding unrolled
unrolled_blocks s =
    by_test (in_flow s)
    (λ e. rw (e, unrolled) (omega arith))
    (λ e. rw (e, unrolled) (unroll_blocks (edge_of (mark_of s)) s.indents.indent s.indents.entries))
