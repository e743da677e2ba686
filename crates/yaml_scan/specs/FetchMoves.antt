-- Each fetch is a move (Moves).
use Rattle.std.specs.Prelude.{[], ◌++◌, ◌∷◌, refl}
use Rattle.std.proofs.lemmas.Bool.{not-true}
use Rattle.yaml_text.specs.All.{All, all_need, all_test, holds}
use Rattle.yaml_lexeme.specs.Token.{StreamEnd, empty_token}
use Rattle.yaml_scan.specs.State.{News, State, block_ends, ends_with, in_flow, mark_of, put, unroll_to}
use Rattle.yaml_scan.specs.Document.{fetch_stream_end, forced}
use Rattle.yaml_scan.specs.Moves.{Moves}

-- scalars, tags and anchors

-- outside every block

pub stream_end_moves : (s : State) → All News (Moves s) (fetch_stream_end s)
unfolding fetch_stream_end
stream_end_moves s =
    all_test _ 47 (mark_of s) _ (λ e. all_need _ 41 (forced (mark_of s)) _
    (let k : Moves s (ends_with (block_ends (unroll_to 0 s).ended (forced (mark_of s)) ++ (put (empty_token StreamEnd (forced (mark_of s))) ∷ []))) =
    (forced (mark_of s), not-true (in_flow s) e, refl) in holds k))

-- brackets and ','

-- '-', '?' and ':'
