-- Leaving all blocks, held against the definition, and where it goes on from there.
use Rattle.std.specs.Prelude.{◌+◌, ◌≤◌, ℕ, Bool, List, ◌≡◌}
use Rattle.yaml_lexeme.specs.declared.Token.{Token}
use Rattle.yaml_scan.specs.Document.{leave_blocks}
use Rattle.yaml_scan.specs.Indent.{unroll}
use Rattle.chars.specs.declared.mark.Place.{Place}
use Rattle.stacks.specs.declared.indent.Unrolled.{Unrolled}
use Rattle.stacks.specs.Indent.{Below, entries_of}
use Rattle.events.specs.Event.{closing_of}
use Rattle.states.specs.declared.Fetched.{Fetched}
use Rattle.states.specs.declared.Fetched.TheVariants.{Goes}
use Rattle.states.specs.declared.State.{State}
use Rattle.states.specs.Key.{removed_words}
use Rattle.states.specs.State.{s_moved, s_with_indents, state_of}

-- outside every block, the candidate gone, from the words a to e
pub record LeavesBlocks (a e : List ℕ) (s : State) (u : Unrolled) : Type 0 where
  pub words : e ≡ removed_words a s
  pub same : (text : List ℕ) (count : ℕ) → state_of text e count (s_with_indents s u.indents) ≡ leave_blocks (state_of text a count s)
  pub ended : u.ended ≡ (unroll 0 s.indents.indent (entries_of a s.indents.depth)).ended
  pub few : u.ended + u.indents.depth ≤ s.indents.depth
  pub below : Below s.indents u.indents

-- outside every block, on from p behind a token that follows their ends
abbrev pub goes_outside : State → Unrolled → Place → Bool → Bool → Token → Fetched
goes_outside s u p leads allowed t = Goes (closing_of u.ended t) (s_moved (s_with_indents s u.indents) p leads allowed)
