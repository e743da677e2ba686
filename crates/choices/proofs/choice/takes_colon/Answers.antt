-- The character behind the colon decides, as the definition has it.
use Rattle.choices.specs.Choice.{colon_before}
use Rattle.choices.proofs.Laws.{colon_defined}
use Rattle.choices.proofs.choice.takes_colon.Goals as goal

pub returns : goal.returns
unfolding colon_before
returns c = colon_defined c.requires c.look-n.ensures (rw (c.is_blank_or_breakz.ensures, c.is_flow.ensures))
