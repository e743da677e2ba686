-- What says one token, behind an empty one or not, is the same as what was fetched.
use Rattle.std.specs.Prelude.{Result, Ok, Err}
use Rattle.yaml_text.specs.declared.Refusal.{Refusal}
use Rattle.events.specs.declared.Opening.TheVariants as opening
use Rattle.events.specs.Event.{brief_event}
use Rattle.states.specs.declared.Brief.{Brief}
use Rattle.states.specs.declared.Brief.TheVariants as brief
use Rattle.states.specs.declared.Fetched.{Fetched}
use Rattle.states.specs.declared.Fetched.TheVariants as fetched

abbrev pub brief_fetched : Result Brief Refusal → Result Fetched Refusal
brief_fetched (Ok (brief.Goes t pair k)) = Ok (fetched.Goes (brief_event pair opening.FlowMappingEnd k) t)
brief_fetched (Ok (brief.Enters t starts k)) = Ok (fetched.Goes (brief_event starts opening.BlockSequenceStart k) t)
brief_fetched (Err f) = Err f
