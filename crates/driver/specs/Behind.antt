-- What the code's answer behind a step says.
use Rattle.std.specs.Prelude.{Result, Ok, Err}
use Rattle.yaml_text.specs.declared.Refusal.{Refusal}
use Rattle.driver.specs.declared.Behind.{Behind}
use Rattle.driver.specs.declared.Behind.TheVariants as behind
use Rattle.stream_laws.specs.Driven.{Halt, go_on, pause, refuse}

abbrev pub halt_of : Result Behind Refusal → Halt
halt_of (Ok (behind.On v)) = go_on v
halt_of (Ok (behind.Ready v)) = pause v
halt_of (Err f) = refuse f.number f.mark
