-- A token of the shape has its place where the shape has it: so the reader comes to the end of a job, and hands over its seeds.
use Rattle.std.specs.Prelude.{false, ◌≡◌}
use Rattle.yaml_text.specs.Class.{same}
use Rattle.yaml_lexeme.specs.Token.{Token, kind_bytes}
use Rattle.yaml_lexeme.specs.Record.{laid, number_of}
use Rattle.yaml_job.specs.declared.Effect.TheVariants.{Passes}
use Rattle.yaml_job.specs.declared.Field.{Field}
use Rattle.yaml_job.specs.declared.Field.TheVariants.{Panel, Sample, Seeds}
use Rattle.yaml_job.specs.declared.Form.{Form}
use Rattle.yaml_job.specs.declared.Met.{Met}
use Rattle.yaml_job.specs.declared.ShapePlace.TheVariants.{AtName, AtValue}
use Rattle.yaml_job.specs.Job.{adds, effect, has, named, placed, sight, spelled}
use Rattle.yaml_job.specs.Shape.{Names}

-- a token of the shape, at its place
module _ (m : Met) (t : Token) where
  pub name_fits : (g : Form) (f : Field) → Names f t → has m f ≡ false → effect (AtName g) m (sight t) ≡ Passes (AtValue g f) (adds f m)
  unfolding effect placed named number_of laid kind_bytes spelled same
  name_fits g Sample n e = let k = n.2 in let d = n.3 in rw (k, effect, placed, named, d, e)
  name_fits g Panel n e = let k = n.2 in let d = n.3 in rw (k, effect, placed, named, d, e)
  name_fits g Seeds n e = let k = n.2 in let d = n.3 in rw (k, effect, placed, named, d, e)
