-- No character begins at the end, nor where the bytes are ill-formed.
use mathlib.Core.Path.{◌∙◌, sym}
use Rattle.yaml_text.specs.Class.{none_left}
use Rattle.chars.specs.Bytes.{char_at, none_end, none_ill}
use Rattle.block_content.proofs.ends_at.Goals as goal

pub returns-in-Char : goal.returns-in-Char
unfolding none_left
returns-in-Char c =
    rw
    (char_at c.args.text.now c.args.at _ _ (sym c.char_at-d.ensures ∙ c.in-Char.is)).next

pub returns-in-Ill : goal.returns-in-Ill
unfolding none_left
returns-in-Ill c =
    rw
    (none_ill c.args.text.now c.args.at (sym c.char_at-d.ensures ∙ c.in-Ill.is))

pub returns-in-End : goal.returns-in-End
unfolding none_left
returns-in-End c =
    rw
    (none_end c.args.text.now c.args.at (sym c.char_at-d.ensures ∙ c.in-End.is))
