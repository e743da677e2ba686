-- As many blanks as the bytes there begin with.
use mathlib.Core.Path.{◌∙◌, ◌≡◌, ap}
use lib.ListN.{drop}
use Rattle.std.specs.List.{prefix_len}
use Rattle.yaml_text.specs.Class.{is_blank}
use Rattle.gaps.proofs.Laws.{blanks_past, to_end}
use Rattle.gaps.proofs.skip_blanks.Goals as goal
use Rattle.gaps.proofs.skip_blanks.Goals.{After-leading}

counted : (c : After-leading) → c.leading.result ≡ prefix_len is_blank (drop c.args.start.at c.args.text.now)
counted c = c.leading.ensures.value ∙ ap (prefix_len is_blank) (to_end c.args.text.now c.args.start.at)

pub returns : goal.returns
returns c = blanks_past c.requires (counted (goal.at.returns c).After-leading) c.skip_n_non_blank.ensures
