-- %YAML: what code answers for a number, held against the definition.
use Rattle.std.specs.Prelude.{◌≤◌, ℕ, List, Result, Ok, Err, ◌≡◌}
use Rattle.yaml_text.specs.declared.Refusal.{Refusal}
use Rattle.yaml_text.specs.Refusal.{Read, got, refused}
use Rattle.yaml_lexeme.specs.Directive as directive
use Rattle.chars.specs.declared.mark.Place.{Place}
use Rattle.chars.specs.View.{Stands, view}
use Rattle.directives.specs.declared.version.Numbered.{Numbered}

unfoldable pub seen_number : List ℕ → Result Numbered Refusal → Read directive.Numbered
seen_number text (Ok n) = got (record { value = n.value; place = view text n.place })
seen_number text (Err f) = refused f.number f.mark

abbrev pub BehindNumber : List ℕ → Place → Result Numbered Refusal → Type 0
BehindNumber text p (Ok n) = Stands text n.place × (p.at ≤ n.place.at)
BehindNumber text p (Err f) = Unit {0}

pub record Numbers (text : List ℕ) (p : Place) (r : Result Numbered Refusal) (d : Read directive.Numbered) : Type 0 where
  pub same : seen_number text r ≡ d
  pub ahead : BehindNumber text p r
