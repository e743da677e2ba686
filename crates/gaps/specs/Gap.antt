-- What code answers for a gap, held against the definition.
use Rattle.std.specs.Prelude.{◌≤◌, ℕ, Bool, false, List, ◌≡◌, eqb, Result, Ok, Err}
use Rattle.yaml_text.specs.declared.Refusal.{Refusal}
use Rattle.yaml_text.specs.Char.{'#'}
use Rattle.yaml_text.specs.Class.{is_blank, is_break, peek}
use Rattle.yaml_text.specs.Mark as place
use Rattle.yaml_text.specs.Refusal.{Read, got, refused}
use Rattle.yaml_lexeme.specs.declared.Before.{Before}
use Rattle.yaml_lexeme.specs.declared.Before.TheVariants.{AfterText, InComment, Leading, Spaced, Tabbed}
use Rattle.yaml_lexeme.specs.Gap as definition
use Rattle.chars.specs.declared.mark.Place.{Place}
use Rattle.chars.specs.View.{Stands, view}
use Rattle.gaps.specs.declared.Gap.{Gap}

unfoldable pub seen_gap : List ℕ → Result Gap Refusal → Read definition.Gap
seen_gap text (Ok g) = got (record { place = view text g.place; simple_key_allowed = g.simple_key_allowed; leading_whitespace = g.leading_whitespace })
seen_gap text (Err f) = refused f.number f.mark

abbrev pub GapEnds : List ℕ → Place → Result Gap Refusal → Type 0
GapEnds text p (Ok g) = Stands text g.place × (p.at ≤ g.place.at)
GapEnds text p (Err f) = Unit {0}

pub record Skips (text : List ℕ) (p : Place) (r : Result Gap Refusal) (d : Read definition.Gap) : Type 0 where
  pub same : seen_gap text r ≡ d
  pub onward : GapEnds text p r

-- the gap from a place on, behind b
abbrev pub gap_from : Bool → Bool → Before → place.Place → Read definition.Gap
gap_from flow allowed b p = definition.skip_gap flow allowed b p.mark p.rest

-- neither blank, break nor comment stands here
pub record Other (cs : List ℕ) : Type 0 where
  pub no_break : is_break (peek cs 0) ≡ false
  pub no_blank : is_blank (peek cs 0) ≡ false
  pub no_hash : eqb (peek cs 0) '#' ≡ false

-- no comment is open here
abbrev pub Open : Before → Type 0
Open Leading = Unit {0}
Open (Tabbed t) = Unit {0}
Open Spaced = Unit {0}
Open AfterText = Unit {0}
Open InComment = ⊥
