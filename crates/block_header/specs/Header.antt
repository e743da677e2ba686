-- What code answers for a header, held against the definition.
use Rattle.std.specs.Prelude.{◌-◌, ◌≤◌, ℕ, List, ◌≡◌, eqb, Option, Some, None}
use Rattle.yaml_text.specs.declared.Mark.{Mark}
use Rattle.yaml_text.specs.Char.{'0'}
use Rattle.yaml_text.specs.Pick.{pick}
use Rattle.yaml_text.specs.Refusal.{Read, got, refused}
use Rattle.yaml_lexeme.specs.declared.Chomping.{Chomping}
use Rattle.yaml_lexeme.specs.Block.{indicators}
use Rattle.yaml_lexeme.specs.Block as definition
use Rattle.chars.specs.declared.mark.Place.{Place}
use Rattle.chars.specs.View.{Stands, view}
use Rattle.block_header.specs.declared.header.Header.{Header}

-- 29: the indicator 0
unfoldable pub seen_header : Mark → List ℕ → Option Header → Read definition.Header
seen_header start text (Some h) = got (record { chomping = h.chomping; increment = h.increment; place = view text h.place })
seen_header start text None = refused 29 start

abbrev pub BehindHeader : List ℕ → Place → Option Header → Type 0
BehindHeader text p (Some h) = Stands text h.place × (p.at ≤ h.place.at) × (h.increment ≤ 9)
BehindHeader text p None = Unit {0}

-- the header at p, of a scalar that begins at any mark
pub record Heads (text : List ℕ) (p : Place) (r : Option Header) : Type 0 where
  pub same : (start : Mark) → seen_header start text r ≡ indicators start (view text p)
  pub onward : BehindHeader text p r

-- by a digit
unfoldable pub headed_by : Chomping → ℕ → Place → Option Header
headed_by k d p = pick (eqb d '0') None (Some (record { chomping = k; increment = d - '0'; place = p }))
