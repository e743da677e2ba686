-- What the definition's choice looks at: the place, whether it is in flow, the indent, where ':' may stand.
use Rattle.std.specs.Prelude.{◌+◌, ℕ, Bool, ◌&&◌, ◌||◌, List, ◌≡◌, eqb, ltb, drop}
use Rattle.yaml_text.specs.Char.{'%', '-'}
use Rattle.yaml_text.specs.Class.{is_blank_or_breakz, is_bom, is_flow, is_z, peek}
use Rattle.yaml_text.specs.Mark.{edge_of, is_marker}
use Rattle.yaml_text.specs.Pick.{pick}
use Rattle.yaml_text.specs.Utf8.{chars}
use Rattle.yaml_scan.specs.declared.Choice.{Choice}
use Rattle.yaml_scan.specs.declared.Choice.TheVariants.{AtByteOrderMark, AtDirective, AtEnd, AtMarker, AtPlain, BelowIndent, Stray}
use Rattle.yaml_scan.specs.Choice.{choice, indicator}
use Rattle.yaml_scan.specs.State as definition
use Rattle.yaml_scan.specs.Value.{takes_colon}
use Rattle.chars.specs.View.{Stands}
use Rattle.states.specs.declared.State.{State}
use Rattle.states.specs.Seen.{in_flow_seen, level_zero}
use Rattle.states.specs.State.{state_of}

-- r is what the definition answers for the state, whatever its stacks hold
abbrev pub AsDefined : {A : Type 0} → List ℕ → State → (definition.State → A) → A → Type 0
AsDefined text s f r = (stacks : List ℕ) (count : ℕ) → r ≡ f (state_of text stacks count s)

abbrev pub ahead : List ℕ → State → List ℕ
ahead text s = chars (drop s.place.at text)

-- the character c stands at the place
pub record CharHere (text : List ℕ) (s : State) (c : ℕ) : Type 0 where
  pub stands : Stands text s.place
  pub is : c ≡ peek (ahead text s) 0

-- '-' or '?', which is `found` before blank, break or end, before the character n
unfoldable pub dash_or_question : Bool → Choice → ℕ → Choice
dash_or_question flow found n = pick (is_blank_or_breakz n) found (pick (flow && is_flow n) Stray AtPlain)

-- K5 takes a ':' here, before the character n
unfoldable pub colon_before : State → ℕ → Bool
colon_before s n =
    is_blank_or_breakz n || (ltb 0 s.flow_level && (is_flow n || eqb s.adjacent_value_allowed_at (s.place.mark.index + 1)))

-- K3, before the characters cs
unfoldable pub choice_before : State → List ℕ → Choice
choice_before s cs =
    let m = s.place.mark in
    let c = peek cs 0 in
    let n = peek cs 1 in
    let outside = eqb m.col 0 && eqb s.flow_level 0 in
    pick (is_z c) AtEnd
    (pick (is_marker m cs) (AtMarker (eqb c '-'))
    (pick (outside && eqb c '%') AtDirective
    (pick (outside && is_bom c) AtByteOrderMark
    (pick (ltb (edge_of m) s.indents.indent) BelowIndent
    (indicator (ltb 0 s.flow_level) (colon_before s n) c n)))))

module _ (text stacks : List ℕ) (count : ℕ) (s : State) where
  pub colon_seen : takes_colon (state_of text stacks count s) ≡ colon_before s (peek (ahead text s) 1)
  unfolding takes_colon colon_before
  colon_seen = rw (in_flow_seen text stacks count s)

  pub choice_seen : choice (state_of text stacks count s) ≡ choice_before s (ahead text s)
  unfolding choice choice_before
  choice_seen = rw (colon_seen, in_flow_seen text stacks count s, level_zero s.flow_level)
