-- What the fetchers of brackets and ',' end with: the token, with the blanks and comment behind it, and on from behind them.
use Rattle.std.specs.Prelude.{◌+◌, Bool, false, not, [], ◌++◌, ◌∷◌}
use Rattle.yaml_text.specs.Mark as mark
use Rattle.yaml_text.specs.Pick.{pick}
use Rattle.yaml_text.specs.Refusal.{Read, ◌>>=◌}
use Rattle.yaml_lexeme.specs.declared.Kind as held
use Rattle.yaml_lexeme.specs.Token.{FlowMappingEnd, Kind}
use Rattle.yaml_scan.specs.Bracket.{scan_bracket}
use Rattle.yaml_scan.specs.State.{News, emit, empty_if, mark_of, put}
use Rattle.yaml_scan.specs.State as definition
use Rattle.chars.specs.declared.mark.Place.{Place}
use Rattle.states.specs.declared.Brief.{Brief}
use Rattle.states.specs.declared.Brief.TheVariants.{Goes}
use Rattle.states.specs.declared.State.{State}

-- the state behind it: one that closes allows no simple key, and ':' may stand directly behind its span

abbrev pub s_past : State → Place → Bool → State
s_past s p closes =
    record {
      place = p;
      leading_whitespace = false;
      simple_key_allowed = not closes;
      indents = s.indents;
      flow_level = s.flow_level;
      adjacent_value_allowed_at = pick closes (p.mark.index + 1) s.adjacent_value_allowed_at;
    }

abbrev pub past_bracket : mark.Place → Bool → definition.State → definition.State
past_bracket p closes x =
    record {
      place = p;
      leading_whitespace = false;
      simple_key_allowed = not closes;
      indents = x.indents;
      keys = x.keys;
      levels = x.levels;
      adjacent_value_allowed_at = pick closes (p.mark.index + 1) x.adjacent_value_allowed_at;
      count = x.count;
    }

-- the token behind the end of an implicit pair, if one is open, and the state behind it
abbrev pub goes_past : State → Bool → held.Kind → Place → Bool → Brief
goes_past s pair h next closes = Goes (s_past s next closes) pair (record { kind = h; start = s.place.mark; end = next.mark })

-- the same of the definition's three rules
unfoldable pub emit_bracket : Kind → Bool → Bool → definition.State → Read News
emit_bracket k implicit closes x = do
  l ← scan_bracket k x.place
  emit (empty_if implicit FlowMappingEnd (mark_of x) ++ (put l.token ∷ [])) (past_bracket l.place closes x)
