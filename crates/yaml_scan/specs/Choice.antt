-- K3: which token stands here.
use Rattle.std.specs.Prelude.{ℕ, Bool, ◌&&◌, ◌||◌, false, not, true, [], ◌∷◌, eqb, ltb}
use Rattle.yaml_text.specs.Pick.{pick}
use Rattle.yaml_text.specs.Char.{'!', '%', '&', '*', '-', ':', '>', '?', '[', ']', '`', '|', at_sign, byte_order_mark, close_brace, comma, double_quote, open_brace, single_quote}
use Rattle.yaml_text.specs.Class.{among, is_blank_or_breakz, is_bom, is_flow, is_z, peek}
use Rattle.yaml_text.specs.Mark.{edge_of, is_marker, look}
use Rattle.yaml_scan.specs.declared.Choice.{Choice}
use Rattle.yaml_scan.specs.declared.Choice.TheVariants.{AtAnchor, AtBlock, AtByteOrderMark, AtColon, AtComma, AtDash, AtDirective, AtEnd, AtMarker, AtPlain, AtQuestion, AtQuoted, AtTag, BelowIndent, Closes, Opens, Stray}
use Rattle.yaml_scan.specs.State.{State, in_flow, mark_of, rest_of}
use Rattle.yaml_scan.specs.Value.{takes_colon}

-- the token whose first character is c, in four groups; a group hands on what begins otherwise

-- brackets and ','. 43: ',' at level 0
abbrev pub brackets : Bool → ℕ → Choice → Choice
brackets flow c otherwise =
    pick (eqb c '[') (Opens true)
    (pick (eqb c open_brace) (Opens false)
    (pick (eqb c ']') (Closes true)
    (pick (eqb c close_brace) (Closes false)
    (pick (eqb c comma) (pick flow AtComma Stray)
    otherwise))))

-- '-', '?' and ':', before the character n; colon: K5 takes a ':' here. 43: in flow '-' or '?' before a flow indicator
abbrev pub dashes : Bool → Bool → ℕ → ℕ → Choice → Choice
dashes flow colon c n otherwise =
    pick (eqb c '-' && is_blank_or_breakz n) AtDash
    (pick (eqb c '?' && is_blank_or_breakz n) AtQuestion
    (pick ((eqb c '-' || eqb c '?') && flow && is_flow n) Stray
    (pick (eqb c ':' && colon) AtColon
    otherwise)))

-- those that begin a token with text. 43: '|' and '>' in flow
abbrev pub text_indicators : Bool → ℕ → Choice → Choice
text_indicators flow c otherwise =
    pick (eqb c '*') (AtAnchor true)
    (pick (eqb c '&') (AtAnchor false)
    (pick (eqb c '!') AtTag
    (pick (eqb c '|') (pick flow Stray (AtBlock true))
    (pick (eqb c '>') (pick flow Stray (AtBlock false))
    (pick (eqb c single_quote) (AtQuoted true)
    (pick (eqb c double_quote) (AtQuoted false)
    otherwise))))))

-- 43: those that begin none
abbrev pub strays : ℕ → Choice → Choice
strays c otherwise = pick (among c (at_sign ∷ '`' ∷ '%' ∷ byte_order_mark ∷ [])) Stray otherwise

-- K3: the indicator c, before the character n; any other character begins a plain scalar
unfoldable pub indicator : Bool → Bool → ℕ → ℕ → Choice
indicator flow colon c n = brackets flow c (dashes flow colon c n (text_indicators flow c (strays c AtPlain)))

-- K3: the end; at column 0 document markers; at column 0 and level 0 '%' and BOM; then 42; then the indicator [H6, H7, I3, J3]
unfoldable pub choice : State → Choice
choice s =
    let c = look s.place in
    let outside = eqb (mark_of s).col 0 && not (in_flow s) in
    pick (is_z c) AtEnd
    (pick (is_marker (mark_of s) (rest_of s)) (AtMarker (eqb c '-'))
    (pick (outside && eqb c '%') AtDirective
    (pick (outside && is_bom c) AtByteOrderMark
    (pick (ltb (edge_of (mark_of s)) s.indents.indent) BelowIndent
    (indicator (in_flow s) (takes_colon s) c (peek (rest_of s) 1))))))
