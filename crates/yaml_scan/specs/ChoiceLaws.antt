-- K3: a choice tells what is there, and so what its fetch keeps.
use Rattle.std.specs.Prelude.{◌≤◌, ℕ, ◌&&◌, ◌||◌, false, not, true, List, [], ◌∷◌, ◌≡◌, eqb, ltb, length}
use Rattle.std.proofs.Common.{sym, eqb-true, ne_eqb}
use Rattle.std.proofs.lemmas.Bool.{not-true}
use Rattle.yaml_text.specs.declared.Mark.{Mark}
use Rattle.yaml_text.specs.Char.{'!', '%', '&', '*', '-', ':', '>', '?', '[', ']', '`', '|', at_sign, byte_order_mark, close_brace, comma, dot, double_quote, open_brace, single_quote}
use Rattle.yaml_text.specs.Class.{among, is_blank_or_breakz, is_bom, is_flow, is_z, peek}
use Rattle.yaml_text.specs.Mark.{edge_of, is_marker, look}
use Rattle.yaml_text.specs.Test.{both_true, on_pick, true_false}
use Rattle.yaml_text.specs.PlaceLaws.{left, there}
use Rattle.yaml_scan.specs.declared.Choice.{Choice}
use Rattle.yaml_scan.specs.declared.Choice.TheVariants.{AtAnchor, AtBlock, AtByteOrderMark, AtColon, AtComma, AtDash, AtDirective, AtEnd, AtMarker, AtPlain, AtQuestion, AtQuoted, AtTag, BelowIndent, Closes, Opens, Stray}
use Rattle.yaml_scan.specs.State.{State, in_flow, mark_of, rest_of}
use Rattle.yaml_scan.specs.Value.{takes_colon}
use Rattle.yaml_scan.specs.Choice.{choice, indicator}

-- what the fetch of a choice needs to know of the state
abbrev pub ChoiceSays : Choice → State → Type 0
ChoiceSays AtEnd s = Unit {0}
ChoiceSays AtDirective s = (in_flow s ≡ false) × ((mark_of s).col ≡ 0)
ChoiceSays AtByteOrderMark s = (in_flow s ≡ false) × ((mark_of s).col ≡ 0)
ChoiceSays BelowIndent s = Unit {0}
ChoiceSays Stray s = Unit {0}
ChoiceSays (AtMarker begins) s = (3 ≤ left s.place) × ((mark_of s).col ≡ 0)
ChoiceSays (Opens sequence) s = Unit {0}
ChoiceSays (Closes sequence) s = Unit {0}
ChoiceSays AtComma s = in_flow s ≡ true
ChoiceSays AtDash s = is_blank_or_breakz (peek (rest_of s) 1) ≡ true
ChoiceSays AtQuestion s = is_blank_or_breakz (peek (rest_of s) 1) ≡ true
ChoiceSays AtColon s = takes_colon s ≡ true
ChoiceSays AtTag s = Unit {0}
ChoiceSays AtPlain s = Unit {0}
ChoiceSays (AtAnchor alias) s = Unit {0}
ChoiceSays (AtBlock literal) s = in_flow s ≡ false
ChoiceSays (AtQuoted single) s = Unit {0}

marker_there : (m : Mark) (cs : List ℕ) → is_marker m cs ≡ true → (3 ≤ length cs) × (m.col ≡ 0)
unfolding is_marker
marker_there m cs e =
    let c = peek cs 0 in
    let f = (both_true (eqb m.col 0 && (eqb c '-' || eqb c dot) && eqb (peek cs 1) c && eqb (peek cs 2) c) _ e).0 in
    let g = both_true (eqb m.col 0 && (eqb c '-' || eqb c dot) && eqb (peek cs 1) c) _ f in
    let h = both_true (eqb m.col 0) _ (both_true (eqb m.col 0 && (eqb c '-' || eqb c dot)) _ g.0).0 in
    let dots = h.1 in
    (there (λ d. eqb d c) cs 2 (ne_eqb 0 c (λ z. true_false (sym (rw (← z) at dots)))) g.1, eqb-true m.col 0 h.0)

indicator_says : (s : State) (c : ℕ) → ChoiceSays (indicator (in_flow s) (takes_colon s) c (peek (rest_of s) 1)) s
unfolding indicator
indicator_says s c =
    let n = peek (rest_of s) 1 in
    on_pick P (eqb c '[') (λ _. tt) λ _.
    on_pick P (eqb c open_brace) (λ _. tt) λ _.
    on_pick P (eqb c ']') (λ _. tt) λ _.
    on_pick P (eqb c close_brace) (λ _. tt) λ _.
    on_pick P (eqb c comma) (λ _. on_pick P (in_flow s) (λ e. e) λ _. tt) λ _.
    on_pick P (eqb c '-' && is_blank_or_breakz n) (λ e. (both_true (eqb c '-') _ e).1) λ _.
    on_pick P (eqb c '?' && is_blank_or_breakz n) (λ e. (both_true (eqb c '?') _ e).1) λ _.
    on_pick P ((eqb c '-' || eqb c '?') && in_flow s && is_flow n) (λ _. tt) λ _.
    on_pick P (eqb c ':' && takes_colon s) (λ e. (both_true (eqb c ':') _ e).1) λ _.
    on_pick P (eqb c '*') (λ _. tt) λ _.
    on_pick P (eqb c '&') (λ _. tt) λ _.
    on_pick P (eqb c '!') (λ _. tt) λ _.
    on_pick P (eqb c '|') (λ _. on_pick P (in_flow s) (λ _. tt) λ e. e) λ _.
    on_pick P (eqb c '>') (λ _. on_pick P (in_flow s) (λ _. tt) λ e. e) λ _.
    on_pick P (eqb c single_quote) (λ _. tt) λ _.
    on_pick P (eqb c double_quote) (λ _. tt) λ _.
    on_pick P (among c (at_sign ∷ '`' ∷ '%' ∷ byte_order_mark ∷ [])) (λ _. tt) λ _. tt
  where
    P : Choice → Type 0
    P k = ChoiceSays k s

pub choice_says : (s : State) → ChoiceSays (choice s) s
unfolding choice
choice_says s =
    let c = look s.place in
    let outside = eqb (mark_of s).col 0 && not (in_flow s) in
    on_pick P (is_z c) (λ _. tt) λ _.
    on_pick P (is_marker (mark_of s) (rest_of s)) (marker_there (mark_of s) (rest_of s)) λ _.
    on_pick P (outside && eqb c '%') (λ e. at_edge (both_true outside _ e).0) λ _.
    on_pick P (outside && is_bom c) (λ e. at_edge (both_true outside _ e).0) λ _.
    on_pick P (ltb (edge_of (mark_of s)) s.indents.indent) (λ _. tt) λ _.
    indicator_says s c
  where
    P : Choice → Type 0
    P k = ChoiceSays k s

    at_edge : (eqb (mark_of s).col 0 && not (in_flow s)) ≡ true → (in_flow s ≡ false) × ((mark_of s).col ≡ 0)
    at_edge e =
        let k = both_true (eqb (mark_of s).col 0) _ e in
        (not-true (in_flow s) k.1, eqb-true (mark_of s).col 0 k.0)
