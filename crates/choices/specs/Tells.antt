-- What a choice tells of the text at the place of a state: what its fetcher asks for.
use Rattle.std.specs.Prelude.{◌+◌, ◌<◌, ℕ, Bool, ◌&&◌, ◌||◌, false, true, List, [], ◌∷◌, ◌≡◌, T, ltb, drop, get_or, take}
use Rattle.std.proofs.Common.{◌∙◌, ap, sym, arith, get_or-drop, get_or-take}
use Rattle.std.proofs.Math.Path.{refl}
use Rattle.std.proofs.Math.Dec.{eqb}
use borrow.Author.Tests.{eqb-true, ltb-true}
use Rattle.yaml_text.specs.Char.{'!', '%', '&', '*', '-', ':', '>', '?', '[', ']', '`', '|', at_sign, byte_order_mark, close_brace, comma, double_quote, open_brace, single_quote}
use Rattle.yaml_text.specs.Class.{among, is_blank_or_breakz, is_bom, is_flow, is_z, peek}
use Rattle.yaml_text.specs.Mark.{edge_of, is_marker}
use Rattle.yaml_text.specs.Test.{both_true, on_pick}
use Rattle.yaml_text.specs.Utf8.{chars}
use Rattle.yaml_text.specs.Utf8Laws.{bytes1}
use Rattle.yaml_text.proofs.Utf8Laws.{first_bytes}
use Rattle.yaml_scan.specs.declared.Choice.{Choice}
use Rattle.yaml_scan.specs.declared.Choice.TheVariants.{AtAnchor, AtBlock, AtByteOrderMark, AtColon, AtComma, AtDash, AtDirective, AtEnd, AtMarker, AtPlain, AtQuestion, AtQuoted, AtTag, BelowIndent, Closes, Opens, Stray}
use Rattle.yaml_scan.specs.Choice.{choice, indicator}
use Rattle.chars.specs.declared.mark.Place.{Place}
use Rattle.chars.specs.Ascii.{ascii_low, low, one}
use Rattle.chars.specs.Bytes.{CharAt, bom_char, peek_char}
use Rattle.states.specs.declared.State.{State}
use Rattle.states.specs.Fetch.{OneByte}
use Rattle.choices.specs.Choice.{AsDefined, ahead, choice_before, choice_seen, colon_before}

-- an ASCII character that is not NUL
abbrev pub AsciiChar : ℕ → Type 0
AsciiChar c = (0 < c) × (c < 128)

-- it is one byte
pub ascii_char : (text : List ℕ) (at : ℕ) {c : ℕ} → c ≡ peek (chars (drop at text)) 0 → AsciiChar c → CharAt text at c 1
ascii_char text at {c} e h = rw (bytes1 c h.1) at (peek_char text at c e h.0)

-- which is the byte there
pub ascii_byte : (text : List ℕ) (at : ℕ) → AsciiChar (peek (chars (drop at text)) 0) → get_or text at 0 ≡ peek (chars (drop at text)) 0
ascii_byte text at h =
    let c = peek (chars (drop at text)) 0 in
    let b : c ∷ [] ≡ take 1 (drop at text) = sym (bytes1 c h.1) ∙ (first_bytes (drop at text) c 1 (ascii_char text at refl h).is).0 in
    let z : at + 0 ≡ at = omega arith in
    sym (ap (λ (l : List ℕ). get_or l 0 0) b ∙ get_or-take 1 (drop at text) 0 0 (omega arith) ∙ get_or-drop at text 0 0 ∙ rw z)

pub one_byte : (text : List ℕ) (p : Place) → AsciiChar (peek (chars (drop p.at text)) 0) → OneByte text p
one_byte text p h =
    let e = ascii_byte text p.at h in
    record { some = omega (arith, (ascii_char text p.at refl h).within); ascii = omega (arith, h) }

abbrev pub Tells : List ℕ → State → Choice → Type 0
Tells text s AtEnd = Unit {0}
Tells text s (AtMarker starts) = is_marker s.place.mark (ahead text s) ≡ true
Tells text s AtByteOrderMark = CharAt text s.place.at byte_order_mark 3
Tells text s BelowIndent = Unit {0}
Tells text s Stray = Unit {0}
Tells text s AtPlain = is_z (peek (ahead text s) 0) ≡ false
Tells text s AtDirective = OneByte text s.place
Tells text s (Opens sequence) = OneByte text s.place
Tells text s (Closes sequence) = OneByte text s.place
Tells text s AtComma = OneByte text s.place × (0 < s.flow_level)
Tells text s AtDash = OneByte text s.place
Tells text s AtQuestion = OneByte text s.place
Tells text s AtColon = OneByte text s.place
Tells text s AtTag = OneByte text s.place × (get_or text s.place.at 0 ≡ '!')
Tells text s (AtAnchor alias) = OneByte text s.place
Tells text s (AtBlock literal) = OneByte text s.place
Tells text s (AtQuoted single) = OneByte text s.place

module _ (text : List ℕ) (s : State) where
  abbrev P : Choice → Type 0
  P = Tells text s

  abbrev c : ℕ
  c = peek (ahead text s) 0

  abbrev flow : Bool
  flow = ltb 0 s.flow_level

  ascii : (k : ℕ) → T (low k) → eqb c k ≡ true → AsciiChar c
  ascii k t e = ascii_low (one k t) c e

  here : (k : ℕ) → T (low k) → eqb c k ≡ true → OneByte text s.place
  here k t e = one_byte text s.place (ascii k t e)

  indicator_tells : is_z c ≡ false → (colon : Bool) (n : ℕ) → P (indicator flow colon c n)
  unfolding indicator
  indicator_tells some colon n =
      on_pick P (eqb c '[') (here '[' tt) λ _.
      on_pick P (eqb c open_brace) (here open_brace tt) λ _.
      on_pick P (eqb c ']') (here ']' tt) λ _.
      on_pick P (eqb c close_brace) (here close_brace tt) λ _.
      on_pick P (eqb c comma) (λ e. on_pick P flow (λ f. (here comma tt e, ltb-true 0 s.flow_level f)) (λ _. tt)) λ _.
      on_pick P (eqb c '-' && is_blank_or_breakz n) (λ e. here '-' tt (both_true (eqb c '-') (is_blank_or_breakz n) e).0) λ _.
      on_pick P (eqb c '?' && is_blank_or_breakz n) (λ e. here '?' tt (both_true (eqb c '?') (is_blank_or_breakz n) e).0) λ _.
      on_pick P ((eqb c '-' || eqb c '?') && flow && is_flow n) (λ _. tt) λ _.
      on_pick P (eqb c ':' && colon) (λ e. here ':' tt (both_true (eqb c ':') colon e).0) λ _.
      on_pick P (eqb c '*') (here '*' tt) λ _.
      on_pick P (eqb c '&') (here '&' tt) λ _.
      on_pick P (eqb c '!') (λ e. (here '!' tt e, ascii_byte text s.place.at (ascii '!' tt e) ∙ eqb-true c '!' e)) λ _.
      on_pick P (eqb c '|') (λ e. on_pick P flow (λ _. tt) (λ _. here '|' tt e)) λ _.
      on_pick P (eqb c '>') (λ e. on_pick P flow (λ _. tt) (λ _. here '>' tt e)) λ _.
      on_pick P (eqb c single_quote) (here single_quote tt) λ _.
      on_pick P (eqb c double_quote) (here double_quote tt) λ _.
      on_pick P (among c (at_sign ∷ '`' ∷ '%' ∷ byte_order_mark ∷ [])) (λ _. tt) λ _. some

  before_tells : P (choice_before s (ahead text s))
  unfolding choice_before is_bom
  before_tells =
      let m = s.place.mark in
      let cs = ahead text s in
      let outside = eqb m.col 0 && eqb s.flow_level 0 in
      on_pick P (is_z c) (λ _. tt) λ some.
      on_pick P (is_marker m cs) (λ e. e) λ _.
      on_pick P (outside && eqb c '%') (λ e. here '%' tt (both_true outside (eqb c '%') e).1) λ _.
      on_pick P (outside && is_bom c) (λ e. bom_char text s.place.at c refl (eqb-true c byte_order_mark (both_true outside (is_bom c) e).1)) λ _.
      on_pick P (ltb (edge_of m) s.indents.indent) (λ _. tt) λ _.
      indicator_tells some (colon_before s (peek cs 1)) (peek cs 1)

-- the code's choice, which is the definition's, tells as much
pub choice_tells : (text : List ℕ) (s : State) {c : Choice} → AsDefined text s (λ t. choice t) c → Tells text s c
choice_tells text s h = rw (h [] 0 ∙ choice_seen text [] 0 s) (before_tells text s)
