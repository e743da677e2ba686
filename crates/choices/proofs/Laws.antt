-- Which token a character begins: the code's tests in a row are the definition's, each of them decided by the tests before it.
use Prim.Native.Nat.{◌+◌, ◌<◌, ◌≤◌, ℕ}
use mathlib.Core.Bool.{Bool, ◌&&◌, false, true}
use mathlib.Core.List.{List, []}
use mathlib.Core.Path.{◌∙◌, ◌≡◌, ap, sym}
use native.Mathlib.Omega.{arith}
use lib.Dec.{eqb, ltb}
use lib.ListN.{drop}
use borrow.Author.Tests.{le-ltb, lt-ltb, ne_eqb}
use Rattle.yaml_text.specs.Char.{'%', '-', ':', '?', byte_order_mark}
use Rattle.yaml_text.specs.Class.{among, is_bom, is_z, peek}
use Rattle.yaml_text.specs.Mark.{edge_of, is_marker}
use Rattle.yaml_text.specs.Pick.{pick}
use Rattle.yaml_text.specs.Utf8.{chars}
use Rattle.yaml_scan.specs.declared.Choice.{Choice}
use Rattle.yaml_scan.specs.declared.Choice.TheVariants.{AtByteOrderMark, AtColon, AtDash, AtDirective, AtEnd, AtMarker, AtPlain, AtQuestion, BelowIndent}
use Rattle.yaml_scan.specs.Choice.{choice, indicator}
use Rattle.yaml_scan.specs.Value.{takes_colon}
use Rattle.states.specs.declared.State.{State}
use Rattle.choices.specs.Tells.{AsciiChar, ascii_char}
use Rattle.choices.specs.Choice.{AsDefined, CharHere, ahead, choice_before, choice_seen, colon_before, colon_seen, dash_or_question}

abbrev outside : State → Bool
outside s = eqb s.place.mark.col 0 && eqb s.flow_level 0

-- the character behind an ASCII character
pub behind_ascii : {text : List ℕ} {s : State} {c : ℕ} → CharHere text s c → AsciiChar c → peek (ahead text s) 1 ≡ peek (chars (drop (s.place.at + 1) text)) 0
behind_ascii {text} {s} h k = rw (ascii_char text s.place.at h.is k).next

module _ (flow colon : Bool) (c n : ℕ) where
  pub dash : c ≡ '-' → dash_or_question flow AtDash n ≡ indicator flow colon c n
  unfolding indicator dash_or_question among
  dash e = rw e

  pub question : c ≡ '?' → dash_or_question flow AtQuestion n ≡ indicator flow colon c n
  unfolding indicator dash_or_question among
  question e = rw e

  pub colons : c ≡ ':' → pick colon AtColon AtPlain ≡ indicator flow colon c n
  unfolding indicator among
  colons e = rw e

-- K5, by the character behind the ':'
pub colon_defined : {text : List ℕ} {s : State} {n : ℕ} {r : Bool} → CharHere text s ':' → n ≡ peek (chars (drop (s.place.at + 1) text)) 0 → r ≡ colon_before s n
    → AsDefined text s (λ t. takes_colon t) r
colon_defined {text} {s} h e f stacks count =
    f ∙ ap (colon_before s) (e ∙ sym (behind_ascii h (omega arith, omega arith))) ∙ sym (colon_seen text stacks count s)

pub colon_known : (text : List ℕ) (s : State) {r : Bool} → AsDefined text s (λ t. takes_colon t) r → r ≡ colon_before s (peek (ahead text s) 1)
colon_known text s h = h [] 0 ∙ colon_seen text [] 0 s

-- K3, by the tests in a row

defined : (text : List ℕ) (s : State) {r : Choice} → r ≡ choice_before s (ahead text s) → AsDefined text s (λ t. choice t) r
defined text s e stacks count = e ∙ sym (choice_seen text stacks count s)

module _ (text : List ℕ) (s : State) {c : ℕ} (is : c ≡ peek (ahead text s) 0) where
  pub at_end : c ≡ 0 → AsDefined text s (λ t. choice t) AtEnd
  unfolding choice_before is_z
  at_end e = defined text s (rw (← is, e))

  pub at_marker : (c ≡ 0 → ⊥) → is_marker s.place.mark (ahead text s) ≡ true → AsDefined text s (λ t. choice t) (AtMarker (eqb c '-'))
  unfolding choice_before is_z
  at_marker some e = defined text s (rw (← is, ne_eqb c 0 some, e))

-- neither the end nor a document marker stands here
pub record NoMarkerHere (text : List ℕ) (s : State) (c : ℕ) : Type 0 where
  pub is : c ≡ peek (ahead text s) 0
  pub some : c ≡ 0 → ⊥
  pub no_marker : is_marker s.place.mark (ahead text s) ≡ false

module _ {text : List ℕ} {s : State} {c : ℕ} (p : NoMarkerHere text s c) where
  pub at_directive : (outside s && eqb c '%') ≡ true → AsDefined text s (λ t. choice t) AtDirective
  unfolding choice_before is_z
  at_directive e = defined text s (rw (← p.is, ne_eqb c 0 p.some, p.no_marker, e))

  module _ (no_directive : (outside s && eqb c '%') ≡ false) where
    pub at_bom : (outside s && eqb c byte_order_mark) ≡ true → AsDefined text s (λ t. choice t) AtByteOrderMark
    unfolding choice_before is_z is_bom
    at_bom e = defined text s (rw (← p.is, ne_eqb c 0 p.some, p.no_marker, no_directive, e))

    module _ (no_bom : (outside s && eqb c byte_order_mark) ≡ false) where
      pub below_indent : edge_of s.place.mark < s.indents.indent → AsDefined text s (λ t. choice t) BelowIndent
      unfolding choice_before is_z is_bom
      below_indent h =
          defined text s
          (rw (← p.is, ne_eqb c 0 p.some, p.no_marker, no_directive, no_bom, lt-ltb (edge_of s.place.mark) s.indents.indent h))

      pub at_indicator : {r : Choice} → s.indents.indent ≤ edge_of s.place.mark
          → r ≡ indicator (ltb 0 s.flow_level) (colon_before s (peek (ahead text s) 1)) c (peek (ahead text s) 1)
          → AsDefined text s (λ t. choice t) r
      unfolding choice_before is_z is_bom
      at_indicator h e =
          defined text s
          (e ∙ rw (← p.is, ne_eqb c 0 p.some, p.no_marker, no_directive, no_bom, le-ltb (edge_of s.place.mark) s.indents.indent h))
