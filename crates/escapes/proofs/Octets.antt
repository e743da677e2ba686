-- Octets in percent escapes.
use Rattle.std.specs.Prelude.{Option, Some, None}
use Prim.Native.Nat.{◌*◌, ◌+◌, ℕ}
use mathlib.Core.List.{List, ◌∷◌}
use mathlib.Core.Path.{◌∙◌, ◌≡◌, ap, refl}
use native.Mathlib.Omega.{arith}
use lib.ListN.{drop, get_or}
use lib.Seq.{get_or-drop}
use Rattle.yaml_text.specs.declared.Mark.{Mark}
use Rattle.yaml_text.specs.Class.{as_hex, is_hex, peek}
use Rattle.yaml_text.specs.Refusal.{Read, got, refused}
use Rattle.yaml_text.specs.Test.{by_test}
use Rattle.yaml_text.specs.Utf8.{chars}
use Rattle.yaml_lexeme.specs.Escape.{hex_number}
use Rattle.yaml_lexeme.specs.Tag.{octet}
use Rattle.chars.specs.Bytes.{CharAt, ne_char}
use Rattle.chars.specs.Reach.{more}
use Rattle.escapes.specs.Parts.{HexFound, NumberAt, OctetAt, hex_read}
use Rattle.escapes.proofs.Numbers.{digit_more, digit_none}

-- the same with another refusal
abbrev as_refusal : ℕ → Read ℕ → Read ℕ
as_refusal k (got v) = got v
as_refusal k (refused n m) = refused k m

-- an octet is a percent sign and a number of two digits
octet_number : (start : Mark) (cs : List ℕ) → octet start (37 ∷ cs) ≡ as_refusal 21 (hex_number start 2 0 cs)
unfolding octet hex_number
octet_number start cs =
    let k : peek (drop 1 cs) 0 ≡ peek cs 1 = get_or-drop 1 cs 0 0 in
    let z : 0 * 16 + as_hex (peek cs 0) ≡ as_hex (peek cs 0) = omega arith in
    by_test (is_hex (peek cs 0))
    (λ e. by_test (is_hex (peek cs 1))
    (λ f. rw (e, f, digit_more start 1 0 cs e, digit_more start 0 (0 * 16 + as_hex (peek cs 0)) (drop 1 cs) (rw k f), k, z))
    (λ f. rw (e, f, digit_more start 1 0 cs e, digit_none start 0 (0 * 16 + as_hex (peek cs 0)) (drop 1 cs) (rw k f))))
    (λ e. rw (e, digit_none start 1 0 cs e))

same_refusal : (start : Mark) (r : Option ℕ) → as_refusal 21 (hex_read 38 start r) ≡ hex_read 21 start r
same_refusal start (Some v) = refl
same_refusal start None = refl

octet_found : {text : List ℕ} {at : ℕ} (r : Option ℕ) → CharAt text at 37 1 → HexFound text (at + 1) 2 256 r → HexFound text at 3 256 r
octet_found {at = at} (Some v) d f = let e : at + 1 + 2 ≡ at + 3 = omega arith in (f.0, rw (← e) (more d f.1))
octet_found None d f = tt

pub octet_is : {text : List ℕ} {at : ℕ} {r : Option ℕ} → CharAt text at 37 1 → NumberAt text (at + 1) 2 r → OctetAt text at r
octet_is {text} {at} {r} d w =
    record {
      same = λ start. rw d.next (octet_number start (chars (drop (at + 1) text)) ∙ ap (as_refusal 21) (w.same start) ∙ same_refusal start r);
      found = octet_found r d w.found;
    }

pub octet_not : {text : List ℕ} {at b : ℕ} → b ≡ get_or text at 0 → (b ≡ 37 → ⊥) → OctetAt text at None
unfolding octet
octet_not {text} {at} {b} e h = record { same = λ start. rw (ne_char text at b e 37 tt h); found = tt }
