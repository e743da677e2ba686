-- Theorems about specs/DecodeLaws, and what rests on them.
use Rattle.std.specs.Prelude.{suc, zero, ℕ, not, List, [], ◌∷◌, ◌≡◌, refl}
use Rattle.std.proofs.Common.{arith, take-append-drop}
use Rattle.std.proofs.lemmas.Bool.{not-true}
use Rattle.yaml_text.specs.declared.Decoded.{Decoded}
use Rattle.yaml_text.specs.declared.Decoded.TheVariants.{Char, End, Ill}
use Rattle.yaml_text.specs.declared.Mark.{Mark}
use Rattle.yaml_text.specs.Utf8.{chars_after, encode, first}
use Rattle.yaml_text.specs.Class.{is_z, peek}
use Rattle.yaml_text.specs.Mark.{over}
use Rattle.yaml_text.specs.Refusal.{Read, got}
use Rattle.yaml_text.specs.Decode.{decode, decoded_char}
use Rattle.yaml_text.specs.All.{All, all_bind, all_got, all_test, all_weak, holds, not_read}
use Rattle.yaml_text.proofs.Utf8Laws.{first_bytes, first_fits}
use Rattle.yaml_text.specs.DecodeLaws.{Decodes}

decoded_char_is : (d : Decoded) (m : Mark) (a : ℕ) (t : List ℕ) (go : ℕ → ℕ → Read (List ℕ)) → first (a ∷ t) ≡ d
    → ((c n : ℕ) → All (List ℕ) (Decodes n t) (go c n)) → All (List ℕ) (Decodes 0 (a ∷ t)) (decoded_char d m go)
unfolding encode chars_after
decoded_char_is (Char c zero) m a t go e h = let f = first_fits (a ∷ t) c zero e in absurd (omega arith)
decoded_char_is (Char c (suc n)) m a t go e h =
    all_test (not (is_z c)) 3 m _
    (λ z. all_bind _ (h c n)
    (λ cs d. holds (record {
      same = rw (e, d.same);
      bytes = rw ((first_bytes (a ∷ t) c (suc n) e).0, d.bytes, take-append-drop (suc n) (a ∷ t));
      no_nul = (not-true (is_z c) z, d.no_nul);
    })))
decoded_char_is Ill m a t go e h = not_read
decoded_char_is End m a t go e h = not_read

pub decode_is : (k : ℕ) (m : Mark) (l : List ℕ) → All (List ℕ) (Decodes k l) (decode k m l)
unfolding decode chars_after encode
decode_is zero m [] = holds (record { same = refl; bytes = refl; no_nul = tt })
decode_is (suc k) m [] = holds (record { same = refl; bytes = refl; no_nul = tt })
decode_is zero m (a ∷ t) = decoded_char_is (first (a ∷ t)) m a t _ refl (λ c n. decode_is n (over m c (peek t 0)) t)
decode_is (suc k) m (a ∷ t) = all_weak (λ cs d. record { same = d.same; bytes = d.bytes; no_nul = d.no_nul }) (decode_is k m t)

pub decode_chars : (k : ℕ) (m : Mark) (l : List ℕ) → All (List ℕ) (λ cs. cs ≡ chars_after k l) (decode k m l)
decode_chars k m l = all_weak (λ cs d. d.same) (decode_is k m l)

-- so of a text that is scanned
pub decoded_is : (m : Mark) (l cs : List ℕ) → decode 0 m l ≡ got cs → Decodes 0 l cs
decoded_is m l cs e = all_got (decode_is 0 m l) e
