-- Turns of the definition's decoding: over a character other than NUL, to refusal 3, to refusal 2.
use Prim.Native.Nat.{◌<◌, suc, zero, ℕ}
use mathlib.Core.List.{List, [], ◌∷◌}
use mathlib.Core.Logic.{⊎_elim}
use mathlib.Core.Path.{◌∙◌, ◌≡◌, ap, refl, sym}
use native.Mathlib.Omega.{arith}
use lib.ListN.{drop, get_or, length, length-drop}
use borrow.Author.Tests.{eqb-false, ne_eqb}
use Rattle.yaml_text.specs.declared.Decoded.{Decoded}
use Rattle.yaml_text.specs.declared.Decoded.TheVariants.{Char, End, Ill}
use Rattle.yaml_text.specs.declared.Mark.{Mark}
use Rattle.yaml_text.specs.Utf8.{first}
use Rattle.yaml_text.specs.Class.{is_z, peek}
use Rattle.yaml_text.specs.Mark.{over}
use Rattle.yaml_text.specs.Refusal.{Read, ◌>>=◌, got, need, refused}
use Rattle.yaml_text.specs.Decode.{decode, decoded_char}
use Rattle.yaml_text.proofs.Utf8Laws.{first_fits}
use Rattle.chars.specs.Bytes.{NoChar}
use Rattle.std.specs.Prelude.{Err, Result}
use Rattle.yaml_text.specs.declared.Refusal.{Refusal}
use Rattle.validity.specs.Checked.{checked}

pub some_left : (s : List ℕ) (at : ℕ) → at < length s → 0 < length (drop at s)
some_left s at h = rw length-drop (omega arith)

abbrev pub refusal : ℕ → Mark → Result (Unit {0}) Refusal
refusal n m = Err (record { number = n; mark = m })

pub checked_char : (c : ℕ) (r : Read (List ℕ)) → checked (r >>= λ cs. got (c ∷ cs)) ≡ checked r
unfolding checked ◌>>=◌
checked_char c (got cs) = refl
checked_char c (refused n m) = refl

decode_drop : (k : ℕ) (m : Mark) (l : List ℕ) → decode k m l ≡ decode 0 m (drop k l)
unfolding decode
decode_drop zero m l = refl
decode_drop (suc k) m [] = refl
decode_drop (suc k) m (a ∷ t) = decode_drop k m t

-- how decoding goes on behind the first byte
abbrev on_from : Mark → List ℕ → ℕ → ℕ → Read (List ℕ)
on_from m t c n = decode n (over m c (peek t 0)) t

opened : (m : Mark) (a : ℕ) (t : List ℕ) (d : Decoded) → first (a ∷ t) ≡ d
    → checked (decode 0 m (a ∷ t)) ≡ checked (decoded_char d m (on_from m t))
unfolding decode
opened m a t d e = ap (λ (x : Decoded). checked (decoded_char x m (on_from m t))) e

end_no_char : {A : Type 0} (c n : ℕ) → End ≡ Char c n → A
end_no_char c n e = let z : ◌≡◌ {A = ℕ} 0 1 = cc in absurd (omega arith)

pub turn : (m : Mark) (l : List ℕ) (c n : ℕ) → first l ≡ Char c n → (c ≡ 0 → ⊥)
    → checked (decode 0 m l) ≡ checked (decode 0 (over m c (get_or l 1 0)) (drop n l))
unfolding first is_z need ◌>>=◌
turn m [] c n e z = end_no_char c n e
turn m (a ∷ t) c zero e z = let f = first_fits (a ∷ t) c zero e in absurd (omega arith)
turn m (a ∷ t) c (suc n) e z =
    opened m a t (Char c (suc n)) e
    ∙ rw (ne_eqb c 0 z) (checked_char c (on_from m t c n))
    ∙ ap checked (decode_drop n (over m c (peek t 0)) t)

pub turn_nul : (m : Mark) (l : List ℕ) (c n : ℕ) → first l ≡ Char c n → c ≡ 0 → refusal 3 m ≡ checked (decode 0 m l)
unfolding first is_z need ◌>>=◌ checked
turn_nul m [] c n e z = end_no_char c n e
turn_nul m (a ∷ t) c n e z = sym (opened m a t (Char c n) e ∙ rw z)

pub turn_none : (m : Mark) (l : List ℕ) (d : Decoded) → 0 < length l → d ≡ first l → NoChar d → refusal 2 m ≡ checked (decode 0 m l)
unfolding checked
turn_none m [] d h e n = absurd (omega arith)
turn_none m (a ∷ t) d h e n = by d n ∙ sym (opened m a t d (sym e))
  where
    by : (d : Decoded) → NoChar d → refusal 2 m ≡ checked (decoded_char d m (on_from m t))
    by (Char c k) p = absurd (⊎_elim (λ q. eqb-false 0 1 refl q) (λ q. eqb-false 0 2 refl q) p)
    by Ill p = refl
    by End p = refl
