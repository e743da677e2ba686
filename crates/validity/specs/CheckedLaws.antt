-- What an answer of the validity pass says of the definition's decoding.
use Rattle.std.specs.Prelude.{ℕ, List, Ok, Err, ◌≡◌}
use Rattle.std.proofs.Common.{ap, arith}
use Rattle.yaml_text.specs.declared.Mark.{Mark}
use Rattle.yaml_text.specs.declared.Refusal.{Refusal}
use Rattle.yaml_text.specs.Utf8.{chars}
use Rattle.yaml_text.specs.Refusal.{Read, got, refused}
use Rattle.yaml_text.specs.Decode.{decode}
use Rattle.yaml_text.specs.All.{All, holds}
use Rattle.yaml_text.proofs.DecodeLaws.{decode_chars}
use Rattle.validity.specs.Checked.{checked}

-- a text that passes is read as its characters
pub passed_chars : (m : Mark) (l : List ℕ) → checked (decode 0 m l) ≡ Ok tt → decode 0 m l ≡ got (chars l)
unfolding checked
passed_chars m l e = by (decode 0 m l) (decode_chars 0 m l) e
  where
    by : (r : Read (List ℕ)) → All (List ℕ) (λ cs. cs ≡ chars l) r → checked r ≡ Ok tt → r ≡ got (chars l)
    by (got cs) (holds h) f = ap (λ (x : List ℕ). got x) h
    by (refused n k) h f = let z : ◌≡◌ {A = ℕ} 0 1 = cc in absurd (omega arith)

-- a refusal is the definition's
pub refused_as : (r : Read (List ℕ)) (x : Refusal) → checked r ≡ Err x → r ≡ refused x.number x.mark
unfolding checked
refused_as (got cs) x e = let z : ◌≡◌ {A = ℕ} 0 1 = cc in absurd (omega arith)
refused_as (refused n m) x e =
    let f : ◌≡◌ {A = Refusal} (record { number = n; mark = m }) x = cc in
    ap (λ (y : Refusal). refused y.number y.mark) f
