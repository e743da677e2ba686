-- The characters of a text that is to be scanned, or refusal 2 or 3 (RFC 3629; "Refusal numbers").
use Rattle.std.specs.Prelude.{pred, suc, zero, ℕ, not, List, [], ◌∷◌}
use Rattle.yaml_text.specs.declared.Decoded.{Decoded}
use Rattle.yaml_text.specs.declared.Decoded.TheVariants.{Char, End, Ill}
use Rattle.yaml_text.specs.declared.Mark.{Mark}
use Rattle.yaml_text.specs.Utf8.{first}
use Rattle.yaml_text.specs.Class.{is_z, peek}
use Rattle.yaml_text.specs.Mark.{over}
use Rattle.yaml_text.specs.Refusal.{Read, ◌>>=◌, got, need, refused}

-- 2 and 3: ill-formed UTF-8 and NUL, whichever stands earlier. (At a byte something stands, so it is never `End`.) [J7, J8]
abbrev pub decoded_char : Decoded → Mark → (ℕ → ℕ → Read (List ℕ)) → Read (List ℕ)
decoded_char (Char c n) m go =
    need (not (is_z c)) 3 m >>= λ _. go c (pred n) >>= λ cs. got (c ∷ cs)
decoded_char Ill m go = refused 2 m
decoded_char End m go = refused 2 m

-- the characters of the bytes, from the mark m on; k bytes are passed over first. Each character but a break adds 1 to col, a BOM too
unfoldable pub decode : ℕ → Mark → List ℕ → Read (List ℕ)
decode k m [] = got []
decode zero m (a ∷ t) = decoded_char (first (a ∷ t)) m (λ c n. decode n (over m c (peek t 0)) t)
decode (suc k) m (a ∷ t) = decode k m t
