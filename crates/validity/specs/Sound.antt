-- What the inner functions of the validity pass answer.
use Rattle.std.specs.Prelude.{◌+◌, ◌<◌, ◌≤◌, ℕ, Bool, false, true, List, Option, None, Some, Result, Ok, Err, ◌≡◌, drop}
use Rattle.yaml_text.specs.declared.Decoded.{Decoded}
use Rattle.yaml_text.specs.declared.Decoded.TheVariants.{Char, End, Ill}
use Rattle.yaml_text.specs.Pick.{pick}
use Rattle.yaml_text.specs.Class.{is_z}
use Rattle.yaml_text.specs.Mark.{origin}
use Rattle.yaml_text.specs.Decode.{decode}
use Rattle.yaml_text.specs.Utf8.{first}
use Rattle.yaml_text.specs.declared.Refusal.{Refusal}
use Rattle.validity.specs.Checked.{checked}

abbrev pub passes : Result (Unit {0}) Refusal → Bool
passes (Ok u) = true
passes (Err r) = false

-- the bytes are well-formed without NUL
abbrev pub sound : List ℕ → Bool
sound l = passes (checked (decode 0 origin l))

-- how many bytes a character other than NUL takes
abbrev pub good_len : Decoded → Option ℕ
good_len (Char c n) = pick (is_z c) None (Some n)
good_len Ill = None
good_len End = None

-- by characters from a place on, until `upto` or where none other than NUL begins
pub data PassesTo (s : List ℕ) (upto : ℕ) : ℕ → ℕ → Type 0 where
  past : {at : ℕ} → upto ≤ at → PassesTo s upto at at
  stops : {at : ℕ} → at < upto → None ≡ good_len (first (drop at s)) → PassesTo s upto at at
  onto : {at n r : ℕ} → at < upto → Some n ≡ good_len (first (drop at s)) → PassesTo s upto (at + n) r → PassesTo s upto at r
