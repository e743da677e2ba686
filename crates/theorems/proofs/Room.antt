-- Theorems about specs/Room, and what rests on them.
use Rattle.std.specs.Prelude.{◌*◌, ◌+◌, ◌/◌, ◌≤◌, ℕ, List, ◌≡◌, length}
use Rattle.std.proofs.Common.{arith, le-ltb}
use Rattle.yaml_text.specs.Utf8.{chars}
use Rattle.yaml_lexeme.specs.Token.{Token, texts}
use Rattle.yaml_lexeme.specs.Record.{record_words}
use Rattle.yaml_scan.specs.declared.Limits.{Limits}
use Rattle.yaml_scan.specs.Scan.{accepted, answer, lent}
use Rattle.theorems.specs.Accepted.{Accepts, list_answered}
use Rattle.theorems.specs.Tokens as tokens
use Rattle.theorems.specs.Bytes as bytes

pub enough : (limits : Limits) (text : List ℕ) (ts : List Token) (words_room bytes_room : ℕ) → Accepts limits text ts
    → (2 * length (chars text) + 3) * record_words ≤ words_room → 3 * length text / 2 ≤ bytes_room
    → (answer limits text words_room bytes_room).verdict ≡ accepted (length ts) (length (texts ts))
unfolding lent
enough limits text ts w b a h k =
    let t : length ts ≤ w / record_words = omega (arith, tokens.at_most limits text ts a) in
    let d : length (texts ts) ≤ b = omega (arith, bytes.at_most limits text ts a) in
    rw (list_answered limits text ts a w b, lent, le-ltb (w / record_words) (length ts) t, le-ltb b (length (texts ts)) d)
