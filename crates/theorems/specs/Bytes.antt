-- Demand 3, 2. For every text that the rules accept, of c characters and b bytes, whatever the room lent:
-- twice the decoded bytes of its list are at most 3b.
use Rattle.std.specs.Prelude.{◌*◌, ◌/◌, ◌≤◌, ℕ, List, [], ◌∷◌, ◌≡◌, refl, length}
use Rattle.yaml_text.specs.Char.{backslash, double_quote}
use Rattle.yaml_text.specs.Mark.{origin}
use Rattle.yaml_lexeme.specs.Token.{Token, texts}
use Rattle.yaml_scan.specs.declared.Limits.{Limits}
use Rattle.yaml_scan.specs.Scan.{answer, refusal, standard}
use Rattle.yaml_scan.specs.Open.{all_open}
use Rattle.theorems.specs.Accepted.{Accepts}
use Rattle.theorems.specs.ByteCount.{scan_bytes}

pub at_most : (limits : Limits) (bytes : List ℕ) (ts : List Token) → Accepts limits bytes ts → 2 * length (texts ts) ≤ 3 * length bytes
at_most limits bytes ts a = rw a.list (scan_bytes limits bytes a.events a.accepted)

-- `\L` is two bytes and decodes to three: but for the quotes this text has as many as it may, so no smaller share of b will do
pub tight : (answer standard (double_quote ∷ backslash ∷ 76 ∷ backslash ∷ 76 ∷ backslash ∷ 80 ∷ double_quote ∷ []) 0 0).verdict ≡ refusal 4 origin 3 (3 * 6 / 2)
unfolding all_open
tight = refl
