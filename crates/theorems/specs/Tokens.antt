-- Demand 3, 1. For every text that the rules accept, of c characters and b bytes, whatever the room lent:
-- the list has at most 2c + 3 tokens.
use Rattle.std.specs.Prelude.{◌*◌, ◌+◌, ◌≤◌, ℕ, List, [], ◌∷◌, ◌≡◌, refl, length}
use Rattle.yaml_text.specs.Char.{'-', ':', '[', ']'}
use Rattle.yaml_text.specs.Mark.{origin}
use Rattle.yaml_text.specs.Utf8.{chars}
use Rattle.yaml_lexeme.specs.Token.{Token}
use Rattle.yaml_scan.specs.declared.Limits.{Limits}
use Rattle.yaml_scan.specs.Scan.{answer, refusal, standard}
use Rattle.yaml_scan.specs.Open.{all_open}
use Rattle.theorems.specs.Accepted.{Accepts}
use Rattle.theorems.specs.TokenCount.{scan_tokens}

pub at_most : (limits : Limits) (bytes : List ℕ) (ts : List Token) → Accepts limits bytes ts → length ts ≤ 2 * length (chars bytes) + 3
at_most limits bytes ts a = rw a.list (scan_tokens limits bytes a.events a.accepted)

-- some lists have as many, so no smaller bound holds: `-`, `a:`, `[:]:` (where no room is lent, 4 tells how many)
pub tight : ((answer standard ('-' ∷ []) 0 0).verdict ≡ refusal 4 origin (2 * 1 + 3) 0)
    × ((answer standard (97 ∷ ':' ∷ []) 0 0).verdict ≡ refusal 4 origin (2 * 2 + 3) 1)
    × ((answer standard ('[' ∷ ':' ∷ ']' ∷ ':' ∷ []) 0 0).verdict ≡ refusal 4 origin (2 * 4 + 3) 0)
unfolding all_open
tight = (refl, refl, refl)
