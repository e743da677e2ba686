-- Demand 3, 4. For every text that the rules accept, whatever the room lent:
-- in every prefix of the list each end closes the latest start still open, of its own kind (block, flow sequence, flow mapping); at StreamEnd none is open.
use Rattle.std.specs.Prelude.{List, [], ◌∷◌, map, ◌≡◌, refl}
use Rattle.yaml_text.specs.Char.{'-', ':', '[', ']', space}
use Rattle.yaml_lexeme.specs.Token.{Token}
use Rattle.yaml_lexeme.specs.Role.{Role, block, ends, ends_all, flow_mapping, flow_sequence, neither, role, starts}
use Rattle.yaml_scan.specs.Scan.{Outcome, outcome, scanned, spent, standard, stopped}
use Rattle.yaml_scan.specs.Open.{all_open}
use Rattle.yaml_scan.specs.Slots.{tokens_of}

-- the starts and ends of a text's list
abbrev roles : Outcome → List Role
roles (scanned es) = map (λ (t : Token). role t.kind) (tokens_of es)
roles (stopped n m) = []
roles spent = []

-- `- [a: b]: c`: the block mapping and the pair start before tokens that came earlier, and the entry that K6 stacks ends no block
pub shown : roles (outcome standard ('-' ∷ space ∷ '[' ∷ 97 ∷ ':' ∷ space ∷ 98 ∷ ']' ∷ ':' ∷ space ∷ 99 ∷ []))
    ≡ neither ∷ starts block ∷ neither ∷ starts block ∷ neither ∷ starts flow_sequence ∷ starts flow_mapping ∷ neither ∷ neither ∷ neither ∷ neither
    ∷ ends flow_mapping ∷ ends flow_sequence ∷ neither ∷ neither ∷ ends block ∷ ends block ∷ ends_all ∷ []
unfolding all_open role
shown = refl
