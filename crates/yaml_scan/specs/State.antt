-- What a step knows, what it says, and the small changes of it that every rule is made of.
use Rattle.std.specs.Prelude.{◌+◌, suc, ℕ, Bool, ◌&&◌, false, not, true, List, [], ◌++◌, ◌∷◌, eqb, replicate}
use Rattle.yaml_text.specs.declared.Mark.{Mark}
use Rattle.yaml_text.specs.Pick.{pick}
use Rattle.yaml_text.specs.Mark.{Place, edge_of}
use Rattle.yaml_text.specs.Refusal.{Read, ◌>>=◌, got}
use Rattle.yaml_lexeme.specs.Token.{BlockEnd, Kind, Lexeme, Token, empty_token}
use Rattle.yaml_scan.specs.Indent.{Indents, Unrolled, top_ends, unroll}
use Rattle.yaml_scan.specs.declared.Candidate.{Candidate}
use Rattle.yaml_scan.specs.declared.Level.{Level}
use Rattle.yaml_scan.specs.declared.Candidate.TheVariants.{Absent, Possible}
use Rattle.yaml_scan.specs.Keys.{lapse, set_key, top_key}

pub record State : Type 0 where
  pub place : Place
  -- only blanks stand between the line's start and here
  pub leading_whitespace : Bool
  -- a simple key is allowed
  pub simple_key_allowed : Bool
  pub indents : Indents
  -- one per level, the current one first
  pub keys : List Candidate
  -- the innermost first; none at level 0
  pub levels : List Level
  -- index + 1 directly after a quoted scalar's or closing bracket's span; 0: none
  pub adjacent_value_allowed_at : ℕ
  -- how many tokens were given so far, without those put in before a candidate
  pub count : ℕ

-- what a step says: a token comes next, or these tokens go in before the token of that number
pub data Event : Type 0 where
  put : Token → Event
  put_before : ℕ → List Token → Event

pub data News : Type 0 where
  goes_on : List Event → State → News
  ends_with : List Event → News

-- inside a bracket
unfoldable pub in_flow : State → Bool
in_flow s = elim s.levels [ [] ↦ false | l ∷ ls ↦ true ]

abbrev pub mark_of : State → Mark
mark_of s = s.place.mark

abbrev pub rest_of : State → List ℕ
rest_of s = s.place.rest

-- the state with one part changed

abbrev pub at_place : Place → Bool → State → State
at_place p leads s =
    record { place = p; leading_whitespace = leads; simple_key_allowed = s.simple_key_allowed; indents = s.indents; keys = s.keys; levels = s.levels; adjacent_value_allowed_at = s.adjacent_value_allowed_at; count = s.count }

abbrev pub allow : Bool → State → State
allow b s =
    record { place = s.place; leading_whitespace = s.leading_whitespace; simple_key_allowed = b; indents = s.indents; keys = s.keys; levels = s.levels; adjacent_value_allowed_at = s.adjacent_value_allowed_at; count = s.count }

abbrev pub with_indents : Indents → State → State
with_indents i s =
    record { place = s.place; leading_whitespace = s.leading_whitespace; simple_key_allowed = s.simple_key_allowed; indents = i; keys = s.keys; levels = s.levels; adjacent_value_allowed_at = s.adjacent_value_allowed_at; count = s.count }

abbrev pub with_keys : List Candidate → State → State
with_keys ks s =
    record { place = s.place; leading_whitespace = s.leading_whitespace; simple_key_allowed = s.simple_key_allowed; indents = s.indents; keys = ks; levels = s.levels; adjacent_value_allowed_at = s.adjacent_value_allowed_at; count = s.count }

abbrev pub with_levels : List Level → State → State
with_levels ls s =
    record { place = s.place; leading_whitespace = s.leading_whitespace; simple_key_allowed = s.simple_key_allowed; indents = s.indents; keys = s.keys; levels = ls; adjacent_value_allowed_at = s.adjacent_value_allowed_at; count = s.count }

-- the innermost level changed; at level 0 there is none
unfoldable pub on_level : (Level → Level) → List Level → List Level
on_level f [] = []
on_level f (l ∷ ls) = f l ∷ ls

-- ':' stands directly after what was read up to here (K5)
abbrev pub adjacent_here : State → State
adjacent_here s =
    record { place = s.place; leading_whitespace = s.leading_whitespace; simple_key_allowed = s.simple_key_allowed; indents = s.indents; keys = s.keys; levels = s.levels; adjacent_value_allowed_at = (mark_of s).index + 1; count = s.count }

abbrev pub counting : ℕ → State → State
counting n s =
    record { place = s.place; leading_whitespace = s.leading_whitespace; simple_key_allowed = s.simple_key_allowed; indents = s.indents; keys = s.keys; levels = s.levels; adjacent_value_allowed_at = s.adjacent_value_allowed_at; count = s.count + n }

-- K2: the candidate of this level, saved as save_simple_key does; required at the block's own column [B13]
unfoldable pub save_key : State → State
save_key s =
    let required = not (in_flow s) && eqb s.indents.indent (edge_of (mark_of s)) && top_ends s.indents.entries in
    pick s.simple_key_allowed (with_keys (set_key (Possible required s.count (mark_of s)) s.keys) s) s

-- K2: this level's candidate goes. 41 for a required one is never met here (Removal), so it is not asked [B11]
unfoldable pub remove_key : State → State
remove_key s = with_keys (set_key Absent s.keys) s

-- K2: the check before each token; in flow no candidate lapses [B7]
unfoldable pub lapse_key : State → Read State
lapse_key s =
    elim (in_flow s) [
      | true ↦ got s
      | false ↦ lapse (mark_of s) (top_key s.keys) >>= λ k. got (with_keys (set_key k s.keys) s)
    ]

-- how many tokens come next
unfoldable pub puts : List Event → ℕ
puts [] = 0
puts (put t ∷ es) = suc (puts es)
puts (put_before n ts ∷ es) = puts es

abbrev pub emit : List Event → State → Read News
emit es s = got (goes_on es (counting (puts es) s))

-- one token, and on from behind it
abbrev pub emit_lexeme : Lexeme → Bool → State → Read News
emit_lexeme l leads s = emit (put l.token ∷ []) (at_place l.place leads s)

-- an empty token here, if the test holds
abbrev pub empty_if : Bool → Kind → Mark → List Event
empty_if b k m = pick b (put (empty_token k m) ∷ []) []

abbrev pub block_ends : ℕ → Mark → List Event
block_ends n m = replicate n (put (empty_token BlockEnd m))

abbrev pub unroll_to : ℕ → State → Unrolled
unroll_to edge s = unroll edge s.indents.indent s.indents.entries

-- events before what a step says
abbrev pub preceded : List Event → News → News
preceded es (goes_on fs s) = goes_on (es ++ fs) s
preceded es (ends_with fs) = ends_with (es ++ fs)
