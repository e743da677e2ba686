-- What a step does, in seven moves: the tokens that it gives, and what becomes of blocks, candidates and levels. Each fetch is one of them.
use Rattle.std.specs.Prelude.{◌+◌, ℕ, Bool, ◌||◌, false, true, List, [], ◌++◌, ◌∷◌, map, ◌≡◌, drop, length}
use Rattle.yaml_text.specs.declared.Mark.{Mark}
use Rattle.yaml_text.specs.Pick.{pick}
use Rattle.yaml_text.specs.Class.{is_blank_or_breakz}
use Rattle.yaml_text.specs.Mark.{Place, look}
use Rattle.yaml_lexeme.specs.Token.{BlockMappingStart, BlockSequenceStart, FlowMappingEnd, FlowMappingStart, Key, Kind, StreamEnd, Token, empty_token, token_bytes}
use Rattle.yaml_lexeme.specs.Role.{Open, ends, flow_mapping, flow_sequence, neither, role, starts}
use Rattle.yaml_lexeme.specs.Sizes.{Pays}
use Rattle.yaml_scan.specs.declared.Candidate.{Candidate}
use Rattle.yaml_scan.specs.declared.Candidate.TheVariants.{Absent, Possible}
use Rattle.yaml_scan.specs.declared.Level.{Level}
use Rattle.yaml_scan.specs.Indent.{Indents, Rolled}
use Rattle.yaml_scan.specs.IndentLaws.{Rolls, Same}
use Rattle.yaml_scan.specs.Keys.{set_key, top_key}
use Rattle.yaml_scan.specs.State.{Event, News, State, block_ends, empty_if, ends_with, goes_on, in_flow, put, put_before, puts, rest_of, save_key, unroll_to}
use Rattle.yaml_scan.specs.Bracket.{closes_level, implicit_open, new_entry, new_level}
use Rattle.yaml_scan.specs.Value.{kind_if}
use Rattle.yaml_scan.specs.Document.{all_ends}

-- the start that '[' or '{' is
abbrev pub bracket : Bool → Open
bracket sequence = pick sequence flow_sequence flow_mapping

-- the start of a block
abbrev pub block_start : Bool → Kind
block_start sequence = pick sequence BlockSequenceStart BlockMappingStart

-- an implicit pair is open only behind a ':' of its entry
abbrev pub Tidy : Level → Type 0
Tidy l = l.colon ≡ false → l.implicit ≡ false

-- within an entry of a level; pair: an implicit pair begins, and none was open
pub record Within (pair : Bool) (l l' : Level) : Type 0 where
  pub same_kind : l'.sequence ≡ l.sequence
  pub implicit_is : l'.implicit ≡ (l.implicit || pair)
  pub tidy : Tidy l → Tidy l'
  pub once : Tidy l → pair ≡ true → l.implicit ≡ false

-- at level 0 no pair begins
abbrev pub Enters : Bool → List Level → List Level → Type 0
Enters pair [] ls' = (ls' ≡ []) × (pair ≡ false)
Enters pair (l ∷ ls) ls' = (l' : Level) × (ls' ≡ l' ∷ ls) × Within pair l l'

-- '-', '?' and ':', which at level 0 stand before blank, break or end, and may begin a block
pub record Begins (s : State) (q : Place) (pair : Bool) (r : Rolled) (ls : List Level) : Type 0 where
  pub rolls : Rolls (in_flow s) s.indents r
  pub spaced : in_flow s ≡ false → is_blank_or_breakz (look q) ≡ true
  pub enters : Enters pair s.levels ls

-- K5: an implicit pair ends at ',' or ']'
abbrev pub pair_end : Mark → State → List Event
pair_end m s = empty_if (implicit_open s.levels) FlowMappingEnd m

-- K5: what goes in before a candidate at the mark m; pair: FlowMappingStart; block: BlockMappingStart
abbrev pub goes_in : Bool → Bool → Mark → List Token
goes_in pair block m = map (λ (k : Kind). empty_token k m) (kind_if pair FlowMappingStart ++ kind_if block BlockMappingStart ++ (Key ∷ []))

-- from the state s, over the token t, to the place q: the events, and the indents, candidates and levels behind them
pub data Move (s : State) (t : Token) (q : Place) : List Event → Indents → List Candidate → List Level → Type 0 where
  -- scalars, tags, anchors and aliases: the token may be the next candidate
  tells : {i : Indents} → role t.kind ≡ neither → Same s.indents i → Move s t q (put t ∷ []) i (save_key s).keys s.levels
  -- directives, document markers and byte order marks: outside every block
  leaves : role t.kind ≡ neither → in_flow s ≡ false
      → Move s t q (all_ends s ++ (put t ∷ [])) (unroll_to 0 s).indents (set_key Absent s.keys) s.levels
  -- brackets and ','
  opens : {i : Indents} (sequence : Bool) → role t.kind ≡ starts (bracket sequence) → Same s.indents i
      → Move s t q (put t ∷ []) i (Absent ∷ (save_key s).keys) (new_level sequence ∷ s.levels)
  closes : (sequence : Bool) (m : Mark) → role t.kind ≡ ends (bracket sequence) → closes_level sequence s.levels ≡ true
      → Move s t q (pair_end m s ++ (put t ∷ [])) s.indents (drop 1 s.keys) (drop 1 s.levels)
  parts : (m : Mark) → role t.kind ≡ neither → Move s t q (pair_end m s ++ (put t ∷ [])) s.indents (set_key Absent s.keys) (new_entry s.levels)
  -- '-', '?', and ':' without a candidate
  begins : {pair : Bool} {r : Rolled} {ls : List Level} (sequence : Bool) (m : Mark) → role t.kind ≡ neither → Begins s q pair r ls
      → Move s t q ((empty_if pair FlowMappingStart m ++ empty_if r.starts (block_start sequence) m) ++ (put t ∷ [])) r.indents (set_key Absent s.keys) ls
  -- ':' with a candidate
  uses : {pair required : Bool} {n : ℕ} {m : Mark} {r : Rolled} {ls : List Level} → role t.kind ≡ neither → Begins s q pair r ls
      → top_key s.keys ≡ Possible required n m
      → Move s t q (put_before n (goes_in pair r.starts m) ∷ put t ∷ []) r.indents (set_key Absent s.keys) ls

-- the texts of the token are paid
abbrev pub Paid : State → Token → Place → Type 0
Paid s t q = Pays 0 (rest_of s) (length (token_bytes t)) q.rest

abbrev pub Moves : State → News → Type 0
Moves s (goes_on es u) = (t : Token) × Paid s t u.place × Move s t u.place es u.indents u.keys u.levels × (u.count ≡ s.count + puts es)
Moves s (ends_with es) = (m : Mark) × (in_flow s ≡ false) × (es ≡ block_ends (unroll_to 0 s).ended m ++ (put (empty_token StreamEnd m) ∷ []))
