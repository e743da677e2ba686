-- The indent entries in the lent words: those below the depth, the top last.
use Rattle.std.specs.Prelude.{◌%◌, ◌*◌, ◌+◌, ◌/◌, ◌<◌, ◌≤◌, suc, zero, ℕ, Bool, List, [], ◌∷◌, ◌≡◌, eqb, get_or}
use Rattle.yaml_scan.specs.Indent.{Entry, indents_of, unroll}
use Rattle.yaml_scan.specs.Indent as definition
use Rattle.stacks.specs.Bit.{bit}
use Rattle.stacks.specs.Most.{at_most}
use Rattle.stacks.specs.Stack.{entry_words}
use Rattle.stacks.specs.declared.indent.Indents.{Indents}
use Rattle.stacks.specs.declared.indent.Unrolled.{Unrolled}

-- the highest indent behind so many entries: a column + 1 is at most 1,048,577, and a bracket, which adds 1, stacks an entry
abbrev pub most_at : ℕ → ℕ
most_at d = 1_048_577 + d

-- the entry at place k: the indent that is taken back, times two, and 1 where a BlockEnd is given then; an indent above what
-- may be stacked there counts as the highest
abbrev pub entry_of : ℕ → ℕ → Entry
entry_of k w = record { old = at_most (most_at k) (w / 2); ends = eqb (w % 2) 1 }

abbrev pub word_of : ℕ → Bool → ℕ
word_of i ends = i * 2 + bit ends

unfoldable pub entries_of : List ℕ → ℕ → List Entry
entries_of a zero = []
entries_of a (suc d) = entry_of d (get_or a d 0) ∷ entries_of a d

-- what is left when the entry at place k goes
abbrev pub left_below : List ℕ → ℕ → Indents
left_below a k = record { indent = (entry_of k (get_or a k 0)).old; depth = k }

-- what the definition sees
abbrev pub indents_seen : List ℕ → Indents → definition.Indents
indents_seen a i = indents_of i.indent (entries_of a i.depth)

abbrev pub unrolled_seen : List ℕ → Unrolled → definition.Unrolled
unrolled_seen a u = record { ended = u.ended; indents = indents_seen a u.indents }

-- at most `room` entries, and an indent that may stand behind them
pub record Low (room : ℕ) (i : Indents) : Type 0 where
  pub deep : i.depth ≤ room
  pub indent : i.indent ≤ most_at i.depth

-- from the words a to e the entries stay
pub record EntriesStay (a e : List ℕ) : Type 0 where
  pub word : (k : ℕ) → k < entry_words → get_or e k 0 ≡ get_or a k 0
  pub entries : (n : ℕ) → n ≤ entry_words → entries_of e n ≡ entries_of a n

-- entries only went, from i to r
pub record Below (i r : Indents) : Type 0 where
  pub depth : r.depth ≤ i.depth
  pub indent : r.indent ≤ most_at r.depth

-- they went as the definition says, to d
pub record Lowers (a : List ℕ) (i r : Indents) (d : definition.Indents) : Type 0 where
  pub same : indents_seen a r ≡ d
  pub below : Below i r

-- `unroll`
pub record Unrolls (a : List ℕ) (edge : ℕ) (i : Indents) (r : Unrolled) : Type 0 where
  pub same : unrolled_seen a r ≡ unroll edge i.indent (entries_of a i.depth)
  pub below : Below i r.indents
  pub few : r.ended + r.indents.depth ≤ i.depth
