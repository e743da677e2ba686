-- P1 to P12 of 01, as one table, computed.
use Rattle.std.specs.Prelude.{◌*◌, ◌-◌, ℕ, List, [], ◌++◌, ◌∷◌, ◌≡◌, refl, replicate}
use Rattle.yaml_text.specs.declared.Mark.{Mark}
use Rattle.yaml_text.specs.Char.{'[', ']'}
use Rattle.yaml_text.specs.Mark.{origin}
use Rattle.yaml_lexeme.specs.Record.{record_words}
use Rattle.yaml_scan.specs.Scan.{Answer, accepted, answer, blank_answer, filled, refusal, standard}
use Rattle.yaml_scan.specs.Open.{all_open}

-- the examples' bytes
abbrev P1 : List ℕ
P1 = []

-- `- a`
abbrev P2 : List ℕ
P2 = 45 ∷ 32 ∷ 97 ∷ []

-- `a:`
abbrev P3 : List ℕ
P3 = 97 ∷ 58 ∷ []

-- `[:]`
abbrev P4 : List ℕ
P4 = 91 ∷ 58 ∷ 93 ∷ []

-- `"\L"`
abbrev P5 : List ℕ
P5 = 34 ∷ 92 ∷ 76 ∷ 34 ∷ []

-- `"\uD800"`
abbrev P6 : List ℕ
P6 = 34 ∷ 92 ∷ 117 ∷ 68 ∷ 56 ∷ 48 ∷ 48 ∷ 34 ∷ []

-- `|0`
abbrev P7 : List ℕ
P7 = 124 ∷ 48 ∷ []

-- `]`
abbrev P8 : List ℕ
P8 = 93 ∷ []

-- `[`
abbrev P9 : List ℕ
P9 = 91 ∷ []

-- `"a" b`
abbrev P10 : List ℕ
P10 = 34 ∷ 97 ∷ 34 ∷ 32 ∷ 98 ∷ []

-- `a: b: c`
abbrev P11 : List ℕ
P11 = 97 ∷ 58 ∷ 32 ∷ 98 ∷ 58 ∷ 32 ∷ 99 ∷ []

-- the bytes C0 80
abbrev P12 : List ℕ
P12 = 0xC0 ∷ 0x80 ∷ []

abbrev at_line_one : ℕ → Mark
at_line_one i = record { index = i; line = 1; col = i }

-- room for 12 records
abbrev pub twelve_records : ℕ
twelve_records = 12 * record_words

-- a refusal by the number n at the index i of line 1: both rooms zero, T = D = 0
abbrev refuses : ℕ → ℕ → Answer
refuses n i = blank_answer (refusal n (at_line_one i) 0 0) twelve_records 16

-- the definition's answers, in rooms of 12 records and 16 bytes
abbrev defined : List ℕ → Answer
defined bytes = answer standard bytes twelve_records 16

-- P1 to P12, of what is answered in such rooms
unfoldable pub Examples : (List ℕ → Answer) → Type 0
Examples answers =
    (answers P1 ≡ record {
      verdict = accepted 2 0;
      words = filled twelve_records (1 ∷ 0 ∷ 1 ∷ 0 ∷ 0 ∷ 1 ∷ 0 ∷ 0 ∷ 0 ∷ 0 ∷ 0 ∷ 0 ∷ 2 ∷ 0 ∷ 1 ∷ 0 ∷ 0 ∷ 1 ∷ 0 ∷ 0 ∷ 0 ∷ 0 ∷ 0 ∷ 0 ∷ []);
      bytes = replicate 16 0;
    })
    × (answers P2 ≡ record {
      verdict = accepted 6 1;
      words = filled twelve_records
          (1 ∷ 0 ∷ 1 ∷ 0 ∷ 0 ∷ 1 ∷ 0 ∷ 0 ∷ 0 ∷ 0 ∷ 0 ∷ 0
          ∷ 8 ∷ 0 ∷ 1 ∷ 0 ∷ 0 ∷ 1 ∷ 0 ∷ 0 ∷ 0 ∷ 0 ∷ 0 ∷ 0
          ∷ 15 ∷ 0 ∷ 1 ∷ 0 ∷ 1 ∷ 1 ∷ 1 ∷ 0 ∷ 0 ∷ 0 ∷ 0 ∷ 0
          ∷ 22 ∷ 2 ∷ 1 ∷ 2 ∷ 3 ∷ 1 ∷ 3 ∷ 0 ∷ 1 ∷ 0 ∷ 0 ∷ 1
          ∷ 10 ∷ 3 ∷ 2 ∷ 0 ∷ 3 ∷ 2 ∷ 0 ∷ 0 ∷ 0 ∷ 0 ∷ 0 ∷ 0
          ∷ 2 ∷ 3 ∷ 2 ∷ 0 ∷ 3 ∷ 2 ∷ 0 ∷ 0 ∷ 0 ∷ 0 ∷ 0 ∷ 0 ∷ []);
      bytes = filled 16 (97 ∷ []);
    })
    × ((answers P3).verdict ≡ accepted 7 1)
    × ((answers P4).verdict ≡ accepted 7 0)
    × (answers P5 ≡ record {
      verdict = accepted 3 3;
      words = filled twelve_records
          (1 ∷ 0 ∷ 1 ∷ 0 ∷ 0 ∷ 1 ∷ 0 ∷ 0 ∷ 0 ∷ 0 ∷ 0 ∷ 0
          ∷ 22 ∷ 0 ∷ 1 ∷ 0 ∷ 4 ∷ 1 ∷ 4 ∷ 0 ∷ 3 ∷ 0 ∷ 0 ∷ 3
          ∷ 2 ∷ 4 ∷ 2 ∷ 0 ∷ 4 ∷ 2 ∷ 0 ∷ 0 ∷ 0 ∷ 0 ∷ 0 ∷ 0 ∷ []);
      bytes = filled 16 (0xE2 ∷ 0x80 ∷ 0xA8 ∷ []);
    })
    × (answers P6 ≡ refuses 39 0)
    × (answers P7 ≡ refuses 29 0)
    × (answers P8 ≡ refuses 47 0)
    × (answers P9 ≡ refuses 47 1)
    × (answers P10 ≡ refuses 40 4)
    × (answers P11 ≡ refuses 46 4)
    × (answers P12 ≡ refuses 2 0)

pub examples : Examples defined
unfolding Examples all_open
examples = (refl, refl, refl, refl, refl, refl, refl, refl, refl, refl, refl, refl)

-- `%YAML 999999999.0`
abbrev long_version : List ℕ
long_version = 37 ∷ 89 ∷ 65 ∷ 77 ∷ 76 ∷ 32 ∷ 57 ∷ 57 ∷ 57 ∷ 57 ∷ 57 ∷ 57 ∷ 57 ∷ 57 ∷ 57 ∷ 46 ∷ 48 ∷ []

-- the other runs of 01, and the refusals that no short text meets: 1, 4, 5 (4 before 5), 28
pub Edges : Type 0
Edges =
    (answer (record { bytes = 2; levels = 255; entries = 255 }) P2 twelve_records 16 ≡ refuses 1 0)
    × (answer standard P2 (6 * record_words - 1) 16 ≡ blank_answer (refusal 4 origin 6 1) (6 * record_words - 1) 16)
    × (answer standard P5 twelve_records 2 ≡ blank_answer (refusal 5 origin 3 3) twelve_records 2)
    × (answer standard P2 (6 * record_words - 1) 0 ≡ blank_answer (refusal 4 origin 6 1) (6 * record_words - 1) 0)
    × ((answer standard (replicate 255 '[' ++ replicate 255 ']') (512 * record_words) 0).verdict ≡ accepted 512 0)
    × (answer standard (replicate 256 '[') (2 * record_words) 0 ≡ blank_answer (refusal 28 (at_line_one 255) 0 0) (2 * record_words) 0)
    × ((answer standard long_version (3 * record_words) 0).verdict ≡ accepted 3 0)

pub edges : Edges
unfolding Edges all_open
edges = (refl, refl, refl, refl, refl, refl, refl)

-- `>1`, break, ` a`: an indicator adds only to a non-negative indent
abbrev outer_indicator : List ℕ
outer_indicator = 62 ∷ 49 ∷ 10 ∷ 32 ∷ 97 ∷ []

-- `"a\`, break, ` b"`: an escaped break adds no space
abbrev escaped_break : List ℕ
escaped_break = 34 ∷ 97 ∷ 92 ∷ 10 ∷ 32 ∷ 98 ∷ 34 ∷ []

-- `- [a]`: the entry that K6 stacks ends in no BlockEnd
abbrev bracket_in_block : List ℕ
bracket_in_block = 45 ∷ 32 ∷ 91 ∷ 97 ∷ 93 ∷ []

-- "Slips that look right": T and D tell them; the fourth is P5
pub Slips : Type 0
Slips =
    ((defined outer_indicator).verdict ≡ accepted 3 2)
    × ((defined escaped_break).verdict ≡ accepted 3 2)
    × ((defined bracket_in_block).verdict ≡ accepted 8 1)

pub slips : Slips
unfolding Slips all_open
slips = (refl, refl, refl)

-- P3 whole: BlockMappingStart and Key go in before `a`, which was given before the ':' came
pub put_in : defined P3 ≡ record {
  verdict = accepted 7 1;
  words = filled 144
      (1 ∷ 0 ∷ 1 ∷ 0 ∷ 0 ∷ 1 ∷ 0 ∷ 0 ∷ 0 ∷ 0 ∷ 0 ∷ 0
      ∷ 9 ∷ 0 ∷ 1 ∷ 0 ∷ 0 ∷ 1 ∷ 0 ∷ 0 ∷ 0 ∷ 0 ∷ 0 ∷ 0
      ∷ 17 ∷ 0 ∷ 1 ∷ 0 ∷ 0 ∷ 1 ∷ 0 ∷ 0 ∷ 0 ∷ 0 ∷ 0 ∷ 0
      ∷ 22 ∷ 0 ∷ 1 ∷ 0 ∷ 1 ∷ 1 ∷ 1 ∷ 0 ∷ 1 ∷ 0 ∷ 0 ∷ 1
      ∷ 18 ∷ 1 ∷ 1 ∷ 1 ∷ 2 ∷ 1 ∷ 2 ∷ 0 ∷ 0 ∷ 0 ∷ 0 ∷ 0
      ∷ 10 ∷ 2 ∷ 2 ∷ 0 ∷ 2 ∷ 2 ∷ 0 ∷ 0 ∷ 0 ∷ 0 ∷ 0 ∷ 0
      ∷ 2 ∷ 2 ∷ 2 ∷ 0 ∷ 2 ∷ 2 ∷ 0 ∷ 0 ∷ 0 ∷ 0 ∷ 0 ∷ 0 ∷ []);
  bytes = filled 16 (97 ∷ []);
}
unfolding all_open
put_in = refl
