-- Frames in the lent words, six words each: the candidate's five, and the flow level's. A frame's number is its flow level.
use Rattle.std.specs.Prelude.{◌%◌, ◌*◌, ◌+◌, ◌/◌, ◌≤◌, suc, zero, ℕ, List, [], ◌∷◌, ◌≡◌, refl, eqb, get_or, length, set}
use Rattle.std.proofs.Common.{ap}
use Rattle.std.proofs.lemmas.List.Edits.{sets}
use Rattle.yaml_text.specs.Pick.{pick}
use Rattle.yaml_scan.specs.declared.Candidate.{Candidate}
use Rattle.yaml_scan.specs.declared.Candidate.TheVariants.{Absent, Possible}
use Rattle.yaml_scan.specs.declared.Level.{Level}
use Rattle.stacks.specs.Bit.{bit}
use Rattle.stacks.specs.Most.{at_most}
use Rattle.stacks.specs.Stack.{frame_at}
use Rattle.stacks.specs.Indent.{EntriesStay}

-- the candidate whose words begin at n; its first is 0: absent, 1: possible, 2: possible and required; a column
-- that no text has counts as the last
unfoldable pub key_at : List ℕ → ℕ → Candidate
key_at a n =
    pick (eqb (get_or a n 0) 0) Absent
    (Possible (eqb (get_or a n 0) 2) (get_or a (n + 1) 0) (record { index = get_or a (n + 2) 0; line = get_or a (n + 3) 0; col = at_most 1_048_576 (get_or a (n + 4) 0) }))

-- the words that are stored for it
unfoldable pub key_words : Candidate → List ℕ
key_words Absent = 0 ∷ []
key_words (Possible required n m) = (1 + bit required) ∷ n ∷ m.index ∷ m.line ∷ m.col ∷ []

unfoldable pub level_bits : ℕ → Level
level_bits w =
    record { sequence = eqb (w % 2) 1; colon = eqb (w / 2 % 2) 1; question = eqb (w / 4 % 2) 1; implicit = eqb (w / 8 % 2) 1 }

unfoldable pub level_word : Level → ℕ
level_word l = bit l.sequence + 2 * bit l.colon + 4 * bit l.question + 8 * bit l.implicit

abbrev pub key_of : List ℕ → ℕ → Candidate
key_of a d = key_at a (frame_at d)

abbrev pub level_of : List ℕ → ℕ → Level
level_of a d = level_bits (get_or a (frame_at d + 5) 0)

-- the words with a level's candidate k, or with its data l, stored
abbrev pub put_key : List ℕ → ℕ → Candidate → List ℕ
put_key a d k = sets a (frame_at d) (key_words k)

abbrev pub put_level : List ℕ → ℕ → Level → List ℕ
put_level a d l = set a (frame_at d + 5) (level_word l)

-- the first d frames' candidates, the last first
unfoldable pub frame_keys : List ℕ → ℕ → List Candidate
frame_keys a zero = []
frame_keys a (suc d) = key_of a d ∷ frame_keys a d

pub keys_length : (a : List ℕ) (d : ℕ) → length (frame_keys a d) ≡ d
unfolding frame_keys
keys_length a zero = refl
keys_length a (suc d) = ap suc (keys_length a d)

-- the levels of the frames from 1 to d, the last first: frame 0 is of flow level 0, which has none
unfoldable pub frame_levels : List ℕ → ℕ → List Level
frame_levels a zero = []
frame_levels a (suc d) = level_of a (suc d) ∷ frame_levels a d

pub levels_length : (a : List ℕ) (d : ℕ) → length (frame_levels a d) ≡ d
unfolding frame_levels
levels_length a zero = refl
levels_length a (suc d) = ap suc (levels_length a d)

-- the innermost level is another one; at level 0 there is none
unfoldable pub with_level : Level → List Level → List Level
with_level l [] = []
with_level l (k ∷ ks) = l ∷ ks

-- from the words a to e the frames stay
pub record FramesStay (a e : List ℕ) : Type 0 where
  pub key : (n : ℕ) → key_of e n ≡ key_of a n
  pub level : (n : ℕ) → level_of e n ≡ level_of a n
  pub keys : (n : ℕ) → frame_keys e n ≡ frame_keys a n
  pub levels : (n : ℕ) → frame_levels e n ≡ frame_levels a n

-- the frame of flow level d has the candidate k, from the words a to e; all else stays
pub record SetsKey (a e : List ℕ) (d : ℕ) (k : Candidate) : Type 0 where
  pub words : e ≡ put_key a d k
  pub key : key_of e d ≡ k
  pub others : (n : ℕ) → (n ≡ d → ⊥) → key_of e n ≡ key_of a n
  pub below : (n : ℕ) → n ≤ d → frame_keys e n ≡ frame_keys a n
  pub keys : frame_keys e (suc d) ≡ k ∷ frame_keys a d
  pub level : (n : ℕ) → level_of e n ≡ level_of a n
  pub levels : (n : ℕ) → frame_levels e n ≡ frame_levels a n
  pub entries : EntriesStay a e

-- it has the level l, from the words a to e; all else stays
pub record SetsLevel (a e : List ℕ) (d : ℕ) (l : Level) : Type 0 where
  pub words : e ≡ put_level a d l
  pub level : level_of e d ≡ l
  pub others : (n : ℕ) → (n ≡ d → ⊥) → level_of e n ≡ level_of a n
  pub levels : frame_levels e d ≡ with_level l (frame_levels a d)
  pub key : (n : ℕ) → key_of e n ≡ key_of a n
  pub keys : (n : ℕ) → frame_keys e n ≡ frame_keys a n
  pub entries : EntriesStay a e
