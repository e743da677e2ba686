-- Laws of frames: what is stored is read back, and all else stays, since the words of two frames are apart and lie behind the entries.
use Prim.Native.Nat.{◌%◌, ◌*◌, ◌+◌, ◌/◌, ◌<◌, ◌≤◌, suc, zero, ℕ}
use mathlib.Core.Bool.{Bool, false, true}
use mathlib.Core.List.{List, [], ◌∷◌}
use mathlib.Core.Path.{◌∙◌, ◌≡◌, refl}
use native.Mathlib.Omega.{arith}
use lib.Dec.{eqb}
use lib.ListN.{get_or, length, length-set, set}
use lib.Seq.{get_or-set_other, get_or-set_same, sets}
use borrow.Author.Tests.{eqb-true}
use Rattle.yaml_text.specs.declared.Mark.{Mark}
use Rattle.yaml_text.specs.Pick.{pick}
use Rattle.yaml_text.specs.Test.{by_test}
use Rattle.yaml_scan.specs.declared.Candidate.{Candidate}
use Rattle.yaml_scan.specs.declared.Candidate.TheVariants.{Absent, Possible}
use Rattle.yaml_scan.specs.declared.Level.{Level}
use Rattle.yaml_scan.specs.Keys.{is_required}
use Rattle.stacks.specs.Bit.{bit, bit_low}
use Rattle.stacks.specs.Most.{at_most_stays}
use Rattle.stacks.specs.Stack.{entry_words, frame_at, stack_words}
use Rattle.stacks.specs.Frame.{FramesStay, SetsKey, SetsLevel, frame_keys, frame_levels, key_at, key_of, key_words, level_bits, level_of, level_word, put_key, put_level, with_level}
use Rattle.stacks.proofs.Entries.{entries_stay}

-- words that were stored

pub sets_five : (l : List ℕ) (n a b c d e : ℕ)
    → set (set (set (set (set l n a) (n + 1) b) (n + 2) c) (n + 3) d) (n + 4) e ≡ sets l n (a ∷ b ∷ c ∷ d ∷ e ∷ [])
sets_five l n a b c d e =
    let p : n + 1 ≡ suc n = omega arith in
    let q : n + 2 ≡ suc (suc n) = omega arith in
    let r : n + 3 ≡ suc (suc (suc n)) = omega arith in
    let s : n + 4 ≡ suc (suc (suc (suc n))) = omega arith in
    rw (p, q, r, s)

pub getD_sets_other : (vs l : List ℕ) (n k : ℕ) → (n ≤ k → k < n + length vs → ⊥) → get_or (sets l n vs) k 0 ≡ get_or l k 0
getD_sets_other [] l n k h = refl
getD_sets_other (v ∷ vs) l n k h =
    let o : k ≡ n → ⊥ = λ e. h (omega arith) (omega arith) in
    getD_sets_other vs (set l n v) (suc n) k (λ f g. h (omega arith) (omega arith)) ∙ get_or-set_other l n k v 0 o

pub get_d_sets : (vs l : List ℕ) (n j : ℕ) → n + length vs ≤ length l → j < length vs → get_or (sets l n vs) (n + j) 0 ≡ get_or vs j 0
get_d_sets [] l n j h g = absurd (omega arith)
get_d_sets (v ∷ vs) l n zero h g =
    let e : n + 0 ≡ n = omega arith in
    let o : n < length l = omega arith in
    rw e (getD_sets_other vs (set l n v) (suc n) n (λ f g. omega arith) ∙ get_or-set_same l n v 0 o)
get_d_sets (v ∷ vs) l n (suc j) h g =
    let e : n + suc j ≡ suc n + j = omega arith in
    let k : suc n + length vs ≤ length (set l n v) = omega (arith, length-set l n v) in
    let o : j < length vs = omega arith in
    rw e (get_d_sets vs (set l n v) (suc n) j k o)

-- a level and its word

pub bit_is : (b : Bool) → eqb (bit b) 1 ≡ b
bit_is true = refl
bit_is false = refl

pub digit : (a n : ℕ) → a ≤ 1 → (a + 2 * n) % 2 ≡ a
digit a n h = omega arith

module _ (a b c d : ℕ) (f : a ≤ 1) (g : b ≤ 1) (h : c ≤ 1) (i : d ≤ 1) where
  abbrev sum : ℕ
  sum = a + 2 * b + 4 * c + 8 * d

  digit_1 : sum % 2 ≡ a
  digit_1 = omega arith

  digit_2 : sum / 2 % 2 ≡ b
  digit_2 = let e : sum / 2 ≡ b + 2 * (c + 2 * d) = omega arith in rw e (digit b (c + 2 * d) g)

  digit_4 : sum / 4 % 2 ≡ c
  digit_4 = let e : sum / 4 ≡ c + 2 * d = omega arith in rw e (digit c d h)

  digit_8 : sum / 8 % 2 ≡ d
  digit_8 = let e : sum / 8 ≡ d = omega arith in rw e (omega arith)

level_back : (l : Level) → level_bits (level_word l) ≡ l
unfolding level_bits level_word
level_back l =
    let a = bit l.sequence in
    let b = bit l.colon in
    let c = bit l.question in
    let d = bit l.implicit in
    let f = bit_low l.sequence in
    let g = bit_low l.colon in
    let h = bit_low l.question in
    let i = bit_low l.implicit in
    rw (digit_1 a b c d f g h i, digit_2 a b c d f g h i, digit_4 a b c d f g h i, digit_8 a b c d f g h i)
    (rw (bit_is l.sequence, bit_is l.colon, bit_is l.question, bit_is l.implicit))

-- a candidate that was stored is read back, if its column is one of a text

abbrev pub ColumnFits : Candidate → Type 0
ColumnFits Absent = Unit {0}
ColumnFits (Possible required n m) = m.col ≤ 1_048_576

module _ (l : List ℕ) (n : ℕ) (h : n + 5 ≤ length l) where
  key_absent : key_at (set l n 0) n ≡ Absent
  unfolding key_at
  key_absent = let o : n < length l = omega arith in rw (get_or-set_same l n 0 0 o)

  module _ (k c : ℕ) (m : Mark) (low : m.col ≤ 1_048_576) where
    abbrev five : List ℕ
    five = k ∷ c ∷ m.index ∷ m.line ∷ m.col ∷ []

    word : (j : ℕ) → j < 5 → get_or (sets l n five) (n + j) 0 ≡ get_or five j 0
    word j g = get_d_sets five l n j h g

    first_word : get_or (sets l n five) n 0 ≡ k
    first_word = let e : n + 0 ≡ n = omega arith in rw e at (word 0 (omega arith))

    key_five : key_at (sets l n five) n ≡ pick (eqb k 0) Absent (Possible (eqb k 2) c m)
    unfolding key_at
    key_five = rw (first_word, word 1 (omega arith), word 2 (omega arith), word 3 (omega arith), word 4 (omega arith), at_most_stays 1_048_576 m.col low)

  key_back : (k : Candidate) → ColumnFits k → key_at (sets l n (key_words k)) n ≡ k
  unfolding key_words
  key_back Absent g = key_absent
  key_back (Possible true c m) g = key_five 2 c m g
  key_back (Possible false c m) g = key_five 1 c m g

pub key_few : (k : Candidate) → length (key_words k) ≤ 5
unfolding key_words
key_few Absent = omega arith
key_few (Possible r n m) = omega arith

-- whether it is required is told by its first word

pub required_word : (a : List ℕ) (n : ℕ) → eqb (get_or a n 0) 2 ≡ is_required (key_at a n)
unfolding key_at is_required
required_word a n =
    by_test (eqb (get_or a n 0) 0)
    (λ q. let e = eqb-true (get_or a n 0) 0 q in rw e)
    (λ q. rw q)

-- frames of the same words are the same

pub key_same : (a e : List ℕ) (n : ℕ) → ((j : ℕ) → j < 5 → get_or e (n + j) 0 ≡ get_or a (n + j) 0) → key_at e n ≡ key_at a n
unfolding key_at
key_same a e n s =
    let z : n + 0 ≡ n = omega arith in
    let f : get_or e n 0 ≡ get_or a n 0 = rw z at (s 0 (omega arith)) in
    rw (f, s 1 (omega arith), s 2 (omega arith), s 3 (omega arith), s 4 (omega arith))

pub keys_same : (a e : List ℕ) (d : ℕ) → ((n : ℕ) → n < d → key_of e n ≡ key_of a n) → frame_keys e d ≡ frame_keys a d
unfolding frame_keys
keys_same a e zero s = refl
keys_same a e (suc d) s = rw (s d (omega arith), keys_same a e d (λ n h. s n (omega arith)))

pub levels_same : (a e : List ℕ) (d : ℕ) → ((n : ℕ) → n ≤ d → level_of e n ≡ level_of a n) → frame_levels e d ≡ frame_levels a d
unfolding frame_levels
levels_same a e zero s = refl
levels_same a e (suc d) s = rw (s (suc d) (omega arith), levels_same a e d (λ n h. s n (omega arith)))

levels_on : (a e : List ℕ) (d : ℕ) (l : Level) → level_of e d ≡ l → ((n : ℕ) → (n ≡ d → ⊥) → level_of e n ≡ level_of a n)
    → frame_levels e d ≡ with_level l (frame_levels a d)
unfolding frame_levels with_level
levels_on a e zero l q s = refl
levels_on a e (suc d) l q s = rw (q, levels_same a e d (λ n h. s n (λ f. omega arith)))

-- words behind the entries that are the same

pub frames_stay : (a e : List ℕ) → ((k : ℕ) → entry_words ≤ k → get_or e k 0 ≡ get_or a k 0) → FramesStay a e
frames_stay a e s =
    let key : (n : ℕ) → key_of e n ≡ key_of a n = λ n. key_same a e (frame_at n) (λ j h. s (frame_at n + j) (omega arith)) in
    let level : (n : ℕ) → level_of e n ≡ level_of a n = λ n. rw (s (frame_at n + 5) (omega arith)) in
    record {
      key = key;
      level = level;
      keys = λ n. keys_same a e n (λ m h. key m);
      levels = λ n. levels_same a e n (λ m h. level m);
    }

pub frames_stay_same : (a : List ℕ) → FramesStay a a
frames_stay_same a = frames_stay a a (λ k h. refl)

pub frames_stay_then : {a b c : List ℕ} → FramesStay a b → FramesStay b c → FramesStay a c
frames_stay_then p q =
    record {
      key = λ n. q.key n ∙ p.key n;
      level = λ n. q.level n ∙ p.level n;
      keys = λ n. q.keys n ∙ p.keys n;
      levels = λ n. q.levels n ∙ p.levels n;
    }

-- a candidate is stored

module _ (a : List ℕ) (d : ℕ) (k : Candidate) where
  abbrev with_key : List ℕ
  with_key = put_key a d k

  apart : (n j : ℕ) → j < 6 → (n ≡ d → ⊥) → get_or with_key (frame_at n + j) 0 ≡ get_or a (frame_at n + j) 0
  apart n j h o =
      let w = key_few k in
      getD_sets_other (key_words k) a (frame_at d) (frame_at n + j) (λ f g. o (omega arith))

  key_apart : (n : ℕ) → (n ≡ d → ⊥) → key_of with_key n ≡ key_of a n
  key_apart n o = key_same a with_key (frame_at n) (λ j h. apart n j (omega arith) o)

  level_apart : (n : ℕ) → level_of with_key n ≡ level_of a n
  level_apart n =
      let w = key_few k in
      rw (getD_sets_other (key_words k) a (frame_at d) (frame_at n + 5) (λ f g. omega arith))

  below_apart : (n : ℕ) → n ≤ d → frame_keys with_key n ≡ frame_keys a n
  below_apart n h = keys_same a with_key n (λ m l. key_apart m (λ e. omega arith))

  pub key_stored : {e : List ℕ} → d ≤ 255 → stack_words ≤ length a → ColumnFits k → e ≡ with_key → SetsKey a e d k
  unfolding frame_keys
  key_stored h n g q =
      let b = key_back a (frame_at d) (omega arith) k g in
      rw q (record {
        words = refl;
        key = b;
        others = key_apart;
        below = below_apart;
        keys = rw (b, below_apart d (omega arith));
        level = level_apart;
        levels = λ n. levels_same a with_key n (λ m l. level_apart m);
        entries = entries_stay a with_key (λ n j. getD_sets_other (key_words k) a (frame_at d) n (λ f i. omega arith));
      })

-- a level is stored

module _ (a : List ℕ) (d : ℕ) (l : Level) where
  abbrev with_word : List ℕ
  with_word = put_level a d l

  run_of_apart : (k : ℕ) → (k ≡ frame_at d + 5 → ⊥) → get_or with_word k 0 ≡ get_or a k 0
  run_of_apart k o = get_or-set_other a (frame_at d + 5) k (level_word l) 0 o

  key_stays : (n : ℕ) → key_of with_word n ≡ key_of a n
  key_stays n = key_same a with_word (frame_at n) (λ j h. run_of_apart (frame_at n + j) (λ e. omega arith))

  level_stays : (n : ℕ) → (n ≡ d → ⊥) → level_of with_word n ≡ level_of a n
  level_stays n o = rw (run_of_apart (frame_at n + 5) (λ e. o (omega arith)))

  pub level_stored : {e : List ℕ} → d ≤ 255 → stack_words ≤ length a → e ≡ with_word → SetsLevel a e d l
  level_stored h n q =
      let o : frame_at d + 5 < length a = omega arith in
      let b : level_of with_word d ≡ l = rw (get_or-set_same a (frame_at d + 5) (level_word l) 0 o) (level_back l) in
      rw q (record {
        words = refl;
        level = b;
        others = level_stays;
        levels = levels_on a with_word d l b level_stays;
        key = key_stays;
        keys = λ n. keys_same a with_word n (λ m l. key_stays m);
        entries = entries_stay a with_word (λ k h. run_of_apart k (λ e. omega arith));
      })
