-- Words with more behind them: what the first words hold is read as before, and what is stored in them leaves the rest.
use Prim.Native.Nat.{◌+◌, ◌<◌, ◌≤◌, suc, ℕ}
use mathlib.Core.Bool.{Bool, ◌&&◌, false, not, true}
use mathlib.Core.List.{List, [], ◌++◌, ◌∷◌}
use mathlib.Core.Path.{◌≡◌}
use native.Mathlib.Omega.{arith}
use lib.Dec.{leb, ltb}
use lib.ListN.{get_or, get_or-append, length, length-set, set}
use lib.Seq.{sets}
use Rattle.std.proofs.lemmas.List.{set-append_left}
use Rattle.yaml_text.specs.Pick.{pick}
use Rattle.yaml_text.specs.Test.{by_pick}
use Rattle.yaml_scan.specs.declared.Candidate.{Candidate}
use Rattle.yaml_scan.specs.declared.Level.{Level}
use Rattle.yaml_scan.specs.Indent.{Entry, drop_for, indents_of}
use Rattle.yaml_scan.specs.Indent as definition
use Rattle.stacks.specs.Stack.{entry_words, frame_at, stack_words}
use Rattle.stacks.specs.Indent.{EntriesStay, word_of}
use Rattle.stacks.specs.Frame.{frame_keys, frame_levels, key_of, key_words, level_of, level_word, put_key, put_level}
use Rattle.stacks.specs.Roll.{rolled_words}
use Rattle.stacks.proofs.Entries.{entries_stay}
use Rattle.stacks.proofs.Frames.{key_few, key_same, keys_same, levels_same}

-- a is b with x behind it, and b holds the stacks
pub record Longer (x a b : List ℕ) : Type 0 where
  pub is : a ≡ b ++ x
  pub long : stack_words ≤ length b

-- what is stored

pub pick_longer : (c : Bool) {x a b u v : List ℕ} → Longer x a b → Longer x u v → Longer x (pick c a u) (pick c b v)
pick_longer true h g = h
pick_longer false h g = g

pub set_longer : {x a b : List ℕ} → Longer x a b → (i w : ℕ) → i < stack_words → Longer x (set a i w) (set b i w)
set_longer {x} {b = b} h i w l =
    let n = length-set b i w in
    record { is = rw h.is (set-append_left b x i w (omega (arith, h.long))); long = omega (arith, h.long) }

sets_longer : (ws : List ℕ) {x a b : List ℕ} → Longer x a b → (i : ℕ) → i + length ws ≤ stack_words → Longer x (sets a i ws) (sets b i ws)
sets_longer [] h i l = h
sets_longer (w ∷ ws) h i l = sets_longer ws (set_longer h i w (omega arith)) (suc i) (omega arith)

pub put_key_longer : {x a b : List ℕ} → Longer x a b → (d : ℕ) (k : Candidate) → d ≤ 255 → Longer x (put_key a d k) (put_key b d k)
put_key_longer h d k l = let n = key_few k in sets_longer (key_words k) h (frame_at d) (omega arith)

pub put_level_longer : {x a b : List ℕ} → Longer x a b → (d : ℕ) (l : Level) → d ≤ 255 → Longer x (put_level a d l) (put_level b d l)
put_level_longer h d l g = set_longer h (frame_at d + 5) (level_word l) (omega arith)

-- at most one entry goes
drop_few : (edge i : ℕ) (es : List Entry) → length (drop_for edge i es).entries ≤ length es
unfolding drop_for
drop_few edge i [] = omega arith
drop_few edge i (e ∷ es) =
    by_pick (λ (s : definition.Indents). length s.entries ≤ suc (length es)) (leb i edge && not e.ends) (indents_of e.old es) (indents_of i (e ∷ es)) (omega arith) (omega arith)

pub rolled_longer : {x a b : List ℕ} → Longer x a b → (room edge : ℕ) (s : definition.Indents) → length s.entries ≤ entry_words
    → Longer x (rolled_words room edge a s) (rolled_words room edge b s)
rolled_longer h room edge s l =
    let d = drop_for edge s.indent s.entries in
    let n = drop_few edge s.indent s.entries in
    pick_longer (ltb d.indent edge) (pick_longer (ltb (length d.entries) room) (set_longer h (length d.entries) (word_of d.indent true) (omega arith)) h) h

-- what is read

module _ {x a b : List ℕ} (h : Longer x a b) where
  word_longer : (k : ℕ) → k < stack_words → get_or a k 0 ≡ get_or b k 0
  word_longer k l = rw h.is (get_or-append b x 0 k (omega (arith, h.long)))

  pub entries_longer : EntriesStay b a
  entries_longer = entries_stay b a (λ k l. word_longer k (omega arith))

  pub key_longer : (d : ℕ) → d ≤ 255 → key_of a d ≡ key_of b d
  key_longer d l = key_same b a (frame_at d) (λ j g. word_longer (frame_at d + j) (omega arith))

  pub level_longer : (d : ℕ) → d ≤ 255 → level_of a d ≡ level_of b d
  level_longer d l = rw (word_longer (frame_at d + 5) (omega arith))

  pub keys_longer : (n : ℕ) → n ≤ 256 → frame_keys a n ≡ frame_keys b n
  keys_longer n l = keys_same b a n (λ d g. key_longer d (omega arith))

  pub levels_longer : (n : ℕ) → n ≤ 255 → frame_levels a n ≡ frame_levels b n
  levels_longer n l = levels_same b a n (λ d g. level_longer d (omega arith))
