-- Stores into a room. `sets l n t` stores t from n on, as far as there is room, and changes nothing else.
use Rattle.std.specs.Prelude.{◌+◌, ◌-◌, ◌≤◌, suc, ℕ, List, [], ◌++◌, ◌∷◌, ◌⊎◌, ◌≡◌, refl, ltb, drop, length, replicate, set, take}
use Rattle.std.proofs.Common.{inl, inr, append-nil, ◌∙◌, sym, arith, drop_of_length-le, length-drop, take-append-drop, length-take-le, take_all, ltb-false, ltb-true}
use Rattle.std.proofs.Math.Seq.{length-sets, set_out}
use Rattle.std.proofs.lemmas.List.Edits.{sets}
use Rattle.std.proofs.lemmas.List.{take-set-le}
use Rattle.yaml_text.specs.Test.{by_test}

-- the part of l that `&l[n..]` lends is its end
pub rest_whole : (n : ℕ) (l : List ℕ) → take (length l - n) (drop n l) ≡ drop n l
rest_whole n l = let e = length-drop n l in take_all (length l - n) (drop n l) (omega arith)

-- past the end nothing is stored
pub sets_out : {A : Type 0} (t l : List A) (n : ℕ) → length l ≤ n → sets l n t ≡ l
sets_out [] l n h = refl
sets_out (a ∷ t) l n h = let k : length l ≤ suc n = omega arith in rw (set_out l n a h) (sets_out t l (suc n) k)

pub sets_past : (t l : List ℕ) (n k : ℕ) → length l ≤ n → length l ≤ k → sets l n t ≡ sets l k t
sets_past t l n k h g = sets_out t l n h ∙ sym (sets_out t l k g)

-- one text behind another is one text
pub sets_join : {A : Type 0} (s t l : List A) (n : ℕ) → sets (sets l n s) (n + length s) t ≡ sets l n (s ++ t)
sets_join [] t l n = let e : n + 0 ≡ n = omega arith in rw e
sets_join (a ∷ s) t l n = let e : n + suc (length s) ≡ suc n + length s = omega arith in rw e (sets_join s t (set l n a) (suc n))

-- only so much of a text is stored as there is room
pub sets_fit : {A : Type 0} (s l : List A) (n k : ℕ) → (length s ≤ k) ⊎ (length l ≤ n + k) → sets l n s ≡ sets l n (take k s)
sets_fit s l n k (inl h) = rw (take_all k s h) refl
sets_fit s l n k (inr h) =
    by_test (ltb k (length s))
    (λ e. let m = length-take-le k s (omega (arith, ltb-true k (length s) e)) in
    sym (rw take-append-drop at (sets_join (take k s) (drop k s) l n))
    ∙ sets_out (drop k s) (sets l n (take k s)) (n + length (take k s)) (rw (length-sets, m) h))
    (λ e. rw (take_all k s (ltb-false k (length s) e)) refl)

-- what stands before the text stays
pub take_sets : (t l : List ℕ) (k n : ℕ) → k ≤ n → take k (sets l n t) ≡ take k l
take_sets [] l k n h = refl
take_sets (a ∷ t) l k n h = let g : k ≤ suc n = omega arith in take_sets t (set l n a) k (suc n) g ∙ take-set-le k l n a h

pub set_behind : (p q : List ℕ) (i a : ℕ) → set (p ++ q) (length p + i) a ≡ p ++ set q i a
set_behind [] q i a = let e : 0 + i ≡ i = omega arith in rw e
set_behind (x ∷ p) q i a = let e : suc (length p) + i ≡ suc (length p + i) = omega arith in rw (e, set_behind p q i a)

sets_behind : (t p q : List ℕ) (i : ℕ) → sets (p ++ q) (length p + i) t ≡ p ++ sets q i t
sets_behind [] p q i = refl
sets_behind (a ∷ t) p q i =
    let e : suc (length p + i) ≡ length p + suc i = omega arith in
    rw (set_behind p q i a, e) (sets_behind t p (set q i a) (suc i))

-- a writer that was lent `&mut l[n..]` and wrote t there has written t at n
pub sets_at : (t l : List ℕ) (n : ℕ) → n ≤ length l → take n l ++ (sets (drop n l) 0 t ++ drop (length l - n) (drop n l)) ≡ sets l n t
sets_at t l n h =
    let k : length (drop n l) ≤ length l - n = (let e = length-drop n l in omega arith) in
    let m : n + 0 ≡ n = omega arith in
    let w = sets_behind t (take n l) (drop n l) 0 in
    let v = rw (take-append-drop, length-take-le n l h, m) at w in
    rw (drop_of_length-le (drop n l) k, append-nil) (sym v)

-- one store more of a text, at its end
pub sets_snoc : (l : List ℕ) (n a : ℕ) (t : List ℕ) {m o : List ℕ} → m ≡ sets l n t → o ≡ set m (n + length t) a → o ≡ sets l n (t ++ (a ∷ []))
sets_snoc l n a t e f = f ∙ rw e (sets_join t (a ∷ []) l n)

-- a from n on
abbrev pub filled : {A : Type 0} → A → List A → ℕ → List A
filled a l n = take n l ++ replicate (length l - n) a

-- zeros from n on
abbrev pub cleared : List ℕ → ℕ → List ℕ
cleared = filled 0

-- stores from n on are cleared with the rest
pub cleared_sets : (t l : List ℕ) (n k : ℕ) → n ≤ k → cleared (sets l k t) n ≡ cleared l n
cleared_sets t l n k h = rw (take_sets t l n k h, length-sets l k t)
