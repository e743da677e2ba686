-- Between two calls no token that waits is a possible key but the last, the candidate of one level, before which nothing goes in yet.
-- So where a call has to scan, nothing waits, or that token alone.
use Rattle.std.specs.Prelude.{◌+◌, ◌<◌, ◌≤◌, suc, zero, ℕ, false, true, List, [], ◌++◌, ◌∷◌, ◌⊎◌, ◌≡◌, refl, ltb, drop, length}
use Rattle.std.proofs.Common.{inl, inr, ◌∙◌, ap, sym, arith, length-append, ltb-false, ltb-true, ne_eqb}
use Rattle.yaml_text.specs.Test.{by_test, true_false}
use Rattle.yaml_lexeme.specs.Token.{Token}
use Rattle.yaml_scan.specs.declared.Candidate.{Candidate}
use Rattle.yaml_scan.specs.declared.Candidate.TheVariants.{Absent, Possible}
use Rattle.yaml_scan.specs.declared.Limits.{Limits}
use Rattle.yaml_scan.specs.State.{News, State, ends_with, goes_on}
use Rattle.yaml_scan.specs.Slots.{Slot, slot}
use Rattle.yaml_stream.specs.Stream.{Called, Stream, broken, closing, possible, ready, scanning, waits}
use Rattle.yaml_stream.specs.Kept.{From}
use Rattle.yaml_stream.specs.Waiting.{StreamReaches, call_reaches, here as at_once, not_false}
use Rattle.yaml_stream.specs.Answers.{Comes, here, then_call}
use Rattle.yaml_stream.specs.Levels.{OnLevel}

-- nothing goes in yet before the last token that waits
pub record Bare (xs : List Slot) : Type 0 where
  pub others : List Slot
  pub last : Token
  pub is : xs ≡ others ++ (slot last [] ∷ [])

-- between two calls; l: the only flow level that may have a candidate
pub record BetweenCalls (l : ℕ) (s : State) (n : ℕ) (xs : List Slot) : Type 0 where
  pub level : (i : ℕ) → OnLevel i l s.keys
  pub others_not : (i : ℕ) → suc i < s.count → possible i s.keys ≡ false
  pub bare : (xs ≡ []) ⊎ Bare xs

abbrev pub BetweenIn : Stream → Type 0
BetweenIn (scanning s n xs used) = (l : ℕ) × BetweenCalls l s n xs
BetweenIn (closing xs) = Unit {0}
BetweenIn (broken k m) = Unit {0}

-- where a call has to scan

-- the last token waits, alone
pub record Lone (s : State) (n : ℕ) (xs : List Slot) : Type 0 where
  pub last : Token
  pub is : xs ≡ slot last [] ∷ []
  pub numbered : suc n ≡ s.count
  pub first : possible n s.keys ≡ true

pub to_scan : {l : ℕ} {s : State} {n : ℕ} {xs : List Slot} (used : ℕ) → n + length xs ≡ s.count → BetweenCalls l s n xs → ready (scanning s n xs used) ≡ false → (xs ≡ []) ⊎ Lone s n xs
unfolding ready
to_scan {s = s} {n = n} {xs = xs} used c h r = by_slots xs refl
  where
    lone : possible n s.keys ≡ true → (others : List Slot) (last : Token) → xs ≡ others ++ (slot last [] ∷ []) → suc n ≡ s.count → Lone s n xs
    lone p [] last e f = record { last = last; is = e; numbered = f; first = p }
    lone p (y ∷ ys) last e f =
        let g = ap length e in
        absurd (omega (arith, length-append ys (slot last [] ∷ [])))

    last_one : (ys : List Slot) → 1 ≤ length ys → xs ≡ ys → possible n s.keys ≡ true → suc n ≡ s.count
    last_one ys b e p =
        by_test (ltb (suc n) s.count)
        (λ f. true_false (sym p ∙ h.others_not n (ltb-true (suc n) s.count f)))
        (λ f. let g = ltb-false (suc n) s.count f in let i = ap length e in omega arith)

    by_bare : (y : Slot) (ys : List Slot) → xs ≡ y ∷ ys → possible n s.keys ≡ true → (xs ≡ []) ⊎ Bare xs → (xs ≡ []) ⊎ Lone s n xs
    by_bare y ys e p (inl f) = inl f
    by_bare y ys e p (inr b) = inr (lone p b.others b.last b.is (last_one (y ∷ ys) (omega arith) e p))

    by_slots : (ys : List Slot) → xs ≡ ys → (xs ≡ []) ⊎ Lone s n xs
    by_slots [] e = inl e
    by_slots (y ∷ ys) e = by_bare y ys e (not_false (possible n s.keys) (rw e at r)) h.bare

-- a step

-- tokens before those that candidates name are no possible keys
pub from_not : (i k : ℕ) (ks : List Candidate) → From k ks → i < k → possible i ks ≡ false
unfolding possible
from_not i k [] h b = refl
from_not i k (Absent ∷ ks) h b = from_not i k ks h b
from_not i k (Possible required j m ∷ ks) h b = rw (ne_eqb i j (λ e. omega (arith, h.0)), from_not i k ks h.1 b)

-- behind it the first waiting token is still a possible key, or the call pauses; the level is that from which the step was made
abbrev pub Pauses : State → ℕ → List Slot → News → Type 0
Pauses s n xs (goes_on es t) = (possible n t.keys ≡ true) ⊎ BetweenCalls (length s.levels) t n (waits n xs es)
Pauses s n xs (ends_with es) = Unit {0}

-- a token is given

bare_rest : (x : Slot) (xs : List Slot) → (x ∷ xs ≡ []) ⊎ Bare (x ∷ xs) → (xs ≡ []) ⊎ Bare xs
bare_rest x xs (inl e) = let z : ◌≡◌ {A = ℕ} 0 1 = cc in absurd (omega arith)
bare_rest x xs (inr b) = by_others b.others b.is
  where
    by_others : (ys : List Slot) → x ∷ xs ≡ ys ++ (slot b.last [] ∷ []) → (xs ≡ []) ⊎ Bare xs
    by_others [] e = let g : xs ≡ [] = cc in inl g
    by_others (y ∷ ys) e = let g : xs ≡ ys ++ (slot b.last [] ∷ []) = cc in inr (record { others = ys; last = b.last; is = g })

bare_part : (t b : Token) (bs : List Token) (xs : List Slot) → (slot t (b ∷ bs) ∷ xs ≡ []) ⊎ Bare (slot t (b ∷ bs) ∷ xs) → (slot t bs ∷ xs ≡ []) ⊎ Bare (slot t bs ∷ xs)
bare_part t b bs xs (inl e) = let z : ◌≡◌ {A = ℕ} 0 1 = cc in absurd (omega arith)
bare_part t b bs xs (inr a) = by_others a.others a.is
  where
    by_others : (ys : List Slot) → slot t (b ∷ bs) ∷ xs ≡ ys ++ (slot a.last [] ∷ []) → (slot t bs ∷ xs ≡ []) ⊎ Bare (slot t bs ∷ xs)
    by_others [] e =
        let g : slot t (b ∷ bs) ≡ slot a.last [] = cc in
        let k : b ∷ bs ≡ [] = ap (λ (x : Slot). x.before) g in
        let z : ◌≡◌ {A = ℕ} 0 1 = cc in
        absurd (omega arith)
    by_others (y ∷ ys) e =
        let g : xs ≡ ys ++ (slot a.last [] ∷ []) = cc in
        inr (record { others = slot t bs ∷ ys; last = a.last; is = ap (λ (zs : List Slot). slot t bs ∷ zs) g })

-- its slot's own, or one that was put in before it: the level stays
pub between_given : {l : ℕ} {s : State} {n : ℕ} {t : Token} {xs : List Slot} → BetweenCalls l s n (slot t [] ∷ xs) → BetweenCalls l s (suc n) xs
between_given {t = t} {xs = xs} h = record { level = h.level; others_not = h.others_not; bare = bare_rest (slot t []) xs h.bare }

pub between_part : {l : ℕ} {s : State} {n : ℕ} {t b : Token} {bs : List Token} {xs : List Slot} → BetweenCalls l s n (slot t (b ∷ bs) ∷ xs) → BetweenCalls l s n (slot t bs ∷ xs)
between_part {t = t} {b = b} {bs = bs} {xs = xs} h = record { level = h.level; others_not = h.others_not; bare = bare_part t b bs xs h.bare }

-- the first slots, whatever goes in before their tokens
pub between_drop : {l : ℕ} {s : State} {n : ℕ} (k i : ℕ) {xs : List Slot} → BetweenCalls l s n xs → BetweenCalls l s i (drop k xs)
between_drop {n = n} k i {xs = xs} h = record { level = h.level; others_not = h.others_not; bare = bare_drop k xs h.bare }
  where
    bare_drop : (j : ℕ) (ys : List Slot) → (ys ≡ []) ⊎ Bare ys → (drop j ys ≡ []) ⊎ Bare (drop j ys)
    bare_drop zero ys b = b
    bare_drop (suc j) [] b = inl refl
    bare_drop (suc j) (y ∷ ys) b = bare_drop j ys (bare_rest y ys b)

-- a call

pub still_first : (s : State) (n : ℕ) (xs : List Slot) (used : ℕ) → possible n s.keys ≡ true → ready (scanning s n xs used) ≡ false
unfolding ready
still_first s n [] used p = refl
still_first s n (x ∷ xs) used p = rw p

-- a fresh state

-- and so in every stream behind whole calls

pub comes_reaches : (limits : Limits) (room : ℕ) {x y : Stream} {ts : List Token} → Comes limits room x ts y → StreamReaches limits room x y
comes_reaches limits room here = at_once
comes_reaches limits room (then_call {y = y} r e) = rw (ap (λ (c : Called). c.stream) e) at (call_reaches limits room y (comes_reaches limits room r))
