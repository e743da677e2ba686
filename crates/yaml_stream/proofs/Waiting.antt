-- Theorems about specs/Waiting, and what rests on them.
use Rattle.std.specs.Prelude.{◌+◌, ◌≤◌, suc, ℕ, false, true, List, [], ◌++◌, ◌∷◌, ◌⊎◌, ◌≡◌, refl, eqb, ltb, length}
use Rattle.std.proofs.Common.{inl, inr, ◌∙◌, ap, sym, arith, eqb-true, ltb-false}
use Rattle.yaml_text.specs.Refusal.{got}
use Rattle.yaml_text.specs.Test.{both_true, by_test, true_false}
use Rattle.yaml_text.specs.All.{all_both, all_got}
use Rattle.yaml_lexeme.specs.Token.{Token}
use Rattle.yaml_scan.specs.declared.Candidate.{Candidate}
use Rattle.yaml_scan.specs.declared.Candidate.TheVariants.{Absent, Possible}
use Rattle.yaml_scan.specs.declared.Limits.{Limits}
use Rattle.yaml_scan.specs.State.{Event, State, goes_on, mark_of, put}
use Rattle.yaml_scan.specs.Scan.{step}
use Rattle.yaml_scan.specs.Slots.{Slot, flat, slot}
use Rattle.yaml_scan.specs.Budget.{on_news}
use Rattle.yaml_stream.specs.Stream.{Stream, after_news, behind, crowded, fresh, give, most_waiting, possible, ready, scanning, stepped, waits}
use Rattle.yaml_stream.specs.Kept.{From, step_keeps}
use Rattle.yaml_stream.specs.Waits.{flat_length, from_next, waits_length}
use Rattle.yaml_stream.specs.Changes.{behind_by, stepped_by}
use Rattle.yaml_stream.proofs.Changes.{give_by}
use Rattle.yaml_stream.specs.Depth.{step_shallow}
use Rattle.yaml_stream.specs.Alone.{Absents, IsFirstKey, absents_not, holds_none, holds_possible}
use Rattle.yaml_stream.proofs.Alone.{step_last}
use Rattle.yaml_stream.specs.Here.{Behind, levelled_alone, step_behind, step_levelled}
use Rattle.yaml_stream.specs.Waiting.{Few, Held, StreamKeeps, not_false, waits_then, fresh_keeps, StreamReaches, reaches_by}

from_possible : (k n : ℕ) (ks : List Candidate) → From k ks → possible n ks ≡ true → k ≤ n
unfolding possible
from_possible k n [] h e = true_false (sym e)
from_possible k n (Absent ∷ ks) h e = from_possible k n ks h e
from_possible k n (Possible required j m ∷ ks) h e =
    by_test (eqb n j)
    (λ i. let g = eqb-true n j i in omega (arith, h.0))
    (λ i. from_possible k n ks h.1 (rw i at e))

one_waits : (n : ℕ) (s : State) (xs others : List Slot) (last : Token) → xs ≡ others ++ (slot last [] ∷ []) → n + length others ≤ n → length (flat xs) ≤ most_waiting
unfolding flat
one_waits n s xs [] last e b = rw e (omega arith)
one_waits n s xs (y ∷ ys) last e b = absurd (omega arith)

pub few_before : {limits : Limits} {s : State} {n : ℕ} {xs : List Slot} (used : ℕ) → Held limits s n xs → ready (scanning s n xs used) ≡ false → length (flat xs) ≤ most_waiting
unfolding ready flat
few_before {s = s} {n = n} {xs = xs} used h r = by_slots xs refl
  where
    by_few : possible n s.keys ≡ true → Few s n xs → length (flat xs) ≤ most_waiting
    by_few e (inl b) = b
    by_few e (inr a) = one_waits n s xs a.others a.last a.is (from_possible (n + length a.others) n s.keys a.later e)

    by_slots : (ys : List Slot) → xs ≡ ys → length (flat xs) ≤ most_waiting
    by_slots [] e = rw e (omega arith)
    by_slots (y ∷ ys) e = by_few (not_false (possible n s.keys) (rw e at r)) h.few

-- the first waiting token is a candidate, or none waits
pub holds_before : {limits : Limits} {s : State} {n : ℕ} {xs : List Slot} (used : ℕ) → Held limits s n xs → ready (scanning s n xs used) ≡ false → IsFirstKey n s.keys
unfolding ready
holds_before {s = s} {n = n} {xs = xs} used h r = by_slots xs refl
  where
    by_slots : (ys : List Slot) → xs ≡ ys → IsFirstKey n s.keys
    by_slots [] e =
        let c = rw e at h.counted in
        let f : s.count ≡ n = omega arith in
        holds_none n s.keys h.from (rw f at h.falls)
    by_slots (y ∷ ys) e = holds_possible n s.count s.keys h.from h.falls (not_false (possible n s.keys) (rw e at r))

not_crowded : (s : State) (n : ℕ) (xs : List Slot) → crowded s n xs ≡ false → possible n s.keys ≡ true → length (flat xs) ≤ most_waiting
unfolding crowded
not_crowded s n xs e p =
    by_test (ltb most_waiting (length (flat xs)))
    (λ k. true_false (rw (k, p) at e))
    (λ k. ltb-false most_waiting (length (flat xs)) k)

behind_keeps : (limits : Limits) (room : ℕ) (s : State) (n : ℕ) (xs : List Slot) (used : ℕ) → (crowded s n xs ≡ false → Held limits s n xs) → StreamKeeps limits (behind room s n xs used)
behind_keeps limits room s n xs used h = behind_by (StreamKeeps limits) room s n xs used tt (λ _. tt) h

few_behind : (s : State) (n k : ℕ) (xs others : List Slot) (last : Token) → xs ≡ others ++ (slot last [] ∷ []) → k ≡ n + length others → crowded s n xs ≡ false
    → (possible n s.keys ≡ true) ⊎ From k s.keys → Few s n xs
few_behind s n k xs others last e f c (inl p) = inl (not_crowded s n xs c p)
few_behind s n k xs others last e f c (inr h) = inr (record { others = others; last = last; is = e; later = rw f at h })

scanned_keeps : (limits : Limits) (room : ℕ) (s : State) (n : ℕ) (xs : List Slot) (used : ℕ) → Held limits s n xs → ready (scanning s n xs used) ≡ false
    → StreamKeeps limits (after_news room n xs used (step limits s))
scanned_keeps limits room s n xs used h r =
    on_news (λ w. StreamKeeps limits (after_news room n xs used w))
    (all_both (step_keeps n limits s (omega (arith, h.counted)) h.from) (all_both (step_last n limits s) (all_both (step_shallow limits s h.shallow) (step_levelled limits s h.levelled))))
    (λ es t i.
    let k = i.1.0 in
    let l = k.1 in
    behind_keeps limits room t n (waits n xs es) _ (λ c. record {
      from = i.0.1;
      counted = omega (arith, waits_length n xs es, i.0.2, h.counted);
      falls = rw k.2 (l.falls h.falls);
      shallow = i.1.1.0;
      levelled = i.1.1.1;
      few = few_behind t n k.0 (waits n xs es) (waits n xs l.front) l.last (waits_then n xs es l.front l.last l.is)
          (omega (arith, l.numbered, waits_length n xs l.front, h.counted)) c (l.alone (holds_before used h r));
    }))
    (λ _ _. tt) (λ _ _. tt)

pub stepped_keeps : (limits : Limits) (room : ℕ) (x : Stream) → StreamKeeps limits x → ready x ≡ false → StreamKeeps limits (stepped limits room x)
stepped_keeps limits room x h r = stepped_by (StreamKeeps limits) limits room (λ s n xs used k e. scanned_keeps limits room s n xs used k e) x h r

few_given : (s : State) (n : ℕ) (t : Token) (xs : List Slot) → Few s n (slot t [] ∷ xs) → Few s (suc n) xs
unfolding flat
few_given s n t xs (inl b) = inl (omega (arith, flat_length (slot t []) xs))
few_given s n t xs (inr a) = by_others a.others a.is a.later
  where
    by_others : (ys : List Slot) → slot t [] ∷ xs ≡ ys ++ (slot a.last [] ∷ []) → From (n + length ys) s.keys → Few s (suc n) xs
    by_others [] e f = let g : xs ≡ [] = cc in inl (rw g (omega arith))
    by_others (y ∷ ys) e f =
        let g : xs ≡ ys ++ (slot a.last [] ∷ []) = cc in
        let k : n + length (y ∷ ys) ≡ suc n + length ys = omega arith in
        inr (record { others = ys; last = a.last; is = g; later = rw k at f })

-- one of those put in before a slot's token
few_part : (s : State) (n : ℕ) (t b : Token) (bs : List Token) (xs : List Slot) → Few s n (slot t (b ∷ bs) ∷ xs) → Few s n (slot t bs ∷ xs)
few_part s n t b bs xs (inl h) = inl (omega (arith, flat_length (slot t (b ∷ bs)) xs, flat_length (slot t bs) xs))
few_part s n t b bs xs (inr a) = by_others a.others a.is a.later
  where
    by_others : (ys : List Slot) → slot t (b ∷ bs) ∷ xs ≡ ys ++ (slot a.last [] ∷ []) → From (n + length ys) s.keys → Few s n (slot t bs ∷ xs)
    by_others [] e f =
        let g : slot t (b ∷ bs) ≡ slot a.last [] = cc in
        let k : b ∷ bs ≡ [] = ap (λ (x : Slot). x.before) g in
        let z : ◌≡◌ {A = ℕ} 0 1 = cc in
        absurd (omega arith)
    by_others (y ∷ ys) e f =
        let g : xs ≡ ys ++ (slot a.last [] ∷ []) = cc in
        inr (record { others = slot t bs ∷ ys; last = a.last; is = ap (λ (zs : List Slot). slot t bs ∷ zs) g; later = f })

pub give_keeps : (limits : Limits) (x : Stream) → StreamKeeps limits x → StreamKeeps limits (give x).stream
give_keeps limits x h =
    give_by (StreamKeeps limits)
    (λ s n used b bs t xs k. record { from = k.from; counted = k.counted; falls = k.falls; shallow = k.shallow; levelled = k.levelled; few = few_part s n t b bs xs k.few })
    (λ s n used t xs e k. record {
      from = from_next n s.keys k.from e;
      counted = omega (arith, k.counted);
      falls = k.falls;
      shallow = k.shallow;
      levelled = k.levelled;
      few = few_given s n t xs k.few;
    })
    (λ b bs t xs k. tt) (λ t xs k. tt) x h

pub reaches_keeps : (limits : Limits) (room : ℕ) {x y : Stream} → StreamKeeps limits x → StreamReaches limits room x y → StreamKeeps limits y
reaches_keeps limits room h r = reaches_by (StreamKeeps limits) limits room (λ z k e. stepped_keeps limits room z k e) (λ z k. give_keeps limits z k) h r

-- before each scanning step at most 4,096 tokens wait
pub waiting_before : (limits : Limits) (bytes : List ℕ) (words room : ℕ) {s : State} {n used : ℕ} {xs : List Slot}
    → StreamReaches limits room (fresh limits bytes words) (scanning s n xs used) → ready (scanning s n xs used) ≡ false → length (flat xs) ≤ most_waiting
waiting_before limits bytes words room {used = used} r e = few_before used (reaches_keeps limits room (fresh_keeps limits bytes words) r) e

-- where 51 is answered, the current mark is the end of the token that the step scanned
pub crowded_mark : (limits : Limits) (bytes : List ℕ) (words room : ℕ) {s : State} {n used : ℕ} {xs : List Slot}
    → StreamReaches limits room (fresh limits bytes words) (scanning s n xs used) → (es : List Event) (t : State) → step limits s ≡ got (goes_on es t)
    → crowded t n (waits n xs es) ≡ true → (fs : List Event) × (k : Token) × (es ≡ fs ++ (put k ∷ [])) × (k.end ≡ mark_of t)
unfolding crowded
crowded_mark limits bytes words room {s = s} {n = n} {xs = xs} r es t e c =
    let h = reaches_keeps limits room (fresh_keeps limits bytes words) r in
    let b : Behind (goes_on es t) = all_got (step_behind limits s (levelled_alone s h.levelled)) e in
    (b.0, b.1, b.2, by_mark b.1 (both_true (ltb most_waiting (length (flat (waits n xs es)))) _ c).1 b.3)
  where
    by_mark : (k : Token) → possible n t.keys ≡ true → (k.end ≡ mark_of t) ⊎ Absents t.keys → k.end ≡ mark_of t
    by_mark k p (inl f) = f
    by_mark k p (inr a) = true_false (sym p ∙ absents_not n t.keys a)
