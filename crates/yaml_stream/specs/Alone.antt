-- Where the first waiting token is a possible key before a step and not behind it, the only candidate that is left is the token that came last.
use Rattle.std.specs.Prelude.{◌+◌, ◌≤◌, suc, ℕ, Bool, ◌||◌, false, true, List, [], ◌++◌, ◌∷◌, ◌⊎◌, ◌≡◌, refl, eqb, drop}
use Rattle.std.proofs.Common.{sym, arith, eqb-true}
use Rattle.yaml_text.specs.Test.{by_test, true_false}
use Rattle.yaml_lexeme.specs.Token.{Token}
use Rattle.yaml_scan.specs.declared.Candidate.{Candidate}
use Rattle.yaml_scan.specs.declared.Candidate.TheVariants.{Absent, Possible}
use Rattle.yaml_scan.specs.State.{Event, News, State, ends_with, goes_on, put, puts}
use Rattle.yaml_scan.specs.Candidates.{Fall}
use Rattle.yaml_scan.specs.Steps.{Gapped, gapped}
use Rattle.yaml_stream.specs.Stream.{possible}
use Rattle.yaml_stream.specs.Kept.{From}

-- no candidate
abbrev pub Absents : List Candidate → Type 0
Absents [] = Unit {0}
Absents (Absent ∷ ks) = Absents ks
Absents (Possible required k m ∷ ks) = ⊥

pub absents_drop : (ks : List Candidate) → Absents ks → Absents (drop 1 ks)
absents_drop [] h = tt
absents_drop (Absent ∷ ks) h = h
absents_drop (Possible required n m ∷ ks) h = absurd h

-- where no candidate is left, no token is a possible key
pub absents_not : (n : ℕ) (ks : List Candidate) → Absents ks → possible n ks ≡ false
unfolding possible
absents_not n [] h = refl
absents_not n (Absent ∷ ks) h = absents_not n ks h
absents_not n (Possible required k m ∷ ks) h = absurd h

-- none is below n, and none is from n on
fall_absents : (n : ℕ) (ks : List Candidate) → Fall n ks → From n ks → Absents ks
fall_absents n [] f h = tt
fall_absents n (Absent ∷ ks) f h = fall_absents n ks f h
fall_absents n (Possible required k m ∷ ks) f h = absurd (omega (arith, f.0, h.0))

-- token n is a candidate, and none came before it: it is that of a level further out, or of this one, and then there is none further out
pub data IsFirstKey (n : ℕ) (ks : List Candidate) : Type 0 where
  outer : possible n (drop 1 ks) ≡ true → IsFirstKey n ks
  none : Absents ks → IsFirstKey n ks
  only : possible n ks ≡ true → Absents (drop 1 ks) → IsFirstKey n ks

pub possible_more : (n : ℕ) (c : Candidate) (ks : List Candidate) → possible n ks ≡ true → possible n (c ∷ ks) ≡ true
unfolding possible
possible_more n Absent ks e = e
possible_more n (Possible required k m) ks e = rw e (or_true (eqb n k))
  where
    or_true : (b : Bool) → (b || true) ≡ true
    or_true true = refl
    or_true false = refl

-- so it is where n is a possible key
pub holds_possible : (n b : ℕ) (ks : List Candidate) → From n ks → Fall b ks → possible n ks ≡ true → IsFirstKey n ks
unfolding possible
holds_possible n b [] h f e = true_false (sym e)
holds_possible n b (Absent ∷ ks) h f e = outer e
holds_possible n b (Possible required k m ∷ ks) h f e =
    by_test (eqb n k)
    (λ i. let j = eqb-true n k i in only e (fall_absents n ks (rw (sym j) at f.1) h.1))
    (λ i. outer (rw i at e))

-- and where all tokens were given
pub holds_none : (n : ℕ) (ks : List Candidate) → From n ks → Fall n ks → IsFirstKey n ks
holds_none n ks h f = none (fall_absents n ks f h)

-- the gap and the lapse

pub gap_count : {s t : State} → Gapped s t → t.count ≡ s.count
gap_count (gapped f spares i) = refl

-- what comes last: a token, of number k
pub record Last (n k : ℕ) (s : State) (es : List Event) (ks : List Candidate) : Type 0 where
  pub front : List Event
  pub last : Token
  pub is : es ≡ front ++ (put last ∷ [])
  pub numbered : k ≡ s.count + puts front
  pub falls : Fall s.count s.keys → Fall (suc k) ks
  pub alone : IsFirstKey n s.keys → (possible n ks ≡ true) ⊎ From k ks

-- a move

-- a step

abbrev pub LastOf : ℕ → State → News → Type 0
LastOf n s (goes_on es t) = (k : ℕ) × Last n k s es t.keys × (t.count ≡ suc k)
LastOf n s (ends_with es) = 1 ≤ puts es
