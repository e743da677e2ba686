-- Candidates' numbers rise with the level, and none is below the first that waits. So that one is a possible key exactly if it is the candidate of the lowest level that has one.
use Rattle.std.specs.Prelude.{◌<◌, ◌≤◌, ℕ, Bool, ◌||◌, false, true, List, [], ◌∷◌, ◌≡◌, refl, eqb}
use Rattle.std.proofs.Common.{◌∙◌, ap, arith, ne_eqb}
use Rattle.yaml_scan.specs.declared.Candidate.{Candidate}
use Rattle.yaml_scan.specs.declared.Candidate.TheVariants.{Absent, Possible}
use Rattle.yaml_scan.specs.Candidates.{Fall}
use Rattle.yaml_stream.specs.Stream.{possible}
use Rattle.yaml_stream.specs.Kept.{From}

-- the candidate of a level, unless one further out has one
abbrev pub unless : Candidate → Candidate → Candidate
unless k Absent = k
unless k (Possible required n m) = Possible required n m

-- the candidate of the lowest level that has one: the last of the list, which has the current level first
unfoldable pub lowest : List Candidate → Candidate
lowest [] = Absent
lowest (k ∷ ks) = unless k (lowest ks)

unless_absent : (c : Candidate) → unless Absent c ≡ c
unless_absent Absent = refl
unless_absent (Possible required n m) = refl

-- it is token n
unfoldable pub names : ℕ → Candidate → Bool
names n Absent = false
names n (Possible required k m) = eqb n k

-- from n on, below b
abbrev Between : ℕ → ℕ → Candidate → Type 0
Between n b Absent = Unit {0}
Between n b (Possible required k m) = (n ≤ k) × (k < b)

lowest_between : (n b : ℕ) (ks : List Candidate) → From n ks → Fall b ks → Between n b (lowest ks)
unfolding lowest
lowest_between n b [] h f = tt
lowest_between n b (Absent ∷ ks) h f = rw (unless_absent (lowest ks)) (lowest_between n b ks h f)
lowest_between n b (Possible required k m ∷ ks) h f = by_lowest (lowest ks) (lowest_between n k ks h.1 f.1)
  where
    by_lowest : (c : Candidate) → Between n k c → Between n b (unless (Possible required k m) c)
    by_lowest Absent i = (h.0, f.0)
    by_lowest (Possible r j p) i = (i.0, omega (arith, i.1, f.0))

pub or_none : (p : Bool) → (p || false) ≡ p
or_none true = refl
or_none false = refl

pub possible_lowest : (n b : ℕ) (ks : List Candidate) → From n ks → Fall b ks → possible n ks ≡ names n (lowest ks)
unfolding possible lowest names
possible_lowest n b [] h f = refl
possible_lowest n b (Absent ∷ ks) h f = rw (unless_absent (lowest ks)) (possible_lowest n b ks h f)
possible_lowest n b (Possible required k m ∷ ks) h f =
    ap (λ (p : Bool). eqb n k || p) (possible_lowest n k ks h.1 f.1) ∙ by_lowest (lowest ks) (lowest_between n k ks h.1 f.1)
  where
    by_lowest : (c : Candidate) → Between n k c → (eqb n k || names n c) ≡ names n (unless (Possible required k m) c)
    by_lowest Absent i = or_none (eqb n k)
    by_lowest (Possible r j p) i = rw (ne_eqb n k (λ e. omega (arith, i.0, i.1)))
