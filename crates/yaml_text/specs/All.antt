-- What holds of what a reader answers, where it does not refuse.
use Rattle.std.specs.Prelude.{ℕ, Bool, false, true, ◌≡◌, refl}
use Rattle.yaml_text.specs.declared.Mark.{Mark}
use Rattle.yaml_text.specs.Refusal.{Read, ◌>>=◌, got, need, refused}

-- what holds of what was read
pub data All (A : Type 0) (P : A → Type 0) : Read A → Type 0 where
  holds : {a : A} → P a → All A P (got a)
  not_read : {n : ℕ} {m : Mark} → All A P (refused n m)

pub all_bind : {A B : Type 0} {P : A → Type 0} {Q : B → Type 0} {r : Read A} (f : A → Read B) → All A P r → ((a : A) → P a → All B Q (f a)) → All B Q (r >>= f)
unfolding ◌>>=◌
all_bind f (holds h) g = g _ h
all_bind f not_read g = not_read

pub all_need : {B : Type 0} {Q : B → Type 0} (b : Bool) (n : ℕ) (m : Mark) (f : Unit {0} → Read B) → All B Q (f tt) → All B Q (need b n m >>= f)
unfolding ◌>>=◌ need
all_need true n m f h = h
all_need false n m f h = not_read

pub all_weak : {A : Type 0} {P Q : A → Type 0} {r : Read A} → ((a : A) → P a → Q a) → All A P r → All A Q r
all_weak f (holds {a = x} h) = holds (f x h)
all_weak f not_read = not_read

pub all_both : {A : Type 0} {P Q : A → Type 0} {r : Read A} → All A P r → All A Q r → All A (λ a. P a × Q a) r
all_both (holds h) (holds k) = holds (h, k)
all_both not_read not_read = not_read

pub all_any : {A : Type 0} (r : Read A) → All A (λ a. Unit {0}) r
all_any (got a) = holds tt
all_any (refused n m) = not_read

-- where the test is needed, what follows may use it
pub all_test : {B : Type 0} {Q : B → Type 0} (b : Bool) (n : ℕ) (m : Mark) (f : Unit {0} → Read B) → (b ≡ true → All B Q (f tt)) → All B Q (need b n m >>= f)
unfolding ◌>>=◌ need
all_test true n m f h = h refl
all_test false n m f h = not_read

pub all_got : {A : Type 0} {P : A → Type 0} {r : Read A} {a : A} → All A P r → r ≡ got a → P a
all_got {P} {a = x} h e = by_got (rw e at h)
  where
    by_got : All _ P (got x) → P x
    by_got (holds k) = k

-- where it is known what is read, go on with that
pub all_is : {A B : Type 0} {Q : B → Type 0} {r : Read A} {x : A} (f : A → Read B) → All A (λ a. a ≡ x) r → All B Q (f x) → All B Q (r >>= f)
all_is f h k = all_bind f h (λ a e. rw e k)
