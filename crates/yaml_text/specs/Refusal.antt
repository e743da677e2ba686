-- Refusals, and what a reader answers: what it read, or a refusal's number (the table of 01) with its mark.
use Rattle.std.specs.Prelude.{ℕ, Bool, false, true, List}
use Rattle.yaml_text.specs.declared.Mark.{Mark}
use Rattle.yaml_text.specs.Mark.{Run, before_run}

pub data Read (A : Type 0) : Type 0 where
  got : A → Read A
  refused : ℕ → Mark → Read A

infixl 10 ◌>>=◌
-- go on with what was read; a refusal ends it
unfoldable pub ◌>>=◌ : {A B : Type 0} → Read A → (A → Read B) → Read B
got a >>= f = f a
refused n m >>= f = refused n m

-- refuse unless the test holds
unfoldable pub need : Bool → ℕ → Mark → Read (Unit {0})
need true n m = got tt
need false n m = refused n m

-- further text before what is read
unfoldable pub before_read : List ℕ → Read Run → Read Run
before_read t (got r) = got (before_run t r)
before_read t (refused n m) = refused n m
