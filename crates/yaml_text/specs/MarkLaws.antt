-- Laws of marks and of runs of a class.
use Rattle.std.specs.Prelude.{◌+◌, ℕ, Bool, ◌&&◌, ◌||◌, false, true, List, [], ◌∷◌, ◌≡◌, refl, eqb}
use Rattle.std.proofs.Common.{arith}
use Rattle.yaml_text.specs.declared.Mark.{Mark}
use Rattle.yaml_text.specs.Char.{carriage-return, line-feed}
use Rattle.yaml_text.specs.Class.{is-break}
use Rattle.yaml_text.specs.Mark.{along, before-run, half-break, here, new_line, nothing-at, over, run_of}
use Rattle.yaml_text.specs.Test.{true-false}

half-no : (c d : ℕ) → is-break c ≡ false → half-break c d ≡ false
unfolding is-break half-break
half-no c d e = by-eq (eqb c line-feed) (eqb c carriage-return) e
  where
    by-eq : (p q : Bool) → (p || q) ≡ false → (q && eqb d line-feed) ≡ false
    by-eq true q e' = true-false e'
    by-eq false true e' = true-false e'
    by-eq false false e' = refl

-- over a character that is no break
pub over-along : (m : Mark) (c d : ℕ) → is-break c ≡ false → over m c d ≡ along m
unfolding over
over-along m c d e = rw (half-no c d e, e)

-- over a break of one character
pub over-break : (m : Mark) (c d : ℕ) → half-break c d ≡ false → is-break c ≡ true → over m c d ≡ new_line 1 m
unfolding over
over-break m c d e f = rw (e, f)

-- over CR LF, in two turns
pub over-crlf : (m : Mark) (d : ℕ) → over (over m carriage-return line-feed) line-feed d ≡ new_line 2 m
unfolding over half-break is-break
over-crlf m d = let e : m.index + 1 + 1 ≡ m.index + 2 = omega arith in rw e

pub run-of-more : (p : ℕ → Bool) (m : Mark) (c : ℕ) (cs : List ℕ) → p c ≡ true → run_of p m (c ∷ cs) ≡ before-run (c ∷ []) (run_of p (along m) cs)
unfolding run_of
run-of-more p m c cs e = rw (e, run_of)

pub run-of-stop : (p : ℕ → Bool) (m : Mark) (c : ℕ) (cs : List ℕ) → p c ≡ false → run_of p m (c ∷ cs) ≡ nothing-at (here m (c ∷ cs))
unfolding run_of
run-of-stop p m c cs e = rw (e, run_of)
