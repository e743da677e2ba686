-- Seeds handed over stay valid: whatever comes later, each is the value of a plain decimal scalar among the tokens given, in order, and further calls only add to them.
use Rattle.std.specs.Prelude.{◌≤◌, suc, zero, ℕ, List, [], ◌++◌, ◌∷◌, ◌≡◌, refl}
use Rattle.std.proofs.Common.{ap, not-suc-le-zero, arith}
use Rattle.yaml_lexeme.specs.Token.{Token}
use Rattle.yaml_scan.specs.declared.Limits.{Limits}
use Rattle.yaml_job.specs.declared.JobAnswer.{JobAnswer}
use Rattle.yaml_job.specs.declared.JobAnswer.TheVariants.{Closed, Lost, Seed}
use Rattle.yaml_job.specs.Job.{Job, Talk, follow, job_call, job_called, on_said}
use Rattle.yaml_job.specs.Shape.{IsSeed}

-- the values of seeds among these tokens, in order
pub data Handed : List Token → List ℕ → Type 0 where
  no_more : {ts : List Token} → Handed ts []
  another : {t : Token} {ts : List Token} {vs : List ℕ} → Handed ts vs → Handed (t ∷ ts) vs
  one : {t : Token} {v : ℕ} {ts : List Token} {vs : List ℕ} → IsSeed t v → Handed ts vs → Handed (t ∷ ts) (v ∷ vs)

-- further calls
said_first : (f g : Job → Talk) → ((i : Job) → (ss : List (ℕ × ℕ)) × ((f i).handed ≡ (g i).handed ++ ss)) → (a : JobAnswer) (j : Job)
    → (ss : List (ℕ × ℕ)) × ((on_said (job_called a j) f).handed ≡ (on_said (job_called a j) g).handed ++ ss)
said_first f g h (Seed v n) j = let k = h j in (k.0, ap (λ (ss : List (ℕ × ℕ)). (v, n) ∷ ss) k.1)
said_first f g h (Closed d) j = ([], refl)
said_first f g h Lost j = ([], refl)

pub handed_first : (limits : Limits) (room k l : ℕ) → k ≤ l → (j : Job) → (ss : List (ℕ × ℕ)) × ((follow limits room l j).handed ≡ (follow limits room k j).handed ++ ss)
unfolding follow
handed_first limits room zero l b j = (_, refl)
handed_first limits room (suc k) zero b j = absurd (not-suc-le-zero b)
handed_first limits room (suc k) (suc l) b j =
    let a = job_call limits room j in
    said_first (λ i. follow limits room l i) (λ i. follow limits room k i) (λ i. handed_first limits room k l (omega arith) i) a.answer a.job
