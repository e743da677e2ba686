-- Calls one after the other, from a state of zeros: the seeds handed over and the answer behind them are the definition's. So what yaml_job proves of jobs holds
-- of what the code gives: done means a text that 01 accepts, whose list is of the shape whole, with its seeds; no job is lost; a closing record comes for ever.
use Rattle.std.specs.Prelude.{◌+◌, ◌-◌, ◌/◌, ◌<◌, ◌≤◌, suc, ℕ, List, [], ◌++◌, ◌∷◌, ◌≡◌, refl, length, replicate, take}
use Rattle.std.proofs.Common.{append_assoc, append-nil, ◌∙◌, ap, subst, sym, zero-add, arith, length-append}
use Rattle.yaml_text.specs.declared.Mark.{Mark}
use Rattle.yaml_lexeme.specs.Record.{record_words}
use Rattle.yaml_lexeme.specs.Token.{Token, texts}
use Rattle.yaml_scan.specs.declared.Limits.{Limits}
use Rattle.theorems.specs.Accepted.{Accepts}
use Rattle.yaml_stream.specs.Answers.{here}
use Rattle.yaml_stream.specs.Stream.{fresh, least_records, most_waiting}
use Rattle.yaml_stream.specs.Tale.{built}
use Rattle.yaml_job.specs.declared.Closing.{Closing}
use Rattle.yaml_job.specs.declared.Closing.TheVariants.{Done, NotDone}
use Rattle.yaml_job.specs.declared.JobAnswer.{JobAnswer}
use Rattle.yaml_job.specs.declared.JobAnswer.TheVariants.{Closed, Lost, Seed}
use Rattle.yaml_job.specs.declared.ShapePlace.TheVariants.{AtStart}
use Rattle.yaml_job.specs.Job.{Job, Talk, closed, follow, job, job_call, none_met, talk}
use Rattle.yaml_job.specs.BlockSheet.{InBlock, OnNameLine}
use Rattle.yaml_job.proofs.BlockSheet.{block_sheet_done}
use Rattle.yaml_job.specs.Calls.{Counts, CountsAll, closed_again, talk_of}
use Rattle.yaml_job.proofs.Calls.{closing_stays, job_counts}
use Rattle.yaml_job.specs.Done.{JobDone, heard_of, seed_values, talk_last, talk_values}
use Rattle.yaml_job.proofs.Done.{done_enough, done_means, job_closes}
use Rattle.yaml_job.specs.Exactly.{Exactly}
use Rattle.yaml_job.proofs.Exactly.{done_exactly}
use Rattle.yaml_job.specs.Handed.{Handed}
use Rattle.yaml_job.proofs.Handed.{job_handed}
use Rattle.yaml_job.proofs.NotDone.{not_done_means, stopped_some}
use Rattle.yaml_job.specs.Reads.{ends_done}
use Rattle.yaml_job.specs.Refused.{Stops}
use Rattle.yaml_job.specs.Shape.{Shape}
use Rattle.driver.specs.Held.{held_words}
use Rattle.stream.specs.Holds.{fresh_state}
use Rattle.stream.specs.Run.{zeros_fresh}
use Rattle.job.specs.JobHolds.{JobHolds, JobPromises, StreamHeld, by_tokens, reads}
use Rattle.job.specs.Own.{job_words}
use Rattle.job.specs.OwnLaws.{zeros_reader, zeros_stream}

-- calls that each handed a seed over: the seeds with their counts, and what stands behind them. The bytes lent keep their length
pub data JobRun (limits : Limits) (text st l b : List ℕ) : List (ℕ × ℕ) → List ℕ → List ℕ → List ℕ → Type 0 where
  none : JobRun limits text st l b [] st l b
  more : {ss : List (ℕ × ℕ)} {st₁ l₁ b₁ st₂ l₂ b₂ : List ℕ} {v n : ℕ} → JobRun limits text st l b ss st₁ l₁ b₁ → length b₂ ≡ length b₁
      → JobPromises limits text st₁ l₁ b₁ st₂ l₂ b₂ (Seed v n) → JobRun limits text st l b (ss ++ ((v, n) ∷ [])) st₂ l₂ b₂

-- what is said, behind these seeds
abbrev behind_seeds : List (ℕ × ℕ) → Talk → Talk
behind_seeds ss r = talk (ss ++ r.handed) r.last

-- the definition's job behind the seeds ss, and what its calls say
pub record JobGave (limits : Limits) (text l b : List ℕ) (ss : List (ℕ × ℕ)) (st' l' b' : List ℕ) : Type 0 where
  pub behind : Job
  pub holds : JobHolds limits text st' l' b' behind
  pub says : (k : ℕ) → follow limits (length b) (length ss + k) (job limits text (length l)) ≡ behind_seeds ss (follow limits (length b) k behind)
  pub same_bytes : length b' ≡ length b

-- a state of zeros

pub zeros_held : (limits : Limits) (text st l b : List ℕ) → st ≡ replicate job_words 0 → JobHolds limits text st l b (job limits text (length l))
unfolding job
zeros_held limits text st l b e =
    let h : take held_words st ≡ replicate held_words 0 = ap (λ (z : List ℕ). take held_words z) e ∙ zeros_stream in
    let w : StreamHeld limits text (take held_words st) l b 0 (fresh limits text (length l)) = record {
      gone = [];
      count = by_tokens here (omega arith);
      holds = fresh_state (rw h zeros_fresh.0) (rw h zeros_fresh.1);
    } in
    rw (zeros_reader st e) (reads w)

-- one more

next_said : (limits : Limits) (room k : ℕ) (j : Job) (v n : ℕ) → Seed v n ≡ (job_call limits room j).answer
    → follow limits room (suc k) j ≡ behind_seeds ((v, n) ∷ []) (follow limits room k (job_call limits room j).job)
unfolding follow
next_said limits room k j v n e = rw (← e)

gave_more : {limits : Limits} {text l b st₁ l₁ b₁ st₂ l₂ b₂ : List ℕ} {ss : List (ℕ × ℕ)} {v n : ℕ} → JobGave limits text l b ss st₁ l₁ b₁ → length b₂ ≡ length b₁
    → JobPromises limits text st₁ l₁ b₁ st₂ l₂ b₂ (Seed v n) → JobGave limits text l b (ss ++ ((v, n) ∷ [])) st₂ l₂ b₂
gave_more {limits} {text} {l} {b} {b₁ = b₁} {ss = ss} {v = v} {n = n} g e p =
    let j = g.behind in
    let c = p j g.holds in
    let i = (job_call limits (length b₁) j).job in
    record {
      behind = i;
      holds = c.holds;
      says = λ k.
          let f : length (ss ++ ((v, n) ∷ [])) + k ≡ length ss + suc k = omega (arith, length-append ss ((v, n) ∷ [])) in
          let h = next_said limits (length b₁) k j v n c.answers in
          let r = follow limits (length b₁) k i in
          rw (f, g.says (suc k), ← g.same_bytes, h) (ap (λ (rs : List (ℕ × ℕ)). talk rs r.last) (sym (append_assoc ss ((v, n) ∷ []) r.handed)));
      same_bytes = e ∙ g.same_bytes;
    }

pub job_gave : {limits : Limits} {text st l b st' l' b' : List ℕ} {ss : List (ℕ × ℕ)} → st ≡ replicate job_words 0
    → JobRun limits text st l b ss st' l' b' → JobGave limits text l b ss st' l' b'
job_gave {limits} {text} {st} {l} {b} e none =
    let j = job limits text (length l) in
    record { behind = j; holds = zeros_held limits text st l b e; says = λ k. ap (λ (i : ℕ). follow limits (length b) i j) (zero-add k); same_bytes = refl }
job_gave e (more r f p) = gave_more (job_gave e r) f p

-- the answer behind them

abbrev pub NoSeed : JobAnswer → Type 0
NoSeed (Seed v n) = ⊥
NoSeed (Closed c) = Unit {0}
NoSeed Lost = Unit {0}

last_said : (limits : Limits) (room k : ℕ) (j : Job) (a : JobAnswer) → a ≡ (job_call limits room j).answer → NoSeed a → follow limits room (suc k) j ≡ talk [] a
unfolding follow
last_said limits room k j (Seed v n) e h = absurd h
last_said limits room k j (Closed c) e h = rw (← e)
last_said limits room k j Lost e h = rw (← e)

-- all calls say these seeds and this answer
pub run_follows : {limits : Limits} {text l b st₁ l₁ b₁ st₂ l₂ b₂ : List ℕ} {ss : List (ℕ × ℕ)} {a : JobAnswer} (g : JobGave limits text l b ss st₁ l₁ b₁)
    → JobPromises limits text st₁ l₁ b₁ st₂ l₂ b₂ a → NoSeed a → (k : ℕ) → length ss < k → follow limits (length b) k (job limits text (length l)) ≡ talk ss a
run_follows {limits} {b₁ = b₁} {ss = ss} {a = a} g p h k f =
    let i = k - suc (length ss) in
    let e : k ≡ length ss + suc i = omega arith in
    let d = last_said limits (length b₁) i g.behind a (p g.behind g.holds).answers h in
    rw (e, g.says (suc i), ← g.same_bytes, d) (ap (λ (rs : List (ℕ × ℕ)). talk rs a) (append-nil ss))

-- each count is that of the seeds handed over so far, the closing record's that of all
pub run_counts : {limits : Limits} {text l b st₁ l₁ b₁ st₂ l₂ b₂ : List ℕ} {ss : List (ℕ × ℕ)} {a : JobAnswer} (g : JobGave limits text l b ss st₁ l₁ b₁)
    → JobPromises limits text st₁ l₁ b₁ st₂ l₂ b₂ a → NoSeed a → CountsAll 0 (talk ss a)
run_counts {limits} {text} {l} {b} {ss = ss} g p h =
    let k = suc (length ss) in
    subst (λ (r : Talk). CountsAll 0 r) (run_follows g p h k (omega arith)) (job_counts limits text (length l) (length b) k)

-- in a run that still goes on, too
pub run_counting : {limits : Limits} {text l b st₁ l₁ b₁ : List ℕ} {ss : List (ℕ × ℕ)} → JobGave limits text l b ss st₁ l₁ b₁ → Counts 0 ss
unfolding follow
run_counting {limits} {text} {l} {b} {ss = ss} g =
    let c = job_counts limits text (length l) (length b) (length ss + 0) in
    subst (λ (rs : List (ℕ × ℕ)). Counts 0 rs) (ap (λ (r : Talk). r.handed) (g.says 0) ∙ append-nil ss) c.each

-- the seeds are those of tokens given, in order, done or not
pub run_handed : {limits : Limits} {text l b st₁ l₁ b₁ st₂ l₂ b₂ : List ℕ} {ss : List (ℕ × ℕ)} {a : JobAnswer} (g : JobGave limits text l b ss st₁ l₁ b₁)
    → JobPromises limits text st₁ l₁ b₁ st₂ l₂ b₂ a → NoSeed a → (k : ℕ) → length ss < k → length (built limits text) < k
    → Handed (heard_of limits text (length l) (length b) k).tokens (seed_values ss)
run_handed {limits} {text} {l} {b} g p h k i j =
    let hs = (heard_of limits text (length l) (length b) k).tokens in
    subst (λ (r : Talk). Handed hs (seed_values r.handed)) (run_follows g p h k i) (job_handed limits text (length l) (length b) k j)

-- "done": 01 accepts the text, its list is of the shape whole, and these are its seeds, n of them
pub run_done : {limits : Limits} {text l b st₁ l₁ b₁ st₂ l₂ b₂ : List ℕ} {ss : List (ℕ × ℕ)} {n : ℕ} (g : JobGave limits text l b ss st₁ l₁ b₁)
    → JobPromises limits text st₁ l₁ b₁ st₂ l₂ b₂ (Closed (Done n)) → JobDone limits text n ss
run_done {limits} {text} {l} {b} {ss = ss} {n = n} g p =
    let k = suc (length ss) in
    let e = run_follows g p tt k (omega arith) in
    subst (λ (r : Talk). JobDone limits text n r.handed) e (done_means limits text (length l) (length b) k n (ap (λ (r : Talk). r.last) e))

-- and StreamEnd is among what the stream gives in k calls, with as many scalars in the list as seeds
pub run_exactly : {limits : Limits} {text l b st₁ l₁ b₁ st₂ l₂ b₂ : List ℕ} {ss : List (ℕ × ℕ)} {n : ℕ} (g : JobGave limits text l b ss st₁ l₁ b₁)
    → JobPromises limits text st₁ l₁ b₁ st₂ l₂ b₂ (Closed (Done n)) → (k : ℕ) → length ss < k → (j : length (built limits text) < k)
    → Exactly limits text (length l) (length b) k j (talk ss (Closed (Done n)))
run_exactly {limits} {text} {l} {b} {n = n} g p k i j =
    let e = run_follows g p tt k i in
    let x = done_exactly limits text (length l) (length b) k j n (ap (λ (r : Talk). r.last) e) in
    subst (λ (r : Talk). Exactly limits text (length l) (length b) k j r) e x

-- an accepted text of the shape, with words for 4,400 records and bytes for its texts: a run that ended is done, with its seeds
module _ {limits : Limits} {text l b st₁ l₁ b₁ st₂ l₂ b₂ : List ℕ} {ss : List (ℕ × ℕ)} {a : JobAnswer} (g : JobGave limits text l b ss st₁ l₁ b₁)
    (p : JobPromises limits text st₁ l₁ b₁ st₂ l₂ b₂ a) (none : NoSeed a) (ts : List Token) (vs : List ℕ) (accepted : Accepts limits text ts) (of_shape : Shape ts vs [])
    (words : least_records ≤ length l / record_words) (bytes : length (texts ts) ≤ length b) where
  abbrev IsDone : Type 0
  IsDone = (a ≡ Closed (Done (length vs))) × (seed_values ss ≡ vs)

  abbrev calls : ℕ
  calls = suc (length ss + length ts)

  said_done : follow limits (length b) calls (job limits text (length l)) ≡ talk_of 0 vs ends_done → IsDone
  said_done e =
      let f = sym (run_follows g p none calls (omega arith)) ∙ e in
      let n = ap (λ (i : ℕ). Closed (Done i)) (zero-add (length vs)) in
      (ap (λ (r : Talk). r.last) f ∙ talk_last 0 vs ends_done ∙ n, ap (λ (r : Talk). seed_values r.handed) f ∙ talk_values 0 vs ends_done)

  -- of 4,096 tokens at most
  pub run_shape : length ts ≤ most_waiting → IsDone
  run_shape few = said_done (done_enough limits text (length l) (length b) calls ts vs accepted of_shape (omega arith) words bytes few)

  -- of any length, in block form, with its list on its name's line
  pub run_block_sheet : InBlock ts → OnNameLine ts → IsDone
  run_block_sheet i o = said_done (block_sheet_done limits text ts vs (length l) (length b) accepted of_shape i o calls (omega arith) words bytes)

-- "not done": the first token that does not fit, at its start, or the scanner's refusal, behind tokens that fit
pub run_not_done : {limits : Limits} {text l b st₁ l₁ b₁ st₂ l₂ b₂ : List ℕ} {ss : List (ℕ × ℕ)} {r n : ℕ} {m : Mark} (g : JobGave limits text l b ss st₁ l₁ b₁)
    → JobPromises limits text st₁ l₁ b₁ st₂ l₂ b₂ (Closed (NotDone r m n)) → (k : ℕ) → length ss < k → length (built limits text) < k
    → let h = heard_of limits text (length l) (length b) k in Stops AtStart none_met h.last h.tokens r m
run_not_done {limits} {text} {l} {b} {r = r} {n = n} {m = m} g p k i h =
    not_done_means limits text (length l) (length b) k r n m h (ap (λ (t : Talk). t.last) (run_follows g p tt k i))

-- with a number of at least 1
pub run_number : {limits : Limits} {text l b st₁ l₁ b₁ st₂ l₂ b₂ : List ℕ} {ss : List (ℕ × ℕ)} {r n : ℕ} {m : Mark} (g : JobGave limits text l b ss st₁ l₁ b₁)
    → JobPromises limits text st₁ l₁ b₁ st₂ l₂ b₂ (Closed (NotDone r m n)) → 1 ≤ r
run_number {limits} {text} {l} {b} {ss = ss} {r = r} {n = n} {m = m} g p =
    let k = suc (length ss + length (built limits text)) in
    let e = run_follows g p tt k (omega arith) in
    stopped_some limits text (length l) (length b) k r n m (omega arith) (ap (λ (t : Talk). t.last) e)

pub run_not_lost : {limits : Limits} {text l b st₁ l₁ b₁ st₂ l₂ b₂ : List ℕ} {ss : List (ℕ × ℕ)} (g : JobGave limits text l b ss st₁ l₁ b₁)
    → JobPromises limits text st₁ l₁ b₁ st₂ l₂ b₂ Lost → ⊥
run_not_lost {limits} {text} {l} {b} {ss = ss} g p =
    let k = suc (length ss + length (built limits text)) in
    let c = job_closes limits text (length l) (length b) k (omega arith) in
    let e : Lost ≡ Closed c.0 = ap (λ (r : Talk). r.last) (sym (run_follows g p tt k (omega arith))) ∙ c.1 in
    let z : ◌≡◌ {A = ℕ} 0 1 = cc in omega arith

-- each later call

pub run_closed : {limits : Limits} {text l b st₁ l₁ b₁ st₂ l₂ b₂ : List ℕ} {ss : List (ℕ × ℕ)} {c : Closing} (g : JobGave limits text l b ss st₁ l₁ b₁)
    → JobPromises limits text st₁ l₁ b₁ st₂ l₂ b₂ (Closed c) → JobHolds limits text st₂ l₂ b₂ (closed c)
run_closed {limits} {b₁ = b₁} {c = c} g p =
    let s = p g.behind g.holds in
    rw (closing_stays limits (length b₁) g.behind c (sym s.answers)) at s.holds

-- the same closing record again, and the same is held behind it: so it comes for ever
pub closed_for_ever : (limits : Limits) (text st l b st' l' b' : List ℕ) {a : JobAnswer} {c : Closing} → JobHolds limits text st l b (closed c)
    → JobPromises limits text st l b st' l' b' a → (a ≡ Closed c) × JobHolds limits text st' l' b' (closed c)
closed_for_ever limits text st l b st' l' b' {c = c} w p =
    let s = p (closed c) w in
    let e = closed_again limits (length b) c in
    (rw e at s.answers, rw e at s.holds)
