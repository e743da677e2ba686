-- Status 0: the sheet was read to its end, and its job is done by the definition, with a seed at least unless an empty list is allowed.
use Rattle.std.specs.Prelude.{◌<◌, ◌≤◌, suc, zero, ℕ, Bool, false, true, List, ◌⊎◌, ◌≡◌, refl, length, take}
use Rattle.std.proofs.Common.{inl, inr, arith, lt-ltb}
use Rattle.yaml_scan.specs.Scan.{outcome, scanned, standard, stopped}
use Rattle.yaml_job.specs.declared.Closing.{Closing}
use Rattle.yaml_job.specs.declared.Closing.TheVariants.{Done, NotDone}
use Rattle.yaml_job.specs.Done.{JobDone}
use Rattle.yaml_job.proofs.Done.{done_means}
use Rattle.yaml_job.specs.Job.{follow, job}
use Rattle.jobs.specs.Closes.{Closes, most_calls}
use Rattle.jobs.specs.Status.{Answers, NoAnswer, ReadAnswers, closes, long, none, nothing, status_of, unread, unwritten, whole}

pub record IsDone (text : List ℕ) (words room : ℕ) (allowed : Bool) : Type 0 where
  pub count : ℕ
  pub closed : Closes text words room (Done count)
  pub some : (1 ≤ count) ⊎ (allowed ≡ true)

-- 01 accepts the text, its list is of the shape whole, and these are its seeds
pub done_job : (text : List ℕ) (words room : ℕ) {allowed : Bool} (d : IsDone text words room allowed)
    → JobDone standard text d.count (follow standard room most_calls (job standard text words)).handed
done_job text words room d = done_means standard text words room most_calls d.count d.closed

-- a text that is too long is not done
long_not_done : (text : List ℕ) (words room : ℕ) {allowed : Bool} → 1_048_576 < length text → IsDone text words room allowed → ⊥
unfolding outcome
long_not_done text words room h d =
    let a = (done_job text words room d).accepted in
    let e : stopped 1 _ ≡ scanned a.events = rw (outcome, lt-ltb 1_048_576 (length text) h) at a.accepted in
    let z : ◌≡◌ {A = ℕ} 0 1 = cc in omega arith

none_zero : {r : ℕ} → NoAnswer r → r ≡ 0 → ⊥
none_zero unread e = omega arith
none_zero unwritten e = omega arith

closing_zero : (text : List ℕ) (words room : ℕ) (allowed : Bool) (c : Closing) → Closes text words room c → status_of c allowed ≡ 0 → IsDone text words room allowed
closing_zero text words room true (Done n) k e = record { count = n; closed = k; some = inr refl }
closing_zero text words room false (Done zero) k e = absurd (omega arith)
closing_zero text words room false (Done (suc n)) k e = record { count = suc n; closed = k; some = inl (omega arith) }
closing_zero text words room allowed (NotDone r m n) k e = absurd (omega arith)

answer_zero : (text : List ℕ) (words room : ℕ) (allowed : Bool) {r : ℕ} → Answers text words room allowed r → r ≡ 0 → IsDone text words room allowed
answer_zero text words room allowed (closes {c = c} k) e = closing_zero text words room allowed c k e
answer_zero text words room allowed (none n) e = absurd (none_zero n e)

pub record ReadDone (room : List ℕ) (words bytes : ℕ) (allowed : Bool) : Type 0 where
  pub read : ℕ
  pub ended : read < length room
  pub done : IsDone (take read room) words bytes allowed

pub zero_done : (room : List ℕ) (words bytes : ℕ) (allowed : Bool) {r : ℕ} → ReadAnswers room words bytes allowed r → r ≡ 0 → ReadDone room words bytes allowed
zero_done room words bytes allowed (whole n h a) e = record { read = n; ended = h; done = answer_zero (take n room) words bytes allowed a e }
zero_done room words bytes allowed (long h a) e = absurd (long_not_done room words bytes h (answer_zero room words bytes allowed a e))
zero_done room words bytes allowed (nothing n) e = absurd (none_zero n e)
