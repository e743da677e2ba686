-- Statuses, case by case.
use Rattle.std.specs.Prelude.{◌<◌, suc, zero, ℕ, Bool, false, true, List, ◌≡◌, length, take, Result, Ok, Err}
use Rattle.std.proofs.Common.{arith}
use borrow.Author.Tests.{ne_eqb}
use Rattle.yaml_text.specs.declared.Mark.{Mark}
use Rattle.yaml_job.specs.declared.Closing.{Closing}
use Rattle.yaml_job.specs.declared.Closing.TheVariants.{Done, NotDone}
use Rattle.sheets.specs.declared.Sheet.{Sheet}
use Rattle.sheets.specs.declared.Sheet.TheVariants.{Whole}
use Rattle.sheets.specs.Sheet.{Within}
use Rattle.jobs.specs.declared.hand.Unhanded.{Unhanded}
use Rattle.jobs.specs.Closes.{Tells}
use Rattle.jobs.specs.Status.{Answers, Closed, ReadAnswers, closes, done_status, kept, none, not_kept, status_of, unwritten, whole}

-- a job that closed

pub some_done : (n : ℕ) (allowed : Bool) → (n ≡ 0 → ⊥) → 0 ≡ done_status n allowed
some_done n allowed h = rw (ne_eqb n 0 h)

pub none_allowed : (n : ℕ) (allowed : Bool) → allowed ≡ true → 0 ≡ done_status n allowed
none_allowed zero allowed e = rw e
none_allowed (suc n) allowed e = some_done (suc n) allowed (λ f. omega arith)

pub none_done : (n : ℕ) (allowed : Bool) → n ≡ 0 → allowed ≡ false → 4 ≡ done_status n allowed
none_done n allowed e f = rw (e, f)

pub of_done : (c : Closing) (allowed : Bool) {n : ℕ} {r : ℕ} → c ≡ Done n → r ≡ done_status n allowed → r ≡ status_of c allowed
of_done c allowed e f = rw (e, f)

pub of_not_done : (c : Closing) (allowed : Bool) {i n : ℕ} {m : Mark} → c ≡ NotDone i m n → 1 ≡ status_of c allowed
of_not_done c allowed e = rw e

pub closed_as : (c : Closing) (allowed : Bool) {r : ℕ} → r ≡ status_of c allowed → Closed c allowed r
closed_as c allowed e = rw e kept

-- a text

pub handed_closed : (text : List ℕ) (words room : ℕ) (allowed : Bool) (h : Result Closing Unhanded) {c : Closing} {r : ℕ} → h ≡ Ok c → Tells text words room h
    → Closed c allowed r → Answers text words room allowed r
handed_closed text words room allowed h e t kept = closes (rw e at t)
handed_closed text words room allowed h e t not_kept = none unwritten

-- a room

pub whole_within : (s : Sheet) (n room : ℕ) → s ≡ Whole n → Within room s → n < room
whole_within s n room e h = rw e at h

pub whole_read : (s : Sheet) (n : ℕ) (room : List ℕ) (words bytes : ℕ) (allowed : Bool) {r : ℕ} → s ≡ Whole n → Within (length room) s
    → Answers (take n room) words bytes allowed r → ReadAnswers room words bytes allowed r
whole_read s n room words bytes allowed e h a = whole n (whole_within s n (length room) e h) a
