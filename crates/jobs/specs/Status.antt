-- Exit statuses: what each says of the job of the text that was read.
use Rattle.std.specs.Prelude.{◌<◌, ℕ, Bool, ◌&&◌, not, List, eqb, length, take}
use Rattle.yaml_text.specs.Pick.{pick}
use Rattle.yaml_job.specs.declared.Closing.{Closing}
use Rattle.yaml_job.specs.declared.Closing.TheVariants.{Done, NotDone}
use Rattle.jobs.specs.Closes.{Closes}

-- 0: done; 1: not done; 4: done, but no seed, where that is not allowed
abbrev pub done_status : ℕ → Bool → ℕ
done_status n allowed = pick {A = ℕ} (eqb n 0 && not allowed) 4 0

abbrev pub status_of : Closing → Bool → ℕ
status_of (Done n) allowed = done_status n allowed
status_of (NotDone r m n) allowed = 1

-- 2: wrong arguments, or input that was not read to its end; 3: output that was not written
pub data NoAnswer : ℕ → Type 0 where
  unread : NoAnswer 2
  unwritten : NoAnswer 3

-- of a closing record
pub data Closed (c : Closing) (allowed : Bool) : ℕ → Type 0 where
  kept : Closed c allowed (status_of c allowed)
  not_kept : Closed c allowed 3

-- of a text, in so many words and bytes
pub data Answers (text : List ℕ) (words room : ℕ) (allowed : Bool) : ℕ → Type 0 where
  closes : {c : Closing} → Closes text words room c → Answers text words room allowed (status_of c allowed)
  none : {r : ℕ} → NoAnswer r → Answers text words room allowed r

-- of a room that a sheet was read into: of the bytes before the sheet's end; or of more bytes than a sheet may have
pub data ReadAnswers (room : List ℕ) (words bytes : ℕ) (allowed : Bool) : ℕ → Type 0 where
  whole : {r : ℕ} (n : ℕ) → n < length room → Answers (take n room) words bytes allowed r → ReadAnswers room words bytes allowed r
  long : {r : ℕ} → 1_048_576 < length room → Answers room words bytes allowed r → ReadAnswers room words bytes allowed r
  nothing : {r : ℕ} → NoAnswer r → ReadAnswers room words bytes allowed r
