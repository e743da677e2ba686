-- What stands between two calls in the state (st), the lent words (l) and the lent bytes (b), of a job of the definition: the stream in the state's first words,
-- the reader's own behind them.
use Rattle.std.specs.Prelude.{◌≤◌, ℕ, List, [], ◌≡◌, length, take}
use Rattle.yaml_lexeme.specs.Token.{Token}
use Rattle.yaml_scan.specs.declared.Limits.{Limits}
use Rattle.yaml_stream.specs.Answers.{Comes}
use Rattle.yaml_stream.specs.Stream.{Stream, closing, fresh}
use Rattle.yaml_job.specs.declared.Closing.{Closing}
use Rattle.yaml_job.specs.declared.JobAnswer.{JobAnswer}
use Rattle.yaml_job.specs.Job.{Job, closed, job_call, reading}
use Rattle.driver.specs.Held.{held_words}
use Rattle.stream.specs.Holds.{Holds}
use Rattle.job.specs.declared.Standing.{Standing}
use Rattle.job.specs.declared.Reader.{Reader}
use Rattle.job.specs.declared.Reader.TheVariants.{Ended, Reading}
use Rattle.job.specs.Own.{reader_in}

-- the count is one of tokens that the stream gave; or the stream gives none any more
pub data Counted (limits : Limits) (text : List ℕ) (words room n : ℕ) : Stream → Type 0 where
  by_tokens : {ts : List Token} {x : Stream} → Comes limits room (fresh limits text words) ts x → n ≤ length ts → Counted limits text words room n x
  no_more : Counted limits text words room n (closing [])

-- `gone` are the texts of the tokens given
pub record StreamHeld (limits : Limits) (text h l b : List ℕ) (n : ℕ) (x : Stream) : Type 0 where
  pub gone : List ℕ
  pub count : Counted limits text (length l) (length b) n x
  pub holds : Holds limits text h l b gone x

-- what the reader knows, and what the stream holds (h), of a job
pub data ReaderHolds (limits : Limits) (text h l b : List ℕ) : Reader → Job → Type 0 where
  reads : {x : Stream} {s : Standing} → StreamHeld limits text h l b s.count x → ReaderHolds limits text h l b (Reading s) (reading x s.place s.met s.count)
  has_closed : {c : Closing} → ReaderHolds limits text h l b (Ended c) (closed c)

abbrev pub JobHolds : Limits → List ℕ → List ℕ → List ℕ → List ℕ → Job → Type 0
JobHolds limits text st l b j = ReaderHolds limits text (take held_words st) l b (reader_in st) j

-- a call: of every job that is held, the definition's answer, and the job behind it is held then
pub record JobCalls (limits : Limits) (text b st' l' b' : List ℕ) (a : JobAnswer) (j : Job) : Type 0 where
  pub answers : a ≡ (job_call limits (length b) j).answer
  pub holds : JobHolds limits text st' l' b' (job_call limits (length b) j).job

-- no caller is asked for anything, so a call with another state, words or bytes than those that the call before left promises nothing
abbrev pub JobPromises : Limits → List ℕ → List ℕ → List ℕ → List ℕ → List ℕ → List ℕ → List ℕ → JobAnswer → Type 0
JobPromises limits text st l b st' l' b' a = (j : Job) → JobHolds limits text st l b j → JobCalls limits text b st' l' b' a j
