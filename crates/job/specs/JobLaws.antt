-- A call answers as the definition's does: what is held between calls says whether the job is closed, and else asking for tokens is the whole of the call.
use Rattle.std.specs.Prelude.{ℕ, List, ◌++◌, ◌≡◌, refl, drop, length, take}
use Rattle.std.proofs.lemmas.List.Edits.{sets}
use Rattle.yaml_scan.specs.declared.Limits.{Limits}
use Rattle.yaml_job.specs.declared.Closing.{Closing}
use Rattle.yaml_job.specs.declared.JobAnswer.TheVariants.{Closed}
use Rattle.yaml_job.specs.declared.Met.{Met}
use Rattle.yaml_job.specs.declared.ShapePlace.{ShapePlace}
use Rattle.yaml_job.specs.Job.{Job, job_call, most_asked}
use Rattle.driver.specs.Held.{held_words}
use Rattle.job.specs.declared.Reader.TheVariants.{Ended}
use Rattle.job.specs.declared.Replied.{Replied}
use Rattle.job.specs.Asks.{AsksPromise}
use Rattle.job.specs.JobHolds.{JobCalls, JobPromises, ReaderHolds, has_closed, reads}
use Rattle.job.specs.Own.{job_words, reader_in, reader_words, reading_at}
use Rattle.job.specs.OwnLaws.{then_stored}

module _ (limits : Limits) (text st l b : List ℕ) where
  -- the state behind a call: what the stream holds then (h'), and the words of the reader
  pub read_told : (st' h' l' b' ws : List ℕ) (p : ShapePlace) (m : Met) (n : ℕ) (r : Replied) → length st ≡ job_words → reader_in st ≡ reading_at p m n
      → length h' ≡ length (take held_words st) → ws ≡ reader_words r.reader → st' ≡ sets (h' ++ drop held_words st) held_words ws
      → AsksPromise limits text most_asked (take held_words st) l b h' l' b' p m n r → JobPromises limits text st l b st' l' b' r.answer
  unfolding job_call
  read_told st' h' l' b' ws p m n r o e f g d k j w = by_reader (then_stored st h' o f r.reader g d) (rw e at w)
    where
      by_reader : {i : Job} → (reader_in st' ≡ r.reader) × (take held_words st' ≡ h') → ReaderHolds limits text (take held_words st) l b (reading_at p m n) i
          → JobCalls limits text b st' l' b' r.answer i
      by_reader q (reads {x = x} v) = let t = k x v in record { answers = t.answers; holds = rw (q.1, q.0) t.holds }

  pub ended_told : (c : Closing) → reader_in st ≡ Ended c → JobPromises limits text st l b st l b (Closed c)
  unfolding job_call
  ended_told c e j w = by_reader (rw e at w)
    where
      by_reader : {i : Job} → ReaderHolds limits text (take held_words st) l b (Ended c) i → JobCalls limits text b st l b (Closed c) i
      by_reader has_closed = record { answers = refl; holds = rw e has_closed }
