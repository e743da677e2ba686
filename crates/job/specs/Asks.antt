-- One token more, and tokens until a seed is handed over or the job closes: what the code's parts answer (Asked, Replied), held to the definition's.
use Rattle.std.specs.Prelude.{◌+◌, ℕ, Err, List, Ok, Result, ◌≡◌, length}
use Rattle.yaml_text.specs.declared.Mark.{Mark}
use Rattle.yaml_text.specs.declared.Refusal.{Refusal}
use Rattle.yaml_lexeme.specs.Record.{mark_in}
use Rattle.yaml_scan.specs.declared.Limits.{Limits}
use Rattle.yaml_stream.specs.Stream.{Stream, call}
use Rattle.yaml_stream.specs.Stream as stream
use Rattle.yaml_job.specs.declared.Closing.{Closing}
use Rattle.yaml_job.specs.declared.Closing.TheVariants.{Done, NotDone}
use Rattle.yaml_job.specs.declared.Effect.{Effect}
use Rattle.yaml_job.specs.declared.Effect.TheVariants.{Finishes, Hands, Passes, Refuses}
use Rattle.yaml_job.specs.declared.JobAnswer.TheVariants.{Closed, Lost, Seed}
use Rattle.yaml_job.specs.declared.Met.{Met}
use Rattle.yaml_job.specs.declared.ShapePlace.{ShapePlace}
use Rattle.yaml_job.specs.Job.{JobCalled, asks, by_answer, effect}
use Rattle.driver.specs.Held.{held_words}
use Rattle.stacks.specs.Most.{at_most}
use Rattle.stream.specs.declared.Next.{Next}
use Rattle.stream.specs.declared.Next.TheVariants as next
use Rattle.job.specs.declared.Asked.{Asked}
use Rattle.job.specs.declared.Asked.TheVariants.{Goes, Replies}
use Rattle.job.specs.declared.Reader.TheVariants.{Ended}
use Rattle.job.specs.declared.Replied.{Replied}
use Rattle.job.specs.JobHolds.{ReaderHolds, StreamHeld}
use Rattle.job.specs.Own.{reading_at}
use Rattle.job.specs.Sees.{seen}

-- what the code makes of a token, and of an answer of the stream

abbrev pub ends : Closing → Asked
ends c = Replies (record { answer = Closed c; reader = Ended c })

-- one more, where a word holds it
abbrev pub next_count : ℕ → ℕ
next_count n = at_most 4_294_967_294 n + 1

abbrev pub hands : ℕ → ShapePlace → Met → ℕ → Asked
hands v p m n = Replies (record { answer = Seed v n; reader = reading_at p m n })

abbrev pub lost : ShapePlace → Met → ℕ → Replied
lost p m n = record { answer = Lost; reader = reading_at p m n }

abbrev pub from_effect : Effect → Mark → ℕ → Asked
from_effect (Passes p m) k n = Goes p m
from_effect (Hands v p m) k n = hands v p m (next_count n)
from_effect (Refuses r) k n = ends (NotDone r k n)
from_effect Finishes k n = ends (Done n)

-- r is the token's record, where there is one
abbrev pub from_answer : Result Next Refusal → List ℕ → List ℕ → ShapePlace → Met → ℕ → Asked
from_answer (Ok next.Token) r b p m n = from_effect (effect p m (seen r b)) (mark_in r 1) n
from_answer (Ok next.Ended) r b p m n = Replies (lost p m n)
from_answer (Err f) r b p m n = ends (NotDone f.number f.mark n)

-- held to the definition

-- r is what c answers, and knows what it holds then
pub record Tells (limits : Limits) (text h l b : List ℕ) (r : Replied) (c : JobCalled) : Type 0 where
  pub answers : r.answer ≡ c.answer
  pub holds : ReaderHolds limits text h l b r.reader c.job

-- behind an answer of the stream, x the stream then: the reader goes on, or a reply is told, whatever `go` is
abbrev pub ComesTo : Limits → List ℕ → List ℕ → List ℕ → List ℕ → ShapePlace → Met → ℕ → stream.Next → Stream → Asked → Type 0
ComesTo limits text h l b p m n a x (Goes q k) = StreamHeld limits text h l b n x × ((go : ShapePlace → Met → JobCalled) → by_answer a x p m n go ≡ go q k)
ComesTo limits text h l b p m n a x (Replies r) = (go : ShapePlace → Met → JobCalled) → Tells limits text h l b r (by_answer a x p m n go)

-- of every stream that is held: its next answer
abbrev pub AskPromises : Limits → List ℕ → List ℕ → List ℕ → List ℕ → List ℕ → List ℕ → List ℕ → ShapePlace → Met → ℕ → Asked → Type 0
AskPromises limits text h l b h' l' b' p m n a =
    (x : Stream) → StreamHeld limits text h l b n x → let c = call limits (length b) x in ComesTo limits text h' l' b' p m n c.answer c.stream a

-- so many more tokens are asked for at most
abbrev pub AsksPromise : Limits → List ℕ → ℕ → List ℕ → List ℕ → List ℕ → List ℕ → List ℕ → List ℕ → ShapePlace → Met → ℕ → Replied → Type 0
AsksPromise limits text k h l b h' l' b' p m n r = (x : Stream) → StreamHeld limits text h l b n x → Tells limits text h' l' b' r (asks limits (length b) k x p m n)

-- in the loop, j more tokens left of k: what is promised of the rest is promised of all
pub record AsksOn (limits : Limits) (text h₀ l₀ b₀ : List ℕ) (p₀ : ShapePlace) (m₀ : Met) (n k : ℕ) (h l b : List ℕ) (p : ShapePlace) (m : Met) (j : ℕ) : Type 0 where
  pub held : length h ≡ held_words
  pub same_words : length l ≡ length l₀
  pub same_bytes : length b ≡ length b₀
  pub all : {h' l' b' : List ℕ} {r : Replied} → AsksPromise limits text j h l b h' l' b' p m n r → AsksPromise limits text k h₀ l₀ b₀ h' l' b' p₀ m₀ n r
