-- Steps one after the other: up to the end of the text, to a rule that is broken, or to where a test behind a step says so. The test also keeps
-- what is pending: the first token that can't be given yet.
use Rattle.std.specs.Prelude.{◌+◌, ◌-◌, suc, zero, ℕ, Bool, false, true, List, [], ◌++◌, ◌∷◌, ltb, length}
use Rattle.yaml_text.specs.declared.Mark.{Mark}
use Rattle.yaml_text.specs.Mark.{origin}
use Rattle.yaml_text.specs.Pick.{pick}
use Rattle.yaml_text.specs.Refusal.{Read, got, refused}
use Rattle.yaml_scan.specs.declared.Candidate.{Candidate}
use Rattle.yaml_scan.specs.declared.Limits.{Limits}
use Rattle.yaml_scan.specs.State.{Event, News, State, ends_with, goes_on, put, put_before, puts}
use Rattle.yaml_scan.specs.Scan.{step}
use Rattle.events.specs.declared.Counts.{Counts}
use Rattle.events.specs.Event.{event_texts}
use Rattle.yaml_stream.specs.Stream.{most_waiting, too_many_wait}
use Rattle.yaml_stream.specs.Lowest.{names}
use Rattle.yaml_stream.specs.Levels.{level_key}
use Rattle.stream_laws.specs.declared.Pending.{Pending}

-- how many tokens events put in before others
unfoldable pub noted : List Event → ℕ
noted [] = 0
noted (put t ∷ es) = noted es
noted (put_before k ts ∷ es) = length ts + noted es

-- the counts behind these events
abbrev pub counts_after : Counts → List Event → Counts
counts_after n es = record { count = n.count + puts es; put_in = n.put_in + noted es; used = n.used + length (event_texts es) }

-- what is said behind a step: go on, pause here, each with what is pending then; or a refusal
pub data Halt : Type 0 where
  go_on : Pending → Halt
  pause : Pending → Halt
  refuse : ℕ → Mark → Halt

-- what steps come to, with all that they said
pub data Driven : Type 0 where
  ends : List Event → Driven
  -- what is pending then, and the state behind the last step
  pauses : List Event → Pending → State → Driven
  -- what was pending before the last step
  stops : List Event → Pending → ℕ → Mark → Driven
  -- out of budget
  spent : Driven

abbrev pub behind_events : List Event → Driven → Driven
behind_events es (ends fs) = ends (es ++ fs)
behind_events es (pauses fs w t) = pauses (es ++ fs) w t
behind_events es (stops fs w k m) = stops (es ++ fs) w k m
behind_events es spent = spent

abbrev pub after_halt : Halt → List Event → Pending → State → Counts → (Pending → State → Counts → Driven) → Driven
after_halt (go_on v) es w t m go = behind_events es (go v t m)
after_halt (pause v) es w t m go = pauses es v t
after_halt (refuse k p) es w t m go = stops es w k p

-- the test is told what was pending before the step, and the flow level from which it was made
abbrev pub Test : Type 0
Test = Pending → ℕ → State → Counts → Halt

abbrev pub after_news : Test → Pending → ℕ → Counts → (Pending → State → Counts → Driven) → Read News → Driven
after_news test w level n go (got (goes_on es t)) = after_halt (test w level t (counts_after n es)) es w t (counts_after n es) go
after_news test w level n go (got (ends_with es)) = ends es
after_news test w level n go (refused k m) = stops [] w k m

-- so many steps at most
unfoldable pub driven : Limits → Test → ℕ → Pending → State → Counts → Driven
driven limits test zero w s n = spent
driven limits test (suc k) w s n = after_news test w (length s.levels) n (λ v t m. driven limits test k v t m) (step limits s)

-- so many slots with tokens that can be given are enough
abbrev pub slots_ahead : ℕ
slots_ahead = 32

-- 51: too many wait behind a step that was made up to p, with the counts m then
unfoldable pub crowded : Pending → Counts → Mark → Halt
crowded w m p = pick (ltb most_waiting (m.count - w.number + (m.put_in - w.put_in))) (refuse too_many_wait p) (go_on w)

-- what is pending where the first token that waited is no possible key any more: the last token, where it is the candidate of the level from which
-- the step was made, else none. ks: the candidates behind the step; flow: the flow level there
unfoldable pub then_pending : ℕ → List Candidate → ℕ → Counts → Pending
then_pending level ks flow m =
    pick (names (m.count - 1) (level_key level ks))
    (record { number = m.count - 1; level = level; put_in = m.put_in })
    (record { number = m.count; level = flow; put_in = m.put_in })

-- enough can be given, or on. base: the number of the token in slot 0
unfoldable pub if_enough : ℕ → Pending → Halt
if_enough base w = pick (ltb (w.number - base) slots_ahead) (go_on w) (pause w)

-- where tokens are given one at a time: 5, the texts scanned are more than the bytes lent; 51 or on, where the first token that waits is a possible
-- key still; else more can be given
unfoldable pub one_by_one : ℕ → ℕ → Pending → ℕ → List Candidate → ℕ → Mark → Counts → Halt
one_by_one room base w level ks flow p m =
    pick (ltb room m.used) (refuse 5 origin)
    (pick (names w.number (level_key w.level ks)) (crowded w m p) (if_enough base (then_pending level ks flow m)))

-- the test behind each step: none, in the one call
abbrev pub test_of : Bool → ℕ → ℕ → Pending → ℕ → List Candidate → ℕ → Mark → Counts → Halt
test_of false room base w level ks flow p m = go_on w
test_of true room base w level ks flow p m = one_by_one room base w level ks flow p m
