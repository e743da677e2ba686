-- The start of a run: words that are all zero, with the first state and its counts stored, hold what the definition begins with, and steps behind which nothing is asked are its run.
use Prim.Native.Nat.{◌≤◌, suc, zero, ℕ}
use mathlib.Core.Bool.{false}
use mathlib.Core.List.{List, [], ◌∷◌}
use mathlib.Core.Path.{◌∙◌, ◌≡◌, ap, refl, subst, sym}
use Rattle.std.specs.Prelude.{Result, Ok, Err}
use Rattle.yaml_text.specs.declared.Refusal.{Refusal}
use native.Mathlib.Omega.{arith}
use lib.ListN.{get_or, length, length-replicate, replicate}
use lib.Seq.{get_or-take}
use Rattle.yaml_text.specs.Mark.{origin}
use Rattle.yaml_text.specs.Utf8.{chars}
use Rattle.yaml_lexeme.specs.declared.Kind.TheVariants as kind
use Rattle.yaml_lexeme.specs.Token.{StreamStart, empty_token, kind_bytes}
use Rattle.yaml_lexeme.specs.Record.{laid, record_of}
use Rattle.yaml_scan.specs.declared.Candidate.TheVariants.{Absent}
use Rattle.yaml_scan.specs.declared.Limits.{Limits}
use Rattle.yaml_scan.specs.State.{State, put, puts}
use Rattle.yaml_scan.specs.SlotLaws.{total}
use Rattle.yaml_scan.specs.Scan.{begin, run, scan}
use Rattle.yaml_scan.specs.Scan as definition
use Rattle.chars.specs.Places.{stands_start}
use Rattle.events.specs.declared.Counts.{Counts}
use Rattle.events.specs.Event.{empty_of, event_texts, laid_events}
use Rattle.stacks.specs.Frame.{frame_keys, frame_levels, key_at, key_of}
use Rattle.stacks.specs.Indent.{entries_of}
use Rattle.stacks.specs.Most.{at_most, at_most_stays}
use Rattle.stacks.specs.Stack.{frame_at, stack_words}
use Rattle.stacks.proofs.Entries.{low_start}
use Rattle.states.specs.declared.State as code
use Rattle.states.specs.State.{s_begin, state_of}
use Rattle.sink.specs.EventsStored.{store_laid}
use Rattle.sink.specs.Store.{put_record}
use Rattle.sink.specs.Stored.{Stored, no_counts, stored_then}
use Rattle.storing.specs.Step.{StepGiven}
use Rattle.driver.specs.declared.Outcome.{Outcome}
use Rattle.driver.specs.declared.Outcome.TheVariants.{Ready, Scanned}
use Rattle.stream_laws.specs.Driven.{Driven}
use Rattle.driver.specs.Drives.{Drives, drives}
use Rattle.driver.specs.Held.{Modest, base_at, counts_held, held_words, pending_held, put_counts, put_state, stacks_held, word}
use Rattle.driver.proofs.Driven.{AsRun, driven_run}
use Rattle.driver.proofs.Driving.{all_driven}
use Rattle.driver.proofs.Leaving.{Loaded, loaded_drives, test_at}
use Rattle.driver.proofs.Words.{stored_counts, stored_other, stored_state}
use Rattle.scanner.specs.Run.{RunScans, RunStops}

-- what the steps come to: nothing is asked behind one, so that they never pause
abbrev pub Comes : definition.Outcome → Counts → List ℕ → List ℕ → List ℕ → List ℕ → Result Outcome Refusal → Type 0
Comes d n l b l' b' (Ok (Scanned m)) = RunScans d n m l b l' b'
Comes d n l b l' b' (Ok Ready) = ⊥
Comes d n l b l' b' (Err f) = RunStops d l b l' b' f

abbrev pub one : Counts
one = record { count = 1; put_in = 0; used = 0 }

zeros : (n i : ℕ) → ◌≡◌ {A = ℕ} (get_or (replicate {A = ℕ} n 0) i 0) 0
zeros zero i = refl
zeros (suc n) zero = refl
zeros (suc n) (suc i) = zeros n i

-- what is held first
abbrev pub held_first : List ℕ
held_first = put_counts (put_state (replicate held_words 0) s_begin) one

module _ (limits : Limits) (text : List ℕ) (modest : Modest limits) (short : length text ≤ 1_048_576) where
  start_given : StepGiven limits text (replicate stack_words 0) s_begin one
  start_given =
      record {
        short = short;
        ready = record {
          stands = stands_start text short;
          low = low_start limits.entries;
          deep = omega arith;
          lent = record { room = omega (arith, length-replicate {A = ℕ} stack_words 0); entries_most = modest.entries; levels_most = modest.levels };
        };
        few = record { count = omega arith; put_in = omega arith; used = omega arith };
      }

  -- of a word that is neither the state's nor the counts', zero is read
  first_word : (k : ℕ) → k ≤ base_at → word held_first k ≡ 0
  first_word k h = stored_other start_given (replicate held_words 0) (length-replicate {A = ℕ} held_words 0) k (λ a b. omega arith) ∙ zeros held_words k

  first_key : key_of (stacks_held held_first) 0 ≡ Absent
  unfolding key_at
  first_key =
      let e : get_or (stacks_held held_first) (frame_at 0) 0 ≡ 0 = get_or-take stack_words held_first (frame_at 0) 0 (omega arith) ∙ first_word (frame_at 0) (omega arith) in
      rw e

  first_state : state_of text (stacks_held held_first) 1 s_begin ≡ begin (chars text)
  unfolding entries_of frame_keys frame_levels
  first_state = rw first_key

  first_loaded : Loaded limits text held_first s_begin one 0 (pending_held held_first 0 one)
  first_loaded =
      let z = length-replicate {A = ℕ} held_words 0 in
      record {
        state_is = sym (stored_state start_given (replicate held_words 0) z);
        counts_is = sym (stored_counts start_given (replicate held_words 0) z);
        base_is = sym (ap (λ (k : ℕ). at_most (counts_held text held_first).count k) (first_word base_at (omega arith)) ∙ at_most_stays (counts_held text held_first).count 0 (omega arith));
        pending_is = refl;
      }

  -- the definition's run, with so many steps as the text has characters, and one more
  abbrev run_from : State → definition.Outcome
  run_from s = run limits (suc (length (chars text))) s

  abbrev whole : definition.Outcome
  whole = run_from (begin (chars text))

  -- which is what the steps come to
  first_comes : (room : ℕ) {d : Driven} → drives limits false text room held_first ≡ d → AsRun d whole
  first_comes room e =
      let s = state_of text (stacks_held held_first) 1 s_begin in
      subst (λ (d : Driven). AsRun d whole) (sym (loaded_drives false room held_first first_loaded) ∙ e)
      (subst (λ (y : State). AsRun (all_driven limits text (test_at false room 0) (pending_held held_first 0 one) s one) (run_from y)) first_state
      (driven_run limits (suc (length (chars text))) (pending_held held_first 0 one) s one))

  -- StreamStart is stored first
  start_comes : {l' : List ℕ} (l b h words bytes : List ℕ) (o : Result Outcome Refusal) → l' ≡ put_record l 0 (record_of (empty_of kind.StreamStart origin)) → length l' ≡ length l
      → Drives limits false text held_first l' b h words bytes o → Comes (scan limits (chars text)) no_counts l b words bytes o
  unfolding scan store_laid laid_events event_texts puts total laid kind_bytes
  start_comes {l'} l b h words bytes o e kept c = by_outcome o c
    where
      start_stored : Stored 0 no_counts one l b l' b (put (empty_token StreamStart origin) ∷ [])
      start_stored = record { words = e; bytes = refl; counts = record { count = refl; tokens = refl; used = refl } }

      by_outcome : (o : Result Outcome Refusal) → Drives limits false text held_first l' b h words bytes o → Comes (scan limits (chars text)) no_counts l b words bytes o
      by_outcome (Ok (Scanned m)) (x, _, _) =
          record {
            said = put (empty_token StreamStart origin) ∷ x.said;
            same = rw (first_comes (length b) x.same);
            stored = stored_then (omega arith) start_stored (rw (← first_loaded.base_is, ← first_loaded.counts_is) at x.stored);
            few = x.few;
          }
      by_outcome (Err f) x = record { same = rw (first_comes (length b) x.same); words = x.words_length ∙ kept; bytes = x.bytes_length }
      by_outcome (Ok Ready) x = first_comes (length b) x.same

  -- the state and the counts were stored one after the other
  pub start_runs : {s : code.State} {h₁ h₂ l' : List ℕ} (l b h words bytes : List ℕ) (o : Result Outcome Refusal) → s ≡ s_begin → h₁ ≡ put_state (replicate held_words 0) s → h₂ ≡ put_counts h₁ one
      → l' ≡ put_record l 0 (record_of (empty_of kind.StreamStart origin)) → length l' ≡ length l → Drives limits false text h₂ l' b h words bytes o
      → Comes (scan limits (chars text)) no_counts l b words bytes o
  start_runs l b h words bytes o first state_stored counts_stored e kept c = start_comes l b h words bytes o e kept (rw (counts_stored, state_stored, first) at c)
