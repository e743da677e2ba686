-- A whole run: what a text says, stored in the words and settled, is the definition's records, and D is what its events' texts take.
use Rattle.std.specs.Prelude.{◌*◌, ◌≤◌, ℕ, ◌≡◌, drop}
use mathlib.Core.List.{List, [], ◌++◌}
use Rattle.std.proofs.Common.{◌∙◌, sym, arith}
use Rattle.std.proofs.Math.ListN.{length}
use Rattle.yaml_lexeme.specs.Token.{texts}
use Rattle.yaml_lexeme.specs.Record.{record_words, records}
use Rattle.yaml_scan.specs.declared.Limits.{Limits}
use Rattle.yaml_scan.specs.State.{Event, puts}
use Rattle.yaml_scan.specs.Slots.{slots, tokens_of}
use Rattle.yaml_scan.specs.SlotLaws.{slots_length}
use Rattle.yaml_scan.specs.Scan.{outcome, scanned}
use Rattle.yaml_scan.proofs.Budget.{outcome_placed}
use Rattle.yaml_scan.specs.Candidates.{Placed}
use Rattle.events.specs.Event.{event_texts}
use Rattle.sink.specs.Settle.{front, settled_words, total_records}
use Rattle.sink.specs.SlotWords.{slot_texts, slot_words}
use Rattle.sink.specs.SlotsSettled.{AllNoted, flat_least, flat_texts, slots_settled}
use Rattle.sink.specs.EventsStored.{Notes, events_stored, slots_noted, store_events, stored_texts}
use Rattle.sink.specs.OnlyNotes.{outcome_notes}

-- its events stored in the words l, then the pass
pub record RunRecords (es : List Event) (l : List ℕ) : Type 0 where
  pub number : total_records (front (puts es) (store_events l 0 0 es)) ≡ length (tokens_of es)
  pub words : settled_words (puts es) (store_events l 0 0 es) ≡ records 0 (tokens_of es) ++ drop (length (tokens_of es) * record_words) l

module _ (limits : Limits) (bytes : List ℕ) (es : List Event) (says : outcome limits bytes ≡ scanned es) where
  placed : Placed [] es
  placed = rw says at (outcome_placed limits bytes)

  notes : Notes es
  notes = outcome_notes limits bytes es says

  all_noted : AllNoted (slots [] es)
  unfolding AllNoted
  all_noted = slots_noted es [] [] tt placed notes tt

  pub outcome_records : (l : List ℕ) → length (tokens_of es) * record_words ≤ length l → RunRecords es l
  unfolding slot_words slot_texts
  outcome_records l h =
      let xs = slots [] es in
      let e : length xs ≡ puts es = (let a = slots_length [] es in omega arith) in
      let g : length xs * record_words ≤ length l = omega (arith, flat_least xs) in
      let r = rw (sym (events_stored 0 es [] [] l tt placed notes g), e) at (slots_settled 0 xs l all_noted) in
      record { number = r.0; words = r.1 }

  -- what is put in has no text
  pub outcome_texts : texts (tokens_of es) ≡ event_texts es
  unfolding slot_texts
  outcome_texts = flat_texts (slots [] es) all_noted ∙ stored_texts es []
