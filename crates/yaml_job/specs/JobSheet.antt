-- The job sheet `sample: a`, `panel: b`, `seeds: [1, 1, ]`, each on its line, with k seeds: the scan up to its list, computed. SheetDone has the rest, and its job.
use Rattle.std.specs.Prelude.{suc, zero, ℕ, Bool, false, true, List, [], ◌++◌, ◌∷◌, ◌≡◌, refl}
use Rattle.std.proofs.Common.{append_assoc, sym}
use Rattle.yaml_text.specs.declared.Mark.{Mark}
use Rattle.yaml_text.specs.Char.{':', '[', 'a', 'b', line_feed, space}
use Rattle.yaml_text.specs.Mark.{along, origin}
use Rattle.yaml_text.specs.Refusal.{Read, got, refused}
use Rattle.yaml_text.specs.Test.{true_false}
use Rattle.yaml_lexeme.specs.declared.Style.TheVariants.{Plain}
use Rattle.yaml_lexeme.specs.Token.{BlockMappingStart, Key, Scalar, Value, empty_token}
use Rattle.yaml_scan.specs.declared.Candidate.TheVariants.{Possible}
use Rattle.yaml_scan.specs.State.{Event, News, State, ends_with, goes_on, put, put_before}
use Rattle.yaml_scan.specs.Scan.{begin, standard, step}
use Rattle.yaml_scan.specs.Open.{all_open}
use Rattle.yaml_stream.specs.SeedList.{entries, entries_simple, in_line, mapping, next_events, next_state, open_mark, simple, spans}
use Rattle.yaml_job.specs.declared.Field.TheVariants.{Panel, Sample, Seeds}
use Rattle.yaml_job.specs.Job.{spelled}
use Rattle.yaml_job.specs.Open.{job_open}

abbrev pub job_sheet : ℕ → List ℕ
job_sheet k =
    spelled Sample ++ (':' ∷ space ∷ 'a' ∷ line_feed ∷ [])
    ++ (spelled Panel ++ (':' ∷ space ∷ 'b' ∷ line_feed ∷ []))
    ++ (spelled Seeds ++ (':' ∷ space ∷ '[' ∷ entries k))

pub sheet_simple : (k : ℕ) → simple (job_sheet k) ≡ true
unfolding simple all_open job_open
sheet_simple k = entries_simple k

-- what the run from a state says up to the text's end
pub data Scans : State → List Event → Type 0 where
  at_end : {s : State} {es : List Event} → step standard s ≡ got (ends_with es) → Scans s es
  then_scans : {s t : State} {es fs : List Event} → step standard s ≡ got (goes_on es t) → Scans t fs → Scans s (es ++ fs)

-- before the list each step is computed

-- so many steps, which go on
unfoldable steps : ℕ → State → State
steps zero s = s
steps (suc n) s = steps n (next_state (step standard s))

unfoldable said : ℕ → State → List Event
said zero s = []
said (suc n) s = next_events (step standard s) ++ said n (next_state (step standard s))

abbrev on_going : Read News → (State → Bool) → Bool
on_going (got (goes_on es t)) go = go t
on_going (got (ends_with es)) go = false
on_going (refused n m) go = false

unfoldable going : ℕ → State → Bool
going zero s = true
going (suc n) s = on_going (step standard s) (λ t. going n t)

computed : (n : ℕ) (s : State) (fs : List Event) → going n s ≡ true → Scans (steps n s) fs → Scans s (said n s ++ fs)
unfolding steps said going
computed zero s fs e h = h
computed (suc n) s fs e h = by_news (step standard s) refl e h (λ t f k. computed n t fs f k)
  where
    by_news : (r : Read News) → step standard s ≡ r → on_going r (λ t. going n t) ≡ true → Scans (steps n (next_state r)) fs
        → ((t : State) → going n t ≡ true → Scans (steps n t) fs → Scans t (said n t ++ fs)) → Scans s (next_events r ++ said n (next_state r) ++ fs)
    by_news (got (goes_on es t)) i f k go = rw (append_assoc es (said n t) fs) (then_scans i (go t f k))
    by_news (got (ends_with es)) i f k go = true_false (sym f)
    by_news (refused j m) i f k go = true_false (sym f)

-- what is said before the list, as it is computed: that it is told by its numbers keeps the comparison short

abbrev mark_at : ℕ → ℕ → ℕ → Mark
mark_at i l d = record { index = i; line = l; col = d }

abbrev text_at : List ℕ → Mark → Mark → Event
text_at cs m e = put (spans (Scalar Plain cs) m e)

abbrev pub heading : List Event
heading =
    text_at (spelled Sample) origin (mark_at 6 1 6)
    ∷ put_before 1 (empty_token BlockMappingStart origin ∷ empty_token Key origin ∷ [])
    ∷ put (spans Value (mark_at 6 1 6) (mark_at 7 1 7))
    ∷ text_at ('a' ∷ []) (mark_at 8 1 8) (mark_at 9 1 9)
    ∷ text_at (spelled Panel) (mark_at 10 2 0) (mark_at 15 2 5)
    ∷ put_before 4 (empty_token Key (mark_at 10 2 0) ∷ [])
    ∷ put (spans Value (mark_at 15 2 5) (mark_at 16 2 6))
    ∷ text_at ('b' ∷ []) (mark_at 17 2 7) (mark_at 18 2 8)
    ∷ text_at (spelled Seeds) (mark_at 19 3 0) (mark_at 24 3 5)
    ∷ []

-- the list opens in the third line, behind its key, token 7
abbrev pub third_line : ℕ → State
third_line k = in_line (':' ∷ space ∷ '[' ∷ entries k) (mark_at 24 3 5) (mapping true) (Possible true 7 (mark_at 19 3 0)) 0 8

-- behind its bracket
abbrev pub first_entry : Mark
first_entry = along (open_mark 19 3)

pub before_list : (k : ℕ) (fs : List Event) → Scans (third_line k) fs → Scans (begin (job_sheet k)) (heading ++ fs)
unfolding all_open job_open steps said going
before_list k fs h = computed 7 (begin (job_sheet k)) fs refl h
