-- Theorems about specs/Done, and what rests on them.
use Rattle.std.specs.Prelude.{◌+◌, ◌/◌, ◌<◌, ◌≤◌, suc, ℕ, List, [], ◌++◌, ◌∷◌, ◌≡◌, refl, length}
use Rattle.std.proofs.Common.{append_assoc, append-nil, ◌∙◌, ap, sym, zero-add, arith}
use Rattle.yaml_text.specs.declared.Mark.{Mark}
use Rattle.yaml_lexeme.specs.Token.{StreamEnd, Token, empty_token, texts}
use Rattle.yaml_lexeme.specs.Record.{record_words}
use Rattle.yaml_scan.specs.declared.Limits.{Limits}
use Rattle.theorems.specs.Accepted.{Accepts}
use Rattle.theorems.proofs.Nesting as nesting
use Rattle.yaml_stream.specs.Stream.{Heard, ended, fresh, heard, least_records, most_waiting, refusal, too_many_wait}
use Rattle.yaml_stream.specs.Tale.{Close, at_end, built, outcome_of, outcome_told, told}
use Rattle.yaml_stream.specs.Given.{Ends, Own, by_own, by_rule, whole}
use Rattle.yaml_stream.proofs.Answers.{comes_to_end}
use Rattle.yaml_stream.proofs.Enough.{all_given, all_or_51}
use Rattle.yaml_stream.specs.Last.{built_last}
use Rattle.yaml_job.specs.declared.Closing.{Closing}
use Rattle.yaml_job.specs.declared.Closing.TheVariants.{Done, NotDone}
use Rattle.yaml_job.specs.declared.JobAnswer.TheVariants.{Closed}
use Rattle.yaml_job.specs.declared.Met.{Met}
use Rattle.yaml_job.specs.declared.ShapePlace.{ShapePlace}
use Rattle.yaml_job.specs.declared.ShapePlace.TheVariants.{AtStart}
use Rattle.yaml_job.specs.Job.{Talk, effect, follow, job, none_met, sight}
use Rattle.yaml_job.specs.Shape.{Shape}
use Rattle.yaml_job.specs.Reads.{End, ends_done, judged, judgement, stops, unread}
use Rattle.yaml_job.proofs.ReadsLaws.{done_shape}
use Rattle.yaml_job.proofs.Fits.{shape_done}
use Rattle.yaml_job.specs.Calls.{HasEnded, answer_of, judge, talk_of}
use Rattle.yaml_job.proofs.Calls.{follow_says}
use Rattle.yaml_job.specs.Done.{later_ended, end_ended, heard_of, talk_last, seed_values, talk_values, talk_length, follow_more, shape_end, JobDone, answer_done}

refusal_ended : (p : ShapePlace) (m : Met) (ts : List Token) (r : ℕ) (k : Mark) → HasEnded (judged p m ts (refusal r k)).end
unfolding judged
refusal_ended p m [] r k = λ e. let z : ◌≡◌ {A = ℕ} 0 1 = cc in omega arith
refusal_ended p m (t ∷ ts) r k = later_ended (effect p m (sight t)) t.start (λ q l. judged q l ts (refusal r k)) (λ q l. refusal_ended q l ts r k)

-- the list of a text whose run comes to the end
at_end_accepts : (limits : Limits) (bytes : List ℕ) → (told limits bytes).close ≡ at_end → Accepts limits bytes (built limits bytes)
at_end_accepts limits bytes e =
    record { events = (told limits bytes).events; accepted = outcome_told limits bytes ∙ ap (λ (c : Close). outcome_of (told limits bytes).events c) e; list = refl }

all_ended : (limits : Limits) (bytes : List ℕ) (words room k : ℕ) → length (built limits bytes) < k
    → HasEnded (judge AtStart none_met (heard_of limits bytes words room k)).end
all_ended limits bytes words room k b = by_end (comes_to_end limits bytes words room k b)
  where
    by_end : {h : Heard} → Ends (Own words room (built limits bytes)) (built limits bytes) (told limits bytes).close h → HasEnded (judge AtStart none_met h).end
    by_end (whole e) =
        let c = nesting.closes_all limits bytes (built limits bytes) (at_end_accepts limits bytes e) in
        rw c.2 (end_ended AtStart none_met c.0 [] (empty_token StreamEnd c.1) ended refl)
    by_end (by_rule {ts = ts} {n = n} {m = m} vs e f) = refusal_ended AtStart none_met ts n m
    by_end (by_own {ts = ts} {n = n} {m = m} vs e f) = refusal_ended AtStart none_met ts n m

-- with calls enough the job says what the reader makes of the tokens that the stream gives, and of its answer behind them
pub job_says : (limits : Limits) (bytes : List ℕ) (words room k : ℕ) → length (built limits bytes) < k
    → let v = judge AtStart none_met (heard_of limits bytes words room k) in follow limits room k (job limits bytes words) ≡ talk_of 0 v.values v.end
unfolding job
job_says limits bytes words room k b = follow_says limits room k (fresh limits bytes words) (all_ended limits bytes words room k b)

answer_closes : (n : ℕ) (e : End) → HasEnded e → (c : Closing) × (answer_of n e ≡ Closed c)
answer_closes n ends_done u = (Done n, refl)
answer_closes n (stops r k) u = (NotDone r k n, refl)
answer_closes n unread u = absurd (u refl)

-- its last answer is a closing record
pub job_closes : (limits : Limits) (bytes : List ℕ) (words room k : ℕ) → length (built limits bytes) < k
    → (c : Closing) × ((follow limits room k (job limits bytes words)).last ≡ Closed c)
job_closes limits bytes words room k b =
    let v = judge AtStart none_met (heard_of limits bytes words room k) in
    let c = answer_closes (0 + length v.values) v.end (all_ended limits bytes words room k b) in
    (c.0, ap (λ (t : Talk). t.last) (job_says limits bytes words room k b) ∙ talk_last 0 v.values v.end ∙ c.1)

heard_front : {words room : ℕ} {us : List Token} {c : Close} {h : Heard} → Ends (Own words room us) us c h → (vs : List Token) × (us ≡ h.tokens ++ vs)
heard_front {us} (whole e) = ([], sym (append-nil us))
heard_front (by_rule vs e f) = (vs, e)
heard_front (by_own vs e f) = (vs, e)

none_both : (us vs : List Token) → us ++ vs ≡ [] → (us ≡ []) × (vs ≡ [])
none_both [] vs e = (refl, e)
none_both (u ∷ us) vs e = let z : ◌≡◌ {A = ℕ} 0 1 = cc in absurd (omega arith)

-- the tokens given are the whole list of an accepted text
whole_list : (limits : Limits) (bytes ws : List ℕ) (ts us vs : List Token) → built limits bytes ≡ ts ++ vs → Shape ts ws us
    → Accepts limits bytes (built limits bytes) × Shape (built limits bytes) ws []
whole_list limits bytes ws ts us vs e s =
    let x = shape_end s in
    let f : built limits bytes ≡ x.0 ++ (x.1 ∷ (us ++ vs)) = e ∙ ap (λ (rs : List Token). rs ++ vs) x.2 ∙ append_assoc x.0 (x.1 ∷ us) vs in
    let l = built_last limits bytes x.0 (us ++ vs) x.1 f x.3 in
    let n = none_both us vs l.1 in
    let g : built limits bytes ≡ ts = e ∙ ap (λ (rs : List Token). ts ++ rs) n.1 ∙ append-nil ts in
    let o : Shape ts ws [] = rw n.0 at s in
    (at_end_accepts limits bytes l.0, rw g o)

-- whatever the number of calls and the rooms
pub done_means : (limits : Limits) (bytes : List ℕ) (words room k n : ℕ) → let r = follow limits room k (job limits bytes words) in r.last ≡ Closed (Done n)
    → JobDone limits bytes n r.handed
done_means limits bytes words room k n e =
    let j = k + suc (length (built limits bytes)) in
    let h = heard_of limits bytes words room j in
    let v = judge AtStart none_met h in
    let b : length (built limits bytes) < j = omega arith in
    let c : talk_of 0 v.values v.end ≡ follow limits room k (job limits bytes words) =
    sym (job_says limits bytes words room j b) ∙ follow_more limits room k j (omega arith) (job limits bytes words) (Done n) e in
    let d = answer_done (0 + length v.values) n v.end (sym (talk_last 0 v.values v.end) ∙ ap (λ (t : Talk). t.last) c ∙ e) in
    let s = done_shape h.tokens h.last d.0 in
    let f = heard_front (comes_to_end limits bytes words room j b) in
    let w = whole_list limits bytes v.values h.tokens s.0 f.0 f.1 s.1 in
    let g : seed_values (follow limits room k (job limits bytes words)).handed ≡ v.values =
    ap (λ (t : Talk). seed_values t.handed) (sym c) ∙ talk_values 0 v.values v.end in
    record {
      list = built limits bytes;
      accepted = w.0;
      of_shape = rw g w.1;
      count = sym d.1 ∙ zero-add (length v.values) ∙ talk_length 0 v.values v.end ∙ ap (λ (t : Talk). length t.handed) c;
    }

-- where the stream gives a whole list of the shape, and then "ended", the job is done with its seeds
pub done_given : (limits : Limits) (bytes : List ℕ) (words room k : ℕ) (ts : List Token) (vs : List ℕ) → heard_of limits bytes words room k ≡ heard ts ended
    → Shape ts vs [] → follow limits room k (job limits bytes words) ≡ talk_of 0 vs ends_done
unfolding job
done_given limits bytes words room k ts vs e s =
    let d = shape_done ended s in
    let f : judge AtStart none_met (heard_of limits bytes words room k) ≡ judgement vs ends_done = rw e d in
    let u : HasEnded (judge AtStart none_met (heard_of limits bytes words room k)).end = rw f (λ x. let z : ◌≡◌ {A = ℕ} 0 1 = cc in omega arith) in
    rw f at (follow_says limits room k (fresh limits bytes words) u)

-- for an accepted text: 4,400 records, bytes for its texts, a list of 4,096 tokens at most
pub done_enough : (limits : Limits) (bytes : List ℕ) (words room k : ℕ) (ts : List Token) (vs : List ℕ) → Accepts limits bytes ts → Shape ts vs [] → length ts < k
    → least_records ≤ words / record_words → length (texts ts) ≤ room → length ts ≤ most_waiting → follow limits room k (job limits bytes words) ≡ talk_of 0 vs ends_done
done_enough limits bytes words room k ts vs a s b w d t =
    let l = a.list in
    let e = all_given limits bytes words room k a.events a.accepted (rw l at b) w (rw l at d) (rw l at t) in
    done_given limits bytes words room k ts vs (rw l e) s

-- a list of any length: where 51 is not answered
pub done_or_51 : (limits : Limits) (bytes : List ℕ) (words room k : ℕ) (ts : List Token) (vs : List ℕ) → Accepts limits bytes ts → Shape ts vs [] → length ts < k
    → least_records ≤ words / record_words → length (texts ts) ≤ room → ((m : Mark) → (heard_of limits bytes words room k).last ≡ refusal too_many_wait m → ⊥)
    → follow limits room k (job limits bytes words) ≡ talk_of 0 vs ends_done
done_or_51 limits bytes words room k ts vs a s b w d t =
    let l = a.list in
    let e = all_or_51 limits bytes words room k a.events a.accepted (rw l at b) w (rw l at d) t in
    done_given limits bytes words room k ts vs (rw l e) s
