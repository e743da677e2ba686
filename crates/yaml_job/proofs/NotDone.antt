-- Theorems about specs/NotDone, and what rests on them.
use Rattle.std.specs.Prelude.{◌+◌, ◌<◌, ◌≤◌, ℕ, List, [], ◌++◌, ◌∷◌, ◌≡◌, length}
use Rattle.std.proofs.Common.{append_assoc, append-nil, ◌∙◌, ap, sym, arith}
use Rattle.yaml_text.specs.declared.Mark.{Mark}
use Rattle.yaml_lexeme.specs.Token.{Token}
use Rattle.yaml_scan.specs.declared.Limits.{Limits}
use Rattle.yaml_scan.specs.State.{Event}
use Rattle.yaml_scan.specs.Slots.{tokens_of}
use Rattle.theorems.specs.Accepted.{Accepts}
use Rattle.yaml_stream.specs.Stream.{Heard, Next, refusal}
use Rattle.yaml_stream.specs.Tale.{at_end, built, closes_as, outcome_told, told}
use Rattle.yaml_stream.specs.Given.{Ends, Own, by_own, by_rule, whole}
use Rattle.yaml_stream.proofs.Answers.{accepted_ends, comes_to_end}
use Rattle.yaml_stream.specs.Numbers.{closes_by, own_some, rule_some}
use Rattle.yaml_job.specs.declared.Closing.TheVariants.{NotDone}
use Rattle.yaml_job.specs.declared.JobAnswer.TheVariants.{Closed}
use Rattle.yaml_job.specs.declared.Met.{Met}
use Rattle.yaml_job.specs.declared.ShapePlace.{ShapePlace}
use Rattle.yaml_job.specs.declared.ShapePlace.TheVariants.{AtStart}
use Rattle.yaml_job.specs.Job.{Talk, follow, job, none_met}
use Rattle.yaml_job.specs.Shape.{Shape}
use Rattle.yaml_job.specs.Reads.{End, ends_done, stops, unread}
use Rattle.yaml_job.specs.Calls.{answer_of, judge}
use Rattle.yaml_job.specs.Done.{heard_of, talk_last}
use Rattle.yaml_job.proofs.Done.{job_says}
use Rattle.yaml_job.specs.Refused.{Stops, Why, by_scanner, by_token, missing, no_number, out_of_place, stops_so, unknown}
use Rattle.yaml_job.proofs.Refused.{no_job, refused_why}

answer_not : (k n r : ℕ) (m : Mark) (e : End) → answer_of k e ≡ Closed (NotDone r m n) → e ≡ stops r m
answer_not k n r m ends_done f = let z : ◌≡◌ {A = ℕ} 0 1 = cc in absurd (omega arith)
answer_not k n r m (stops i j) f = let g : i ≡ r = cc in let h : j ≡ m = cc in rw (g, h)
answer_not k n r m unread f = let z : ◌≡◌ {A = ℕ} 0 1 = cc in absurd (omega arith)

-- behind tokens that fit: the first that does not, at its start, or the scanner's refusal
pub not_done_means : (limits : Limits) (bytes : List ℕ) (words room k r n : ℕ) (m : Mark) → length (built limits bytes) < k
    → (follow limits room k (job limits bytes words)).last ≡ Closed (NotDone r m n)
    → let h = heard_of limits bytes words room k in Stops AtStart none_met h.last h.tokens r m
not_done_means limits bytes words room k r n m b e =
    let h = heard_of limits bytes words room k in
    let v = judge AtStart none_met h in
    let f = sym (talk_last 0 v.values v.end) ∙ ap (λ (t : Talk). t.last) (sym (job_says limits bytes words room k b)) ∙ e in
    stops_so AtStart none_met h.tokens h.last r m (answer_not (0 + length v.values) n r m v.end f)

-- in a list of the shape no token fails to fit
none_fails : {us : List Token} {a : Next} {vs : List ℕ} {r : ℕ} {m : Mark} (list xs : List Token) → list ≡ us ++ xs → Stops AtStart none_met a us r m
    → Shape list vs [] → a ≡ refusal r m
none_fails list xs e (by_token {us = fs} t ws w f g) s =
    let j : list ≡ fs ++ (t ∷ (ws ++ xs)) = e ∙ ap (λ (us : List Token). us ++ xs) g ∙ append_assoc fs (t ∷ ws) xs in
    absurd (no_job t (ws ++ xs) w f (rw j at s))
none_fails list xs e (by_scanner w f) s = f

-- an accepted text of the shape is refused by 5, 51 or 52 alone, each with its reason
pub shape_refused : (limits : Limits) (bytes : List ℕ) (words room k r n : ℕ) (m : Mark) (ts : List Token) (vs : List ℕ) → Accepts limits bytes ts → Shape ts vs []
    → length ts < k → (follow limits room k (job limits bytes words)).last ≡ Closed (NotDone r m n) → Own words room ts r m
shape_refused limits bytes words room k r n m ts vs a s b e =
    let l = a.list in
    let c = closes_as (told limits bytes).close (told limits bytes).events a.events (sym (outcome_told limits bytes) ∙ a.accepted) in
    let g : ts ≡ built limits bytes = l ∙ ap (λ (es : List Event). tokens_of es) (sym c.1) in
    let i = not_done_means limits bytes words room k r n m (rw g at b) e in
    rw l (by_end (accepted_ends limits bytes words room k a.events a.accepted (rw l at b)) i (rw l at s))
  where
    by_end : {h : Heard} {list : List Token} → Ends (Own words room list) list at_end h → Stops AtStart none_met h.last h.tokens r m → Shape list vs []
        → Own words room list r m
    by_end {list} (whole f) i s = let x = none_fails list [] (sym (append-nil list)) i s in let z : ◌≡◌ {A = ℕ} 0 1 = cc in absurd (omega arith)
    by_end (by_rule us f g) i s = let z : ◌≡◌ {A = ℕ} 0 1 = cc in absurd (omega arith)
    by_end {list} (by_own {n = x} {m = j} us f o) i s =
        let y = none_fails list us f i s in
        let p : x ≡ r = cc in
        let q : j ≡ m = cc in
        rw q at (rw p at o)

why_some : {p : ShapePlace} {m : Met} {t : Token} {r : ℕ} → Why p m t r → 1 ≤ r
why_some (missing k e) = omega arith
why_some (unknown s h) = omega arith
why_some (no_number s h) = omega arith
why_some (out_of_place x h) = omega arith

stops_some : {us : List Token} {a : Next} {r : ℕ} {m : Mark} → (a ≡ refusal r m → 1 ≤ r) → Stops AtStart none_met a us r m → 1 ≤ r
stops_some h (by_token {q = q} {l = l} {r = r} t vs w e f) = why_some (refused_why q l t r e)
stops_some h (by_scanner w e) = h e

-- 70 to 73, a rule's, or one of the stream's own
pub stopped_some : (limits : Limits) (bytes : List ℕ) (words room k r n : ℕ) (m : Mark) → length (built limits bytes) < k
    → (follow limits room k (job limits bytes words)).last ≡ Closed (NotDone r m n) → 1 ≤ r
stopped_some limits bytes words room k r n m b e =
    stops_some (by_end (comes_to_end limits bytes words room k b)) (not_done_means limits bytes words room k r n m b e)
  where
    by_end : {h : Heard} → Ends (Own words room (built limits bytes)) (built limits bytes) (told limits bytes).close h → h.last ≡ refusal r m → 1 ≤ r
    by_end (whole f) g = let z : ◌≡◌ {A = ℕ} 0 1 = cc in absurd (omega arith)
    by_end (by_rule {n = x} {m = j} us f c) g = let y : x ≡ r = cc in rw (← y) (rule_some (closes_by limits bytes x j c))
    by_end (by_own {n = x} us f o) g = let y : x ≡ r = cc in rw (← y) (own_some o)
