-- Theorems about specs/Handed, and what rests on them.
use Rattle.std.specs.Prelude.{◌<◌, ℕ, ◌&&◌, List, [], ◌∷◌, ◌≡◌, length}
use Rattle.std.proofs.Math.Bool.{not}
use Rattle.std.proofs.Common.{◌∙◌, ap}
use Rattle.yaml_text.specs.Class.{same}
use Rattle.yaml_text.specs.Test.{by_pick, on_pick}
use Rattle.yaml_lexeme.specs.declared.Style.TheVariants.{Plain}
use Rattle.yaml_lexeme.specs.Token.{BlockMappingStart, FlowEntry, FlowMappingEnd, FlowMappingStart, FlowSequenceEnd, FlowSequenceStart, Key, Kind, Scalar, StreamEnd, StreamStart, Token, Value, token_bytes}
use Rattle.yaml_scan.specs.declared.Limits.{Limits}
use Rattle.yaml_stream.specs.Stream.{Next}
use Rattle.yaml_stream.specs.Tale.{built}
use Rattle.yaml_job.specs.declared.Effect.{Effect}
use Rattle.yaml_job.specs.declared.Effect.TheVariants.{Finishes, Hands, Passes, Refuses}
use Rattle.yaml_job.specs.declared.Field.{Field}
use Rattle.yaml_job.specs.declared.Field.TheVariants.{Panel, Sample, Seeds}
use Rattle.yaml_job.specs.declared.Form.{Form}
use Rattle.yaml_job.specs.declared.Form.TheVariants.{Block, Braces}
use Rattle.yaml_job.specs.declared.Met.{Met}
use Rattle.yaml_job.specs.declared.ShapePlace.{ShapePlace}
use Rattle.yaml_job.specs.declared.ShapePlace.TheVariants.{AtEnd, AtEntry, AtField, AtList, AtMapping, AtName, AtStart, AtText, AtValue, BehindField, BehindSeed}
use Rattle.yaml_job.specs.Job.{Talk, all_met, behind_value, effect, end_of, follow, has, holds, is, is_scalar, job, meets, named, no_place, none_met, placed, seed_of, sight, spelled, wants}
use Rattle.yaml_job.specs.Shape.{IsScalar, IsSeed}
use Rattle.yaml_job.specs.Seen.{is_a_scalar, is_seed}
use Rattle.yaml_job.specs.Reads.{Judgement, after_effect, judged}
use Rattle.yaml_job.proofs.ReadsLaws.{seed_seen}
use Rattle.yaml_job.specs.Calls.{judge}
use Rattle.yaml_job.specs.Done.{heard_of, seed_values, talk_values}
use Rattle.yaml_job.proofs.Done.{job_says}
use Rattle.yaml_job.specs.Handed.{Handed, no_more, another, one}

module _ (m : Met) (t : Token) where
  abbrev HandsSeed : Effect → Type 0
  HandsSeed (Passes q l) = Unit {0}
  HandsSeed (Hands v q l) = IsSeed t v
  HandsSeed (Refuses r) = Unit {0}
  HandsSeed Finishes = Unit {0}

  meets_hands : (g : Form) (f : Field) → HandsSeed (meets g m f)
  meets_hands g f = on_pick HandsSeed (has m f) (λ _. tt) (λ _. tt)

  named_hands : (g : Form) (ds : List ℕ) → HandsSeed (named g m ds)
  unfolding named
  named_hands g ds =
      on_pick HandsSeed (same ds (spelled Sample)) (λ _. meets_hands g Sample)
      (λ _. on_pick HandsSeed (same ds (spelled Panel)) (λ _. meets_hands g Panel) (λ _. on_pick HandsSeed (same ds (spelled Seeds)) (λ _. meets_hands g Seeds) (λ _. tt)))

  seed_hands : (g : Form) → IsScalar t → HandsSeed (seed_of g m (sight t))
  unfolding seed_of
  seed_hands g s = on_pick HandsSeed (is_seed (sight t)) (λ e. seed_seen t s e) (λ _. tt)

  -- of kinds that have their place here
  one_hands : (k : Kind) (q : ShapePlace) → HandsSeed (wants k q m (sight t) no_place)
  one_hands k q = by_pick HandsSeed (is k (sight t)) (Passes q m) no_place tt tt

  two_hands : (k i : Kind) (q o : ShapePlace) → HandsSeed (wants k q m (sight t) (wants i o m (sight t) no_place))
  two_hands k i q o = by_pick HandsSeed (is k (sight t)) (Passes q m) (wants i o m (sight t) no_place) tt (one_hands i o)

  placed_hands : (p : ShapePlace) → HandsSeed (placed p m (sight t))
  unfolding placed
  placed_hands AtStart = one_hands StreamStart AtMapping
  placed_hands AtMapping = two_hands BlockMappingStart FlowMappingStart (AtField Block) (AtField Braces)
  placed_hands (AtField g) = two_hands Key (end_of g) (AtName g) AtEnd
  placed_hands (AtName g) = on_pick HandsSeed (is_scalar (sight t)) (λ _. named_hands g (token_bytes t)) (λ _. tt)
  placed_hands (AtValue g f) = one_hands Value (holds g f)
  placed_hands (AtText g) = one_hands (Scalar Plain []) (behind_value g)
  placed_hands (AtList g) = one_hands FlowSequenceStart (AtEntry g)
  placed_hands (AtEntry g) = on_pick HandsSeed (is_scalar (sight t)) (λ e. seed_hands g (is_a_scalar t e)) (λ _. one_hands FlowSequenceEnd (behind_value g))
  placed_hands (BehindSeed g) = two_hands FlowEntry FlowSequenceEnd (AtEntry g) (behind_value g)
  placed_hands BehindField = two_hands FlowEntry FlowMappingEnd (AtField Braces) AtEnd
  placed_hands AtEnd = on_pick HandsSeed (is StreamEnd (sight t)) (λ _. tt) (λ _. tt)

  effect_hands : (p : ShapePlace) → HandsSeed (effect p m (sight t))
  unfolding effect
  effect_hands p = on_pick HandsSeed (is StreamEnd (sight t) && not (all_met m)) (λ _. tt) (λ _. placed_hands p)

  by_hands : (ts : List Token) (go : ShapePlace → Met → Judgement) → ((q : ShapePlace) (l : Met) → Handed ts (go q l).values) → (r : Effect) → HandsSeed r
      → Handed (t ∷ ts) (after_effect r t.start go).values
  by_hands ts go h (Passes q l) s = another (h q l)
  by_hands ts go h (Hands v q l) s = one s (h q l)
  by_hands ts go h (Refuses r) s = no_more
  by_hands ts go h Finishes s = no_more

values_handed : (p : ShapePlace) (m : Met) (ts : List Token) (a : Next) → Handed ts (judged p m ts a).values
unfolding judged
values_handed p m [] a = no_more
values_handed p m (t ∷ ts) a = by_hands m t ts (λ q l. judged q l ts a) (λ q l. values_handed q l ts a) (effect p m (sight t)) (effect_hands m t p)

-- of every job, done or not
pub job_handed : (limits : Limits) (bytes : List ℕ) (words room k : ℕ) → length (built limits bytes) < k
    → Handed (heard_of limits bytes words room k).tokens (seed_values (follow limits room k (job limits bytes words)).handed)
job_handed limits bytes words room k b =
    let h = heard_of limits bytes words room k in
    let v = judge AtStart none_met h in
    let e : seed_values (follow limits room k (job limits bytes words)).handed ≡ v.values =
    ap (λ (t : Talk). seed_values t.handed) (job_says limits bytes words room k b) ∙ talk_values 0 v.values v.end in
    rw e (values_handed AtStart none_met h.tokens h.last)
