-- Theorems about specs/Calls, and what rests on them.
use Prim.Native.Nat.{◌*◌, ◌+◌, ◌<◌, ◌≤◌, suc, zero, ℕ}
use Rattle.std.specs.Prelude.{Bool, ◌&&◌, false, not, true, List, [], ◌≡◌}
use Rattle.std.proofs.Common.{◌∙◌, not-suc-le-zero, arith}
use Rattle.std.proofs.Math.Path.{refl}
use Rattle.yaml_text.specs.declared.Mark.{Mark}
use Rattle.yaml_text.specs.Class.{same}
use Rattle.yaml_text.specs.Test.{by_pick, on_pick}
use Rattle.yaml_lexeme.specs.declared.Style.TheVariants.{Plain}
use Rattle.yaml_lexeme.specs.Token.{BlockMappingStart, FlowEntry, FlowMappingEnd, FlowMappingStart, FlowSequenceEnd, FlowSequenceStart, Key, Kind, Scalar, StreamEnd, StreamStart, Token, Value}
use Rattle.yaml_scan.specs.declared.Limits.{Limits}
use Rattle.yaml_stream.specs.Stream.{Next, Stream, call, ended, fresh, hear, on_answer, refusal, spent, token}
use Rattle.yaml_job.specs.declared.Closing.{Closing}
use Rattle.yaml_job.specs.declared.Closing.TheVariants.{Done, NotDone}
use Rattle.yaml_job.specs.declared.Effect.{Effect}
use Rattle.yaml_job.specs.declared.Effect.TheVariants.{Finishes, Hands, Passes, Refuses}
use Rattle.yaml_job.specs.declared.Field.{Field}
use Rattle.yaml_job.specs.declared.Field.TheVariants.{Panel, Sample, Seeds}
use Rattle.yaml_job.specs.declared.Form.{Form}
use Rattle.yaml_job.specs.declared.Form.TheVariants.{Block, Braces}
use Rattle.yaml_job.specs.declared.JobAnswer.TheVariants.{Closed}
use Rattle.yaml_job.specs.declared.Met.{Met}
use Rattle.yaml_job.specs.declared.ShapePlace.{ShapePlace}
use Rattle.yaml_job.specs.declared.ShapePlace.TheVariants.{AtEnd, AtEntry, AtField, AtList, AtMapping, AtName, AtStart, AtText, AtValue, BehindField, BehindSeed}
use Rattle.yaml_job.specs.Job.{Job, JobCalled, Sight, Talk, adds, all_met, asks, behind_value, by_answer, by_effect, closed, effect, end_of, follow, has, holds, is, is_scalar, job, job_call, meets, most_asked, named, no_place, none_met, on_said, placed, reading, seed_of, sight, spelled, wants}
use Rattle.yaml_job.specs.Seen.{is_seed}
use Rattle.yaml_job.specs.Reads.{Judgement, after_effect, judged}
use Rattle.yaml_job.specs.Calls.{JobTells, CountsAll, talk_of, HasEnded, judge, tells_seed, tells_done, tells_not, tells_lost}

effect_tells : (r : Effect) (k : Mark) (x : Stream) (n : ℕ) (go : ShapePlace → Met → JobCalled) → ((q : ShapePlace) (l : Met) → JobTells n (go q l))
    → JobTells n (by_effect r k x n go)
effect_tells (Passes p m) k x n go h = h p m
effect_tells (Hands v p m) k x n go h = tells_seed
effect_tells (Refuses r) k x n go h = tells_not
effect_tells Finishes k x n go h = tells_done

answer_tells : (a : Next) (x : Stream) (p : ShapePlace) (m : Met) (n : ℕ) (go : ShapePlace → Met → JobCalled) → ((q : ShapePlace) (l : Met) → JobTells n (go q l))
    → JobTells n (by_answer a x p m n go)
answer_tells (token t) x p m n go h = effect_tells (effect p m (sight t)) t.start x n go h
answer_tells ended x p m n go h = tells_lost
answer_tells (refusal r k) x p m n go h = tells_not
answer_tells spent x p m n go h = tells_lost

asks_tells : (limits : Limits) (room k : ℕ) (x : Stream) (p : ShapePlace) (m : Met) (n : ℕ) → JobTells n (asks limits room k x p m n)
unfolding asks
asks_tells limits room zero x p m n = tells_lost
asks_tells limits room (suc k) x p m n =
    let c = call limits room x in
    answer_tells c.answer c.stream p m n _ (λ q l. asks_tells limits room k c.stream q l n)

-- behind a closing record the job is closed
pub closing_stays : (limits : Limits) (room : ℕ) (j : Job) (c : Closing) → (job_call limits room j).answer ≡ Closed c → (job_call limits room j).job ≡ closed c
unfolding job_call
closing_stays limits room (reading x p m n) c e = by_call (asks_tells limits room most_asked x p m n) e
  where
    by_call : {a : JobCalled} → JobTells n a → a.answer ≡ Closed c → a.job ≡ closed c
    by_call tells_seed f = let z : ◌≡◌ {A = ℕ} 0 1 = cc in absurd (omega arith)
    by_call tells_done f = let g : Done n ≡ c = cc in rw g
    by_call (tells_not {r = r} {k = k}) f = let g : NotDone r k n ≡ c = cc in rw g
    by_call tells_lost f = let z : ◌≡◌ {A = ℕ} 0 1 = cc in absurd (omega arith)
closing_stays limits room (closed d) c e = let g : d ≡ c = cc in rw g

tells_counts : {a : JobCalled} {n : ℕ} (go : Job → Talk) → ((y : Stream) (q : ShapePlace) (l : Met) → CountsAll (suc n) (go (reading y q l (suc n)))) → JobTells n a
    → CountsAll n (on_said a go)
tells_counts go h (tells_seed {x = y} {p = q} {m = l}) = let r = h y q l in record { each = (refl, r.each); all = λ c e. omega (arith, r.all c e) }
tells_counts {n} go h tells_done = record { each = tt; all = λ c e. let g : c ≡ Done n = cc in rw g (omega arith) }
tells_counts {n} go h (tells_not {r = r} {k = j}) = record { each = tt; all = λ c e. let g : c ≡ NotDone r j n = cc in rw g (omega arith) }
tells_counts go h tells_lost = record { each = tt; all = λ c e. let z : ◌≡◌ {A = ℕ} 0 1 = cc in absurd (omega arith) }

pub follow_counts : (limits : Limits) (room k : ℕ) (x : Stream) (p : ShapePlace) (m : Met) (n : ℕ) → CountsAll n (follow limits room k (reading x p m n))
unfolding follow job_call
follow_counts limits room zero x p m n = record { each = tt; all = λ c e. let z : ◌≡◌ {A = ℕ} 0 1 = cc in absurd (omega arith) }
follow_counts limits room (suc k) x p m n =
    tells_counts (λ i. follow limits room k i) (λ y q l. follow_counts limits room k y q l (suc n)) (asks_tells limits room most_asked x p m n)

-- from the first call on
pub job_counts : (limits : Limits) (bytes : List ℕ) (words room k : ℕ) → CountsAll 0 (follow limits room k (job limits bytes words))
unfolding job
job_counts limits bytes words room k = follow_counts limits room k (fresh limits bytes words) AtStart none_met 0

abbrev lack : Bool → ℕ
lack true = 0
lack false = 1

abbrev unmet : Met → ℕ
unmet m = lack m.sample + (lack m.panel + lack m.seeds)

lack_one : (b : Bool) → lack b ≤ 1
lack_one true = omega arith
lack_one false = omega arith

unmet_few : (m : Met) → unmet m ≤ 3
unmet_few m = omega (arith, lack_one m.sample, lack_one m.panel, lack_one m.seeds)

unmet_adds : (f : Field) (m : Met) → has m f ≡ false → unmet (adds f m) < unmet m
unmet_adds Sample m e = rw e (omega arith)
unmet_adds Panel m e = rw e (omega arith)
unmet_adds Seeds m e = rw e (omega arith)

abbrev place_weight : ShapePlace → ℕ
place_weight AtStart = 4
place_weight AtMapping = 3
place_weight (AtField g) = 2
place_weight (AtName g) = 1
place_weight (AtValue g f) = 6
place_weight (AtText g) = 4
place_weight (AtList g) = 5
place_weight (AtEntry g) = 4
place_weight (BehindSeed g) = 5
place_weight BehindField = 3
place_weight AtEnd = 0

abbrev weight : ShapePlace → Met → ℕ
weight p m = 6 * unmet m + place_weight p

abbrev Lighter : ℕ → Effect → Type 0
Lighter w (Passes q l) = weight q l < w
Lighter w (Hands v q l) = weight q l < most_asked
Lighter w (Refuses r) = Unit {0}
Lighter w Finishes = Unit {0}

behind_weight : (g : Form) → place_weight (behind_value g) ≤ 3
behind_weight Block = omega arith
behind_weight Braces = omega arith

holds_weight : (g : Form) (f : Field) → place_weight (holds g f) ≤ 5
holds_weight g Sample = omega arith
holds_weight g Panel = omega arith
holds_weight g Seeds = omega arith

meets_lighter : (g : Form) (m : Met) (f : Field) → Lighter (weight (AtName g) m) (meets g m f)
meets_lighter g m f = on_pick (Lighter (weight (AtName g) m)) (has m f) (λ _. tt) (λ e. omega (arith, unmet_adds f m e))

named_lighter : (g : Form) (m : Met) (ds : List ℕ) → Lighter (weight (AtName g) m) (named g m ds)
unfolding named
named_lighter g m ds =
    let L = Lighter (weight (AtName g) m) in
    on_pick L (same ds (spelled Sample)) (λ _. meets_lighter g m Sample)
    (λ _. on_pick L (same ds (spelled Panel)) (λ _. meets_lighter g m Panel) (λ _. on_pick L (same ds (spelled Seeds)) (λ _. meets_lighter g m Seeds) (λ _. tt)))

seed_lighter : (g : Form) (m : Met) (v : Sight) → Lighter (weight (AtEntry g) m) (seed_of g m v)
unfolding seed_of
seed_lighter g m v = on_pick (Lighter (weight (AtEntry g) m)) (is_seed v) (λ _. omega (arith, unmet_few m)) (λ _. tt)

-- of kinds that have their place here
one_lighter : (w : ℕ) (m : Met) (v : Sight) (k : Kind) (q : ShapePlace) → weight q m < w → Lighter w (wants k q m v no_place)
one_lighter w m v k q h = by_pick (Lighter w) (is k v) (Passes q m) no_place h tt

two_lighter : (w : ℕ) (m : Met) (v : Sight) (k i : Kind) (q o : ShapePlace) → weight q m < w → weight o m < w → Lighter w (wants k q m v (wants i o m v no_place))
two_lighter w m v k i q o h j = by_pick (Lighter w) (is k v) (Passes q m) (wants i o m v no_place) h (one_lighter w m v i o j)

placed_lighter : (p : ShapePlace) (m : Met) (v : Sight) → Lighter (weight p m) (placed p m v)
unfolding placed
placed_lighter AtStart m v = one_lighter (weight AtStart m) m v StreamStart AtMapping (omega arith)
placed_lighter AtMapping m v = two_lighter (weight AtMapping m) m v BlockMappingStart FlowMappingStart (AtField Block) (AtField Braces) (omega arith) (omega arith)
placed_lighter (AtField g) m v = two_lighter (weight (AtField g) m) m v Key (end_of g) (AtName g) AtEnd (omega arith) (omega arith)
placed_lighter (AtName g) m v = on_pick (Lighter (weight (AtName g) m)) (is_scalar v) (λ _. named_lighter g m v.text) (λ _. tt)
placed_lighter (AtValue g f) m v = one_lighter (weight (AtValue g f) m) m v Value (holds g f) (omega (arith, holds_weight g f))
placed_lighter (AtText g) m v = one_lighter (weight (AtText g) m) m v (Scalar Plain []) (behind_value g) (omega (arith, behind_weight g))
placed_lighter (AtList g) m v = one_lighter (weight (AtList g) m) m v FlowSequenceStart (AtEntry g) (omega arith)
placed_lighter (AtEntry g) m v =
    let w = weight (AtEntry g) m in
    on_pick (Lighter w) (is_scalar v) (λ _. seed_lighter g m v) (λ _. one_lighter w m v FlowSequenceEnd (behind_value g) (omega (arith, behind_weight g)))
placed_lighter (BehindSeed g) m v =
    two_lighter (weight (BehindSeed g) m) m v FlowEntry FlowSequenceEnd (AtEntry g) (behind_value g) (omega arith) (omega (arith, behind_weight g))
placed_lighter BehindField m v = two_lighter (weight BehindField m) m v FlowEntry FlowMappingEnd (AtField Braces) AtEnd (omega arith) (omega arith)
placed_lighter AtEnd m v = on_pick (Lighter (weight AtEnd m)) (is StreamEnd v) (λ _. tt) (λ _. tt)

effect_lighter : (p : ShapePlace) (m : Met) (v : Sight) → Lighter (weight p m) (effect p m v)
unfolding effect
effect_lighter p m v = on_pick (Lighter (weight p m)) (is StreamEnd v && not (all_met m)) (λ _. tt) (λ _. placed_lighter p m v)

module _ (limits : Limits) (room : ℕ) where
  -- the answers of a call that may ask for f tokens yet, and of k calls behind it, where j calls of the stream come to an end
  abbrev JobSays : ℕ → ℕ → Stream → Type 0
  JobSays j k x = (f : ℕ) (p : ShapePlace) (m : Met) (n : ℕ) → weight p m < f → HasEnded (judge p m (hear limits room j x)).end
      → let v = judge p m (hear limits room j x) in on_said (asks limits room f x p m n) (λ i. follow limits room k i) ≡ talk_of n v.values v.end

  none_heard : (y : Stream) (q : ShapePlace) (l : Met) → HasEnded (judge q l (hear limits room zero y)).end → ⊥
  unfolding hear judged
  none_heard y q l u = u refl

  follow_next : (k : ℕ) (y : Stream) (q : ShapePlace) (l : Met) (n : ℕ)
      → follow limits room (suc k) (reading y q l n) ≡ on_said (asks limits room most_asked y q l n) (λ i. follow limits room k i)
  unfolding follow job_call
  follow_next k y q l n = refl

  effect_says : (j k f n : ℕ) (y : Stream) → j ≤ k → ((i : ℕ) → j ≤ suc i → JobSays j i y) → (t : Token) (w : ℕ) → w < suc f → (r : Effect) → Lighter w r
      → let go : ShapePlace → Met → Judgement = λ q l. judge q l (hear limits room j y) in
      HasEnded (after_effect r t.start go).end
      → on_said (by_effect r t.start y n (λ q l. asks limits room f y q l n)) (λ i. follow limits room k i)
      ≡ talk_of n (after_effect r t.start go).values (after_effect r t.start go).end
  unfolding talk_of
  effect_says j k f n y b ih t w c (Passes q l) d u = ih k (omega arith) f q l n (omega arith) u
  effect_says zero zero f n y b ih t w c (Hands v q l) d u = absurd (none_heard y q l u)
  effect_says (suc j) zero f n y b ih t w c (Hands v q l) d u = absurd (not-suc-le-zero b)
  effect_says zero (suc k) f n y b ih t w c (Hands v q l) d u = absurd (none_heard y q l u)
  effect_says (suc j) (suc k) f n y b ih t w c (Hands v q l) d u = let e = follow_next k y q l (suc n) ∙ ih k b most_asked q l (suc n) d u in rw e
  effect_says j k f n y b ih t w c (Refuses r) d u = refl
  effect_says j k f n y b ih t w c Finishes d u = refl

  answer_says : (j k f n : ℕ) (p : ShapePlace) (m : Met) → j ≤ k → weight p m < suc f → (a : Next) (y : Stream) → ((i : ℕ) → j ≤ suc i → JobSays j i y)
      → let h = on_answer a y (λ z. hear limits room j z) in HasEnded (judge p m h).end
      → on_said (by_answer a y p m n (λ q l. asks limits room f y q l n)) (λ i. follow limits room k i) ≡ talk_of n (judge p m h).values (judge p m h).end
  unfolding judged talk_of
  answer_says j k f n p m b c (token t) y ih u = effect_says j k f n y b ih t (weight p m) c (effect p m (sight t)) (effect_lighter p m (sight t)) u
  answer_says j k f n p m b c ended y ih u = absurd (u refl)
  answer_says j k f n p m b c (refusal r i) y ih u = refl
  answer_says j k f n p m b c spent y ih u = absurd (u refl)

  calls_say : (j k : ℕ) (x : Stream) → j ≤ suc k → JobSays j k x
  unfolding hear asks
  calls_say zero k x b f p m n c u = absurd (none_heard x p m u)
  calls_say (suc j) k x b zero p m n c u = absurd (not-suc-le-zero c)
  calls_say (suc j) k x b (suc f) p m n c u =
      let r = call limits room x in
      answer_says j k f n p m (omega arith) c r.answer r.stream (λ i d. calls_say j i r.stream d) u

  start_light : weight AtStart none_met < most_asked
  start_light = omega arith

  -- where j calls of the stream come to an end for the reader, j calls of the job say what the reader makes of the tokens that they give
  pub follow_says : (j : ℕ) (x : Stream) → let v = judge AtStart none_met (hear limits room j x) in HasEnded v.end
      → follow limits room j (reading x AtStart none_met 0) ≡ talk_of 0 v.values v.end
  follow_says zero x u = absurd (none_heard x AtStart none_met u)
  follow_says (suc k) x u = follow_next k x AtStart none_met 0 ∙ calls_say (suc k) k x (omega arith) most_asked AtStart none_met 0 start_light u
