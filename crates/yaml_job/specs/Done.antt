-- Ask 14's theorems over Ask 8's. Every job closes. It says done only for a text that 01 accepts and whose whole list is of the shape, with that list's seeds;
-- and where such a list is given, it does.
use Rattle.std.specs.Prelude.{◌+◌, ◌≤◌, suc, zero, ℕ, ◌&&◌, not, List, [], ◌++◌, ◌∷◌, map, ◌≡◌, refl, length}
use Rattle.std.proofs.Common.{append_assoc, ◌∙◌, ap, sym, not-suc-le-zero, arith}
use Rattle.yaml_text.specs.declared.Mark.{Mark}
use Rattle.yaml_text.specs.Test.{on_pick}
use Rattle.yaml_lexeme.specs.Token.{StreamEnd, Token}
use Rattle.yaml_lexeme.specs.Record.{laid, number_of}
use Rattle.yaml_scan.specs.declared.Limits.{Limits}
use Rattle.theorems.specs.Accepted.{Accepts}
use Rattle.yaml_stream.specs.Stream.{Heard, Next, fresh, hear}
use Rattle.yaml_job.specs.declared.Closing.{Closing}
use Rattle.yaml_job.specs.declared.Closing.TheVariants.{Done}
use Rattle.yaml_job.specs.declared.Effect.{Effect}
use Rattle.yaml_job.specs.declared.Effect.TheVariants.{Finishes, Hands, Passes, Refuses}
use Rattle.yaml_job.specs.declared.Field.{Field}
use Rattle.yaml_job.specs.declared.Form.{Form}
use Rattle.yaml_job.specs.declared.Form.TheVariants.{Block, Braces}
use Rattle.yaml_job.specs.declared.JobAnswer.{JobAnswer}
use Rattle.yaml_job.specs.declared.JobAnswer.TheVariants.{Closed, Lost, Seed}
use Rattle.yaml_job.specs.declared.Met.{Met}
use Rattle.yaml_job.specs.declared.ShapePlace.{ShapePlace}
use Rattle.yaml_job.specs.declared.ShapePlace.TheVariants.{AtEnd, AtEntry, AtField, AtList, AtMapping, AtName, AtStart, AtText, AtValue, BehindField, BehindSeed}
use Rattle.yaml_job.specs.Job.{Job, Talk, all_met, effect, follow, is, job_call, job_called, on_said, placed, sight}
use Rattle.yaml_job.specs.Shape.{Entries, FieldOf, Fields, Is, Shape, ValueOf, comma_field, field, last_field, last_seed, next_field, next_seed, no_field, no_seed, panel_text, sample_text, seed_list, shape}
use Rattle.yaml_job.specs.Reads.{End, Judgement, after_effect, ends_done, judged, stops, unread}
use Rattle.yaml_job.specs.Calls.{HasEnded, answer_of, talk_of}

-- StreamEnd ends the reading, at any place

abbrev EndsHere : Effect → Type 0
EndsHere (Passes p m) = ⊥
EndsHere (Hands v p m) = ⊥
EndsHere (Refuses n) = Unit {0}
EndsHere Finishes = Unit {0}

placed_ends : (p : ShapePlace) (m : Met) (t : Token) → Is StreamEnd t → EndsHere (placed p m (sight t))
unfolding placed number_of laid
placed_ends AtStart m t e = rw (e, placed) tt
placed_ends AtMapping m t e = rw (e, placed) tt
placed_ends (AtField Block) m t e = rw (e, placed) tt
placed_ends (AtField Braces) m t e = rw (e, placed) tt
placed_ends (AtName g) m t e = rw (e, placed) tt
placed_ends (AtValue g f) m t e = rw (e, placed) tt
placed_ends (AtText g) m t e = rw (e, placed) tt
placed_ends (AtList g) m t e = rw (e, placed) tt
placed_ends (AtEntry g) m t e = rw (e, placed) tt
placed_ends (BehindSeed g) m t e = rw (e, placed) tt
placed_ends BehindField m t e = rw (e, placed) tt
placed_ends AtEnd m t e = rw (e, placed) tt

effect_ends : (p : ShapePlace) (m : Met) (t : Token) → Is StreamEnd t → EndsHere (effect p m (sight t))
unfolding effect
effect_ends p m t e = on_pick EndsHere (is StreamEnd (sight t) && not (all_met m)) (λ _. tt) (λ _. placed_ends p m t e)

here_ended : (r : Effect) (k : Mark) (go : ShapePlace → Met → Judgement) → EndsHere r → HasEnded (after_effect r k go).end
here_ended (Passes p m) k go h e = h
here_ended (Hands v p m) k go h e = h
here_ended (Refuses n) k go h e = let z : ◌≡◌ {A = ℕ} 0 1 = cc in omega arith
here_ended Finishes k go h e = let z : ◌≡◌ {A = ℕ} 0 1 = cc in omega arith

pub later_ended : (r : Effect) (k : Mark) (go : ShapePlace → Met → Judgement) → ((q : ShapePlace) (l : Met) → HasEnded (go q l).end) → HasEnded (after_effect r k go).end
later_ended (Passes p m) k go h = h p m
later_ended (Hands v p m) k go h = h p m
later_ended (Refuses n) k go h = λ e. let z : ◌≡◌ {A = ℕ} 0 1 = cc in omega arith
later_ended Finishes k go h = λ e. let z : ◌≡◌ {A = ℕ} 0 1 = cc in omega arith

pub end_ended : (p : ShapePlace) (m : Met) (us vs : List Token) (z : Token) (a : Next) → Is StreamEnd z → HasEnded (judged p m (us ++ (z ∷ vs)) a).end
unfolding judged
end_ended p m [] vs z a e = here_ended (effect p m (sight z)) z.start (λ q l. judged q l vs a) (effect_ends p m z e)
end_ended p m (u ∷ us) vs z a e = later_ended (effect p m (sight u)) u.start (λ q l. judged q l (us ++ (z ∷ vs)) a) (λ q l. end_ended q l us vs z a e)

-- every job closes

-- of the calls of the stream
abbrev pub heard_of : Limits → List ℕ → ℕ → ℕ → ℕ → Heard
heard_of limits bytes words room k = hear limits room k (fresh limits bytes words)

pub talk_last : (n : ℕ) (vs : List ℕ) (e : End) → (talk_of n vs e).last ≡ answer_of (n + length vs) e
unfolding talk_of
talk_last n [] e = let z : n + 0 ≡ n = omega arith in rw z
talk_last n (v ∷ vs) e = let z : suc n + length vs ≡ n + suc (length vs) = omega arith in rw z at (talk_last (suc n) vs e)

-- without their counts
abbrev pub seed_values : List (ℕ × ℕ) → List ℕ
seed_values ss = map (λ (s : ℕ × ℕ). s.0) ss

pub talk_values : (n : ℕ) (vs : List ℕ) (e : End) → seed_values (talk_of n vs e).handed ≡ vs
unfolding talk_of
talk_values n [] e = refl
talk_values n (v ∷ vs) e = ap (λ (ws : List ℕ). v ∷ ws) (talk_values (suc n) vs e)

pub talk_length : (n : ℕ) (vs : List ℕ) (e : End) → length vs ≡ length (talk_of n vs e).handed
unfolding talk_of
talk_length n [] e = refl
talk_length n (v ∷ vs) e = ap suc (talk_length (suc n) vs e)

-- once closed, more calls add nothing

said_more : (f g : Job → Talk) → ((i : Job) (c : Closing) → (g i).last ≡ Closed c → f i ≡ g i) → (a : JobAnswer) (j : Job) (c : Closing)
    → (on_said (job_called a j) g).last ≡ Closed c → on_said (job_called a j) f ≡ on_said (job_called a j) g
said_more f g h (Seed v n) j c e = let k = h j c e in rw k
said_more f g h (Closed d) j c e = refl
said_more f g h Lost j c e = refl

pub follow_more : (limits : Limits) (room k l : ℕ) → k ≤ l → (j : Job) (c : Closing) → (follow limits room k j).last ≡ Closed c
    → follow limits room l j ≡ follow limits room k j
unfolding follow
follow_more limits room zero l b j c e = let z : ◌≡◌ {A = ℕ} 0 1 = cc in absurd (omega arith)
follow_more limits room (suc k) zero b j c e = absurd (not-suc-le-zero b)
follow_more limits room (suc k) (suc l) b j c e =
    let a = job_call limits room j in
    said_more (λ i. follow limits room l i) (λ i. follow limits room k i) (λ i d f. follow_more limits room k l (omega arith) i d f) a.answer a.job c e

-- what stands before the tokens that are left

abbrev Front : List Token → List Token → Type 0
Front ts us = (fs : List Token) × (ts ≡ fs ++ us)

front_more : (t : Token) {ts us : List Token} → Front ts us → Front (t ∷ ts) us
front_more t f = (t ∷ f.0, ap (λ (vs : List Token). t ∷ vs) f.1)

front_then : {ts us rest : List Token} → Front ts us → Front us rest → Front ts rest
front_then {rest} f g = (f.0 ++ g.0, f.1 ∙ ap (λ (vs : List Token). f.0 ++ vs) g.1 ∙ sym (append_assoc f.0 g.0 rest))

entries_front : {ts us : List Token} {vs : List ℕ} → Entries ts vs us → Front ts us
entries_front no_seed = ([], refl)
entries_front (last_seed {t = t} s) = (t ∷ [], refl)
entries_front (next_seed {t = t} {c = c} s h k) = front_more t (front_more c (entries_front k))

field_front : {f : Field} {ts us : List Token} {vs : List ℕ} → FieldOf f ts vs us → Front ts us
field_front (field {k = k} {t = t} {v = v} h n d r) = front_more k (front_more t (front_more v (by_value r)))
  where
    by_value : {f : Field} {ts us : List Token} {vs : List ℕ} → ValueOf f ts vs us → Front ts us
    by_value (sample_text {t = x} s) = (x ∷ [], refl)
    by_value (panel_text {t = x} s) = (x ∷ [], refl)
    by_value (seed_list {b = b} {e = e} i j d) = front_more b (front_then (entries_front j) (e ∷ [], refl))

fields_front : {g : Form} {fs : List Field} {ts us : List Token} {vs : List ℕ} → Fields g fs ts vs us → Front ts us
fields_front no_field = ([], refl)
fields_front (next_field h k) = front_then (field_front h) (fields_front k)
fields_front (last_field h) = field_front h
fields_front (comma_field {c = c} h i k) = front_then (field_front h) (front_more c (fields_front k))

-- StreamEnd, and behind it what is left
pub shape_end : {ts us : List Token} {vs : List ℕ} → Shape ts vs us → (fs : List Token) × (z : Token) × (ts ≡ fs ++ (z ∷ us)) × Is StreamEnd z
shape_end (shape {s = s} {b = b} {e = e} {z = z} {us = us} h i k x d l) =
    let f = front_more s (front_more b (front_then (fields_front k) (e ∷ [], refl))) in
    (f.0, z, f.1, d)

-- done

-- what "done" says, with the seeds handed over
pub record JobDone (limits : Limits) (bytes : List ℕ) (n : ℕ) (handed : List (ℕ × ℕ)) : Type 0 where
  pub list : List Token
  -- the rules accept the text, and this is its list, demand 2's
  pub accepted : Accepts limits bytes list
  -- it is of the shape, whole, and its seeds are those handed over, in order
  pub of_shape : Shape list (seed_values handed) []
  pub count : n ≡ length handed

pub answer_done : (k n : ℕ) (e : End) → answer_of k e ≡ Closed (Done n) → (e ≡ ends_done) × (k ≡ n)
answer_done k n ends_done f = (refl, cc)
answer_done k n (stops r m) f = let z : ◌≡◌ {A = ℕ} 0 1 = cc in absurd (omega arith)
answer_done k n unread f = let z : ◌≡◌ {A = ℕ} 0 1 = cc in absurd (omega arith)
