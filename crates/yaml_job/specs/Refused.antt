-- Where a job is not done: the refusal is that of the first token that does not fit, at its start, or the scanner's behind tokens that all fit.
-- And what 70 to 73 say of that token.
use Rattle.std.specs.Prelude.{ℕ, false, true, List, [], ◌++◌, ◌∷◌, ◌⊎◌, refl}
use Rattle.std.proofs.Common.{append-nil, ◌∙◌, ap, arith}
use Rattle.std.proofs.Math.Path.{◌≡◌}
use Rattle.yaml_text.specs.declared.Mark.{Mark}
use Rattle.yaml_lexeme.specs.Token.{BlockMappingStart, FlowEntry, FlowMappingEnd, FlowMappingStart, FlowSequenceEnd, FlowSequenceStart, Key, StreamEnd, StreamStart, Token, Value}
use Rattle.yaml_stream.specs.Stream.{Next, ended, refusal, spent, token}
use Rattle.yaml_job.specs.declared.Effect.{Effect}
use Rattle.yaml_job.specs.declared.Effect.TheVariants.{Finishes, Hands, Passes, Refuses}
use Rattle.yaml_job.specs.declared.Field.{Field}
use Rattle.yaml_job.specs.declared.Form.{Form}
use Rattle.yaml_job.specs.declared.Met.{Met}
use Rattle.yaml_job.specs.declared.ShapePlace.{ShapePlace}
use Rattle.yaml_job.specs.declared.ShapePlace.TheVariants.{AtEnd, AtEntry, AtField, AtList, AtMapping, AtName, AtStart, AtText, AtValue, BehindField, BehindSeed}
use Rattle.yaml_job.specs.Job.{all_met, effect, end_of, has, sight}
use Rattle.yaml_job.specs.Shape.{Is, IsScalar, IsSeed, Names}
use Rattle.yaml_job.specs.Reads.{Judgement, after_effect, end_by, judged, stops}

-- tokens that fit, from a place to a place
pub data Walks : ShapePlace → Met → List Token → ShapePlace → Met → Type 0 where
  none_yet : {p : ShapePlace} {m : Met} → Walks p m [] p m
  next_fits : {p q r : ShapePlace} {m l k : Met} {t : Token} {ts : List Token} → effect p m (sight t) ≡ Passes q l → Walks q l ts r k → Walks p m (t ∷ ts) r k
  next_hands : {p q r : ShapePlace} {m l k : Met} {t : Token} {ts : List Token} (v : ℕ) → effect p m (sight t) ≡ Hands v q l → Walks q l ts r k → Walks p m (t ∷ ts) r k

-- which refusal, and where
pub data Stops (p : ShapePlace) (m : Met) (a : Next) : List Token → ℕ → Mark → Type 0 where
  -- the first token that does not fit, at its start
  by_token : {ts us : List Token} {q : ShapePlace} {l : Met} {r : ℕ} (t : Token) (vs : List Token) → Walks p m us q l → effect q l (sight t) ≡ Refuses r
      → ts ≡ us ++ (t ∷ vs) → Stops p m a ts r t.start
  -- the scanner's, behind tokens that fit
  by_scanner : {us : List Token} {q : ShapePlace} {l : Met} {r : ℕ} {k : Mark} → Walks p m us q l → a ≡ refusal r k → Stops p m a us r k

on_stops : {p q : ShapePlace} {m l : Met} {a : Next} {t : Token} {ts : List Token} {r : ℕ} {k : Mark} → effect p m (sight t) ≡ Passes q l → Stops q l a ts r k
    → Stops p m a (t ∷ ts) r k
on_stops {t = t} e (by_token x vs w f g) = by_token x vs (next_fits e w) f (ap (λ (us : List Token). t ∷ us) g)
on_stops e (by_scanner w f) = by_scanner (next_fits e w) f

hands_stops : {p q : ShapePlace} {m l : Met} {a : Next} {t : Token} {ts : List Token} {r : ℕ} {k : Mark} (v : ℕ) → effect p m (sight t) ≡ Hands v q l
    → Stops q l a ts r k → Stops p m a (t ∷ ts) r k
hands_stops {t = t} v e (by_token x vs w f g) = by_token x vs (next_hands v e w) f (ap (λ (us : List Token). t ∷ us) g)
hands_stops v e (by_scanner w f) = by_scanner (next_hands v e w) f

scanner_stops : (p : ShapePlace) (m : Met) (a : Next) (r : ℕ) (k : Mark) → end_by a ≡ stops r k → Stops p m a [] r k
scanner_stops p m (token t) r k e = let z : ◌≡◌ {A = ℕ} 0 1 = cc in absurd (omega arith)
scanner_stops p m ended r k e = let z : ◌≡◌ {A = ℕ} 0 1 = cc in absurd (omega arith)
scanner_stops p m (refusal i j) r k e = let f : i ≡ r = cc in let g : j ≡ k = cc in by_scanner {r = r} {k = k} none_yet (rw (f, g))
scanner_stops p m spent r k e = let z : ◌≡◌ {A = ℕ} 0 1 = cc in absurd (omega arith)

effect_stops : (p : ShapePlace) (m : Met) (a : Next) (t : Token) (ts : List Token) (r : ℕ) (k : Mark) (go : ShapePlace → Met → Judgement)
    → ((q : ShapePlace) (l : Met) → (go q l).end ≡ stops r k → Stops q l a ts r k)
    → (x : Effect) → effect p m (sight t) ≡ x → (after_effect x t.start go).end ≡ stops r k → Stops p m a (t ∷ ts) r k
effect_stops p m a t ts r k go h (Passes q l) e f = on_stops e (h q l f)
effect_stops p m a t ts r k go h (Hands v q l) e f = hands_stops v e (h q l f)
effect_stops p m a t ts r k go h (Refuses i) e f = let g : i ≡ r = cc in let j : t.start ≡ k = cc in rw (← j) (by_token t ts none_yet (rw g at e) refl)
effect_stops p m a t ts r k go h Finishes e f = let z : ◌≡◌ {A = ℕ} 0 1 = cc in absurd (omega arith)

-- a refusal comes so
pub stops_so : (p : ShapePlace) (m : Met) (ts : List Token) (a : Next) (r : ℕ) (k : Mark) → (judged p m ts a).end ≡ stops r k → Stops p m a ts r k
unfolding judged
stops_so p m [] a r k e = scanner_stops p m a r k e
stops_so p m (t ∷ ts) a r k e = effect_stops p m a t ts r k (λ q l. judged q l ts a) (λ q l f. stops_so q l ts a r k f) (effect p m (sight t)) refl e

-- and only so: tokens that fit leave the end to what comes behind them
pub walks_end : {p q : ShapePlace} {m l : Met} {us : List Token} (vs : List Token) (a : Next) → Walks p m us q l → (judged p m (us ++ vs) a).end ≡ (judged q l vs a).end
unfolding judged
walks_end vs a none_yet = refl
walks_end vs a (next_fits e w) = rw (e, judged) (walks_end vs a w)
walks_end vs a (next_hands v e w) = rw (e, judged) (walks_end vs a w)

pub token_end : {r : ℕ} (p : ShapePlace) (m : Met) (t : Token) (vs : List Token) (a : Next) → effect p m (sight t) ≡ Refuses r → (judged p m (t ∷ vs) a).end ≡ stops r t.start
unfolding judged
token_end p m t vs a e = rw (e, judged)

scanner_end : {r : ℕ} {k : Mark} (p : ShapePlace) (m : Met) (a : Next) → a ≡ refusal r k → (judged p m [] a).end ≡ stops r k
unfolding judged
scanner_end p m a e = rw e

pub so_stops : {ts : List Token} {r : ℕ} {k : Mark} (p : ShapePlace) (m : Met) (a : Next) → Stops p m a ts r k → (judged p m ts a).end ≡ stops r k
so_stops p m a (by_token {q = q} {l = l} t vs w e f) = rw f (walks_end (t ∷ vs) a w ∙ token_end q l t vs a e)
so_stops p m a (by_scanner {us = us} {q = q} {l = l} w e) = rw (append-nil us) at (walks_end [] a w) ∙ scanner_end q l a e

-- the four numbers

-- the tokens that a place is for
abbrev pub Expected : ShapePlace → Token → Type 0
Expected AtStart t = Is StreamStart t
Expected AtMapping t = Is BlockMappingStart t ⊎ Is FlowMappingStart t
Expected (AtField g) t = Is Key t ⊎ Is (end_of g) t
Expected (AtName g) t = IsScalar t
Expected (AtValue g f) t = Is Value t
Expected (AtText g) t = IsScalar t
Expected (AtList g) t = Is FlowSequenceStart t
Expected (AtEntry g) t = IsScalar t ⊎ Is FlowSequenceEnd t
Expected (BehindSeed g) t = Is FlowEntry t ⊎ Is FlowSequenceEnd t
Expected BehindField t = Is FlowEntry t ⊎ Is FlowMappingEnd t
Expected AtEnd t = Is StreamEnd t

pub data Why : ShapePlace → Met → Token → ℕ → Type 0 where
  -- StreamEnd with a field missing
  missing : {p : ShapePlace} {m : Met} {t : Token} → Is StreamEnd t → all_met m ≡ false → Why p m t 71
  -- a name that is no field's, or of a field met before
  unknown : {g : Form} {m : Met} {t : Token} → IsScalar t → ((f : Field) → Names f t → has m f ≡ true) → Why (AtName g) m t 70
  -- a scalar among the seeds that is no such plain number
  no_number : {g : Form} {m : Met} {t : Token} → IsScalar t → ((v : ℕ) → IsSeed t v → ⊥) → Why (AtEntry g) m t 72
  -- no place for it
  out_of_place : {p : ShapePlace} {m : Met} {t : Token} → (Expected p t → ⊥) → (Is StreamEnd t → all_met m ≡ true) → Why p m t 73

-- and no other number is given
