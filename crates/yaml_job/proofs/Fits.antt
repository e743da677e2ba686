-- Theorems about specs/Fits, and what rests on them.
use Rattle.std.specs.Prelude.{ℕ, false, true, List, [], ◌++◌, ◌∷◌, ◌≡◌, refl}
use Rattle.std.proofs.Common.{append-nil, ◌∙◌, ap, arith}
use Rattle.yaml_lexeme.specs.Token.{FlowEntry, FlowMappingEnd, FlowSequenceEnd, FlowSequenceStart, Key, StreamEnd, StreamStart, Token, Value, kind_bytes}
use Rattle.yaml_lexeme.specs.Record.{laid, number_of, style_number, values_of}
use Rattle.yaml_stream.specs.Stream.{Next}
use Rattle.yaml_job.specs.declared.Effect.TheVariants.{Finishes, Hands, Passes}
use Rattle.yaml_job.specs.declared.Field.{Field}
use Rattle.yaml_job.specs.declared.Form.{Form}
use Rattle.yaml_job.specs.declared.Form.TheVariants.{Block, Braces}
use Rattle.yaml_job.specs.declared.Met.{Met}
use Rattle.yaml_job.specs.declared.ShapePlace.{ShapePlace}
use Rattle.yaml_job.specs.declared.ShapePlace.TheVariants.{AtEnd, AtEntry, AtField, AtList, AtMapping, AtName, AtStart, AtText, AtValue, BehindField, BehindSeed}
use Rattle.yaml_job.specs.Job.{adds, all_met, behind_value, effect, end_of, has, holds, none_met, placed, seed_of, sight}
use Rattle.yaml_job.specs.Shape.{Entries, FieldOf, Fields, Is, IsScalar, IsSeed, Shape, ValueOf, comma_field, field, last_field, last_seed, next_field, next_seed, no_field, no_seed, panel_text, sample_text, seed_list, shape, start_of}
use Rattle.yaml_job.proofs.Seen.{number_said}
use Rattle.yaml_job.specs.Reads.{Judgement, Left, adds_left, all_left, ends_done, judged, judgement, none_yet}
use Rattle.yaml_job.specs.Fits.{name_fits}

abbrev passes : List ℕ → Judgement → Judgement
passes vs r = judgement (vs ++ r.values) r.end

module _ (m : Met) (t : Token) where
  start_fits : Is StreamStart t → effect AtStart m (sight t) ≡ Passes AtMapping m
  unfolding effect placed number_of laid
  start_fits e = rw (e, effect, placed)

  mapping_fits : (g : Form) → Is (start_of g) t → effect AtMapping m (sight t) ≡ Passes (AtField g) m
  unfolding effect placed number_of laid
  mapping_fits Block e = rw (e, effect, placed)
  mapping_fits Braces e = rw (e, effect, placed)

  key_fits : (g : Form) → Is Key t → effect (AtField g) m (sight t) ≡ Passes (AtName g) m
  unfolding effect placed number_of laid
  key_fits g e = rw (e, effect, placed)

  end_fits : (g : Form) → Is (end_of g) t → effect (AtField g) m (sight t) ≡ Passes AtEnd m
  unfolding effect placed number_of laid
  end_fits Block e = rw (e, effect, placed)
  end_fits Braces e = rw (e, effect, placed)

  value_fits : (g : Form) (f : Field) → Is Value t → effect (AtValue g f) m (sight t) ≡ Passes (holds g f) m
  unfolding effect placed number_of laid
  value_fits g f e = rw (e, effect, placed)

  text_fits : (g : Form) → IsScalar t → effect (AtText g) m (sight t) ≡ Passes (behind_value g) m
  unfolding effect placed number_of laid
  text_fits g s = let e = s.2 in rw (e, effect, placed)

  bracket_fits : (g : Form) → Is FlowSequenceStart t → effect (AtList g) m (sight t) ≡ Passes (AtEntry g) m
  unfolding effect placed number_of laid
  bracket_fits g e = rw (e, effect, placed)

  pub seed_fits : (g : Form) (v : ℕ) → IsSeed t v → effect (AtEntry g) m (sight t) ≡ Hands v (BehindSeed g) m
  unfolding effect placed seed_of number_of laid values_of style_number kind_bytes
  seed_fits g v s =
      let e = s.1 in
      let n = number_said s.2 s.3 in
      let i = n.0 in
      let j = n.1 in
      rw (e, effect, placed, seed_of, i, j)

  list_end_fits : (g : Form) → Is FlowSequenceEnd t → effect (AtEntry g) m (sight t) ≡ Passes (behind_value g) m
  unfolding effect placed number_of laid
  list_end_fits g e = rw (e, effect, placed)

  comma_fits : (g : Form) → Is FlowEntry t → effect (BehindSeed g) m (sight t) ≡ Passes (AtEntry g) m
  unfolding effect placed number_of laid
  comma_fits g e = rw (e, effect, placed)

  seed_end_fits : (g : Form) → Is FlowSequenceEnd t → effect (BehindSeed g) m (sight t) ≡ Passes (behind_value g) m
  unfolding effect placed number_of laid
  seed_end_fits g e = rw (e, effect, placed)

  field_comma_fits : Is FlowEntry t → effect BehindField m (sight t) ≡ Passes (AtField Braces) m
  unfolding effect placed number_of laid
  field_comma_fits e = rw (e, effect, placed)

  braces_end_fits : Is FlowMappingEnd t → effect BehindField m (sight t) ≡ Passes AtEnd m
  unfolding effect placed number_of laid
  braces_end_fits e = rw (e, effect, placed)

  stream_end_fits : Is StreamEnd t → all_met m ≡ true → effect AtEnd m (sight t) ≡ Finishes
  unfolding effect placed number_of laid
  stream_end_fits e f = rw (e, f, effect, placed)

module _ (a : Next) where
  -- one token
  goes_on : (p : ShapePlace) (m : Met) {q : ShapePlace} {l : Met} (t : Token) (ts : List Token) → effect p m (sight t) ≡ Passes q l
      → judged p m (t ∷ ts) a ≡ judged q l ts a
  unfolding judged
  goes_on p m t ts e = rw (e, judged)

  gives : (p : ShapePlace) (m : Met) {q : ShapePlace} {l : Met} {v : ℕ} (t : Token) (ts : List Token) → effect p m (sight t) ≡ Hands v q l
      → judged p m (t ∷ ts) a ≡ passes (v ∷ []) (judged q l ts a)
  unfolding judged
  gives p m t ts e = rw (e, judged)

  ends_at : (p : ShapePlace) (m : Met) (t : Token) (ts : List Token) → effect p m (sight t) ≡ Finishes → judged p m (t ∷ ts) a ≡ judgement [] ends_done
  unfolding judged
  ends_at p m t ts e = rw (e, judged)

  entries_read : {ts rest : List Token} {vs : List ℕ} (g : Form) (m : Met) (e : Token) (us : List Token) → Entries ts vs rest → rest ≡ e ∷ us → Is FlowSequenceEnd e
      → judged (AtEntry g) m ts a ≡ passes vs (judged (behind_value g) m us a)
  entries_read g m e us no_seed r d = rw r (goes_on (AtEntry g) m e us (list_end_fits m e g d))
  entries_read g m e us (last_seed {t = t} {v = v} {us = ws} s) r d =
      gives (AtEntry g) m t ws (seed_fits m t g v s) ∙ ap (λ (x : Judgement). passes (v ∷ []) x) (rw r (goes_on (BehindSeed g) m e us (seed_end_fits m e g d)))
  entries_read g m e us (next_seed {t = t} {c = c} {v = v} {ts = ts} s h k) r d =
      gives (AtEntry g) m t (c ∷ ts) (seed_fits m t g v s)
      ∙ ap (λ (x : Judgement). passes (v ∷ []) x) (goes_on (BehindSeed g) m c ts (comma_fits m c g h) ∙ entries_read g m e us k r d)

  value_read : {f : Field} {ts us : List Token} {vs : List ℕ} (g : Form) (m : Met) → ValueOf f ts vs us
      → judged (holds g f) m ts a ≡ passes vs (judged (behind_value g) m us a)
  value_read g m (sample_text {t = t} {us = us} s) = goes_on (AtText g) m t us (text_fits m t g s)
  value_read g m (panel_text {t = t} {us = us} s) = goes_on (AtText g) m t us (text_fits m t g s)
  value_read g m (seed_list {b = b} {e = e} {ts = ts} {us = us} h n d) = goes_on (AtList g) m b ts (bracket_fits m b g h) ∙ entries_read g m e us n refl d

  field_read : {f : Field} {ts us : List Token} {vs : List ℕ} (g : Form) (m : Met) → FieldOf f ts vs us → has m f ≡ false
      → judged (AtField g) m ts a ≡ passes vs (judged (behind_value g) (adds f m) us a)
  field_read g m (field {f = f} {k = k} {t = t} {v = v} {ts = ts} h n d r) e =
      goes_on (AtField g) m k (t ∷ v ∷ ts) (key_fits m k g h) ∙ goes_on (AtName g) m t (v ∷ ts) (name_fits m t g f n e)
      ∙ goes_on (AtValue g f) (adds f m) v ts (value_fits (adds f m) v g f d) ∙ value_read g (adds f m) r

  closes_read : (m : Met) (z : Token) (us : List Token) → Is StreamEnd z → Left m [] → judged AtEnd m (z ∷ us) a ≡ judgement [] ends_done
  closes_read m z us d l = ends_at AtEnd m z us (stream_end_fits m z d (all_left m l))

  fields_read : {g : Form} {fs : List Field} {ts rest : List Token} {vs : List ℕ} (m : Met) (e z : Token) (us : List Token) → Fields g fs ts vs rest → rest ≡ e ∷ z ∷ us
      → Is (end_of g) e → Is StreamEnd z → Left m fs → judged (AtField g) m ts a ≡ judgement vs ends_done
  fields_read m e z us (no_field {g = g}) r x d l = rw r (goes_on (AtField g) m e (z ∷ us) (end_fits m e g x) ∙ closes_read m z us d l)
  fields_read m e z us (next_field {f = f} {fs = fs} {vs = vs} h k) r x d l =
      let n = adds_left f m fs l in
      field_read Block m h n.0 ∙ ap (λ (y : Judgement). passes vs y) (fields_read (adds f m) e z us k r x d n.1)
  fields_read m e z us (last_field {f = f} {vs = vs} {us = ws} h) r x d l =
      let n = adds_left f m [] l in
      let y : judged BehindField (adds f m) ws a ≡ judgement [] ends_done =
      rw r (goes_on BehindField (adds f m) e (z ∷ us) (braces_end_fits (adds f m) e x) ∙ closes_read (adds f m) z us d n.1) in
      field_read Braces m h n.0 ∙ ap (λ (y : Judgement). passes vs y) y ∙ rw (append-nil vs) refl
  fields_read m e z us (comma_field {c = c} {f = f} {fs = fs} {vs = vs} {us = ws} h i k) r x d l =
      let n = adds_left f m fs l in
      field_read Braces m h n.0
      ∙ ap (λ (y : Judgement). passes vs y) (goes_on BehindField (adds f m) c ws (field_comma_fits (adds f m) c i) ∙ fields_read (adds f m) e z us k r x d n.1)

  -- its seeds are handed over
  pub shape_done : {ts us : List Token} {vs : List ℕ} → Shape ts vs us → judged AtStart none_met ts a ≡ judgement vs ends_done
  shape_done (shape {g = g} {s = s} {b = b} {e = e} {z = z} {fs = fs} {ts = ts} {us = us} h i k x d l) =
      goes_on AtStart none_met s (b ∷ ts) (start_fits none_met s h) ∙ goes_on AtMapping none_met b ts (mapping_fits none_met b g i)
      ∙ fields_read none_met e z us k refl x d (λ f. omega (arith, l f, none_yet f))
