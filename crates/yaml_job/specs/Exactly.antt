-- Done exactly when StreamEnd is among the tokens that the stream gives in k calls, calls enough, the job gives no refusal and the count is the number of scalar
-- tokens in that list. The reader asks for no token behind the one that it ends with.
use Rattle.std.specs.Prelude.{◌+◌, ◌<◌, suc, ℕ, Bool, ◌&&◌, false, true, List, [], ◌++◌, ◌∷◌, ◌≡◌, refl, drop, length}
use Rattle.std.proofs.Common.{append-nil, ◌∙◌, ap, arith}
use Rattle.yaml_text.specs.declared.Mark.{Mark}
use Rattle.yaml_text.specs.Pick.{pick}
use Rattle.yaml_text.specs.Class.{same}
use Rattle.yaml_lexeme.specs.Token.{FlowEntry, FlowSequenceEnd, Key, StreamEnd, StreamStart, Token, Value, kind_bytes, token_bytes}
use Rattle.yaml_lexeme.specs.Record.{laid, number_of}
use Rattle.yaml_scan.specs.declared.Limits.{Limits}
use Rattle.yaml_stream.specs.Stream.{Next}
use Rattle.yaml_stream.specs.Tale.{built}
use Rattle.yaml_job.specs.declared.Closing.TheVariants.{NotDone}
use Rattle.yaml_job.specs.declared.Field.{Field}
use Rattle.yaml_job.specs.declared.Field.TheVariants.{Panel, Sample, Seeds}
use Rattle.yaml_job.specs.declared.Form.{Form}
use Rattle.yaml_job.specs.declared.Form.TheVariants.{Block, Braces}
use Rattle.yaml_job.specs.declared.JobAnswer.TheVariants.{Closed}
use Rattle.yaml_job.specs.declared.ShapePlace.TheVariants.{AtStart}
use Rattle.yaml_job.specs.Job.{Talk, is, is_scalar, none_met, sight, spelled}
use Rattle.yaml_job.specs.Shape.{Entries, FieldOf, Fields, Is, IsScalar, IsSeed, Names, Shape, comma_field, field, last_field, last_seed, next_field, next_seed, no_field, no_seed, one_if, panel_text, sample_text, seed_list, shape, start_of, times}
use Rattle.yaml_job.specs.Reads.{End, Judgement, ends_done, judged, stops, unread}
use Rattle.yaml_job.specs.Calls.{HasEnded}
use Rattle.yaml_job.specs.Done.{end_ended, heard_of}

-- the scalar tokens up to a bracket's end
unfoldable pub in_bracket : List Token → ℕ
in_bracket [] = 0
in_bracket (t ∷ ts) = elim (is FlowSequenceEnd (sight t)) [ true ↦ 0 | false ↦ pick {A = ℕ} (is_scalar (sight t)) 1 0 + in_bracket ts ]

abbrev pub names_seeds : List Token → Bool
names_seeds [] = false
names_seeds (t ∷ ts) = is_scalar (sight t) && same (token_bytes t) (spelled Seeds)

-- the scalar tokens in that list: behind a Key, the name `seeds`, the Value and the bracket
unfoldable pub list_scalars : List Token → ℕ
list_scalars [] = 0
list_scalars (k ∷ ts) = elim (is Key (sight k) && names_seeds ts) [ true ↦ in_bracket (drop 3 ts) | false ↦ list_scalars ts ]

-- in a list of the shape they are its seeds

bracket_end : (e : Token) (us : List Token) → Is FlowSequenceEnd e → in_bracket (e ∷ us) ≡ 0
unfolding in_bracket number_of laid
bracket_end e us d = rw (d, in_bracket)

bracket_seed : {v : ℕ} (t : Token) (ts : List Token) → IsSeed t v → in_bracket (t ∷ ts) ≡ suc (in_bracket ts)
unfolding in_bracket number_of laid
bracket_seed t ts s =
    let k = s.1 in
    let e : is FlowSequenceEnd (sight t) ≡ false = rw k in
    let f : is_scalar (sight t) ≡ true = rw k in
    rw (e, f, in_bracket) (omega arith)

bracket_comma : (c : Token) (ts : List Token) → Is FlowEntry c → in_bracket (c ∷ ts) ≡ in_bracket ts
unfolding in_bracket number_of laid
bracket_comma c ts d =
    let e : is FlowSequenceEnd (sight c) ≡ false = rw d in
    let f : is_scalar (sight c) ≡ false = rw d in
    rw (e, f, in_bracket) (omega arith)

entries_scalars : {ts rest : List Token} {vs : List ℕ} (e : Token) (us : List Token) → Entries ts vs rest → rest ≡ e ∷ us → Is FlowSequenceEnd e → in_bracket ts ≡ length vs
entries_scalars e us no_seed r d = rw r (bracket_end e us d)
entries_scalars e us (last_seed {t = t} {us = ws} s) r d = bracket_seed t ws s ∙ ap suc (rw r (bracket_end e us d))
entries_scalars e us (next_seed {t = t} {c = c} {ts = ts} s h n) r d = bracket_seed t (c ∷ ts) s ∙ ap suc (bracket_comma c ts h ∙ entries_scalars e us n r d)

skip_start : (t : Token) (ts : List Token) → Is StreamStart t → list_scalars (t ∷ ts) ≡ list_scalars ts
unfolding list_scalars number_of laid
skip_start t ts e = rw (e, list_scalars)

skip_mapping : (g : Form) (t : Token) (ts : List Token) → Is (start_of g) t → list_scalars (t ∷ ts) ≡ list_scalars ts
unfolding list_scalars number_of laid
skip_mapping Block t ts e = rw (e, list_scalars)
skip_mapping Braces t ts e = rw (e, list_scalars)

skip_comma : (t : Token) (ts : List Token) → Is FlowEntry t → list_scalars (t ∷ ts) ≡ list_scalars ts
unfolding list_scalars number_of laid
skip_comma t ts e = rw (e, list_scalars)

skip_value : (t : Token) (ts : List Token) → Is Value t → list_scalars (t ∷ ts) ≡ list_scalars ts
unfolding list_scalars number_of laid
skip_value t ts e = rw (e, list_scalars)

skip_scalar : (t : Token) (ts : List Token) → IsScalar t → list_scalars (t ∷ ts) ≡ list_scalars ts
unfolding list_scalars number_of laid
skip_scalar t ts s = let e = s.2 in rw (e, list_scalars)

elsewhere : (k : Token) (ts : List Token) → (is Key (sight k) && names_seeds ts) ≡ false → list_scalars (k ∷ ts) ≡ list_scalars ts
unfolding list_scalars
elsewhere k ts e = rw (e, list_scalars)

-- a Key and another name
not_seeds : (f : Field) (t : Token) (ts : List Token) → Names f t → one_if Seeds f ≡ 0 → names_seeds (t ∷ ts) ≡ false
unfolding number_of laid kind_bytes spelled same
not_seeds Sample t ts n z = let i = n.2 in let j = n.3 in rw (i, j)
not_seeds Panel t ts n z = let i = n.2 in let j = n.3 in rw (i, j)
not_seeds Seeds t ts n z = absurd (omega arith)

skip_key : (f : Field) (k t : Token) (ts : List Token) → Is Key k → Names f t → one_if Seeds f ≡ 0 → list_scalars (k ∷ t ∷ ts) ≡ list_scalars (t ∷ ts)
unfolding number_of laid
skip_key f k t ts e n z =
    let i = not_seeds f t ts n z in
    let j : (is Key (sight k) && names_seeds (t ∷ ts)) ≡ false = rw (e, i) in
    elsewhere k (t ∷ ts) j

found : (k t v b : Token) (ts : List Token) → Is Key k → Names Seeds t → list_scalars (k ∷ t ∷ v ∷ b ∷ ts) ≡ in_bracket ts
unfolding list_scalars number_of laid kind_bytes spelled same
found k t v b ts e n = let i = n.2 in let j = n.3 in rw (e, i, j, list_scalars)

other_field : {f : Field} {ts us : List Token} {vs : List ℕ} → FieldOf f ts vs us → one_if Seeds f ≡ 0 → (list_scalars ts ≡ list_scalars us) × (vs ≡ [])
other_field (field {k = k} {t = t} {v = v} e n d (sample_text {t = x} {us = us} s)) z =
    (skip_key Sample k t (v ∷ x ∷ us) e n z ∙ skip_scalar t (v ∷ x ∷ us) (n.0, n.1, n.2) ∙ skip_value v (x ∷ us) d ∙ skip_scalar x us s, refl)
other_field (field {k = k} {t = t} {v = v} e n d (panel_text {t = x} {us = us} s)) z =
    (skip_key Panel k t (v ∷ x ∷ us) e n z ∙ skip_scalar t (v ∷ x ∷ us) (n.0, n.1, n.2) ∙ skip_value v (x ∷ us) d ∙ skip_scalar x us s, refl)
other_field (field e n d (seed_list h i j)) z = absurd (omega arith)

seeds_field : {f : Field} {ts us : List Token} {vs : List ℕ} → FieldOf f ts vs us → one_if Seeds f ≡ 1 → list_scalars ts ≡ length vs
seeds_field (field e n d (sample_text s)) z = absurd (omega arith)
seeds_field (field e n d (panel_text s)) z = absurd (omega arith)
seeds_field (field {k = k} {t = t} {v = v} e n d (seed_list {b = b} {e = x} {ts = ts} {us = us} h i j)) z = found k t v b ts e n ∙ entries_scalars x us i refl j

-- seeds, or another
data Which (f : Field) : Type 0 where
  it_is : one_if Seeds f ≡ 1 → Which f
  it_is_not : one_if Seeds f ≡ 0 → Which f

which : (f : Field) → Which f
which Sample = it_is_not refl
which Panel = it_is_not refl
which Seeds = it_is refl

no_seeds : {g : Form} {fs : List Field} {ts rest : List Token} {vs : List ℕ} → Fields g fs ts vs rest → times Seeds fs ≡ 0 → vs ≡ []
unfolding times
no_seeds no_field z = refl
no_seeds (next_field h k) z = let e = (other_field h (omega arith)).1 in let f = no_seeds k (omega arith) in rw (e, f)
no_seeds (last_field h) z = (other_field h (omega arith)).1
no_seeds (comma_field h i k) z = let e = (other_field h (omega arith)).1 in let f = no_seeds k (omega arith) in rw (e, f)

-- a field, and what the fields behind it hold
both_scalars : {f : Field} {ts us : List Token} {vs ws : List ℕ} (n : ℕ) → FieldOf f ts vs us → one_if Seeds f + n ≡ 1 → (n ≡ 1 → list_scalars us ≡ length ws)
    → (n ≡ 0 → ws ≡ []) → list_scalars ts ≡ length (vs ++ ws)
both_scalars {f} {ts} {us} {vs} {ws} n h z k l = by_which (which f)
  where
    by_which : Which f → list_scalars ts ≡ length (vs ++ ws)
    by_which (it_is e) = let x = l (omega arith) in let y = append-nil vs in rw (x, y) (seeds_field h e)
    by_which (it_is_not e) = let o = other_field h e in let x = o.1 in rw x (o.0 ∙ k (omega arith))

fields_scalars : {g : Form} {fs : List Field} {ts rest : List Token} {vs : List ℕ} → Fields g fs ts vs rest → times Seeds fs ≡ 1 → list_scalars ts ≡ length vs
unfolding times
fields_scalars no_field z = absurd (omega arith)
fields_scalars (next_field {fs = fs} h k) z = both_scalars (times Seeds fs) h z (λ e. fields_scalars k e) (λ e. no_seeds k e)
fields_scalars (last_field h) z = seeds_field h (omega arith)
fields_scalars (comma_field {c = c} {fs = fs} {us = us} h i k) z = both_scalars (times Seeds fs) h z (λ e. skip_comma c us i ∙ fields_scalars k e) (λ e. no_seeds k e)

pub shape_scalars : {ts us : List Token} {vs : List ℕ} → Shape ts vs us → list_scalars ts ≡ length vs
shape_scalars (shape {g = g} {s = s} {b = b} {ts = ts} h i k x d l) = skip_start s (b ∷ ts) h ∙ skip_mapping g b ts i ∙ fields_scalars k (l Seeds)

-- exactly

-- of the tokens ts and what the reader makes of them
pub record Exact (ts : List Token) (v : Judgement) : Type 0 where
  -- StreamEnd is one of them
  pub given : (fs : List Token) × (us : List Token) × (z : Token) × (ts ≡ fs ++ (z ∷ us)) × Is StreamEnd z
  -- the reader meets no refusal
  pub none_refused : (r : ℕ) (k : Mark) → v.end ≡ stops r k → ⊥
  -- the seeds handed over are as many as the scalar tokens in that list
  pub as_many : length v.values ≡ list_scalars ts

pub exact_done : (ts : List Token) (a : Next) → Exact ts (judged AtStart none_met ts a) → (judged AtStart none_met ts a).end ≡ ends_done
exact_done ts a x =
    let g = x.given in
    let u : HasEnded (judged AtStart none_met ts a).end = rw g.3 (end_ended AtStart none_met g.0 g.1 g.2 a g.4) in
    by_end (judged AtStart none_met ts a).end u x.none_refused
  where
    by_end : (e : End) → HasEnded e → ((r : ℕ) (k : Mark) → e ≡ stops r k → ⊥) → e ≡ ends_done
    by_end ends_done u f = refl
    by_end (stops r k) u f = absurd (f r k refl)
    by_end unread u f = absurd (u refl)

-- the closing record of a job, with calls enough
module _ (limits : Limits) (bytes : List ℕ) (words room k : ℕ) (enough : length (built limits bytes) < k) where
  abbrev pub heard_tokens : List Token
  heard_tokens = (heard_of limits bytes words room k).tokens

  -- what the job says, as above: StreamEnd is among what the stream gives in k calls, no refusal, as many seeds as scalars
  pub record Exactly (r : Talk) : Type 0 where
    pub end_given : (fs : List Token) × (us : List Token) × (z : Token) × (heard_tokens ≡ fs ++ (z ∷ us)) × Is StreamEnd z
    pub not_refused : (c n : ℕ) (m : Mark) → r.last ≡ Closed (NotDone c m n) → ⊥
    pub all_handed : length r.handed ≡ list_scalars heard_tokens
