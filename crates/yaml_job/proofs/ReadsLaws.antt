-- Theorems about specs/Reads, and what rests on them.
use Rattle.std.specs.Prelude.{◌+◌, ℕ, ◌&&◌, List, [], ◌++◌, ◌∷◌, ◌≡◌, refl, eqb}
use Rattle.std.proofs.Math.Bool.{false, not, true}
use Rattle.std.proofs.Common.{append-nil, ap, subst, arith, eqb-true}
use Rattle.std.proofs.lemmas.Bool.{not-false}
use Rattle.yaml_text.specs.Utf8.{encode}
use Rattle.yaml_text.specs.Class.{same}
use Rattle.yaml_text.specs.Test.{both_true, on_pick}
use Rattle.yaml_lexeme.specs.declared.Style.TheVariants.{Plain}
use Rattle.yaml_lexeme.specs.Token.{BlockEnd, BlockMappingStart, FlowEntry, FlowMappingEnd, FlowMappingStart, FlowSequenceEnd, FlowSequenceStart, Key, Kind, StreamEnd, StreamStart, Token, Value, kind_bytes, token_bytes}
use Rattle.yaml_lexeme.specs.Record.{laid, number_of, style_number}
use Rattle.yaml_lexeme.specs.RecordLaws.{same_true}
use Rattle.yaml_stream.specs.Stream.{Next, ended, refusal, spent, token}
use Rattle.yaml_job.specs.declared.Effect.{Effect}
use Rattle.yaml_job.specs.declared.Effect.TheVariants.{Refuses}
use Rattle.yaml_job.specs.declared.Field.{Field}
use Rattle.yaml_job.specs.declared.Field.TheVariants.{Panel, Sample, Seeds}
use Rattle.yaml_job.specs.declared.Form.{Form}
use Rattle.yaml_job.specs.declared.Form.TheVariants.{Block, Braces}
use Rattle.yaml_job.specs.declared.Met.{Met}
use Rattle.yaml_job.specs.declared.ShapePlace.{ShapePlace}
use Rattle.yaml_job.specs.declared.ShapePlace.TheVariants.{AtEnd, AtEntry, AtField, AtList, AtMapping, AtName, AtStart, AtText, AtValue, BehindField, BehindSeed}
use Rattle.yaml_job.specs.Job.{adds, all_met, behind_value, effect, end_of, has, holds, is, is_number, is_scalar, meets, named, no_place, none_met, placed, seed_of, sight, spelled, style_of, value_from, wants}
use Rattle.yaml_job.specs.Shape.{Decimal, Entries, Fields, Is, IsScalar, IsSeed, Names, Shape, ValueOf, comma_field, field, last_field, last_seed, next_field, next_seed, no_field, no_seed, panel_text, sample_text, seed_list, shape, start_of, times}
use Rattle.yaml_job.specs.Seen.{Bare, is_a_scalar, is_kind, is_seed, number_is, plain_style}
use Rattle.yaml_job.specs.Reads.{Judgement, end_by, after_effect, judged, bit, Left, none_yet, ends_done}

left_adds : (f : Field) (m : Met) (fs : List Field) → has m f ≡ false → Left (adds f m) fs → Left m (f ∷ fs)
unfolding times
left_adds Sample m fs e l Sample = rw e (omega (arith, l Sample))
left_adds Sample m fs e l Panel = omega (arith, l Panel)
left_adds Sample m fs e l Seeds = omega (arith, l Seeds)
left_adds Panel m fs e l Sample = omega (arith, l Sample)
left_adds Panel m fs e l Panel = rw e (omega (arith, l Panel))
left_adds Panel m fs e l Seeds = omega (arith, l Seeds)
left_adds Seeds m fs e l Sample = omega (arith, l Sample)
left_adds Seeds m fs e l Panel = omega (arith, l Panel)
left_adds Seeds m fs e l Seeds = rw e (omega (arith, l Seeds))

left_all : (m : Met) → all_met m ≡ true → Left m []
unfolding times
left_all m e f = let a = both_true m.sample (m.panel && m.seeds) e in by_field f a.0 (both_true m.panel m.seeds a.1)
  where
    by_field : (f : Field) → m.sample ≡ true → (m.panel ≡ true) × (m.seeds ≡ true) → bit (has m f) + 0 ≡ 1
    by_field Sample a b = rw a
    by_field Panel a b = rw b.0
    by_field Seeds a b = rw b.1

data Tail (g : Form) (m : Met) : List Token → List ℕ → Type 0 where
  tail : {fs : List Field} {ts us : List Token} {vs : List ℕ} {e z : Token} → Fields g fs ts vs (e ∷ z ∷ us) → Is (end_of g) e → Is StreamEnd z → Left m fs → Tail g m ts vs

-- behind a field
data After (m : Met) : Form → List Token → List ℕ → Type 0 where
  in_block : {ts : List Token} {vs : List ℕ} → Tail Block m ts vs → After m Block ts vs
  by_comma : {c : Token} {ts : List Token} {vs : List ℕ} → Is FlowEntry c → Tail Braces m ts vs → After m Braces (c ∷ ts) vs
  by_end : {e z : Token} {us : List Token} → Is FlowMappingEnd e → Is StreamEnd z → Left m [] → After m Braces (e ∷ z ∷ us) []

-- a part of a field, and what comes behind the field
data Goes (X : List Token → List ℕ → List Token → Type 0) (g : Form) (m : Met) : List Token → List ℕ → Type 0 where
  goes : {ts us : List Token} {xs ws : List ℕ} → X ts xs us → After m g us ws → Goes X g m ts (xs ++ ws)

data TextRest : List Token → List ℕ → List Token → Type 0 where
  one_text : {t : Token} {us : List Token} → IsScalar t → TextRest (t ∷ us) [] us

data EntriesRest : List Token → List ℕ → List Token → Type 0 where
  in_list : {e : Token} {ts us : List Token} {vs : List ℕ} → Entries ts vs (e ∷ us) → Is FlowSequenceEnd e → EntriesRest ts vs us

data SeedRest : List Token → List ℕ → List Token → Type 0 where
  more_seeds : {c : Token} {ts us : List Token} {vs : List ℕ} → Is FlowEntry c → EntriesRest ts vs us → SeedRest (c ∷ ts) vs us
  no_more : {e : Token} {us : List Token} → Is FlowSequenceEnd e → SeedRest (e ∷ us) [] us

data ListRest : List Token → List ℕ → List Token → Type 0 where
  bracket : {b : Token} {ts us : List Token} {vs : List ℕ} → Is FlowSequenceStart b → EntriesRest ts vs us → ListRest (b ∷ ts) vs us

data ValueRest (f : Field) : List Token → List ℕ → List Token → Type 0 where
  value_at : {v : Token} {ts us : List Token} {vs : List ℕ} → Is Value v → ValueOf f ts vs us → ValueRest f (v ∷ ts) vs us

data NameRest (g : Form) (m : Met) : List Token → List ℕ → Type 0 where
  name_at : {t : Token} {ts : List Token} {vs : List ℕ} (f : Field) → Names f t → has m f ≡ false → Goes (ValueRest f) g (adds f m) ts vs → NameRest g m (t ∷ ts) vs

data EndRest (m : Met) : List Token → List ℕ → Type 0 where
  end_at : {z : Token} {us : List Token} → Is StreamEnd z → Left m [] → EndRest m (z ∷ us) []

data MappingRest (m : Met) : List Token → List ℕ → Type 0 where
  mapping_at : {g : Form} {b : Token} {ts : List Token} {vs : List ℕ} → Is (start_of g) b → Tail g m ts vs → MappingRest m (b ∷ ts) vs

data StartRest (m : Met) : List Token → List ℕ → Type 0 where
  start_at : {s : Token} {ts : List Token} {vs : List ℕ} → Is StreamStart s → MappingRest m ts vs → StartRest m (s ∷ ts) vs

abbrev Completes : ShapePlace → Met → List Token → List ℕ → Type 0
Completes AtStart m ts vs = StartRest m ts vs
Completes AtMapping m ts vs = MappingRest m ts vs
Completes (AtField g) m ts vs = Tail g m ts vs
Completes (AtName g) m ts vs = NameRest g m ts vs
Completes (AtValue g f) m ts vs = Goes (ValueRest f) g m ts vs
Completes (AtText g) m ts vs = Goes TextRest g m ts vs
Completes (AtList g) m ts vs = Goes ListRest g m ts vs
Completes (AtEntry g) m ts vs = Goes EntriesRest g m ts vs
Completes (BehindSeed g) m ts vs = Goes SeedRest g m ts vs
Completes BehindField m ts vs = After m Braces ts vs
Completes AtEnd m ts vs = EndRest m ts vs

add_seed : {g : Form} {m : Met} {t : Token} {v : ℕ} {ts : List Token} {vs : List ℕ} → IsSeed t v → Goes SeedRest g m ts vs → Goes EntriesRest g m (t ∷ ts) (v ∷ vs)
add_seed s (goes (more_seeds c (in_list n e)) k) = goes (in_list (next_seed s c n) e) k
add_seed s (goes (no_more e) k) = goes (in_list (last_seed s) e) k

add_comma : {g : Form} {m : Met} {c : Token} {ts : List Token} {vs : List ℕ} → Is FlowEntry c → Goes EntriesRest g m ts vs → Goes SeedRest g m (c ∷ ts) vs
add_comma e (goes n k) = goes (more_seeds e n) k

add_bracket : {g : Form} {m : Met} {b : Token} {ts : List Token} {vs : List ℕ} → Is FlowSequenceStart b → Goes EntriesRest g m ts vs → Goes ListRest g m (b ∷ ts) vs
add_bracket e (goes n k) = goes (bracket e n) k

-- back from the place behind a field
come : (g : Form) {m : Met} {ts : List Token} {vs : List ℕ} → Completes (behind_value g) m ts vs → After m g ts vs
come Block h = in_block h
come Braces h = h

add_value : {g : Form} {m : Met} {v : Token} {ts : List Token} {vs : List ℕ} (f : Field) → Is Value v → Completes (holds g f) m ts vs → Goes (ValueRest f) g m (v ∷ ts) vs
add_value Sample e (goes (one_text s) k) = goes (value_at e (sample_text s)) k
add_value Panel e (goes (one_text s) k) = goes (value_at e (panel_text s)) k
add_value Seeds e (goes (bracket b (in_list n d)) k) = goes (value_at e (seed_list b n d)) k

add_key : {m : Met} {k : Token} {ts : List Token} {vs : List ℕ} (g : Form) → Is Key k → NameRest g m ts vs → Tail g m (k ∷ ts) vs
add_key {m} Block e (name_at f n h (goes (value_at v r) (in_block (tail {fs = fs} w x z l)))) = tail (next_field (field e n v r) w) x z (left_adds f m fs h l)
add_key {m} Braces e (name_at f n h (goes (value_at v r) (by_comma c (tail {fs = fs} w x z l)))) = tail (comma_field (field e n v r) c w) x z (left_adds f m fs h l)
add_key {m} Braces e (name_at f n h (goes {xs = xs} (value_at v r) (by_end x z l))) = rw (append-nil xs) (tail (last_field (field e n v r)) x z (left_adds f m [] h l))

add_end : {m : Met} {e : Token} {ts : List Token} {vs : List ℕ} (g : Form) → Is (end_of g) e → EndRest m ts vs → Tail g m (e ∷ ts) vs
add_end g x (end_at z l) = tail no_field x z l

add_close : {m : Met} {e : Token} {ts : List Token} {vs : List ℕ} → Is FlowMappingEnd e → EndRest m ts vs → After m Braces (e ∷ ts) vs
add_close x (end_at z l) = by_end x z l

-- a seed, by what is seen of it
pub seed_seen : (t : Token) → IsScalar t → is_seed (sight t) ≡ true → IsSeed t (value_from 0 (token_bytes t))
unfolding kind_bytes
seed_seen t s e =
    let b = both_true (eqb (style_of t.kind) (style_number Plain)) (is_number (token_bytes t)) e in
    let k = s.2 in
    let p = plain_style s.0 s.1 (rw k at (eqb-true (style_of t.kind) (style_number Plain) b.0)) in
    let n = number_is (token_bytes t) b.1 in
    let q : token_bytes t ≡ encode s.1 = ap kind_bytes k in
    (s.1, rw p at k, subst (λ (ds : List ℕ). Decimal ds (value_from 0 (token_bytes t))) q n.0, n.1)

module _ (t : Token) (ts : List Token) (go : ShapePlace → Met → Judgement)
    (ih : (q : ShapePlace) (l : Met) → (go q l).end ≡ ends_done → Completes q l ts (go q l).values) where
  abbrev Sound : ShapePlace → Met → Effect → Type 0
  Sound p m r = (after_effect r t.start go).end ≡ ends_done → Completes p m (t ∷ ts) (after_effect r t.start go).values

  stop : (p : ShapePlace) (m : Met) (n : ℕ) → Sound p m (Refuses n)
  stop p m n e = let z : ◌≡◌ {A = ℕ} 0 1 = cc in absurd (omega arith)

  meets_sound : (g : Form) (m : Met) (f : Field) → Names f t → Sound (AtName g) m (meets g m f)
  meets_sound g m f n = on_pick (Sound (AtName g) m) (has m f) (λ _. stop (AtName g) m 70) (λ e d. name_at f n e (ih (AtValue g f) (adds f m) d))

  named_sound : (g : Form) (m : Met) → IsScalar t → Sound (AtName g) m (named g m (token_bytes t))
  unfolding named kind_bytes
  named_sound g m s =
      let k = s.2 in
      let x : (f : Field) → same (token_bytes t) (spelled f) ≡ true → Names f t = λ f e. (s.0, s.1, k, rw k at (same_true (token_bytes t) (spelled f) e)) in
      on_pick (Sound (AtName g) m) (same (token_bytes t) (spelled Sample)) (λ e. meets_sound g m Sample (x Sample e))
      (λ _. on_pick (Sound (AtName g) m) (same (token_bytes t) (spelled Panel)) (λ e. meets_sound g m Panel (x Panel e))
      (λ _. on_pick (Sound (AtName g) m) (same (token_bytes t) (spelled Seeds)) (λ e. meets_sound g m Seeds (x Seeds e)) (λ _. stop (AtName g) m 70)))

  seed_sound : (g : Form) (m : Met) → IsScalar t → Sound (AtEntry g) m (seed_of g m (sight t))
  unfolding seed_of kind_bytes
  seed_sound g m s =
      on_pick (Sound (AtEntry g) m) (is_seed (sight t))
      (λ e d. add_seed (seed_seen t s e) (ih (BehindSeed g) m d)) (λ _. stop (AtEntry g) m 72)

  -- of a kind that has its place here
  abbrev Follows : ShapePlace → Met → Kind → ShapePlace → Type 0
  Follows p m k q = Is k t → Completes q m ts (go q m).values → Completes p m (t ∷ ts) (go q m).values

  wanted : (p : ShapePlace) (m : Met) (k : Kind) (q : ShapePlace) (r : Effect) → Bare k → Follows p m k q → Sound p m r → Sound p m (wants k q m (sight t) r)
  wanted p m k q r b f other = on_pick (Sound p m) (is k (sight t)) (λ e d. f (is_kind k t b e) (ih q m d)) (λ _. other)

  one_wanted : (p : ShapePlace) (m : Met) (k : Kind) (q : ShapePlace) → Bare k → Follows p m k q → Sound p m (wants k q m (sight t) no_place)
  one_wanted p m k q b f = wanted p m k q no_place b f (stop p m 73)

  two_wanted : (p : ShapePlace) (m : Met) (k i : Kind) (q o : ShapePlace) → Bare k → Bare i → Follows p m k q → Follows p m i o
      → Sound p m (wants k q m (sight t) (wants i o m (sight t) no_place))
  two_wanted p m k i q o b c f g = wanted p m k q (wants i o m (sight t) no_place) b f (one_wanted p m i o c g)

  placed_sound : (p : ShapePlace) (m : Met) → (is StreamEnd (sight t) && not (all_met m)) ≡ false → Sound p m (placed p m (sight t))
  unfolding placed number_of laid
  placed_sound AtStart m h = one_wanted AtStart m StreamStart AtMapping (refl, tt) start_at
  placed_sound AtMapping m h =
      two_wanted AtMapping m BlockMappingStart FlowMappingStart (AtField Block) (AtField Braces) (refl, tt) (refl, tt) (mapping_at {g = Block}) (mapping_at {g = Braces})
  placed_sound (AtField Block) m h = two_wanted (AtField Block) m Key BlockEnd (AtName Block) AtEnd (refl, tt) (refl, tt) (add_key Block) (add_end Block)
  placed_sound (AtField Braces) m h = two_wanted (AtField Braces) m Key FlowMappingEnd (AtName Braces) AtEnd (refl, tt) (refl, tt) (add_key Braces) (add_end Braces)
  placed_sound (AtName g) m h = on_pick (Sound (AtName g) m) (is_scalar (sight t)) (λ e. named_sound g m (is_a_scalar t e)) (λ _. stop (AtName g) m 73)
  placed_sound (AtValue g f) m h = one_wanted (AtValue g f) m Value (holds g f) (refl, tt) (add_value f)
  placed_sound (AtText g) m h =
      on_pick (Sound (AtText g) m) (is_scalar (sight t)) (λ e d. goes (one_text (is_a_scalar t e)) (come g (ih (behind_value g) m d))) (λ _. stop (AtText g) m 73)
  placed_sound (AtList g) m h = one_wanted (AtList g) m FlowSequenceStart (AtEntry g) (refl, tt) add_bracket
  placed_sound (AtEntry g) m h =
      on_pick (Sound (AtEntry g) m) (is_scalar (sight t)) (λ e. seed_sound g m (is_a_scalar t e))
      (λ _. one_wanted (AtEntry g) m FlowSequenceEnd (behind_value g) (refl, tt) (λ e d. goes (in_list no_seed e) (come g d)))
  placed_sound (BehindSeed g) m h =
      two_wanted (BehindSeed g) m FlowEntry FlowSequenceEnd (AtEntry g) (behind_value g) (refl, tt) (refl, tt) add_comma (λ e d. goes (no_more e) (come g d))
  placed_sound BehindField m h = two_wanted BehindField m FlowEntry FlowMappingEnd (AtField Braces) AtEnd (refl, tt) (refl, tt) by_comma add_close
  placed_sound AtEnd m h =
      on_pick (Sound AtEnd m) (is StreamEnd (sight t))
      (λ e d. let a : not (all_met m) ≡ false = rw e at h in end_at (is_kind StreamEnd t (refl, tt) e) (left_all m (not-false (all_met m) a))) (λ _. stop AtEnd m 73)

  effect_sound : (p : ShapePlace) (m : Met) → Sound p m (effect p m (sight t))
  unfolding effect
  effect_sound p m = on_pick (Sound p m) (is StreamEnd (sight t) && not (all_met m)) (λ _. stop p m 71) (λ h. placed_sound p m h)

not_yet : (a : Next) → end_by a ≡ ends_done → ⊥
not_yet (token t) e = let z : ◌≡◌ {A = ℕ} 0 1 = cc in omega arith
not_yet (refusal k m) e = let z : ◌≡◌ {A = ℕ} 0 1 = cc in omega arith
not_yet ended e = let z : ◌≡◌ {A = ℕ} 0 1 = cc in omega arith
not_yet spent e = let z : ◌≡◌ {A = ℕ} 0 1 = cc in omega arith

sound : (p : ShapePlace) (m : Met) (ts : List Token) (a : Next) → (judged p m ts a).end ≡ ends_done → Completes p m ts (judged p m ts a).values
unfolding judged
sound p m [] a e = absurd (not_yet a e)
sound p m (t ∷ ts) a e = effect_sound t ts (λ q l. judged q l ts a) (λ q l d. sound q l ts a d) p m e

as_shape : {ts : List Token} {vs : List ℕ} → StartRest none_met ts vs → (us : List Token) × Shape ts vs us
as_shape (start_at s (mapping_at b (tail {us = us} w e z l))) = (us, shape s b w e z (λ f. omega (arith, l f, none_yet f)))

-- done: the tokens begin with a job's, and the seeds handed over are its seeds
pub done_shape : (ts : List Token) (a : Next) → (judged AtStart none_met ts a).end ≡ ends_done → (us : List Token) × Shape ts (judged AtStart none_met ts a).values us
done_shape ts a e = as_shape (sound AtStart none_met ts a e)
