-- Theorems about specs/Refused, and what rests on them.
use Rattle.std.specs.Prelude.{ℕ, ◌&&◌, false, not, true, List, ◌++◌, ◌∷◌, ◌⊎◌, refl}
use Rattle.std.proofs.Common.{inl, inr, ◌∙◌, ap, sym, arith, eq-eqb}
use Rattle.std.proofs.Math.Path.{◌≡◌}
use Rattle.std.proofs.lemmas.Bool.{not-false, not-true}
use Rattle.yaml_text.specs.Class.{same}
use Rattle.yaml_text.specs.Test.{both_true, by_test, on_pick, true_false}
use Rattle.yaml_lexeme.specs.Token.{BlockEnd, BlockMappingStart, FlowEntry, FlowMappingEnd, FlowMappingStart, FlowSequenceEnd, FlowSequenceStart, Key, Kind, StreamEnd, StreamStart, Token, Value, kind_bytes, token_bytes}
use Rattle.yaml_lexeme.specs.Record.{laid, number_of}
use Rattle.yaml_lexeme.specs.RecordLaws.{same_true}
use Rattle.yaml_stream.specs.Stream.{ended}
use Rattle.yaml_job.specs.declared.Effect.{Effect}
use Rattle.yaml_job.specs.declared.Effect.TheVariants.{Finishes, Hands, Passes, Refuses}
use Rattle.yaml_job.specs.declared.Field.{Field}
use Rattle.yaml_job.specs.declared.Field.TheVariants.{Panel, Sample, Seeds}
use Rattle.yaml_job.specs.declared.Form.{Form}
use Rattle.yaml_job.specs.declared.Form.TheVariants.{Block, Braces}
use Rattle.yaml_job.specs.declared.Met.{Met}
use Rattle.yaml_job.specs.declared.ShapePlace.{ShapePlace}
use Rattle.yaml_job.specs.declared.ShapePlace.TheVariants.{AtEnd, AtEntry, AtField, AtList, AtMapping, AtName, AtStart, AtText, AtValue, BehindField, BehindSeed}
use Rattle.yaml_job.specs.Job.{all_met, behind_value, effect, end_of, has, holds, is, is_scalar, kind_number, meets, named, no_place, none_met, placed, seed_of, sight, spelled, wants}
use Rattle.yaml_job.specs.Shape.{Is, IsScalar, IsSeed, Names, Shape}
use Rattle.yaml_job.specs.Seen.{Bare, is_a_scalar, is_kind, is_seed}
use Rattle.yaml_job.specs.Reads.{Judgement}
use Rattle.yaml_job.proofs.ReadsLaws.{seed_seen}
use Rattle.yaml_job.specs.Fits.{name_fits}
use Rattle.yaml_job.proofs.Fits.{seed_fits, shape_done}
use Rattle.yaml_job.specs.Refused.{Walks, walks_end, token_end, Expected, Why, missing, unknown, no_number, out_of_place}

-- no job begins with tokens that fit and this one
pub no_job : {us rest : List Token} {q : ShapePlace} {l : Met} {r : ℕ} {vs : List ℕ} (t : Token) (ws : List Token) → Walks AtStart none_met us q l
    → effect q l (sight t) ≡ Refuses r → Shape (us ++ (t ∷ ws)) vs rest → ⊥
no_job {q = q} {l = l} t ws w e s =
    let a = ap (λ (v : Judgement). v.end) (shape_done ended s) in
    let b = walks_end (t ∷ ws) ended w ∙ token_end q l t ws ended e in
    let z : ◌≡◌ {A = ℕ} 0 1 = cc in omega arith

is_not : (k : Kind) (t : Token) → is k (sight t) ≡ false → Is k t → ⊥
is_not k t e f = true_false (sym (eq-eqb _ _ (ap (λ (j : Kind). kind_number j) f)) ∙ e)

not_scalar : (t : Token) → is_scalar (sight t) ≡ false → IsScalar t → ⊥
unfolding number_of laid
not_scalar t e s = let k = s.2 in true_false (rw k at e)

neither_of : {A B : Type 0} → (A → ⊥) → (B → ⊥) → A ⊎ B → ⊥
neither_of f g (inl a) = f a
neither_of f g (inr b) = g b

module _ (m : Met) (t : Token) (all : Is StreamEnd t → all_met m ≡ true) where
  abbrev Because : ShapePlace → Effect → Type 0
  Because p (Passes q l) = Unit {0}
  Because p (Hands v q l) = Unit {0}
  Because p (Refuses r) = effect p m (sight t) ≡ Refuses r → Why p m t r
  Because p Finishes = Unit {0}

  one_kind : (p : ShapePlace) (k : Kind) (q : ShapePlace) → (Expected p t → Is k t) → Because p (wants k q m (sight t) no_place)
  one_kind p k q f = on_pick (Because p) (is k (sight t)) (λ _. tt) (λ e _. out_of_place (λ x. is_not k t e (f x)) all)

  two_kinds : (p : ShapePlace) (k i : Kind) (q r : ShapePlace) → (Expected p t → Is k t ⊎ Is i t)
      → Because p (wants k q m (sight t) (wants i r m (sight t) no_place))
  two_kinds p k i q r f =
      on_pick (Because p) (is k (sight t)) (λ _. tt)
      (λ e. on_pick (Because p) (is i (sight t)) (λ _. tt) (λ d _. out_of_place (λ x. neither_of (is_not k t e) (is_not i t d) (f x)) all))

  refused_name : (g : Form) → IsScalar t → effect (AtName g) m (sight t) ≡ Refuses 70 → Why (AtName g) m t 70
  refused_name g s e = unknown s was_met
    where
      was_met : (f : Field) → Names f t → has m f ≡ true
      was_met f n = by_test (has m f) (λ h. h) (λ h. let x = name_fits m t g f n h in let z : ◌≡◌ {A = ℕ} 0 1 = cc in absurd (omega arith))

  meets_why : (g : Form) (f : Field) → IsScalar t → Because (AtName g) (meets g m f)
  meets_why g f s = on_pick (Because (AtName g)) (has m f) (λ _. refused_name g s) (λ _. tt)

  named_why : (g : Form) (ds : List ℕ) → IsScalar t → Because (AtName g) (named g m ds)
  unfolding named
  named_why g ds s =
      on_pick (Because (AtName g)) (same ds (spelled Sample)) (λ _. meets_why g Sample s)
      (λ _. on_pick (Because (AtName g)) (same ds (spelled Panel)) (λ _. meets_why g Panel s)
      (λ _. on_pick (Because (AtName g)) (same ds (spelled Seeds)) (λ _. meets_why g Seeds s) (λ _. refused_name g s)))

  seed_why : (g : Form) → IsScalar t → Because (AtEntry g) (seed_of g m (sight t))
  unfolding seed_of
  seed_why g s =
      on_pick (Because (AtEntry g)) (is_seed (sight t)) (λ _. tt)
      (λ _ e. no_number s (λ v (n : IsSeed t v). let x = seed_fits m t g v n in let z : ◌≡◌ {A = ℕ} 0 1 = cc in omega arith))

  placed_why : (p : ShapePlace) → Because p (placed p m (sight t))
  unfolding placed
  placed_why AtStart = one_kind AtStart StreamStart AtMapping (λ x. x)
  placed_why AtMapping = two_kinds AtMapping BlockMappingStart FlowMappingStart (AtField Block) (AtField Braces) (λ x. x)
  placed_why (AtField g) = two_kinds (AtField g) Key (end_of g) (AtName g) AtEnd (λ x. x)
  placed_why (AtName g) = on_pick (Because (AtName g)) (is_scalar (sight t)) (λ e. named_why g (token_bytes t) (is_a_scalar t e)) (λ e _. out_of_place (not_scalar t e) all)
  placed_why (AtValue g f) = one_kind (AtValue g f) Value (holds g f) (λ x. x)
  placed_why (AtText g) = on_pick (Because (AtText g)) (is_scalar (sight t)) (λ _. tt) (λ e _. out_of_place (not_scalar t e) all)
  placed_why (AtList g) = one_kind (AtList g) FlowSequenceStart (AtEntry g) (λ x. x)
  placed_why (AtEntry g) =
      on_pick (Because (AtEntry g)) (is_scalar (sight t)) (λ e. seed_why g (is_a_scalar t e))
      (λ e. on_pick (Because (AtEntry g)) (is FlowSequenceEnd (sight t)) (λ _. tt) (λ d _. out_of_place (neither_of (not_scalar t e) (is_not FlowSequenceEnd t d)) all))
  placed_why (BehindSeed g) = two_kinds (BehindSeed g) FlowEntry FlowSequenceEnd (AtEntry g) (behind_value g) (λ x. x)
  placed_why BehindField = two_kinds BehindField FlowEntry FlowMappingEnd (AtField Braces) AtEnd (λ x. x)
  placed_why AtEnd = on_pick (Because AtEnd) (is StreamEnd (sight t)) (λ _. tt) (λ e _. out_of_place (is_not StreamEnd t e) all)

end_met : (m : Met) (t : Token) → (is StreamEnd (sight t) && not (all_met m)) ≡ false → Is StreamEnd t → all_met m ≡ true
unfolding number_of laid
end_met m t e k = not-false (all_met m) (rw k at e)

-- what a refusal says of the token
pub refused_why : (p : ShapePlace) (m : Met) (t : Token) (r : ℕ) → effect p m (sight t) ≡ Refuses r → Why p m t r
unfolding effect number_of laid
refused_why p m t r e =
    by_test (is StreamEnd (sight t) && not (all_met m))
    (λ h. let b = both_true (is StreamEnd (sight t)) (not (all_met m)) h in
    let f : ◌≡◌ {A = Effect} (Refuses 71) (Refuses r) = rw (h, effect) at e in
    let g : 71 ≡ r = cc in
    rw (← g) (missing (is_kind StreamEnd t (refl, tt) b.0) (not-true (all_met m) b.1)))
    (λ h. let f : placed p m (sight t) ≡ Refuses r = rw (h, effect) at e in
    let w : Because m t (end_met m t h) p (Refuses r) = rw f at (placed_why m t (end_met m t h) p) in
    w e)

named_refused : (g : Form) (m : Met) (t : Token) → IsScalar t → ((f : Field) → Names f t → has m f ≡ true) → named g m (token_bytes t) ≡ Refuses 70
unfolding named kind_bytes
named_refused g m t s h =
    let k = s.2 in
    let R : Effect → Type 0 = λ x. x ≡ Refuses 70 in
    let n : (f : Field) → same (token_bytes t) (spelled f) ≡ true → meets g m f ≡ Refuses 70 =
    λ f e. let b = h f (s.0, s.1, k, rw k at (same_true (token_bytes t) (spelled f) e)) in rw b in
    on_pick R (same (token_bytes t) (spelled Sample)) (n Sample)
    (λ _. on_pick R (same (token_bytes t) (spelled Panel)) (n Panel) (λ _. on_pick R (same (token_bytes t) (spelled Seeds)) (n Seeds) (λ _. refl)))

at_name_is : (g : Form) (m : Met) (t : Token) → IsScalar t → effect (AtName g) m (sight t) ≡ named g m (token_bytes t)
unfolding effect placed number_of laid
at_name_is g m t s =
    let k = s.2 in
    let e : is StreamEnd (sight t) ≡ false = rw k in
    let f : is_scalar (sight t) ≡ true = rw k in
    rw (e, f, effect, placed)

at_entry_is : (g : Form) (m : Met) (t : Token) → IsScalar t → effect (AtEntry g) m (sight t) ≡ seed_of g m (sight t)
unfolding effect placed number_of laid
at_entry_is g m t s =
    let k = s.2 in
    let e : is StreamEnd (sight t) ≡ false = rw k in
    let f : is_scalar (sight t) ≡ true = rw k in
    rw (e, f, effect, placed)

seed_refused : (g : Form) (m : Met) (t : Token) → IsScalar t → ((v : ℕ) → IsSeed t v → ⊥) → seed_of g m (sight t) ≡ Refuses 72
unfolding seed_of
seed_refused g m t s h =
    on_pick (λ (x : Effect). x ≡ Refuses 72) (is_seed (sight t)) (λ e. absurd (h _ (seed_seen t s e))) (λ _. refl)

not_kind : (k : Kind) (t : Token) → Bare k → (Is k t → ⊥) → is k (sight t) ≡ false
not_kind k t b f = by_test (is k (sight t)) (λ e. absurd (f (is_kind k t b e))) (λ e. e)

no_scalar : (t : Token) → (IsScalar t → ⊥) → is_scalar (sight t) ≡ false
no_scalar t f = by_test (is_scalar (sight t)) (λ e. absurd (f (is_a_scalar t e))) (λ e. e)

placed_refused : (p : ShapePlace) (m : Met) (t : Token) → (Expected p t → ⊥) → placed p m (sight t) ≡ Refuses 73
unfolding placed number_of laid
placed_refused AtStart m t x = let e = not_kind StreamStart t (refl, tt) x in rw (e, placed)
placed_refused AtMapping m t x =
    let e = not_kind BlockMappingStart t (refl, tt) (λ k. x (inl k)) in
    let f = not_kind FlowMappingStart t (refl, tt) (λ k. x (inr k)) in rw (e, f, placed)
placed_refused (AtField Block) m t x =
    let e = not_kind Key t (refl, tt) (λ k. x (inl k)) in
    let f = not_kind BlockEnd t (refl, tt) (λ k. x (inr k)) in rw (e, f, placed)
placed_refused (AtField Braces) m t x =
    let e = not_kind Key t (refl, tt) (λ k. x (inl k)) in
    let f = not_kind FlowMappingEnd t (refl, tt) (λ k. x (inr k)) in rw (e, f, placed)
placed_refused (AtName g) m t x = let e = no_scalar t x in rw (e, placed)
placed_refused (AtValue g f) m t x = let e = not_kind Value t (refl, tt) x in rw (e, placed)
placed_refused (AtText g) m t x = let e = no_scalar t x in rw (e, placed)
placed_refused (AtList g) m t x = let e = not_kind FlowSequenceStart t (refl, tt) x in rw (e, placed)
placed_refused (AtEntry g) m t x =
    let e = no_scalar t (λ k. x (inl k)) in
    let f = not_kind FlowSequenceEnd t (refl, tt) (λ k. x (inr k)) in rw (e, f, placed)
placed_refused (BehindSeed g) m t x =
    let e = not_kind FlowEntry t (refl, tt) (λ k. x (inl k)) in
    let f = not_kind FlowSequenceEnd t (refl, tt) (λ k. x (inr k)) in rw (e, f, placed)
placed_refused BehindField m t x =
    let e = not_kind FlowEntry t (refl, tt) (λ k. x (inl k)) in
    let f = not_kind FlowMappingEnd t (refl, tt) (λ k. x (inr k)) in rw (e, f, placed)
placed_refused AtEnd m t x = let e = not_kind StreamEnd t (refl, tt) x in rw (e, placed)

pub why_refused : {p : ShapePlace} {m : Met} {t : Token} {r : ℕ} → Why p m t r → effect p m (sight t) ≡ Refuses r
unfolding effect number_of laid
why_refused (missing {m = m} {t = t} k e) = let f : is StreamEnd (sight t) ≡ true = rw k in rw (f, e, effect)
why_refused (unknown {g = g} {m = m} {t = t} s h) = at_name_is g m t s ∙ named_refused g m t s h
why_refused (no_number {g = g} {m = m} {t = t} s h) = at_entry_is g m t s ∙ seed_refused g m t s h
why_refused (out_of_place {p = p} {m = m} {t = t} x h) =
    let e = placed_refused p m t x in
    by_test (is StreamEnd (sight t))
    (λ f. let a = h (is_kind StreamEnd t (refl, tt) f) in rw (f, a, e, effect))
    (λ f. rw (f, e, effect))
