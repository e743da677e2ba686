-- What the reader makes of a list of tokens and of the answer behind it. It ends with done exactly where the list begins with a job's shape.
use Rattle.std.specs.Prelude.{◌+◌, ℕ, Bool, List, [], ◌∷◌, ◌≡◌, refl}
use Rattle.std.proofs.Math.Bool.{false, true}
use Rattle.std.proofs.Common.{arith}
use Rattle.yaml_text.specs.declared.Mark.{Mark}
use Rattle.yaml_lexeme.specs.Token.{Token}
use Rattle.yaml_stream.specs.Stream.{Next, ended, refusal, spent, token}
use Rattle.yaml_job.specs.declared.Effect.{Effect}
use Rattle.yaml_job.specs.declared.Effect.TheVariants.{Finishes, Hands, Passes, Refuses}
use Rattle.yaml_job.specs.declared.Field.{Field}
use Rattle.yaml_job.specs.declared.Field.TheVariants.{Panel, Sample, Seeds}
use Rattle.yaml_job.specs.declared.Met.{Met}
use Rattle.yaml_job.specs.declared.ShapePlace.{ShapePlace}
use Rattle.yaml_job.specs.Job.{adds, all_met, effect, has, none_met, sight}
use Rattle.yaml_job.specs.Shape.{times}

pub data End : Type 0 where
  ends_done : End
  stops : ℕ → Mark → End
  -- more tokens are wanted
  unread : End

pub record Judgement : Type 0 where
  pub values : List ℕ
  pub end : End

abbrev pub judgement : List ℕ → End → Judgement
judgement vs e = record { values = vs; end = e }

abbrev pub end_by : Next → End
end_by (token t) = unread
end_by (refusal k m) = stops k m
end_by ended = unread
end_by spent = unread

abbrev pub after_effect : Effect → Mark → (ShapePlace → Met → Judgement) → Judgement
after_effect (Passes p m) k go = go p m
after_effect (Hands v p m) k go = let r = go p m in judgement (v ∷ r.values) r.end
after_effect (Refuses n) k go = judgement [] (stops n k)
after_effect Finishes k go = judgement [] ends_done

unfoldable pub judged : ShapePlace → Met → List Token → Next → Judgement
judged p m [] a = judgement [] (end_by a)
judged p m (t ∷ ts) a = after_effect (effect p m (sight t)) t.start (λ q l. judged q l ts a)

-- fields met, and fields to come

abbrev pub bit : Bool → ℕ
bit true = 1
bit false = 0

-- the fields not met are those of fs, each once
abbrev pub Left : Met → List Field → Type 0
Left m fs = (f : Field) → bit (has m f) + times f fs ≡ 1

not_met : (b : Bool) (n : ℕ) → bit b + (1 + n) ≡ 1 → (b ≡ false) × (n ≡ 0)
not_met true n e = absurd (omega arith)
not_met false n e = (refl, omega arith)

pub adds_left : (f : Field) (m : Met) (fs : List Field) → Left m (f ∷ fs) → (has m f ≡ false) × Left (adds f m) fs
unfolding times
adds_left Sample m fs l = let n = not_met (has m Sample) (times Sample fs) (l Sample) in (n.0, by_field)
  where
    by_field : Left (adds Sample m) fs
    by_field Sample = omega (arith, (not_met (has m Sample) (times Sample fs) (l Sample)).1)
    by_field Panel = omega (arith, l Panel)
    by_field Seeds = omega (arith, l Seeds)
adds_left Panel m fs l = let n = not_met (has m Panel) (times Panel fs) (l Panel) in (n.0, by_field)
  where
    by_field : Left (adds Panel m) fs
    by_field Sample = omega (arith, l Sample)
    by_field Panel = omega (arith, (not_met (has m Panel) (times Panel fs) (l Panel)).1)
    by_field Seeds = omega (arith, l Seeds)
adds_left Seeds m fs l = let n = not_met (has m Seeds) (times Seeds fs) (l Seeds) in (n.0, by_field)
  where
    by_field : Left (adds Seeds m) fs
    by_field Sample = omega (arith, l Sample)
    by_field Panel = omega (arith, l Panel)
    by_field Seeds = omega (arith, (not_met (has m Seeds) (times Seeds fs) (l Seeds)).1)

was_met : (b : Bool) → bit b + 0 ≡ 1 → b ≡ true
was_met true e = refl
was_met false e = absurd (omega arith)

pub all_left : (m : Met) → Left m [] → all_met m ≡ true
unfolding times
all_left m l =
    let a = was_met (has m Sample) (l Sample) in
    let b = was_met (has m Panel) (l Panel) in
    let c = was_met (has m Seeds) (l Seeds) in rw (a, b, c)

-- done: then the tokens are of the shape. What is left of it, at each place

-- a token before it

-- what a token does, where the rest is of the shape

pub none_yet : (f : Field) → bit (has none_met f) ≡ 0
none_yet Sample = refl
none_yet Panel = refl
none_yet Seeds = refl
