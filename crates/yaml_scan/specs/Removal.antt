-- 01, K2: "Removing a possible required key is 41." That is never met, so the definition removes a candidate without asking:
-- in every state that a run reaches, a candidate that is removed is not required. In flow none is (Required). At level 0 a required key that did not lapse
-- is of this line, so no simple key is allowed: '-' and '?' are 46 before; and the column is above 0, where no directive, byte order mark or document marker stands.
use Rattle.std.specs.Prelude.{◌<◌, suc, zero, ℕ, Bool, false, not, true, List, [], ◌∷◌, ◌⊎◌, ◌≡◌, refl, length}
use Rattle.std.proofs.Common.{inl, inr, ◌∙◌, ap, sym, arith}
use Rattle.yaml_text.specs.Pick.{pick}
use Rattle.yaml_text.specs.Class.{is_z}
use Rattle.yaml_text.specs.Mark.{origin}
use Rattle.yaml_text.specs.Refusal.{Read, ◌>>=◌, got, need}
use Rattle.yaml_text.specs.Test.{by_test, true_false}
use Rattle.yaml_lexeme.specs.Token.{StreamStart, empty_token}
use Rattle.yaml_scan.specs.declared.Choice.{Choice}
use Rattle.yaml_scan.specs.declared.Choice.TheVariants.{AtAnchor, AtBlock, AtByteOrderMark, AtColon, AtComma, AtDash, AtDirective, AtEnd, AtMarker, AtPlain, AtQuestion, AtQuoted, AtTag, BelowIndent, Closes, Opens, Stray}
use Rattle.yaml_scan.specs.declared.Level.{Level}
use Rattle.yaml_scan.specs.declared.Limits.{Limits}
use Rattle.yaml_scan.specs.Keys.{is_required, top_key}
use Rattle.yaml_scan.specs.State.{News, State, block_ends, in_flow, mark_of, preceded, put, remove_key, rest_of}
use Rattle.yaml_scan.specs.Bracket.{closes_level}
use Rattle.yaml_scan.specs.Choice.{choice}
use Rattle.yaml_scan.specs.Fetch.{fetch_next}
use Rattle.yaml_scan.specs.Scan.{Outcome, after_events, after_step, begin, spent, to_next_token, unrolled}
use Rattle.yaml_scan.specs.ChoiceLaws.{ChoiceSays, choice_says}
use Rattle.yaml_scan.specs.Steps.{unrolled_state}
use Rattle.yaml_scan.specs.Removes.{removes}
use Rattle.yaml_scan.specs.Required.{BeforeToken, flow_none}

-- 01's rule
unfoldable pub remove_or_refuse : State → Read State
remove_or_refuse s = do
  _ ← need (not (is_required (top_key s.keys))) 41 (mark_of s)
  got (remove_key s)

-- it is not required

-- at the end of the text no token removes one
at_end : (s : State) → rest_of s ≡ [] → choice s ≡ AtEnd
unfolding choice is_z
at_end s e = rw e

none_closes : (sequence : Bool) (s : State) → in_flow s ≡ false → closes_level sequence s.levels ≡ false
unfolding in_flow closes_level
none_closes sequence s e = by_levels s.levels e
  where
    by_levels : (ls : List Level) → elim ls [ [] ↦ false | x ∷ xs ↦ true ] ≡ false → closes_level sequence ls ≡ false
    by_levels [] f = refl
    by_levels (l ∷ ls) f = true_false f

-- nor at level 0, above column 0, where no simple key is allowed
none_removes : (c : Choice) (s : State) → ChoiceSays c s → in_flow s ≡ false → 0 < (mark_of s).col → s.simple_key_allowed ≡ false → removes c s ≡ false
unfolding removes
none_removes AtEnd s h e k a = refl
none_removes AtDirective s h e k a = absurd (omega (arith, h.1))
none_removes AtByteOrderMark s h e k a = absurd (omega (arith, h.1))
none_removes BelowIndent s h e k a = refl
none_removes Stray s h e k a = refl
none_removes (AtMarker starts) s h e k a = absurd (omega (arith, h.1))
none_removes (Opens sequence) s h e k a = refl
none_removes (Closes sequence) s h e k a = none_closes sequence s e
none_removes AtComma s h e k a = true_false (sym h ∙ e)
none_removes AtDash s h e k a = rw (e, a)
none_removes AtQuestion s h e k a = rw (e, a)
none_removes AtColon s h e k a = refl
none_removes AtTag s h e k a = refl
none_removes AtPlain s h e k a = refl
none_removes (AtAnchor alias) s h e k a = refl
none_removes (AtBlock literal) s h e k a = refl
none_removes (AtQuoted single) s h e k a = refl

pub not_required : (s : State) → BeforeToken s → removes (choice s) s ≡ true → is_required (top_key s.keys) ≡ false
unfolding in_flow removes
not_required s h r =
    by_test (in_flow s)
    (λ e. flow_none (mark_of s) s.keys s.levels e h.held)
    (λ e. by_test (is_required (top_key s.keys)) (λ k. let w = h.waits e k in by_wait e w.0 w.1) (λ k. k))
  where
    by_wait : {P : Type 0} → in_flow s ≡ false → 0 < (mark_of s).col → (s.simple_key_allowed ≡ false) ⊎ (rest_of s ≡ []) → P
    by_wait e k (inl a) = true_false (sym r ∙ none_removes (choice s) s (choice_says s) e k a)
    by_wait e k (inr z) = true_false (sym r ∙ ap (λ (c : Choice). removes c s) (at_end s z))

-- so 01's rule does not refuse
pub not_refused : (s : State) → BeforeToken s → removes (choice s) s ≡ true → remove_or_refuse s ≡ got (remove_key s)
unfolding remove_or_refuse need ◌>>=◌
not_refused s h r = rw (not_required s h r)

-- what a step keeps

-- and a scan that asks says the same

unfoldable pub ask : State → Read State
ask s = pick (removes (choice s) s) (remove_or_refuse s) (got s)

-- the step, 01's rule asked before the token
unfoldable pub step_asking : Limits → State → Read News
step_asking limits s₀ = do
  s ← to_next_token s₀
  _ ← ask (unrolled_state s)
  n ← fetch_next limits (unrolled_state s)
  got (preceded (block_ends (unrolled s).ended (mark_of s)) n)

unfoldable pub run_asking : Limits → ℕ → State → Outcome
run_asking limits zero s = spent
run_asking limits (suc k) s = after_step (step_asking limits s) (λ s'. run_asking limits k s')

unfoldable pub scan_asking : Limits → List ℕ → Outcome
scan_asking limits cs = after_events (put (empty_token StreamStart origin) ∷ []) (run_asking limits (suc (length cs)) (begin cs))
