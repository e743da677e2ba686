-- Theorems about specs/Answers, and what rests on them.
use Rattle.std.specs.Prelude.{◌<◌, ℕ, List, [], ◌++◌, ◌∷◌, ◌≡◌, refl, length}
use Rattle.std.proofs.Common.{append_assoc, ◌∙◌, ap, sym, arith, length-append}
use Rattle.yaml_text.specs.declared.Mark.{Mark}
use Rattle.yaml_text.specs.Refusal.{got}
use Rattle.yaml_text.specs.All.{all_got}
use Rattle.yaml_lexeme.specs.Token.{Token}
use Rattle.yaml_scan.specs.declared.Limits.{Limits}
use Rattle.yaml_scan.specs.State.{Event, State, goes_on}
use Rattle.yaml_scan.specs.Scan.{outcome, scanned, step, stopped}
use Rattle.yaml_scan.specs.Slots.{Slot, tokens_of}
use Rattle.yaml_stream.specs.Stream.{Heard, Stream, fresh, hear, scanning, token}
use Rattle.yaml_stream.specs.Kept.{NotesFrom, step_keeps}
use Rattle.yaml_stream.specs.Tale.{Close, at_end, at_rule, built, closes_as, outcome_of, outcome_told, told, unclosed}
use Rattle.yaml_stream.specs.Given.{Answered, Ends, Hears, Own, Owes, finished, fresh_owes, so_far}
use Rattle.yaml_stream.proofs.Given.{call_answers, stream_hears}
use Rattle.yaml_stream.specs.Answers.{Comes, here, then_call}

-- what is given and what is owed are the list that the rules have built. (In such a stream no candidate names a token that was given: Given, Kept)
pub comes_owes : (limits : Limits) (bytes : List ℕ) (words room : ℕ) {ts : List Token} {y : Stream} → Comes limits room (fresh limits bytes words) ts y
    → (vs : List Token) × (built limits bytes ≡ ts ++ vs) × Owes limits words room (built limits bytes) vs (told limits bytes).close y
comes_owes limits bytes words room here = (built limits bytes, refl, fresh_owes limits bytes words room)
comes_owes limits bytes words room (then_call {ts = ts} {t = t} {y = y} {z = z} r e) =
    let k = comes_owes limits bytes words room r in
    let c = (told limits bytes).close in
    let a : Answered limits words room (built limits bytes) k.0 c (token t) z = rw e at (call_answers limits words room (built limits bytes) k.0 c y k.2) in
    (a.0, k.1 ∙ ap (λ (us : List Token). ts ++ us) a.1 ∙ sym (append_assoc ts (t ∷ []) a.0), a.2)

-- no token goes in before one that was given: n were, besides those put in
pub none_before_given : (limits : Limits) (bytes : List ℕ) (words room : ℕ) {ts : List Token} {s : State} {n used : ℕ} {xs : List Slot}
    → Comes limits room (fresh limits bytes words) ts (scanning s n xs used) → (es : List Event) (t : State) → step limits s ≡ got (goes_on es t) → NotesFrom n es
none_before_given limits bytes words room {s = s} {n = n} r es t e =
    let h = (comes_owes limits bytes words room r).2 in
    (all_got (step_keeps n limits s (omega (arith, h.counted)) h.from) e).0

-- no call runs out of its budget, and calls enough come to an end
pub comes_to_end : (limits : Limits) (bytes : List ℕ) (words room k : ℕ) → length (built limits bytes) < k
    → Ends (Own words room (built limits bytes)) (built limits bytes) (told limits bytes).close (hear limits room k (fresh limits bytes words))
comes_to_end limits bytes words room k b = by_hearing (stream_hears limits bytes words room k)
  where
    by_hearing : {h : Heard} → Hears (Own words room (built limits bytes)) (built limits bytes) (told limits bytes).close k h → Ends (Own words room (built limits bytes)) (built limits bytes) (told limits bytes).close h
    by_hearing (finished e) = e
    by_hearing (so_far {ts = ts} vs e f) = let l = ap (λ (us : List Token). length us) e in absurd (omega (arith, length-append ts vs))

-- the tokens given are its list, then "ended"; or, where one of the stream's own refusals is met, a beginning of it
pub accepted_ends : (limits : Limits) (bytes : List ℕ) (words room k : ℕ) (es : List Event) → outcome limits bytes ≡ scanned es → length (tokens_of es) < k
    → Ends (Own words room (tokens_of es)) (tokens_of es) at_end (hear limits room k (fresh limits bytes words))
accepted_ends limits bytes words room k es e b =
    let f = closes_as (told limits bytes).close (told limits bytes).events es (sym (outcome_told limits bytes) ∙ e) in
    rw (f.0, f.1) at (comes_to_end limits bytes words room k (rw f.1 b))

breaks_as : (c : Close) (fs : List Event) (n : ℕ) (m : Mark) → outcome_of fs c ≡ stopped n m → c ≡ at_rule n m
breaks_as at_end fs n m e = let z : ◌≡◌ {A = ℕ} 0 1 = cc in absurd (omega arith)
breaks_as (at_rule k j) fs n m e = let f : k ≡ n = cc in let g : j ≡ m = cc in rw (f, g)
breaks_as unclosed fs n m e = let z : ◌≡◌ {A = ℕ} 0 1 = cc in absurd (omega arith)

-- the tokens given are a beginning of what its rules have built before the broken one, then comes that refusal, or one of the stream's own
pub refused_ends : (limits : Limits) (bytes : List ℕ) (words room k n : ℕ) (m : Mark) → outcome limits bytes ≡ stopped n m → length (built limits bytes) < k
    → Ends (Own words room (built limits bytes)) (built limits bytes) (at_rule n m) (hear limits room k (fresh limits bytes words))
refused_ends limits bytes words room k n m e b =
    let f = breaks_as (told limits bytes).close (told limits bytes).events n m (sym (outcome_told limits bytes) ∙ e) in
    rw f at (comes_to_end limits bytes words room k b)
