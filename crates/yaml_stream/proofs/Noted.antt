-- Theorems about specs/Noted, and what rests on them.
use Rattle.std.specs.Prelude.{◌+◌, suc, ℕ, List, [], ◌∷◌, ◌≡◌, drop}
use Rattle.std.proofs.Common.{◌∙◌, ap, sym, arith, drop-drop}
use Rattle.yaml_lexeme.specs.Token.{Token}
use Rattle.yaml_scan.specs.declared.Limits.{Limits}
use Rattle.yaml_scan.specs.State.{State}
use Rattle.yaml_scan.specs.Slots.{Slot, slot}
use Rattle.yaml_scan.specs.SlotLaws.{SlotsHold}
use Rattle.yaml_scan.specs.Candidates.{GivenToken}
use Rattle.yaml_scan.specs.Budget.{on_news}
use Rattle.yaml_stream.specs.Stream.{Stream, after_news, behind, broken, closing, fresh, give, scanning, stepped, waits}
use Rattle.yaml_stream.specs.Changes.{behind_by}
use Rattle.yaml_stream.proofs.Changes.{give_by}
use Rattle.yaml_stream.specs.Waiting.{StreamKeeps, StreamReaches, fresh_keeps, here, then_give, then_step}
use Rattle.yaml_stream.proofs.Waiting.{reaches_keeps}
use Rattle.yaml_stream.specs.Notes.{note_rest}
use Rattle.yaml_stream.specs.Noted.{Noted, NotedIn, step_noted, fresh_noted}

behind_noted : (room : ℕ) (s : State) (n : ℕ) (xs : List Slot) (used : ℕ) → Noted s n xs → NotedIn (behind room s n xs used)
behind_noted room s n xs used h = behind_by NotedIn room s n xs used tt (λ _. tt) (λ _. h)

pub stepped_noted : (limits : Limits) (room : ℕ) (x : Stream) → StreamKeeps limits x → NotedIn x → NotedIn (stepped limits room x)
unfolding stepped
stepped_noted limits room (scanning s n xs used) k h =
    on_news (λ w. NotedIn (after_news room n xs used w)) (step_noted limits s n xs k h) (λ es t i. behind_noted room t n (waits n xs es) _ i) (λ es i. i) (λ _ _. tt)
stepped_noted limits room (closing xs) k h = h
stepped_noted limits room (broken j m) k h = tt

holds_rest : (gs : List GivenToken) (x : Slot) (xs : List Slot) → SlotsHold gs (x ∷ xs) → SlotsHold (drop 1 gs) xs
holds_rest [] x xs h = absurd h
holds_rest (g ∷ gs) x xs h = h.2

holds_part : (gs : List GivenToken) (t b : Token) (bs : List Token) (xs : List Slot) → SlotsHold gs (slot t (b ∷ bs) ∷ xs) → SlotsHold gs (slot t bs ∷ xs)
holds_part [] t b bs xs h = absurd h
holds_part (g ∷ gs) t b bs xs h = (h.0, λ e. ap (λ (ts : List Token). drop 1 ts) (h.1 e), h.2)

noted_given : (s : State) (n : ℕ) (t : Token) (xs : List Slot) → Noted s n (slot t [] ∷ xs) → Noted s (suc n) xs
noted_given s n t xs h =
    let o : n + 1 ≡ suc n = omega arith in
    let e : drop 1 (drop n h.all) ≡ drop (suc n) h.all = drop-drop 1 n h.all ∙ ap (λ (i : ℕ). drop i h.all) o in
    record { all = h.all; sound = h.sound; holds_last = rw (sym e) (holds_rest (drop n h.all) (slot t []) xs h.holds_last); noted = h.noted.1 }

pub give_noted : (x : Stream) → NotedIn x → NotedIn (give x).stream
give_noted x h =
    give_by NotedIn
    (λ s n used b bs t xs k. record { all = k.all; sound = k.sound; holds_last = holds_part (drop n k.all) t b bs xs k.holds_last; noted = (note_rest k.noted.0, k.noted.1) })
    (λ s n used t xs e k. noted_given s n t xs k)
    (λ b bs t xs k. (k.0, holds_part k.0 t b bs xs k.1, (note_rest k.2.0, k.2.1)))
    (λ t xs k. (drop 1 k.0, holds_rest k.0 (slot t []) xs k.1, k.2.1)) x h

pub reaches_noted : (limits : Limits) (room : ℕ) {x y : Stream} → StreamKeeps limits x → NotedIn x → StreamReaches limits room x y → NotedIn y
reaches_noted limits room k h here = h
reaches_noted limits room k h (then_step {y = y} r e) = stepped_noted limits room y (reaches_keeps limits room k r) (reaches_noted limits room k h r)
reaches_noted limits room k h (then_give {y = y} r) = give_noted y (reaches_noted limits room k h r)

module _ (limits : Limits) (bytes : List ℕ) (words room : ℕ) where
  pub reached_noted : {y : Stream} → StreamReaches limits room (fresh limits bytes words) y → NotedIn y
  reached_noted r = reaches_noted limits room (fresh_keeps limits bytes words) (fresh_noted limits bytes words) r
