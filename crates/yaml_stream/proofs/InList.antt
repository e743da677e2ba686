-- Theorems about specs/InList, and what rests on them.
use Rattle.std.specs.Prelude.{◌≤◌, ℕ, false, List, [], ◌≡◌, refl, length}
use Rattle.std.proofs.Common.{arith}
use Rattle.yaml_text.specs.Refusal.{got}
use Rattle.yaml_text.specs.All.{all_got}
use Rattle.yaml_scan.specs.declared.Choice.TheVariants.{AtComma, AtPlain}
use Rattle.yaml_scan.specs.declared.Limits.{Limits}
use Rattle.yaml_scan.specs.State.{Event, State, goes_on}
use Rattle.yaml_scan.specs.Scan.{step}
use Rattle.yaml_scan.specs.Slots.{Slot, flat}
use Rattle.yaml_scan.specs.Budget.{on_news}
use Rattle.yaml_stream.specs.Stream.{Stream, after_news, behind, crowded, give, ready, scanning, stepped, waits}
use Rattle.yaml_stream.specs.Changes.{behind_by}
use Rattle.yaml_stream.proofs.Changes.{give_fewer}
use Rattle.yaml_stream.specs.InList.{next_choice, scalar_stays, comma_stays, Listed, InList, Lists, listed_fewer, scalar_listed, comma_listed, few_crowded, listed_few, here, then_give, then_scalar, then_comma}

give_listed : (x : Stream) → InList x → InList (give x).stream
give_listed x h = give_fewer InList (λ s n k used xs ys l i. listed_fewer s xs ys l i) (λ xs. tt) x h

behind_listed : (room : ℕ) (s : State) (n : ℕ) (xs : List Slot) (used : ℕ) → Listed s xs → InList (behind room s n xs used)
behind_listed room s n xs used h = behind_by InList room s n xs used tt (λ _. tt) (λ _. h)

pub lists_in : (limits : Limits) (room : ℕ) {x y : Stream} → InList x → Lists limits room x y → InList y
unfolding stepped flat
lists_in limits room h here = h
lists_in limits room h (then_give {y = y} r) = give_listed y (lists_in limits room h r)
lists_in limits room h (then_scalar {s = s} {n = n} {used = used} r c) =
    let k = lists_in limits room h r in
    on_news (λ w. InList (after_news room n [] used w)) (scalar_stays limits s k.flows c)
    (λ es t i. behind_listed room t n (waits n [] es) _ (scalar_listed s n [] es t k refl i)) (λ _ _. tt) (λ _ _. tt)
lists_in limits room h (then_comma {s = s} {n = n} {used = used} {xs = xs} r e c) =
    let k = lists_in limits room h r in
    on_news (λ w. InList (after_news room n xs used w)) (comma_stays limits s k.flows c)
    (λ es t i. behind_listed room t n (waits n xs es) _ (comma_listed s n used xs es t k e i)) (λ _ _. tt) (λ _ _. tt)

listed_crowded : (s : State) (n : ℕ) (xs : List Slot) → Listed s xs → crowded s n xs ≡ false
listed_crowded s n xs h = few_crowded s n xs (omega (arith, listed_few s xs h))

pub four_wait : (limits : Limits) (room : ℕ) {x : Stream} {s : State} {n used : ℕ} {xs : List Slot} → InList x → Lists limits room x (scanning s n xs used) → length (flat xs) ≤ 4
four_wait limits room {s = s} {xs = xs} h r = listed_few s xs (lists_in limits room h r)

pub scalar_no_51 : (limits : Limits) (room : ℕ) {x : Stream} {s : State} {n used : ℕ} → InList x → Lists limits room x (scanning s n [] used) → next_choice s ≡ got AtPlain
    → (es : List Event) (t : State) → step limits s ≡ got (goes_on es t) → crowded t n (waits n [] es) ≡ false
unfolding flat
scalar_no_51 limits room {s = s} {n = n} h r c es t e =
    let k = lists_in limits room h r in
    listed_crowded t n (waits n [] es) (scalar_listed s n [] es t k refl (all_got (scalar_stays limits s k.flows c) e))

pub comma_no_51 : (limits : Limits) (room : ℕ) {x : Stream} {s : State} {n used : ℕ} {xs : List Slot} → InList x → Lists limits room x (scanning s n xs used)
    → ready (scanning s n xs used) ≡ false → next_choice s ≡ got AtComma → (es : List Event) (t : State) → step limits s ≡ got (goes_on es t) → crowded t n (waits n xs es) ≡ false
comma_no_51 limits room {s = s} {n = n} {used = used} {xs = xs} h r f c es t e =
    let k = lists_in limits room h r in
    listed_crowded t n (waits n xs es) (comma_listed s n used xs es t k f (all_got (comma_stays limits s k.flows c) e))
