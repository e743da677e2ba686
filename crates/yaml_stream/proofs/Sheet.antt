-- Theorems about specs/Sheet, and what rests on them.
use Rattle.std.specs.Prelude.{◌+◌, ◌≤◌, suc, zero, ℕ, false, true, List, [], ◌∷◌, ◌≡◌, refl, length}
use Rattle.std.proofs.Common.{inl, ◌∙◌, sym, arith}
use Rattle.yaml_text.specs.declared.Mark.{Mark}
use Rattle.yaml_text.specs.Mark.{along, origin}
use Rattle.yaml_text.specs.Refusal.{got}
use Rattle.yaml_text.specs.Test.{true_false}
use Rattle.yaml_text.specs.All.{all_got}
use Rattle.yaml_scan.specs.State.{Event, State, goes_on, in_flow, put}
use Rattle.yaml_scan.specs.Scan.{begin, standard, step}
use Rattle.yaml_scan.specs.Open.{all_open}
use Rattle.yaml_scan.specs.Slots.{Slot, flat}
use Rattle.yaml_scan.specs.SlotLaws.{total}
use Rattle.yaml_stream.specs.Stream.{Stream, after_news, broken, closing, fresh, most_waiting, ready, scanning, too_many_wait, waits}
use Rattle.yaml_stream.specs.Waits.{waits_total}
use Rattle.yaml_stream.specs.Changes.{behind_by, fresh_decoded, stepped_by}
use Rattle.yaml_stream.proofs.Changes.{give_fewer}
use Rattle.yaml_stream.specs.Waiting.{StreamReaches, reaches_by}
use Rattle.yaml_stream.specs.InList.{Listed, comma_listed, comma_stays, few_crowded, listed_few, listed_fewer, none_waits, scalar_listed, scalar_stays}
use Rattle.yaml_stream.specs.SeedList as seeds
use Rattle.yaml_stream.specs.SeedList.{before_entries, behind_list, behind_seed, close_token, comma_next, comma_step, comma_token, end_step, entries_simple, next_events, one_given, open_mark, seed_next, seed_step, seed_token, simple, simple_decode}
use Rattle.yaml_stream.specs.Sheet.{sheet, behind_key}

sheet_simple : (k : ℕ) → simple (sheet k) ≡ true
unfolding simple all_open
sheet_simple k = entries_simple k

abbrev behind_colon : ℕ → State
behind_colon k = seeds.behind_colon 0 1 k 1

-- a step, and how many tokens it says
abbrev Steps : State → ℕ → State → Type 0
Steps s k t = (es : List Event) × (step standard s ≡ got (goes_on es t)) × (total es ≡ k)

key_step : (k : ℕ) → Steps (begin (sheet k)) 1 (behind_key k)
unfolding all_open total
key_step k = (next_events (step standard (begin (sheet k))), refl, refl)

colon_step : (k : ℕ) → Steps (behind_key k) 3 (behind_colon k)
unfolding total
colon_step k = (seeds.colon_says 0 1 1 false, seeds.colon_step 0 1 k 1 false, refl)

bracket_step : (k : ℕ) → Steps (behind_colon k) 1 (seeds.behind_bracket 0 1 k 1)
unfolding total
bracket_step k = (seeds.bracket_says 0 1, seeds.bracket_step 0 1 k 1, refl)

close_step : (m : Mark) (n : ℕ) → 1 ≤ m.col → Steps (before_entries 0 m n) 1 (behind_list (along m) (one_given n))
unfolding total
close_step m n o = (put (close_token m) ∷ [], seeds.close_step m n o, refl)

-- where a stream of the sheet stands, and what waits then
data Stage (k : ℕ) : State → List Slot → Type 0 where
  at_key : {xs : List Slot} → length (flat xs) ≤ 1 → Stage k (begin (sheet k)) xs
  at_colon : {xs : List Slot} → length (flat xs) ≤ 1 → Stage k (behind_key k) xs
  at_bracket : {xs : List Slot} → length (flat xs) ≤ 4 → Stage k (behind_colon k) xs
  at_entry : {xs : List Slot} (j : ℕ) (m : Mark) (n : ℕ) → 1 ≤ m.col → Listed (before_entries j m n) xs → Stage k (before_entries j m n) xs
  at_comma : {xs : List Slot} (j : ℕ) (m : Mark) (c : ℕ) (p : Mark) (n : ℕ) → 1 ≤ m.col → Listed (behind_seed j m c p n) xs → Stage k (behind_seed j m c p n) xs
  at_end : {xs : List Slot} (m : Mark) (n : ℕ) → 1 ≤ m.col → length (flat xs) ≤ 4 → Stage k (behind_list m n) xs

abbrev Sheet : ℕ → Stream → Type 0
Sheet k (scanning s n xs used) = Stage k s xs
Sheet k (closing xs) = Unit {0}
Sheet k (broken r m) = r ≡ too_many_wait → ⊥

stage_few : {k : ℕ} {s : State} {xs : List Slot} → Stage k s xs → length (flat xs) ≤ 4
stage_few (at_key b) = omega arith
stage_few (at_colon b) = omega arith
stage_few (at_bracket b) = b
stage_few {xs = xs} (at_entry j m n o h) = listed_few (before_entries j m n) xs h
stage_few {xs = xs} (at_comma j m c p n o h) = listed_few (behind_seed j m c p n) xs h
stage_few (at_end m n o b) = b

stage_fewer : {k : ℕ} {s : State} {xs : List Slot} (ys : List Slot) → length (flat ys) ≤ length (flat xs) → Stage k s xs → Stage k s ys
stage_fewer ys l (at_key b) = at_key {xs = ys} (omega arith)
stage_fewer ys l (at_colon b) = at_colon {xs = ys} (omega arith)
stage_fewer ys l (at_bracket b) = at_bracket {xs = ys} (omega arith)
stage_fewer {xs = xs} ys l (at_entry j m n o h) = at_entry j m n o (listed_fewer (before_entries j m n) xs ys l h)
stage_fewer {xs = xs} ys l (at_comma j m c p n o h) = at_comma j m c p n o (listed_fewer (behind_seed j m c p n) xs ys l h)
stage_fewer ys l (at_end m n o b) = at_end {xs = ys} m n o (omega arith)

goes : (k room : ℕ) (s t : State) (n used : ℕ) (xs : List Slot) (es : List Event) → step standard s ≡ got (goes_on es t) → Stage k t (waits n xs es)
    → Sheet k (after_news room n xs used (step standard s))
goes k room s t n used xs es e h =
    let b : length (flat (waits n xs es)) ≤ most_waiting = omega (arith, stage_few h) in
    rw e (behind_by (Sheet k) room t n (waits n xs es) _ (λ z. omega arith) (λ f. true_false (sym f ∙ few_crowded t n (waits n xs es) b)) (λ _. h))

stage_steps : {k : ℕ} {s : State} {xs : List Slot} (room n used : ℕ) → Stage k s xs → ready (scanning s n xs used) ≡ false
    → Sheet k (after_news room n xs used (step standard s))
unfolding in_flow
stage_steps {k} {xs = xs} room n used (at_key b) r =
    let s = begin (sheet k) in
    let e = key_step k in
    goes k room s (behind_key k) n used xs e.0 e.1 (at_colon {xs = waits n xs e.0} (omega (arith, waits_total n xs e.0, none_waits s n used xs tt r, e.2)))
stage_steps {k} {xs = xs} room n used (at_colon b) r =
    let e = colon_step k in
    goes k room (behind_key k) (behind_colon k) n used xs e.0 e.1 (at_bracket {xs = waits n xs e.0} (omega (arith, waits_total n xs e.0, e.2)))
stage_steps {k} {xs = xs} room n used (at_bracket b) r =
    let e = bracket_step k in
    let z = none_waits (behind_colon k) n used xs tt r in
    goes k room (behind_colon k) (seeds.behind_bracket 0 1 k 1) n used xs e.0 e.1
    (at_entry k (along (open_mark 0 1)) 4 (omega arith) (record { flows = refl; outer = tt; few = inl (omega (arith, waits_total n xs e.0, z, e.2)) }))
stage_steps {k} {xs = xs} room n used (at_entry zero m i o h) r =
    let s = before_entries 0 m i in
    let e = close_step m i o in
    goes k room s (behind_list (along m) (one_given i)) n used xs e.0 e.1
    (at_end {xs = waits n xs e.0} (along m) (one_given i) (omega arith) (omega (arith, waits_total n xs e.0, none_waits s n used xs tt r, e.2)))
stage_steps {k} {xs = xs} room n used (at_entry (suc j) m i o h) r =
    let s = before_entries (suc j) m i in
    let t = behind_seed j (along m) (i + 0) m (one_given i) in
    let es : List Event = put (seed_token m) ∷ [] in
    let e = seed_step j m i o in
    goes k room s t n used xs es e
    (at_comma j (along m) (i + 0) m (one_given i) (omega arith)
    (scalar_listed s n xs es t h (none_waits s n used xs tt r) (all_got (scalar_stays standard s refl (seed_next j m i o)) e)))
stage_steps {k} {xs = xs} room n used (at_comma j m c p i o h) r =
    let s = behind_seed j m c p i in
    let t = before_entries j (along (along m)) (one_given i) in
    let es : List Event = put (comma_token m) ∷ [] in
    let e = comma_step j m c p i o in
    goes k room s t n used xs es e
    (at_entry j (along (along m)) (one_given i) (omega arith) (comma_listed s n used xs es t h r (all_got (comma_stays standard s refl (comma_next j m c p i o)) e)))
stage_steps room n used (at_end m i o b) r = rw (end_step m i o) tt

fresh_sheet : (k words : ℕ) → Sheet k (fresh standard (sheet k) words)
unfolding flat
fresh_sheet k words =
    fresh_decoded (Sheet k) standard (sheet k) words (λ z. omega arith) (λ z. omega arith) (sheet k) (simple_decode origin (sheet k) (sheet_simple k))
    (λ _. at_key (omega arith))

reaches_sheet : (k words room : ℕ) {y : Stream} → StreamReaches standard room (fresh standard (sheet k) words) y → Sheet k y
reaches_sheet k words room r =
    reaches_by (Sheet k) standard room
    (λ x h e. stepped_by (Sheet k) standard room (λ s n xs used i f. stage_steps room n used i f) x h e)
    (λ x h. give_fewer (Sheet k) (λ s n i used xs ys l g. stage_fewer ys l g) (λ xs. tt) x h) (fresh_sheet k words) r

-- however many seeds, words and bytes: in every stream that calls come to at most 4 tokens wait
pub at_most_four : (k words room : ℕ) {s : State} {n used : ℕ} {xs : List Slot} → StreamReaches standard room (fresh standard (sheet k) words) (scanning s n xs used) → length (flat xs) ≤ 4
at_most_four k words room r = stage_few (reaches_sheet k words room r)

-- and none is a 51
pub no_51 : (k words room : ℕ) (m : Mark) → StreamReaches standard room (fresh standard (sheet k) words) (broken too_many_wait m) → ⊥
no_51 k words room m r = reaches_sheet k words room r refl
