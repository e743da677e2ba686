-- A list that opens on its key's line (OnKeyLine) is no candidate: its entries are given as they come, at most 4 tokens wait, and 51 is not met, however long it is.
use Rattle.std.specs.Prelude.{◌≤◌, ℕ, Bool, false, true, List, [], ◌++◌, ◌∷◌, ◌⊎◌, ◌≡◌, refl, ltb, drop, length}
use Rattle.std.proofs.Math.Bool.{and-false}
use Rattle.std.proofs.Common.{inl, inr, ◌∙◌, ap, arith, le-ltb}
use Rattle.yaml_text.specs.declared.Mark.{Mark}
use Rattle.yaml_text.specs.Mark.{Place}
use Rattle.yaml_text.specs.Refusal.{Read, ◌>>=◌, got}
use Rattle.yaml_text.specs.Test.{by_pick, true_false}
use Rattle.yaml_text.specs.All.{All, all_any, all_bind, all_got, all_need, holds, not_read}
use Rattle.yaml_lexeme.specs.Token.{FlowMappingEnd, Token}
use Rattle.yaml_lexeme.specs.Plain.{scan_plain_scalar}
use Rattle.yaml_scan.specs.declared.Choice.{Choice}
use Rattle.yaml_scan.specs.declared.Choice.TheVariants.{AtComma, AtPlain, Closes}
use Rattle.yaml_scan.specs.declared.Limits.{Limits}
use Rattle.yaml_scan.specs.Indent.{Unrolled}
use Rattle.yaml_scan.specs.State.{Event, News, State, allow, at_place, block_ends, empty_if, ends_with, goes_on, in_flow, lapse_key, mark_of, preceded, put, remove_key, save_key}
use Rattle.yaml_scan.specs.Bracket.{fetch_flow_collection_end, fetch_flow_entry, implicit_open}
use Rattle.yaml_scan.specs.Choice.{choice}
use Rattle.yaml_scan.specs.Fetch.{fetch, fetch_plain_scalar}
use Rattle.yaml_scan.specs.Scan.{step, to_next_token, unrolled}
use Rattle.yaml_scan.specs.Slots.{Slot, flat}
use Rattle.yaml_scan.specs.SlotLaws.{total}
use Rattle.yaml_scan.specs.Steps.{one_most, unrolled_state}
use Rattle.theorems.specs.NestingSteps.{unrolled_in}
use Rattle.yaml_stream.specs.Stream.{Stream, broken, closing, crowded, give, most_waiting, ready, scanning, stepped, waits}
use Rattle.yaml_stream.specs.Waits.{waits_total}
use Rattle.yaml_stream.specs.Totals.{total_if, total_then}
use Rattle.yaml_stream.specs.Alone.{Absents, absents_not}
use Rattle.yaml_stream.specs.Opened.{level_flow}

-- what stands next, behind the gap
abbrev pub next_choice : State → Read Choice
next_choice s = to_next_token s >>= λ t. got (choice (unrolled_state t))

-- a step whose token is known by its first character
step_at : {G : State → Type 0} {P : News → Type 0} (limits : Limits) (s : State) (c : Choice) → next_choice s ≡ got c → All State G (to_next_token s)
    → ((v : State) → G v → All News (λ w. P (preceded (block_ends (unrolled v).ended (mark_of v)) w)) (fetch limits c (unrolled_state v))) → All News P (step limits s)
unfolding step ◌>>=◌
step_at {G} {P} limits s c e g h = by_gap g e
  where
    by_gap : {r : Read State} → All State G r → (r >>= λ v. got (choice (unrolled_state v))) ≡ got c
        → All News P (r >>= λ v. fetch limits (choice (unrolled_state v)) (unrolled_state v) >>= λ n. got (preceded (block_ends (unrolled v).ended (mark_of v)) n))
    by_gap (holds {a = v} k) f =
        let i : choice (unrolled_state v) ≡ c = cc in
        rw i (all_bind _ (h v k) (λ w j. holds j))
    by_gap not_read f = not_read

-- in flow the gap changes neither candidates nor levels, and no block ends

pub record Flows (s v : State) : Type 0 where
  pub same_keys : v.keys ≡ s.keys
  pub flows : in_flow v ≡ true
  pub no_ends : (unrolled v).ended ≡ 0

lapse_flows : (s : State) (p : Place) (leads a : Bool) → in_flow s ≡ true → All State (Flows s) (lapse_key (at_place p leads (allow a s)))
unfolding lapse_key in_flow
lapse_flows s p leads b e =
    let v = at_place p leads (allow b s) in
    let f : Flows s v = record { same_keys = refl; flows = e; no_ends = ap (λ (u : Unrolled). u.ended) (unrolled_in v e) } in
    rw (e, lapse_key) (holds f)

gap_flows : (s : State) → in_flow s ≡ true → All State (Flows s) (to_next_token s)
unfolding to_next_token
gap_flows s e = all_bind _ (all_any _) (λ g _. lapse_flows s g.place g.leading_whitespace g.simple_key_allowed e)

-- behind the step: how many tokens it says, and that it is still in flow, with no candidate further out
pub record Stays (k : ℕ) (s : State) (es : List Event) (t : State) : Type 0 where
  pub says : total es ≤ k
  pub flows : in_flow t ≡ true
  pub outer : Absents (drop 1 s.keys) → Absents (drop 1 t.keys)

-- a plain scalar

abbrev Scalars : State → News → Type 0
Scalars s (goes_on es t) = Stays 1 s es t
Scalars s (ends_with es) = Unit {0}

abbrev Saved : State → State → Type 0
Saved s t = (in_flow t ≡ true) × (drop 1 t.keys ≡ drop 1 s.keys)

saved : (s : State) → in_flow s ≡ true → Saved s (save_key s)
unfolding save_key in_flow
saved s e = by_pick (Saved s) s.simple_key_allowed _ s (e, refl) (e, refl)

ends_none : (n : ℕ) (m : Mark) (es : List Event) → n ≡ 0 → block_ends n m ++ es ≡ es
ends_none n m es e = rw e

scalar_fetched : (limits : Limits) (s v : State) → Flows s v → All News (λ w. Scalars s (preceded (block_ends (unrolled v).ended (mark_of v)) w)) (fetch limits AtPlain (unrolled_state v))
unfolding fetch fetch_plain_scalar total in_flow
scalar_fetched limits s v f =
    let u = unrolled_state v in
    let h = saved u f.flows in
    said (record {
      says = rw (ends_none (unrolled v).ended (mark_of v) (put (scan_plain_scalar (in_flow u) u.place).token ∷ []) f.no_ends) (omega arith);
      flows = h.0;
      outer = λ k. rw (h.1, f.same_keys) k;
    })
  where
    said : {es : List Event} {t : State} → Stays 1 s (block_ends (unrolled v).ended (mark_of v) ++ es) t
        → All News (λ w. Scalars s (preceded (block_ends (unrolled v).ended (mark_of v)) w)) (got (goes_on es t))
    said {es} {t} k = holds {a = goes_on es t} k

pub scalar_stays : (limits : Limits) (s : State) → in_flow s ≡ true → next_choice s ≡ got AtPlain → All News (Scalars s) (step limits s)
scalar_stays limits s e c = step_at limits s AtPlain c (gap_flows s e) (λ v f. scalar_fetched limits s v f)

-- a ','

abbrev Commas : State → News → Type 0
Commas s (goes_on es t) = Stays 2 s es t × (Absents (drop 1 s.keys) → Absents t.keys)
Commas s (ends_with es) = Unit {0}

comma_says : (b : Bool) (m : Mark) (t : Token) → total (empty_if b FlowMappingEnd m ++ (put t ∷ [])) ≤ 2
comma_says b m t = omega (arith, total_then (empty_if b FlowMappingEnd m) t, total_if b FlowMappingEnd m, one_most b)

comma_fetched : (limits : Limits) (s v : State) → Flows s v → All News (λ w. Commas s (preceded (block_ends (unrolled v).ended (mark_of v)) w)) (fetch limits AtComma (unrolled_state v))
unfolding fetch fetch_flow_entry remove_key in_flow
comma_fetched limits s v f =
    all_bind _ (all_any _) (λ l _. said (record {
      says = rw (ends_none (unrolled v).ended (mark_of v) (empty_if (implicit_open v.levels) FlowMappingEnd (mark_of v) ++ (put l.token ∷ [])) f.no_ends)
          (comma_says (implicit_open v.levels) (mark_of v) l.token);
      flows = level_flow _ v.levels ∙ f.flows;
      outer = λ k. rw f.same_keys k;
    }) (λ k. rw f.same_keys k))
  where
    said : {es : List Event} {t : State} → Stays 2 s (block_ends (unrolled v).ended (mark_of v) ++ es) t → (Absents (drop 1 s.keys) → Absents t.keys)
        → All News (λ w. Commas s (preceded (block_ends (unrolled v).ended (mark_of v)) w)) (got (goes_on es t))
    said {es} {t} k a = holds {a = goes_on es t} (k, a)

pub comma_stays : (limits : Limits) (s : State) → in_flow s ≡ true → next_choice s ≡ got AtComma → All News (Commas s) (step limits s)
comma_stays limits s e c = step_at limits s AtComma c (gap_flows s e) (λ v f. comma_fetched limits s v f)

-- the stream

-- in flow, with no candidate further out: at most 2 tokens wait, or 4 and none is a possible key
pub record Listed (s : State) (xs : List Slot) : Type 0 where
  pub flows : in_flow s ≡ true
  pub outer : Absents (drop 1 s.keys)
  pub few : (length (flat xs) ≤ 2) ⊎ (Absents s.keys × (length (flat xs) ≤ 4))

abbrev pub InList : Stream → Type 0
InList (scanning s n xs used) = Listed s xs
InList (closing xs) = Unit {0}
InList (broken k m) = Unit {0}

-- the streams that calls come to in such a list: each entry is a scalar, or nothing, with a ',' behind it
pub data Lists (limits : Limits) (room : ℕ) (x : Stream) : Stream → Type 0 where
  here : Lists limits room x x
  then_give : {y : Stream} → Lists limits room x y → Lists limits room x (give y).stream
  then_scalar : {s : State} {n used : ℕ} → Lists limits room x (scanning s n [] used) → next_choice s ≡ got AtPlain → Lists limits room x (stepped limits room (scanning s n [] used))
  then_comma : {s : State} {n used : ℕ} {xs : List Slot} → Lists limits room x (scanning s n xs used) → ready (scanning s n xs used) ≡ false → next_choice s ≡ got AtComma
      → Lists limits room x (stepped limits room (scanning s n xs used))

-- a token is given

-- fewer wait
pub listed_fewer : (s : State) (xs ys : List Slot) → length (flat ys) ≤ length (flat xs) → Listed s xs → Listed s ys
listed_fewer s xs ys l h = record { flows = h.flows; outer = h.outer; few = by_few h.few }
  where
    by_few : (length (flat xs) ≤ 2) ⊎ (Absents s.keys × (length (flat xs) ≤ 4)) → (length (flat ys) ≤ 2) ⊎ (Absents s.keys × (length (flat ys) ≤ 4))
    by_few (inl b) = inl (omega arith)
    by_few (inr b) = inr (b.0, omega (arith, b.1))

-- a step

-- where no key is possible a step begins with none waiting
pub none_waits : (s : State) (n used : ℕ) (xs : List Slot) → Absents s.keys → ready (scanning s n xs used) ≡ false → length (flat xs) ≡ 0
unfolding ready flat
none_waits s n used [] a r = refl
none_waits s n used (x ∷ xs) a r = true_false (rw (absents_not n s.keys a) at r)

-- so at most 2 wait before a step
few_before : (s : State) (n used : ℕ) (xs : List Slot) → Listed s xs → ready (scanning s n xs used) ≡ false → length (flat xs) ≤ 2
few_before s n used xs h r = by_few h.few
  where
    by_few : (length (flat xs) ≤ 2) ⊎ (Absents s.keys × (length (flat xs) ≤ 4)) → length (flat xs) ≤ 2
    by_few (inl b) = b
    by_few (inr b) = omega (arith, none_waits s n used xs b.0 r)

pub scalar_listed : (s : State) (n : ℕ) (xs : List Slot) (es : List Event) (t : State) → Listed s xs → length (flat xs) ≡ 0 → Stays 1 s es t → Listed t (waits n xs es)
scalar_listed s n xs es t h z k = record { flows = k.flows; outer = k.outer h.outer; few = inl (omega (arith, waits_total n xs es, k.says)) }

pub comma_listed : (s : State) (n used : ℕ) (xs : List Slot) (es : List Event) (t : State) → Listed s xs → ready (scanning s n xs used) ≡ false → Commas s (goes_on es t) → Listed t (waits n xs es)
comma_listed s n used xs es t h r k =
    record {
      flows = k.0.flows;
      outer = k.0.outer h.outer;
      few = inr (k.1 h.outer, omega (arith, waits_total n xs es, k.0.says, few_before s n used xs h r));
    }

-- where none is possible, or few wait, a step is no 51

none_crowded : (s : State) (n : ℕ) (xs : List Slot) → Absents s.keys → crowded s n xs ≡ false
unfolding crowded
none_crowded s n xs a = rw (absents_not n s.keys a) (and-false (ltb most_waiting (length (flat xs))))

pub few_crowded : (s : State) (n : ℕ) (xs : List Slot) → length (flat xs) ≤ most_waiting → crowded s n xs ≡ false
unfolding crowded
few_crowded s n xs b = rw (le-ltb most_waiting (length (flat xs)) b)

-- at most 4 wait, so the step that came to them was no 51

pub listed_few : (s : State) (xs : List Slot) → Listed s xs → length (flat xs) ≤ 4
listed_few s xs h = by_few h.few
  where
    by_few : (length (flat xs) ≤ 2) ⊎ (Absents s.keys × (length (flat xs) ≤ 4)) → length (flat xs) ≤ 4
    by_few (inl b) = omega arith
    by_few (inr b) = b.1

-- the list's end: no candidate is left, so all that waits is given

abbrev Closing : State → News → Type 0
Closing s (goes_on es t) = Absents (drop 1 s.keys) → Absents t.keys
Closing s (ends_with es) = Unit {0}

close_fetched : (limits : Limits) (sequence : Bool) (s v : State) → Flows s v
    → All News (λ w. Closing s (preceded (block_ends (unrolled v).ended (mark_of v)) w)) (fetch limits (Closes sequence) (unrolled_state v))
unfolding fetch fetch_flow_collection_end remove_key
close_fetched limits sequence s v f =
    all_need _ _ _ _ (all_bind _ (all_any _) (λ l _. said (λ k. rw f.same_keys k)))
  where
    said : {es : List Event} {t : State} → (Absents (drop 1 s.keys) → Absents t.keys)
        → All News (λ w. Closing s (preceded (block_ends (unrolled v).ended (mark_of v)) w)) (got (goes_on es t))
    said {es} {t} a = holds {a = goes_on es t} a

pub close_no_51 : (limits : Limits) (sequence : Bool) (s : State) (n : ℕ) (xs : List Slot) → Listed s xs → next_choice s ≡ got (Closes sequence)
    → (es : List Event) (t : State) → step limits s ≡ got (goes_on es t) → crowded t n (waits n xs es) ≡ false
close_no_51 limits sequence s n xs h c es t e =
    let a = all_got (step_at {P = Closing s} limits s (Closes sequence) c (gap_flows s h.flows) (λ v f. close_fetched limits sequence s v f)) e in
    none_crowded t n (waits n xs es) (a h.outer)
