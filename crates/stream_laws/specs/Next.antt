-- Where the first token that waited is no possible key any more, none before the last is one: so what is pending then is the last token, or none.
use Rattle.std.specs.Prelude.{◌+◌, ◌-◌, ◌<◌, ◌≤◌, suc, ℕ, false, true, List, [], ◌≡◌, refl, ltb, drop, length}
use Rattle.std.proofs.Common.{◌∙◌, ap, sym, arith, drop_of_length-le, le-ltb, lt-ltb, ltb-false, ltb-true}
use Rattle.yaml_text.specs.Test.{by_pick, by_test, true_false}
use Rattle.yaml_scan.specs.declared.Candidate.{Candidate}
use Rattle.yaml_scan.specs.State.{State}
use Rattle.yaml_scan.specs.Slots.{Slot}
use Rattle.yaml_stream.specs.Stream.{possible, scanning}
use Rattle.yaml_stream.specs.Stream as stream
use Rattle.yaml_stream.specs.Lowest.{names}
use Rattle.yaml_stream.specs.Levels.{level_key}
use Rattle.yaml_stream.proofs.Levels.{on_at}
use Rattle.yaml_stream.specs.Between.{BetweenCalls, still_first}
use Rattle.events.specs.declared.Counts.{Counts}
use Rattle.stream_laws.specs.declared.Pending.{Pending}
use Rattle.stream_laws.specs.Driven.{then_pending}
use Rattle.stream_laws.specs.Sought.{level_from}

-- where the first token that waited, n, is no possible key any more. l: the flow level from which the last step was made
pub record Next (l : ℕ) (t : State) (n : ℕ) (ys : List Slot) (v : Pending) : Type 0 where
  pub later : n < v.number
  pub within : v.number ≤ n + length ys
  pub free : (i : ℕ) → i < v.number → possible i t.keys ≡ false
  pub on_level : v.level ≡ level_from l t v.number
  pub not_ready : (used : ℕ) → stream.ready (scanning t v.number (drop (v.number - n) ys) used) ≡ false

ready_none : (s : State) (n : ℕ) (xs : List Slot) (used : ℕ) → xs ≡ [] → stream.ready (scanning s n xs used) ≡ false
unfolding stream.ready
ready_none s n xs used e = rw e

-- c: the counts then
pub next_pending : {l : ℕ} {t : State} {n : ℕ} {ys : List Slot} (c : Counts) → n + length ys ≡ t.count → BetweenCalls l t n ys → n < t.count → possible n t.keys ≡ false → c.count ≡ t.count
    → Next l t n ys (then_pending l t.keys (length t.levels) c)
unfolding then_pending
next_pending {l} {t} {n} {ys} c h b k p e =
    by_test (names (c.count - 1) (level_key l t.keys))
    (λ f. rw (f, then_pending, e) (last_waits (rw e at f)))
    (λ f. rw (f, then_pending, e) (none_waits (rw e at f)))
  where
    last_key : possible (t.count - 1) t.keys ≡ names (t.count - 1) (level_key l t.keys)
    last_key = on_at (t.count - 1) l t.keys (b.level (t.count - 1))

    last_waits : names (t.count - 1) (level_key l t.keys) ≡ true → Next l t n ys (record { number = t.count - 1; level = l; put_in = c.put_in })
    last_waits f =
        let i : possible (t.count - 1) t.keys ≡ true = last_key ∙ f in
        let d : n ≡ t.count - 1 → ⊥ = λ g. true_false (sym i ∙ ap (λ (j : ℕ). possible j t.keys) (sym g) ∙ p) in
        record {
          later = omega (arith, d);
          within = omega arith;
          free = λ j a. b.others_not j (omega arith);
          on_level = rw (lt-ltb (t.count - 1) t.count (omega arith));
          not_ready = λ used. still_first t (t.count - 1) (drop (t.count - 1 - n) ys) used i;
        }

    none_waits : names (t.count - 1) (level_key l t.keys) ≡ false → Next l t n ys (record { number = t.count; level = length t.levels; put_in = c.put_in })
    none_waits f =
        record {
          later = k;
          within = omega arith;
          free = λ j a. by_test (ltb (suc j) t.count) (λ g. b.others_not j (ltb-true (suc j) t.count g))
              (λ g. let i : j ≡ t.count - 1 = omega (arith, ltb-false (suc j) t.count g) in rw i (last_key ∙ f));
          on_level = rw (le-ltb t.count t.count (omega arith));
          not_ready = λ used. ready_none t t.count (drop (t.count - n) ys) used (drop_of_length-le ys {i = t.count - n} (omega arith));
        }

pub pending_put_in : (l : ℕ) (ks : List Candidate) (flow : ℕ) (c : Counts) → (then_pending l ks flow c).put_in ≡ c.put_in
unfolding then_pending
pending_put_in l ks flow c = by_pick (λ (v : Pending). v.put_in ≡ c.put_in) (names (c.count - 1) (level_key l ks)) _ _ refl refl
