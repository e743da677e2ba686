-- The loop of steps comes to what calls give: for the counts say how many tokens wait, and the first of them is a possible key exactly if it is the
-- candidate of its flow level. Tokens that can be given are given without a step in between: so what steps come to does not depend on when they are given.
use Rattle.std.specs.Prelude.{◌+◌, ◌-◌, ◌<◌, ◌≤◌, suc, zero, ℕ, Bool, ◌&&◌, List, [], ◌++◌, map, ◌≡◌, ltb, drop, length, take}
use Rattle.std.proofs.Math.Bool.{false, true}
use Rattle.std.proofs.Common.{append_assoc, inl, inr, ◌∙◌, ap, sym, arith, length-append, take-append-drop, drop_at, length-take-le, take_at, ltb-false, ltb-true}
use Rattle.std.proofs.lemmas.List.{map-append}
use Rattle.std.proofs.Math.Path.{refl}
use Rattle.yaml_text.specs.Mark.{origin}
use Rattle.yaml_text.specs.Pick.{pick}
use Rattle.yaml_text.specs.PlaceLaws.{left}
use Rattle.yaml_text.specs.Refusal.{Read, got, refused}
use Rattle.yaml_text.specs.Test.{by_test, true_false}
use Rattle.yaml_scan.specs.State.{Event, News, State, ends_with, goes_on, mark_of}
use Rattle.yaml_scan.specs.Scan.{step}
use Rattle.yaml_scan.specs.Slots.{Slot, flat}
use Rattle.yaml_scan.specs.SlotLaws.{flat_append}
use Rattle.yaml_scan.specs.Candidates.{GivenToken, given, placed_append}
use Rattle.yaml_stream.specs.Stream.{Stream, behind, brings, broken, call, counted_from, most_waiting, possible, scanning, stepped, too_many_wait, waits}
use Rattle.yaml_stream.specs.Stream as stream
use Rattle.yaml_stream.specs.Sizes.{brings_append}
use Rattle.yaml_stream.specs.Waits.{waits_append}
use Rattle.yaml_stream.specs.Waiting.{then_step}
use Rattle.yaml_stream.proofs.Levels.{on_at}
use Rattle.yaml_stream.specs.Notes.{flat_befores}
use Rattle.yaml_stream.specs.Noted.{Noted}
use Rattle.yaml_stream.proofs.Seeks.{call_on}
use Rattle.yaml_stream.specs.Between.{BetweenCalls, Pauses, between_drop, still_first}
use Rattle.yaml_stream.proofs.Between.{step_pauses}
use Rattle.yaml_stream.specs.Ahead.{CallsGive, ahead_from, ahead_reaches, ahead_then, there}
use Rattle.yaml_stream.proofs.Ahead.{free_ahead}
use Rattle.events.specs.declared.Counts.{Counts}
use Rattle.events.specs.Event.{event_texts}
use Rattle.sink.specs.EventsStored.{notes_append}
use Rattle.sink.specs.SlotWords.{slot_texts}
use Rattle.stream_laws.specs.declared.Pending.{Pending}
use Rattle.stream_laws.specs.Driven.{Driven, Halt, after_halt, after_news, behind_events, counts_after, crowded, driven, ends, go_on, if_enough, one_by_one, pause, pauses, refuse, slots_ahead, spent, stops, then_pending}
use Rattle.stream_laws.specs.Sought.{ComesTo, Finds, Idle, PausesAt, Said, Setting, brings_texts, level_from, test, waits_texts}
use Rattle.stream_laws.specs.Next.{Next, next_pending, pending_put_in}
use Rattle.stream_laws.specs.Middle.{Middle, Onward, begins, breaks_here, ends_here, held, onward, stops_here}

and_false : (p : Bool) → (p && false) ≡ false
and_false true = refl
and_false false = refl

said_then : (base : ℕ) (gs hs : List GivenToken) (xs : List Slot) (es fs : List Event) → given gs (map (counted_from base) es) ≡ hs → Said base gs xs es → Said base hs (waits base xs es) fs
    → Said base gs xs (es ++ fs)
said_then base gs hs xs es fs e h k =
    let f = map-append (counted_from base) es fs in
    record {
      placed = rw f (placed_append gs (map (counted_from base) es) (map (counted_from base) fs) h.placed (rw e k.placed));
      notes = rw f (notes_append (map (counted_from base) es) (map (counted_from base) fs) h.notes k.notes);
      few = rw (waits_append base xs es fs) k.few;
    }

module _ (q : Setting) (base : ℕ) (x : Stream) where
  -- what a loop of at most k steps comes to
  abbrev Law : ℕ → Type 0
  Law k =
      (all : List GivenToken) (w : Pending) (s : State) (free ys : List Slot) (used : ℕ) (m : Counts) → left s.place < k → Middle q base x all w s free ys used m
      → Finds q base (drop base all) (free ++ ys) used x (driven q.limits (test q base) k w s m)

  -- one step, then the rest of the loop
  module _ (all : List GivenToken) (w : Pending) (s : State) (free ys : List Slot) (used : ℕ) (m : Counts) (h : Middle q base x all w s free ys used m) (es : List Event) (t : State)
      (o : Onward base all w s free ys m es t) where
    abbrev n : ℕ
    n = w.number

    abbrev xs : List Slot
    xs = free ++ ys

    abbrev zs : List Slot
    zs = waits n ys es

    abbrev then_used : ℕ
    then_used = used + brings es

    abbrev then_counts : Counts
    then_counts = counts_after m es

    same_used : then_counts.used ≡ then_used
    same_used = omega (arith, h.used_so_far, brings_texts es)

    then_finds : (d : Driven) → Finds q base (drop base (given all es)) (waits base xs es) then_used x d → Finds q base (drop base all) xs used x (behind_events es d)
    then_finds (ends fs) f =
        let a = waits_append base xs es fs in
        record {
          given_all = rw a f.given_all;
          said = said_then base (drop base all) (drop base (given all es)) xs es fs o.rest o.said f.said;
          noted = rw a f.noted;
          fits = omega (arith, f.fits, brings_append es fs);
        }
    then_finds (pauses fs v u) f =
        let a = waits_append base xs es fs in
        let e : used + brings (es ++ fs) ≡ then_used + brings fs = omega (arith, brings_append es fs) in
        record {
          given_free = rw (e, a) f.given_free;
          said = said_then base (drop base all) (drop base (given all es)) xs es fs o.rest o.said f.said;
          noted = rw a f.noted;
          some = f.some;
          within = rw a f.within;
          idle = rw (e, a) f.idle;
        }
    then_finds (stops fs v k p) f =
        let a = waits_append base xs es fs in
        let b = ap length (waits_texts base xs es) ∙ length-append (slot_texts xs) (event_texts es) in
        record {
          behind = f.behind;
          given_free = rw a f.given_free;
          refusal_next = f.refusal_next;
          said = said_then base (drop base all) (drop base (given all es)) xs es fs o.rest o.said f.said;
          noted = rw a f.noted;
          least = f.least;
          within = rw a f.within;
          fits = rw a (omega (arith, f.fits, brings_texts es));
        }
    then_finds spent f = f

    -- the tests agree

    abbrev next : Pending
    next = then_pending (length s.levels) t.keys (length t.levels) then_counts

    abbrev halt : Halt
    halt = test q base w (length s.levels) t then_counts

    test_full : ltb q.room then_used ≡ true → halt ≡ refuse 5 origin
    unfolding one_by_one
    test_full e = rw (same_used, e, one_by_one)

    test_first : ltb q.room then_used ≡ false → halt ≡ pick (possible n t.keys) (crowded w then_counts (mark_of t)) (if_enough base next)
    unfolding one_by_one
    test_first e = rw (same_used, e, on_at n w.level t.keys o.on_level, one_by_one)

    test_waiting : crowded w then_counts (mark_of t) ≡ pick (ltb most_waiting (length (flat zs))) (refuse too_many_wait (mark_of t)) (go_on w)
    unfolding crowded
    test_waiting = rw (o.waiting, crowded)

    test_enough : if_enough base next ≡ pick (ltb (next.number - base) slots_ahead) (go_on next) (pause next)
    unfolding if_enough
    test_enough = refl

    -- this step and the rest
    abbrev Rest : ℕ → Type 0
    Rest k = Finds q base (drop base all) xs used x (after_halt halt es w t then_counts (λ v u c. driven q.limits (test q base) k v u c))

    -- the call is the same as from behind the step
    abbrev Same : Stream → Type 0
    Same y = call q.limits q.room h.from ≡ call q.limits q.room y

    -- 5
    full : (k : ℕ) → Same (behind q.room t n zs then_used) → ltb q.room then_used ≡ true → Rest k
    unfolding behind
    full k c e =
        let g : behind q.room t n zs then_used ≡ broken 5 origin = rw (e, behind) in
        rw (test_full e) (stops_here h es 5 origin o.said o.parts o.all_noted (rw g at c))

    -- 51
    many : (k : ℕ) → Same (behind q.room t n zs then_used) → ltb q.room then_used ≡ false → possible n t.keys ≡ true → ltb most_waiting (length (flat zs)) ≡ true → Rest k
    unfolding behind stream.crowded
    many k c e p i =
        let f : halt ≡ refuse too_many_wait (mark_of t) = test_first e ∙ rw (p, test_waiting, i) in
        let a : stream.crowded t n zs ≡ true = rw (i, p, stream.crowded) in
        let g : behind q.room t n zs then_used ≡ broken too_many_wait (mark_of t) = rw (e, a, behind) in
        rw f (stops_here h es too_many_wait (mark_of t) o.said o.parts o.all_noted (rw g at c))

    -- the first token that waits is still a possible key

    middle : ComesTo q (scanning t n zs then_used) → Same (scanning t n zs then_used) → ltb q.room then_used ≡ false → possible n t.keys ≡ true
        → Middle q base x (given all es) w t free zs then_used then_counts
    middle r c e p =
        record {
          comes = r;
          not_ready = still_first t n zs then_used p;
          sound = o.sound;
          holds_last = rw o.parts at o.holds_last;
          all_noted = rw o.parts at o.all_noted;
          on_level = o.on_level;
          level_next = λ b. absurd (omega (arith, o.later));
          count = o.count;
          used_so_far = same_used;
          fits = ltb-false q.room then_used e;
          more = omega (arith, h.more);
          waiting = o.waiting;
          numbered = h.numbered;
          few_free = h.few_free;
          from = h.from;
          given_free = h.given_free;
          same_call = c;
        }

    -- the rest, with these slots in parts
    go : (k : ℕ) → Law k → left s.place < suc k → (v : Pending) (front last : List Slot) → waits base xs es ≡ front ++ last → Middle q base x (given all es) v t front last then_used then_counts
        → halt ≡ go_on v → Rest k
    go k law b v front last e d f =
        let i = law (given all es) v t front last then_used then_counts (omega (arith, o.takes)) d in
        rw f (then_finds (driven q.limits (test q base) k v t then_counts) (rw e i))

    on : (k : ℕ) → Law k → left s.place < suc k → ComesTo q (behind q.room t n zs then_used) → Same (behind q.room t n zs then_used) → ltb q.room then_used ≡ false
        → possible n t.keys ≡ true → ltb most_waiting (length (flat zs)) ≡ false → Rest k
    unfolding behind stream.crowded
    on k law b r c e p i =
        let f : halt ≡ go_on w = test_first e ∙ rw (p, test_waiting, i) in
        let a : stream.crowded t n zs ≡ false = rw (i, stream.crowded) in
        let g : behind q.room t n zs then_used ≡ scanning t n zs then_used = rw (e, a, behind) in
        go k law b w free zs o.parts (middle (rw g at r) (rw g at c) e p) f

    -- where the first token that waited is no possible key any more, more can be given
    module _ (r : ComesTo q (scanning t n zs then_used)) (c : Same (scanning t n zs then_used)) (fits : then_used ≤ q.room) (first_not : possible n t.keys ≡ false)
        (z : BetweenCalls (length s.levels) t n zs) where
      abbrev number : ℕ
      number = next.number

      abbrev more : ℕ
      more = number - n

      abbrev front : List Slot
      front = free ++ take more zs

      abbrev last : List Slot
      last = drop more zs

      is_next : Next (length s.levels) t n zs next
      is_next = next_pending then_counts o.counted z o.later first_not o.count

      then_parts : waits base xs es ≡ front ++ last
      then_parts = o.parts ∙ ap (λ (ws : List Slot). free ++ ws) (sym (take-append-drop more zs)) ∙ sym (append_assoc free (take more zs) last)

      some_more : length (take more zs) ≡ more
      some_more = length-take-le more zs (omega (arith, is_next.within))

      then_numbered : base + length front ≡ number
      then_numbered = omega (arith, length-append free (take more zs), some_more, h.numbered, is_next.later)

      more_given : CallsGive q.limits q.room (scanning t n zs then_used) (flat (take more zs)) (scanning t number last then_used)
      more_given =
          let e : n + more ≡ number = omega (arith, is_next.later) in
          rw e at (free_ahead q.limits q.room t n more zs then_used (omega (arith, is_next.within)) (λ i b. is_next.free i (omega arith)))

      all_given : CallsGive q.limits q.room x (flat front) (scanning t number last then_used)
      all_given =
          let b : 1 ≤ length (flat (take more zs)) = omega (arith, flat_befores (take more zs), some_more, is_next.later) in
          rw (flat_append free (take more zs)) (ahead_then q.limits q.room h.given_free (ahead_from q.limits q.room c b more_given))

      idle : Idle q next t last then_used
      idle =
          record {
            not_ready = is_next.not_ready then_used;
            comes = ahead_reaches q.limits q.room r more_given;
            fits = fits;
            level = length s.levels;
            between = between_drop more number z;
            on_level = is_next.on_level;
          }

      pauses_here : PausesAt q base (drop base all) xs used x es next t
      pauses_here =
          let b : length front ≡ number - base = omega (arith, then_numbered) in
          let e : take (number - base) (waits base xs es) ≡ front = ap (λ (ws : List Slot). take (number - base) ws) then_parts ∙ take_at front last (number - base) b in
          let f : drop (number - base) (waits base xs es) ≡ last = ap (λ (ws : List Slot). drop (number - base) ws) then_parts ∙ drop_at front last (number - base) b in
          record {
            given_free = rw (e, f) all_given;
            said = o.said;
            noted = o.all_noted;
            some = omega (arith, h.numbered, is_next.later);
            within = omega (arith, then_numbered, ap length then_parts, length-append front last);
            idle = rw f idle;
          }

      begins_again : length front < slots_ahead → Middle q base x (given all es) next t front last then_used then_counts
      begins_again b =
          begins then_counts idle o.sound (rw then_parts at o.holds_last) (rw then_parts at o.all_noted) o.count same_used
          (pending_put_in (length s.levels) t.keys (length t.levels) then_counts) then_numbered b all_given

      gives_more : (k : ℕ) → Law k → left s.place < suc k → halt ≡ if_enough base next → Rest k
      gives_more k law b f =
          by_test (ltb (number - base) slots_ahead)
          (λ e. go k law b next front last then_parts (begins_again (omega (arith, ltb-true (number - base) slots_ahead e, then_numbered))) (f ∙ test_enough ∙ rw e))
          (λ e. let g : halt ≡ pause next = f ∙ test_enough ∙ rw e in rw g pauses_here)

    free_first : (k : ℕ) → Law k → left s.place < suc k → Pauses s n ys (goes_on es t) → ComesTo q (behind q.room t n zs then_used) → Same (behind q.room t n zs then_used)
        → ltb q.room then_used ≡ false → possible n t.keys ≡ false → Rest k
    unfolding behind stream.crowded
    free_first k law b z r c e p =
        let a : stream.crowded t n zs ≡ false = rw (p, stream.crowded) (and_false (ltb most_waiting (length (flat zs)))) in
        let g : behind q.room t n zs then_used ≡ scanning t n zs then_used = rw (e, a, behind) in
        gives_more (rw g at r) (rw g at c) (ltb-false q.room then_used e) p (by_pauses z) k law b (test_first e ∙ rw p)
      where
        by_pauses : Pauses s n ys (goes_on es t) → BetweenCalls (length s.levels) t n zs
        by_pauses (inl d) = true_false (sym d ∙ p)
        by_pauses (inr d) = d

    behind_step : (k : ℕ) → Law k → left s.place < suc k → Pauses s n ys (goes_on es t) → ComesTo q (behind q.room t n zs then_used) → Same (behind q.room t n zs then_used) → Rest k
    behind_step k law b z r c =
        by_test (ltb q.room then_used) (full k c)
        (λ e. by_test (possible n t.keys) (λ p. by_test (ltb most_waiting (length (flat zs))) (many k c e p) (on k law b r c e p)) (free_first k law b z r c e))

  one_step : (k : ℕ) → Law k → Law (suc k)
  unfolding driven stepped
  one_step k law all w s free ys used m b h = by_step (step q.limits s) refl
    where
      comes : ComesTo q (stream.after_news q.room w.number ys used (step q.limits s))
      comes = then_step h.comes h.not_ready

      same : call q.limits q.room h.from ≡ call q.limits q.room (stream.after_news q.room w.number ys used (step q.limits s))
      same = h.same_call ∙ call_on q.limits q.room (scanning s w.number ys used) h.not_ready

      by_step : (r : Read News) → step q.limits s ≡ r
          → Finds q base (drop base all) (free ++ ys) used x (after_news (test q base) w (length s.levels) m (λ v t c. driven q.limits (test q base) k v t c) r)
      by_step (got (goes_on es t)) e =
          behind_step all w s free ys used m h es t (onward h es t e) k law b (step_pauses q.limits s w.number ys used (held h) h.not_ready es t e) (rw e at comes) (rw e at same)
      by_step (got (ends_with es)) e = ends_here h es e (rw e at same)
      by_step (refused j p) e = breaks_here h j p (rw e at same)

  loop_finds : (k : ℕ) → Law k
  loop_finds zero = λ all w s free ys used m b h. absurd (omega arith)
  loop_finds (suc k) = one_step k (loop_finds k)

-- where a call has to scan: the whole budget
pub call_finds : (q : Setting) {l : ℕ} {s : State} {n : ℕ} {xs : List Slot} (used : ℕ) (c : Counts) (w : Pending) → ComesTo q (scanning s n xs used) → (v : Noted s n xs) → BetweenCalls l s n xs
    → stream.ready (scanning s n xs used) ≡ false → used ≤ q.room → c.count ≡ s.count → c.used ≡ used → w ≡ record { number = n; level = level_from l s n; put_in = c.put_in }
    → Finds q n (drop n v.all) xs used (scanning s n xs used) (driven q.limits (test q n) (suc (left s.place)) w s c)
unfolding flat
call_finds q {l} {s} {n} {xs} used c w h v b r i e f p =
    let w' : Pending = record { number = n; level = level_from l s n; put_in = c.put_in } in
    let d : Idle q w' s xs used = record { not_ready = r; comes = h; fits = i; level = l; between = b; on_level = refl } in
    rw p (loop_finds q n (scanning s n xs used) (suc (left s.place)) v.all w' s [] xs used c (omega arith)
    (begins c d v.sound v.holds_last v.noted e f refl (omega arith) (omega arith) there))
