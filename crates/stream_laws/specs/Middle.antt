-- Before each step of a call: what holds there, and what a step makes of it. What it puts in goes in from the pending token on, so the slots before that
-- one stay as they are.
use Rattle.std.specs.Prelude.{◌+◌, ◌-◌, ◌<◌, ◌≤◌, ℕ, false, ◌⊎◌, ◌≡◌, ltb, drop, take}
use mathlib.Core.List.{List, [], ◌++◌, ◌∷◌, map}
use Rattle.std.proofs.Common.{inl, inr, ◌∙◌, sym, arith, take_at, le-ltb, ltb-false}
use Rattle.std.proofs.Math.Path.{ap, refl}
use Rattle.std.proofs.Math.ListN.{length, length-append}
use Rattle.yaml_text.specs.declared.Mark.{Mark}
use Rattle.yaml_text.specs.PlaceLaws.{left}
use Rattle.yaml_text.specs.Refusal.{got}
use Rattle.yaml_text.specs.Test.{by_test}
use Rattle.yaml_text.specs.All.{all_got}
use Rattle.yaml_scan.specs.State.{Event, State, ends_with, goes_on, put, put_before, puts}
use Rattle.yaml_scan.specs.Scan.{step}
use Rattle.yaml_scan.specs.Slots.{Slot, flat, slots}
use Rattle.yaml_scan.specs.SlotLaws.{SlotsHold, flat_append, total}
use Rattle.yaml_scan.proofs.SlotLaws.{slots_total}
use Rattle.yaml_scan.specs.Candidates.{GivenToken, Placed, Sound, given}
use Rattle.yaml_scan.specs.Runs.{GoesTo}
use Rattle.yaml_scan.proofs.Runs.{step_news}
use Rattle.yaml_stream.specs.Stream.{Stream, broken, call, closing, counted_from, scanning, waits}
use Rattle.yaml_stream.specs.Stream as stream
use Rattle.yaml_stream.specs.Silent.{Silent, step_silent}
use Rattle.yaml_stream.specs.Kept.{StepKeeps, NotesFrom, notes_less, step_keeps}
use Rattle.yaml_stream.specs.Waits.{waits_behind, waits_length}
use Rattle.yaml_stream.specs.Answers.{refused_again}
use Rattle.yaml_stream.specs.Alone.{LastOf}
use Rattle.yaml_stream.proofs.Alone.{step_last}
use Rattle.yaml_stream.specs.Waiting.{Held, fresh_keeps}
use Rattle.yaml_stream.proofs.Waiting.{few_before, reaches_keeps}
use Rattle.yaml_stream.specs.Levels.{OnLevel, fall_not, step_on}
use Rattle.yaml_stream.proofs.Levels.{on_none}
use Rattle.yaml_stream.specs.Notes.{AllNoted, counted_given, counted_notes, counted_placed, counted_total, flat_befores, holds_after, noted_after, step_notes}
use Rattle.yaml_stream.specs.Notes as known
use Rattle.yaml_stream.specs.Noted.{sound_count}
use Rattle.yaml_stream.specs.Between.{Lone, to_scan}
use Rattle.yaml_stream.specs.Ahead.{CallsGive, ahead_from, ahead_then}
use Rattle.yaml_stream.proofs.Ahead.{closing_ahead}
use Rattle.yaml_stream.proofs.Tight.{waiting_at_end, waiting_behind}
use Rattle.events.specs.declared.Counts.{Counts}
use Rattle.sink.specs.SlotWords.{slot_texts}
use Rattle.stream_laws.specs.declared.Pending.{Pending}
use Rattle.stream_laws.specs.Driven.{noted, slots_ahead}
use Rattle.stream_laws.specs.Notes.{notes_kinds}
use Rattle.stream_laws.specs.Sought.{ComesTo, EndsWith, Idle, Said, Setting, StopsAt, front_texts}

-- before each step of a call. x: the stream from which it was made; base: the number of the token in slot 0; all: all tokens so far, those given too;
-- w: what is pending; the slots free can be given, ys wait; m: the counts
pub record Middle (q : Setting) (base : ℕ) (x : Stream) (all : List GivenToken) (w : Pending) (s : State) (free ys : List Slot) (used : ℕ) (m : Counts) : Type 0 where
  pub comes : ComesTo q (scanning s w.number ys used)
  pub not_ready : stream.ready (scanning s w.number ys used) ≡ false
  pub sound : Sound all s
  pub holds_last : SlotsHold (drop base all) (free ++ ys)
  pub all_noted : AllNoted (free ++ ys)
  pub on_level : OnLevel w.number w.level s.keys
  pub level_next : s.count ≤ w.number → w.level ≡ length s.levels
  pub count : m.count ≡ s.count
  pub used_so_far : m.used ≡ used
  pub fits : used ≤ q.room
  pub more : w.put_in ≤ m.put_in
  pub waiting : length (flat ys) ≡ m.count - w.number + (m.put_in - w.put_in)
  pub numbered : base + length free ≡ w.number
  pub few_free : length free < slots_ahead
  -- the stream behind the calls that give them, from which it is scanned
  pub from : Stream
  pub given_free : CallsGive q.limits q.room x (flat free) from
  pub same_call : call q.limits q.room from ≡ call q.limits q.room (scanning s w.number ys used)

-- behind a step
pub record Onward (base : ℕ) (all : List GivenToken) (w : Pending) (s : State) (free ys : List Slot) (m : Counts) (es : List Event) (t : State) : Type 0 where
  pub takes : left t.place < left s.place
  pub said : Said base (drop base all) (free ++ ys) es
  pub sound : Sound (given all es) t
  pub rest : given (drop base all) (map (counted_from base) es) ≡ drop base (given all es)
  pub parts : waits base (free ++ ys) es ≡ free ++ waits w.number ys es
  pub holds_last : SlotsHold (drop base (given all es)) (waits base (free ++ ys) es)
  pub all_noted : AllNoted (waits base (free ++ ys) es)
  pub on_level : OnLevel w.number w.level t.keys
  pub count : m.count + puts es ≡ t.count
  pub later : w.number < t.count
  pub counted : w.number + length (waits w.number ys es) ≡ t.count
  pub waiting : length (flat (waits w.number ys es)) ≡ m.count + puts es - w.number + (m.put_in + noted es - w.put_in)

held_of : (q : Setting) {s : State} {n : ℕ} {xs : List Slot} {used : ℕ} → ComesTo q (scanning s n xs used) → Held q.limits s n xs
held_of q r = reaches_keeps q.limits q.room (fresh_keeps q.limits q.text q.words) r

-- between two calls the loop begins, and again where more can be given. c: the counts then
pub begins : {q : Setting} {base : ℕ} {x : Stream} {all : List GivenToken} {w : Pending} {s : State} {free ys : List Slot} {used : ℕ} (c : Counts) → Idle q w s ys used → Sound all s
    → SlotsHold (drop base all) (free ++ ys) → AllNoted (free ++ ys) → c.count ≡ s.count → c.used ≡ used → w.put_in ≡ c.put_in → base + length free ≡ w.number
    → length free < slots_ahead → CallsGive q.limits q.room x (flat free) (scanning s w.number ys used) → Middle q base x all w s free ys used c
unfolding flat
begins {q} {base} {x} {all} {w} {s} {free} {ys} {used} c d h o a i j e f g k =
    record {
      comes = d.comes;
      not_ready = d.not_ready;
      sound = h;
      holds_last = o;
      all_noted = a;
      on_level = rw d.on_level (by_test (ltb n s.count)
          (λ z. rw z (d.between.level n))
          (λ z. rw z (on_none n (length s.levels) s.keys (fall_not n s.count s.keys v.falls (ltb-false n s.count z)))));
      level_next = λ z. d.on_level ∙ rw (le-ltb n s.count z);
      count = i;
      used_so_far = j;
      fits = d.fits;
      more = omega (arith, e);
      waiting = by_waiting (to_scan used v.counted d.between d.not_ready);
      numbered = f;
      few_free = g;
      from = scanning s n ys used;
      given_free = k;
      same_call = refl;
    }
  where
    n : ℕ
    n = w.number

    v : Held q.limits s n ys
    v = held_of q d.comes

    by_waiting : (ys ≡ []) ⊎ Lone s n ys → length (flat ys) ≡ c.count - n + (c.put_in - w.put_in)
    by_waiting (inl z) =
        let y : length (flat ys) ≡ 0 = rw z in
        let u : length ys ≡ 0 = rw z in
        omega (arith, v.counted)
    by_waiting (inr z) =
        let y : length (flat ys) ≡ 1 = rw z.is in
        let u : length ys ≡ 1 = rw z.is in
        omega (arith, v.counted)

total_noted : (es : List Event) → total es ≡ puts es + noted es
unfolding total puts noted
total_noted [] = omega arith
total_noted (put t ∷ es) = omega (arith, total_noted es)
total_noted (put_before k ts ∷ es) = omega (arith, total_noted es)

module _ {q : Setting} {base : ℕ} {x : Stream} {all : List GivenToken} {w : Pending} {s : State} {free ys : List Slot} {used : ℕ} {m : Counts} (h : Middle q base x all w s free ys used m) where
  abbrev n : ℕ
  n = w.number

  abbrev xs : List Slot
  xs = free ++ ys

  pub held : Held q.limits s n ys
  held = held_of q h.comes

  -- what a step says: it goes in from the pending token on

  least : base ≤ length all
  least = omega (arith, h.numbered, held.counted, sound_count h.sound)

  from_base : (es : List Event) → NotesFrom n es → NotesFrom base es
  from_base es f = notes_less base n es (omega (arith, h.numbered)) f

  in_parts : (es : List Event) → NotesFrom n es → waits base xs es ≡ free ++ waits n ys es
  in_parts es f = rw (← h.numbered) (waits_behind base free ys es (rw h.numbered f))

  says : (es : List Event) → NotesFrom n es → Placed all es → known.Notes es → length (flat (waits n ys es)) ≤ 4_352 → Said base (drop base all) xs es
  says es f p k few =
      record {
        placed = counted_placed base es all least (from_base es f) p;
        notes = notes_kinds (map (counted_from base) es) (counted_notes base es k);
        few = omega (arith, ap length (in_parts es f), length-append free (waits n ys es), h.few_free, flat_befores (waits n ys es));
      }

  noted_then : (es : List Event) → NotesFrom n es → Placed all es → known.Notes es → AllNoted (waits base xs es)
  unfolding waits
  noted_then es f p k =
      noted_after (map (counted_from base) es) (drop base all) xs h.holds_last (counted_placed base es all least (from_base es f) p) (counted_notes base es k) h.all_noted

  -- how many tokens wait then
  waiting_then : (es : List Event) → NotesFrom n es → Placed all es → length (flat (waits n ys es)) ≡ length (flat ys) + total es
  unfolding waits
  waiting_then es f p =
      let zs = waits n ys es in
      let a : length (flat (free ++ zs)) ≡ length (flat free) + length (flat zs) = ap length (flat_append free zs) ∙ length-append (flat free) (flat zs) in
      let b : length (flat xs) ≡ length (flat free) + length (flat ys) = ap length (flat_append free ys) ∙ length-append (flat free) (flat ys) in
      let c = slots_total (drop base all) xs (map (counted_from base) es) h.holds_last (counted_placed base es all least (from_base es f) p) in
      let d : length (flat (waits base xs es)) ≡ length (flat (free ++ zs)) = ap (λ (ws : List Slot). length (flat ws)) (in_parts es f) in
      omega (arith, counted_total base es)

  pub onward : (es : List Event) (t : State) → step q.limits s ≡ got (goes_on es t) → Onward base all w s free ys m es t
  unfolding waits
  onward es t e =
      let v = held in
      let g : GoesTo all s es t = all_got (step_news all q.limits s) e in
      let j = g.sound h.sound in
      let k : StepKeeps n s (goes_on es t) = all_got (step_keeps n q.limits s (omega (arith, v.counted)) v.from) e in
      let i : known.Notes es = all_got (step_notes q.limits s) e in
      let l : LastOf n s (goes_on es t) = all_got (step_last n q.limits s) e in
      let few = waiting_behind q.limits q.text q.words q.room q.some_entries 256 (omega (arith, q.few_entries)) (omega arith) h.comes h.not_ready es t e in
      let r = counted_given base es all least (from_base es k.0) in
      record {
        takes = g.takes;
        said = says es k.0 j.0 i few;
        sound = j.1;
        rest = r;
        parts = in_parts es k.0;
        holds_last = rw (sym r) (holds_after (map (counted_from base) es) (drop base all) xs h.holds_last);
        all_noted = noted_then es k.0 j.0 i;
        on_level = all_got (step_on n w.level q.limits s v.levelled h.level_next h.on_level) e;
        count = omega (arith, h.count, k.2);
        later = omega (arith, v.counted, l.2, l.1.numbered);
        counted = omega (arith, waits_length n ys es, v.counted, k.2);
        waiting = omega (arith, waiting_then es k.0 j.0, total_noted es, h.waiting, h.more, h.count, v.counted);
      }

  -- where the loop comes to an end

  -- a refusal. es: what the last step said
  pub stops_here : (es : List Event) (k : ℕ) (p : Mark) → Said base (drop base all) xs es → waits base xs es ≡ free ++ waits n ys es → AllNoted (waits base xs es)
      → call q.limits q.room h.from ≡ call q.limits q.room (broken k p) → StopsAt q base (drop base all) xs used x es w k p
  stops_here es k p d e a c =
      let zs = waits n ys es in
      let f : take (n - base) (waits base xs es) ≡ free = ap (λ (ws : List Slot). take (n - base) ws) e ∙ take_at free zs (n - base) (omega (arith, h.numbered)) in
      record {
        behind = h.from;
        given_free = rw f h.given_free;
        refusal_next = c ∙ refused_again q.limits q.room k p;
        said = d;
        noted = a;
        least = omega (arith, h.numbered);
        within = omega (arith, h.numbered, ap length e, length-append free zs);
        fits = rw f (omega (arith, h.fits, ap length (front_texts free ys), length-append (slot_texts free) (slot_texts ys)));
      }

  -- a rule that the step breaks
  pub breaks_here : (k : ℕ) (p : Mark) → call q.limits q.room h.from ≡ call q.limits q.room (broken k p) → StopsAt q base (drop base all) xs used x [] w k p
  unfolding waits slots NotesFrom Placed known.Notes
  breaks_here k p c = stops_here [] k p (says [] tt tt tt (omega (arith, few_before used held h.not_ready))) refl h.all_noted c

  -- the end of the text
  pub ends_here : (es : List Event) → step q.limits s ≡ got (ends_with es) → call q.limits q.room h.from ≡ call q.limits q.room (closing (waits n ys es))
      → EndsWith q base (drop base all) xs used x es
  ends_here es e c =
      let none : Silent (ends_with es) = all_got (step_silent q.limits s) e in
      let some : LastOf n s (ends_with es) = all_got (step_last n q.limits s) e in
      let f : NotesFrom n es = all_got (step_keeps n q.limits s (omega (arith, held.counted)) held.from) e in
      let i : known.Notes es = all_got (step_notes q.limits s) e in
      let p : Placed all es = all_got (step_news all q.limits s) e h.sound in
      let few = waiting_at_end q.limits q.text q.words q.room q.some_entries 256 (omega (arith, q.few_entries)) (omega arith) h.comes h.not_ready es e in
      let zs = waits n ys es in
      let k : 1 ≤ length (flat zs) = omega (arith, flat_befores zs, waits_length n ys es, some) in
      record {
        given_all = rw (in_parts es f, flat_append free zs) (ahead_then q.limits q.room h.given_free (ahead_from q.limits q.room c k (closing_ahead q.limits q.room zs)));
        said = says es f p i few;
        noted = noted_then es f p i;
        fits = omega (arith, none.1, h.fits);
      }
