-- Steps were made where nothing could be given: the stream is held as before, with the tokens that its next calls give. For what the steps stored is
-- what waits, in the definition too; and what they came to is what calls come to behind those tokens.
use Prim.Native.Nat.{◌*◌, ◌+◌, ◌-◌, ◌<◌, ◌≤◌, suc, zero, ℕ}
use mathlib.Core.Bool.{false, true}
use mathlib.Core.List.{List, [], ◌++◌, ◌∷◌, append-nil}
use mathlib.Core.Path.{◌∙◌, ◌≡◌, ap, refl, subst, sym}
use Rattle.std.specs.Prelude.{Result, Ok, Err}
use native.Mathlib.Omega.{arith}
use lib.ListN.{drop, get_or, length, length-append, length-set, length-take, set, take, take-append-drop}
use lib.Seq.{get_or-drop, get_or-set_other, get_or-set_same, length-take-le}
use borrow.Author.Tests.{lt-ltb}
use Rattle.yaml_text.specs.declared.Refusal.{Refusal}
use Rattle.yaml_text.specs.PlaceLaws.{left}
use Rattle.yaml_text.specs.Test.{true_false}
use Rattle.yaml_lexeme.specs.Record.{record_words}
use Rattle.yaml_scan.specs.declared.Limits.{Limits}
use Rattle.yaml_scan.specs.State as definition
use Rattle.yaml_scan.specs.State.{Event, mark_of}
use Rattle.yaml_scan.specs.Slots.{Slot}
use Rattle.yaml_stream.specs.Between.{to_scan}
use Rattle.yaml_stream.specs.Noted.{Noted}
use Rattle.yaml_stream.proofs.Noted.{reached_noted}
use Rattle.yaml_stream.specs.Notes.{AllNoted}
use Rattle.yaml_stream.specs.Stream.{Stream, brings, fresh, least_records, scanning, waits}
use Rattle.yaml_stream.specs.Waiting.{Held, StreamReaches, fresh_keeps}
use Rattle.yaml_stream.proofs.Waiting.{reaches_keeps}
use Rattle.yaml_stream.specs.Waits.{waits_length}
use Rattle.stacks.specs.Most.{at_most, at_most_stays}
use Rattle.stacks.specs.Stack.{stack_words}
use Rattle.events.specs.declared.Counts.{Counts}
use Rattle.states.specs.State.{state_of}
use Rattle.sink.specs.SlotWords.{slot_texts, used_by}
use Rattle.sink.specs.Stored.{Stored}
use Rattle.stream_laws.specs.declared.Pending.{Pending}
use Rattle.stream_laws.specs.Driven.{Driven, driven, ends, one_by_one, pauses, stops}
use Rattle.stream_laws.specs.Laid.{Laid, laid_first, laid_then, used_then}
use Rattle.stream_laws.specs.Loop.{call_finds}
use Rattle.stream_laws.specs.Sought.{Finds, Setting, brings_texts, level_from, test}
use Rattle.driver.specs.declared.Outcome.{Outcome}
use Rattle.driver.specs.declared.Outcome.TheVariants.{Ready, Scanned}
use Rattle.driver.specs.Drives.{Drives, PausesAs, StopsAs, base_held, drives}
use Rattle.driver.specs.Held.{Modest, base_at, counts_held, held_words, level_at, pending_held, phase_at, put_until, seen_held, slot_at, until_at, word}
use Rattle.stream.specs.Holds.{Holds, Lent, Scans, Waits, breaks, closes, scans}
use Rattle.stream.specs.ScansOn.{ScansOn, then_held}
use Rattle.stream.specs.Words.{close_held, front_held, front_words, has_some, put_refusal}
use Rattle.stream.proofs.Breaks.{refusal_is, refusal_other, refusal_phase}
use Rattle.stream.proofs.Front.{front_base_is, front_length, front_other, front_seen, front_slot, front_slots, front_words_length}
use Rattle.stream.proofs.Lends.{has_asked}
use Rattle.stream.proofs.Pauses.{paused_counts, paused_level, paused_other, paused_seen, paused_until}

-- the stream is held, and where none can be given nothing is left to scan
pub record Onward (limits : Limits) (text h l b gone : List ℕ) (x : Stream) : Type 0 where
  pub holds : Holds limits text h l b gone x
  pub done : has_some h (length l) ≡ false → 1 < word h phase_at

noted_take : (j : ℕ) (ys : List Slot) → AllNoted ys → AllNoted (take j ys)
noted_take zero [] k = tt
noted_take zero (y ∷ ys) k = tt
noted_take (suc j) [] k = tt
noted_take (suc j) (y ∷ ys) k = (k.0, noted_take j ys k.1)

-- words that stay behind the stacks
word_kept : (h h' : List ℕ) (j : ℕ) → drop stack_words h' ≡ drop stack_words h → word h' (stack_words + j) ≡ word h (stack_words + j)
word_kept h h' j e = sym (get_or-drop stack_words h' j 0) ∙ ap (λ (z : List ℕ). get_or z j 0) e ∙ get_or-drop stack_words h j 0

-- what was stored from slot 0 on waits
laid_waits : (h l b gone : List ℕ) (gs xs ys : List Slot) → gs ++ xs ≡ ys → word h slot_at ≡ 0 → word h until_at ≡ length gs → length ys ≤ 4_383 → Laid l b gone ys → AllNoted gs
    → Waits h l b gone gs xs
laid_waits h l b gone gs xs ys e s u few z k =
    let i : word h slot_at * record_words ≡ 0 = omega arith in
    record { fit = rw e (omega arith); slots = rw (e, i) z.slots; texts = rw e z.texts; until = omega arith; noted = k }

module _ (limits : Limits) (text h l b gone : List ℕ) (s : definition.State) (n used : ℕ) (xs : List Slot) (m : Modest limits) (entries : 1 ≤ limits.entries)
    (all : length h ≡ held_words) (reach : StreamReaches limits (length b) (fresh limits text (length l)) (scanning s n xs used)) (c : Scans limits text h l b gone [] s n xs used) where
  abbrev x : Stream
  x = scanning s n xs used

  abbrev q : Setting
  q = record { limits = limits; text = text; words = length l; room = length b; some_entries = entries; few_entries = m.entries }

  kept : Held limits s n xs
  kept = reaches_keeps limits (length b) (fresh_keeps limits text (length l)) reach

  noted : Noted s n xs
  noted = reached_noted limits text (length l) (length b) reach

  fits : used ≤ length b
  fits = omega (arith, c.used_so_far, ap length c.waits.texts, length-append gone (slot_texts xs), length-take (length gone + used_by xs) b)

  -- what is loaded

  abbrev h1 : List ℕ
  h1 = front_held h

  abbrev l1 : List ℕ
  l1 = front_words h l

  abbrev c1 : Counts
  c1 = counts_held text h1

  -- what is pending
  abbrev w1 : Pending
  w1 = record { number = n; level = level_from c.level s n; put_in = c1.put_in }

  whole1 : length h1 ≡ held_words
  whole1 = front_length limits text h l b gone all

  seen1 : seen_held limits text h1 ≡ s
  seen1 = (front_seen limits text h l b gone all).seen ∙ c.seen

  count1 : c1.count ≡ s.count
  count1 = ap (λ (t : definition.State). t.count) seen1

  used1 : c1.used ≡ used
  used1 = ap (λ (k : Counts). k.used) (front_seen limits text h l b gone all).counts ∙ c.used_held

  base_word : word h1 base_at ≡ n
  base_word = front_base_is limits text h l b gone all m c kept.counted

  slot_word : word h1 slot_at ≡ 0
  slot_word = front_slot limits text h l b gone all

  base1 : base_held text h1 ≡ n
  base1 = ap (λ (k : ℕ). at_most c1.count k) base_word ∙ at_most_stays c1.count n (omega (arith, count1, kept.counted))

  level1 : at_most 255 (word h1 level_at) ≡ level_from c.level s n
  level1 = ap (at_most 255) (front_other limits text h l b gone all level_at (λ i. omega arith) (λ i. omega arith)) ∙ c.on_level

  drives1 : drives limits true text (length b) h1 ≡ driven limits (test q n) (suc (left s.place)) w1 s c1
  drives1 =
      let t1 = seen_held limits text h1 in
      ap (λ (k : ℕ). driven limits (λ w level t v. one_by_one (length b) k w level t.keys (length t.levels) (mark_of t) v) (suc (left t1.place)) (pending_held h1 k c1) t1 c1) base1
      ∙ ap (λ (k : ℕ). driven limits (test q n) (suc (left t1.place)) (record { number = n; level = k; put_in = c1.put_in }) t1 c1) level1
      ∙ ap (λ (t : definition.State). driven limits (test q n) (suc (left t.place)) w1 t c1) seen1

  -- what it comes to

  found : (d : Driven) → drives limits true text (length b) h1 ≡ d → Finds q n (drop n noted.all) xs used x d
  found d e =
      subst (λ (v : Driven). Finds q n (drop n noted.all) xs used x v) (sym drives1 ∙ e)
      (call_finds q used c1 w1 reach noted c.between c.idle fits count1 used1 refl)

  laid1 : Laid l1 b gone xs
  laid1 = record { slots = front_slots limits text h l b gone all m c kept.counted (to_scan used kept.counted c.between c.idle); texts = c.waits.texts }

  room1 : least_records * record_words ≤ length l1
  room1 = omega (arith, c.lent.records, front_words_length limits text h l b gone all)

  so_far : c1.used ≡ length gone + used_by xs
  so_far = used1 ∙ c.used_so_far

  counted1 : n + length xs ≡ c1.count
  counted1 = kept.counted ∙ sym count1

  module _ (h' l' b' held : List ℕ) (same_words : length l' ≡ length l1) (same_bytes : length b' ≡ length b) where
    words_length : length l' ≡ length l
    words_length = same_words ∙ front_words_length limits text h l b gone all

    lent_then : Lent limits text l'
    lent_then = record { short = c.lent.short; records = rw words_length c.lent.records }

    -- a refusal, behind the tokens that can be given before it
    stopped : (f : Refusal) → StopsAs (drives limits true text (length b) h1) n c1 f h1 l1 b held l' b' → h' ≡ put_refusal held f → Onward limits text h' l' b' gone x
    stopped f d i =
        let es = d.said in
        let w = d.pending in
        let j = w.number - n in
        let ys = waits n xs es in
        let gs = take j ys in
        let e = found (stops es w f.number f.mark) d.same in
        let o : j ≤ length ys = omega (arith, e.within) in
        let z = laid_first gone noted.holds_last e.said counted1 so_far d.stored room1 laid1 j b' o (omega (arith, e.fits, c.used_so_far)) d.texts in
        let whole : length held ≡ held_words = d.held_length ∙ whole1 in
        let slot : word (put_refusal held f) slot_at ≡ 0 =
        refusal_other held f whole slot_at (omega arith) (omega arith) ∙ word_kept (put_until h1 n w) held 2 d.held ∙ get_or-set_other h1 until_at slot_at j 0 (λ k. omega arith) ∙ slot_word in
        let until : word (put_refusal held f) until_at ≡ length gs =
        refusal_other held f whole until_at (omega arith) (omega arith) ∙ word_kept (put_until h1 n w) held 3 d.held ∙ get_or-set_same h1 until_at j 0 (omega (arith, whole1))
        ∙ sym (length-take-le j ys o) in
        let p = refusal_phase held f whole in
        rw i (record {
          holds = breaks (rw (sym same_bytes) at e.given_free) (rw (sym same_bytes) at e.refusal_next) (record {
            phase = omega arith;
            is = refusal_is held f whole;
            waits = laid_waits (put_refusal held f) l' b' gone gs [] gs (append-nil gs) slot until (omega (arith, length-take-le j ys o, e.said.few)) z (noted_take j ys e.noted);
            records = λ _. lent_then.records;
          });
          done = λ _. omega arith;
        })

    -- StreamEnd was scanned
    scanned : (k : Counts) (es : List Event) → drives limits true text (length b) h1 ≡ ends es → Stored n c1 k l1 b l' b' es → drop stack_words held ≡ drop stack_words h1
        → length held ≡ length h1 → h' ≡ close_held held k → Onward limits text h' l' b' gone x
    scanned k es d st same long i =
        let ys = waits n xs es in
        let e = found (ends es) d in
        let z = laid_then gone noted.holds_last e.said counted1 so_far st room1 laid1 (omega (arith, e.fits, used1)) in
        let ending = set held phase_at 2 in
        let last = k.count - at_most k.count (word held base_at) in
        let phase : word (close_held held k) phase_at ≡ 2 =
        get_or-set_other ending until_at phase_at last 0 (λ o. omega arith) ∙ get_or-set_same held phase_at 2 0 (omega (arith, whole1)) in
        let slot : word (close_held held k) slot_at ≡ 0 =
        get_or-set_other ending until_at slot_at last 0 (λ o. omega arith) ∙ get_or-set_other held phase_at slot_at 2 0 (λ o. omega arith) ∙ word_kept h1 held 2 same ∙ slot_word in
        let count : k.count ≡ n + length ys = omega (arith, st.counts.count, counted1, waits_length n xs es) in
        let base : word held base_at ≡ n = word_kept h1 held 1 same ∙ base_word in
        let until : word (close_held held k) until_at ≡ length ys =
        get_or-set_same ending until_at last 0 (omega (arith, whole1, length-set held phase_at 2))
        ∙ ap (λ (o : ℕ). k.count - at_most k.count o) base ∙ ap (λ (o : ℕ). k.count - o) (at_most_stays k.count n (omega arith)) ∙ omega arith in
        rw i (record {
          holds = closes (rw (sym same_bytes) at e.given_all) (record {
            phase = phase;
            waits = laid_waits (close_held held k) l' b' gone ys [] ys (append-nil ys) slot until e.said.few z e.noted;
            lent = lent_then;
          });
          done = λ _. omega arith;
        })

    -- a pause
    paused : PausesAs limits text (drives limits true text (length b) h1) n c1 h1 l1 b held l' b' → h' ≡ held → Onward limits text h' l' b' gone x
    paused p i =
        let es = p.said in
        let w = p.pending in
        let j = w.number - n in
        let ys = waits n xs es in
        let gs = take j ys in
        let k = p.counts in
        let t = state_of text p.stacks k.count p.state in
        let e = found (pauses es w t) p.same in
        let d = e.idle in
        let z = laid_then gone noted.holds_last e.said counted1 so_far p.stored room1 laid1 (omega (arith, d.fits, used1)) in
        let o : j ≤ length ys = omega (arith, e.within) in
        let u : k.used ≡ used + brings es = omega (arith, p.stored.counts.used, used1, brings_texts es) in
        let split : gs ++ drop j ys ≡ ys = take-append-drop j ys in
        let slot : word held slot_at ≡ 0 = paused_other h1 held n w whole1 p.given p.kept p.held 2 (omega arith) ∙ slot_word in
        let until : word held until_at ≡ j = paused_until h1 held n w whole1 p.given p.kept p.held in
        let base : word held base_at ≡ n = paused_other h1 held n w whole1 p.given p.kept p.held 1 (omega arith) ∙ base_word in
        rw i (record {
          holds = scans (rw (sym same_bytes, sym words_length) at d.comes) (rw (sym same_bytes) at e.given_free) (record {
            phase = paused_other h1 held n w whole1 p.given p.kept p.held 0 (omega arith) ∙ front_other limits text h l b gone all phase_at (λ a. omega arith) (λ a. omega arith) ∙ c.phase;
            seen = paused_seen h1 held n w whole1 p.given p.kept p.held;
            used_held = ap (λ (v : Counts). v.used) (paused_counts h1 held n w whole1 p.given p.kept p.held) ∙ u;
            used_so_far = sym u ∙ used_then gone noted.holds_last e.said counted1 so_far p.stored room1 laid1 ∙ ap (λ (v : List Slot). length gone + used_by v) (sym split);
            first = omega (arith, e.some);
            waits = laid_waits held l' b' gone gs (drop j ys) ys split slot (until ∙ sym (length-take-le j ys o)) e.said.few z (noted_take j ys e.noted);
            level = d.level;
            between = d.between;
            on_level = ap (at_most 255) (paused_level h1 held n w whole1 p.given p.kept p.held) ∙ at_most_stays 255 w.level p.low ∙ d.on_level;
            idle = d.not_ready;
            lent = lent_then;
          });
          done = λ f. true_false (sym (sym (has_asked held (length l') (omega (arith, room1))) ∙ lt-ltb (word held slot_at) (word held until_at) (omega (arith, e.some))) ∙ f);
        })

  -- what scan_on leaves
  pub scans_on : (h' l' b' : List ℕ) → ScansOn limits text h l b h' l' b' → Onward limits text h' l' b' gone x
  scans_on h' l' b' w = by_outcome w.outcome w.steps w.then
    where
      by_outcome : (o : Result Outcome Refusal) → Drives limits true text h1 l1 b w.held l' b' o → h' ≡ then_held w.held o → Onward limits text h' l' b' gone x
      by_outcome (Err f) d i =
          stopped h' l' b' w.held w.same_words w.same_bytes f (subst (λ (k : ℕ). StopsAs (drives limits true text (length b) h1) k c1 f h1 l1 b w.held l' b') base1 d) i
      by_outcome (Ok (Scanned k)) d i =
          scanned h' l' b' w.held w.same_words w.same_bytes k d.0.said d.0.same (subst (λ (j : ℕ). Stored j c1 k l1 b l' b' d.0.said) base1 d.0.stored) d.1 d.2 i
      by_outcome (Ok Ready) d i =
          paused h' l' b' w.held w.same_words w.same_bytes
          (subst (λ (k : ℕ). PausesAs limits text (drives limits true text (length b) h1) k c1 h1 l1 b w.held l' b') base1 d) i
