-- The first call gives StreamStart, or the refusal of a fresh state: what is held then is read out as the definition's state behind StreamStart.
use Prim.Native.Nat.{◌-◌, ◌/◌, ◌<◌, ◌≤◌, ℕ}
use mathlib.Core.Bool.{false}
use mathlib.Core.List.{List, [], ◌∷◌}
use mathlib.Core.Path.{◌∙◌, ◌≡◌, ap, refl, subst, sym}
use Rattle.std.specs.Prelude.{Result, Ok}
use native.Mathlib.Omega.{arith}
use lib.Dec.{ltb}
use lib.ListN.{get_or-replicate, length, length-replicate, length-set, set}
use lib.Seq.{get_or-set_other, get_or-set_same, get_or-take, length-take-le}
use borrow.Author.Tests.{ltb-false}
use Rattle.yaml_text.specs.declared.Refusal.{Refusal}
use Rattle.yaml_text.specs.declared.Mark.{Mark}
use Rattle.yaml_text.specs.Refusal.{Read, got, refused}
use Rattle.yaml_text.specs.Mark.{origin}
use Rattle.yaml_text.specs.Decode.{decode}
use Rattle.yaml_text.proofs.DecodeLaws.{decode_chars}
use Rattle.yaml_text.specs.All.{all_got}
use Rattle.yaml_text.specs.Test.{by_test}
use Rattle.yaml_text.specs.Utf8.{chars}
use Rattle.yaml_lexeme.specs.declared.Kind.TheVariants as kind
use Rattle.yaml_lexeme.specs.Record.{laid, record_of, record_words}
use Rattle.yaml_lexeme.specs.Token.{StreamStart, empty_token, kind_bytes}
use Rattle.yaml_scan.specs.declared.Candidate.TheVariants.{Absent}
use Rattle.yaml_scan.specs.declared.Limits.{Limits}
use Rattle.yaml_scan.specs.Scan.{begin}
use Rattle.yaml_scan.specs.Slots.{flat, slot}
use Rattle.yaml_stream.specs.Ahead.{there}
use Rattle.yaml_stream.specs.Answers.{refused_again}
use Rattle.yaml_stream.specs.Between.{between_given}
use Rattle.yaml_stream.proofs.Between.{begin_between}
use Rattle.yaml_stream.specs.Seeks.{call_here}
use Rattle.yaml_stream.specs.Stream.{Called, Stream, begun, broken, call, called, first_of, fresh, give, least_records, possible, ready, scanning, token, too_few_words}
use Rattle.yaml_stream.specs.Waiting.{StreamReaches, here, then_give}
use Rattle.chars.specs.Places.{stands_start}
use Rattle.rooms.specs.Room.{cleared}
use Rattle.stacks.specs.Frame.{frame_keys, frame_levels, key_at, key_of}
use Rattle.stacks.specs.Indent.{entries_of}
use Rattle.stacks.specs.Most.{at_most, at_most_stays}
use Rattle.stacks.specs.Stack.{frame_at, stack_words}
use Rattle.stacks.proofs.Entries.{low_start}
use Rattle.events.specs.Event.{empty_of}
use Rattle.states.specs.State.{s_begin, state_of}
use Rattle.storing.specs.Step.{StepGiven}
use Rattle.sink.specs.SlotWords.{slot_texts, slot_words}
use Rattle.driver.specs.Held.{Modest, base_at, counts_at, counts_held, held_words, level_at, phase_at, put_counts, put_state, seen_held, slot_at, stacks_held, until_at, word}
use Rattle.driver.proofs.Words.{stored_counts, stored_length, stored_other, stored_stacks, stored_state}
use Rattle.stream.specs.declared.Next.{Next}
use Rattle.stream.specs.declared.Next.TheVariants as next
use Rattle.stream.specs.Holds.{Calls, Holds, Says, Scans, scans, text_given}
use Rattle.stream.specs.Start.{Starts, begun_held, one_counted}
use Rattle.stream.proofs.Breaks.{broken_answer, refused_breaks}
use Rattle.stream.proofs.Kept.{seen_by, seen_set}

module _ (limits : Limits) (text h : List ℕ) (m : Modest limits) (short : length text ≤ 1_048_576) (all : length h ≡ held_words) where
  abbrev zeros : List ℕ
  zeros = cleared h 0

  zeros_length : length zeros ≡ held_words
  zeros_length = length-replicate {A = ℕ} (length h - 0) 0 ∙ omega arith

  zero_word : (i : ℕ) → i < held_words → word zeros i ≡ 0
  zero_word i o = get_or-replicate (length h - 0) i 0 0 (omega arith)

  start_given : StepGiven limits text (stacks_held zeros) s_begin one_counted
  start_given =
      record {
        short = short;
        ready = record {
          stands = stands_start text short;
          low = low_start limits.entries;
          deep = omega arith;
          lent = record { room = omega (arith, length-take-le stack_words zeros (omega (arith, zeros_length))); entries_most = m.entries; levels_most = m.levels };
        };
        few = record { count = omega arith; put_in = omega arith; used = omega arith };
      }

  abbrev kept : List ℕ
  kept = put_counts (put_state zeros s_begin) one_counted

  abbrev phased : List ℕ
  phased = set kept phase_at 1

  kept_length : length kept ≡ held_words
  kept_length = stored_length start_given zeros zeros_length ∙ zeros_length

  -- the words before the state
  pub begun_other : (i : ℕ) → i < counts_at → (i ≡ phase_at → ⊥) → (i ≡ base_at → ⊥) → word (begun_held h) i ≡ 0
  begun_other i o p q =
      get_or-set_other phased base_at i 1 0 q ∙ get_or-set_other kept phase_at i 1 0 p ∙ stored_other start_given zeros zeros_length i (λ a b. omega arith) ∙ zero_word i (omega arith)

  pub begun_phase : word (begun_held h) phase_at ≡ 1
  begun_phase = get_or-set_other phased base_at phase_at 1 0 (λ e. omega arith) ∙ get_or-set_same kept phase_at 1 0 (omega (arith, kept_length))

  pub begun_base : word (begun_held h) base_at ≡ 1
  begun_base = get_or-set_same phased base_at 1 0 (omega (arith, length-set kept phase_at 1, kept_length))

  -- the state
  no_key : key_of (stacks_held zeros) 0 ≡ Absent
  unfolding key_at
  no_key = rw (get_or-take stack_words zeros (frame_at 0) 0 (omega arith) ∙ zero_word (frame_at 0) (omega arith))

  start_state : state_of text (stacks_held zeros) 1 s_begin ≡ begin (chars text)
  unfolding entries_of frame_keys frame_levels
  start_state = rw no_key

  pub begun_counts : counts_held text (begun_held h) ≡ one_counted
  begun_counts =
      (seen_set limits text phased base_at 1 (omega arith) (omega arith)).counts ∙ (seen_set limits text kept phase_at 1 (omega arith) (omega arith)).counts
      ∙ stored_counts start_given zeros zeros_length

  pub begun_seen : seen_held limits text (begun_held h) ≡ begin (chars text)
  begun_seen =
      (seen_set limits text phased base_at 1 (omega arith) (omega arith)).seen ∙ (seen_set limits text kept phase_at 1 (omega arith) (omega arith)).seen
      ∙ seen_by text (stored_stacks start_given zeros zeros_length) (stored_counts start_given zeros zeros_length) (stored_state start_given zeros zeros_length)
      ∙ start_state

  -- StreamStart was given
  module _ (l b : List ℕ) (cs : List ℕ) (fits : ltb limits.bytes (length text) ≡ false) (is_text : decode 0 origin text ≡ got cs)
      (many : ltb (length l / record_words) least_records ≡ false) where
    abbrev first : Stream
    first = scanning (begin cs) 0 (slot (empty_token StreamStart origin) [] ∷ []) 0

    abbrev second : Stream
    second = scanning (begin cs) 1 [] 0

    pub fresh_is : fresh limits text (length l) ≡ first
    unfolding fresh begun
    fresh_is = rw (fits, is_text, many, fresh, begun)

    first_given : give first ≡ called (token (empty_token StreamStart origin)) second
    unfolding give first_of possible
    first_given = refl

    first_call : call limits (length b) first ≡ called (token (empty_token StreamStart origin)) second
    unfolding ready possible
    first_call = call_here limits (length b) first refl ∙ first_given

    same_chars : cs ≡ chars text
    same_chars = all_got (decode_chars 0 origin text) is_text

    reaches_second : StreamReaches limits (length b) (fresh limits text (length l)) second
    reaches_second = subst (λ (c : Called). StreamReaches limits (length b) (fresh limits text (length l)) c.stream) first_given (then_give (rw fresh_is here))

    scans_second : Scans limits text (begun_held h) l b [] [] (begin cs) 1 [] 0
    unfolding slot_words slot_texts ready
    scans_second =
        let until_zero = begun_other until_at (omega arith) (λ e. omega arith) (λ e. omega arith) in
        let slot_zero = begun_other slot_at (omega arith) (λ e. omega arith) (λ e. omega arith) in
        let level_zero = begun_other level_at (omega arith) (λ e. omega arith) (λ e. omega arith) in
        record {
          phase = begun_phase;
          seen = begun_seen ∙ ap (λ (c : List ℕ). begin c) (sym same_chars);
          used_held = ap (λ c. c.used) begun_counts;
          used_so_far = refl;
          first = omega (arith, begun_base, until_zero);
          waits = record { fit = omega (arith, slot_zero); slots = refl; texts = refl; until = omega (arith, until_zero, slot_zero); noted = tt };
          level = 0;
          between = between_given (begin_between _ cs);
          on_level = ap (at_most 255) level_zero ∙ at_most_stays 255 0 (omega arith);
          idle = refl;
          lent = record { short = ltb-false limits.bytes (length text) fits; records = ltb-false (length l / record_words) least_records many };
        }

    pub started : {h' r : List ℕ} {a : Result Next Refusal} → a ≡ Ok next.Token → h' ≡ begun_held h → r ≡ record_of (empty_of kind.StreamStart origin)
        → Calls limits text b h' l b r a [] (fresh limits text (length l))
    unfolding laid kind_bytes flat
    started {h'} {r} {a} i e k = rw (fresh_is, e) (record {
      says = subst (λ (c : Called). Says 0 c.answer r a) (sym first_call) (i, k);
      holds = subst (λ (c : Called). Holds limits text (begun_held h) l b (text_given c.answer) c.stream) (sym first_call) (scans reaches_second there scans_second);
    })

-- a refusal
fresh_broken : (limits : Limits) (text h h' l b r : List ℕ) {a : Result Next Refusal} (k : ℕ) (m : Mark) → length h ≡ held_words → fresh limits text (length l) ≡ broken k m
    → Starts h h' r a (broken k m) → Calls limits text b h' l b r a [] (fresh limits text (length l))
fresh_broken limits text h h' l b r {a} k m all e w =
    broken_answer (fresh limits text (length l)) (ap (λ (x : Stream). call limits (length b) x) e ∙ refused_again limits (length b) k m)
    (rw w.1 (refused_breaks h (record { number = k; mark = m }) all l b)) w.0 w.2

pub starts_calls : (limits : Limits) (text h h' l b r : List ℕ) (a : Result Next Refusal) → Modest limits → length h ≡ held_words
    → Starts h h' r a (fresh limits text (length l)) → Calls limits text b h' l b r a [] (fresh limits text (length l))
unfolding fresh begun
starts_calls limits text h h' l b r a m all w =
    by_test (ltb limits.bytes (length text))
    (λ e. let f : fresh limits text (length l) ≡ broken 1 origin = rw (e, fresh) in fresh_broken limits text h h' l b r 1 origin all f (rw f at w))
    (λ e. by_text e (decode 0 origin text) refl)
  where
    by_text : ltb limits.bytes (length text) ≡ false → (d : Read (List ℕ)) → decode 0 origin text ≡ d → Calls limits text b h' l b r a [] (fresh limits text (length l))
    by_text e (refused k p) i = let f : fresh limits text (length l) ≡ broken k p = rw (e, i, fresh) in fresh_broken limits text h h' l b r k p all f (rw f at w)
    by_text e (got cs) i =
        by_test (ltb (length l / record_words) least_records)
        (λ j. let f : fresh limits text (length l) ≡ broken too_few_words origin = rw (e, i, j, fresh, begun) in fresh_broken limits text h h' l b r too_few_words origin all f (rw f at w))
        (λ j.
        let short : length text ≤ 1_048_576 = omega (arith, ltb-false limits.bytes (length text) e, m.bytes) in
        let v = rw (fresh_is limits text h m short all l b cs e i j) at w in
        started limits text h m short all l b cs e i j v.0 v.1 v.2)
