-- What waits, in the lent words and bytes: the steps of a call store behind it what they say. Where a refusal comes, the texts of the last tokens may
-- have no room; those of the tokens before them are there.
use Rattle.std.specs.Prelude.{◌*◌, ◌+◌, ◌-◌, ◌<◌, ◌≤◌, ℕ, List, [], ◌++◌, ◌∷◌, map, ◌≡◌, refl, ltb, drop, length, take}
use Rattle.std.proofs.Common.{append_assoc, ◌∙◌, ap, sym, arith, length-append, length-take, take-append-drop, length-take-le, take_all, take_at, take-take, ltb-false, ltb-true}
use Rattle.std.proofs.lemmas.List.Edits.{sets, sets-eq}
use Rattle.std.proofs.Math.Seq.{take-append-add}
use Rattle.std.proofs.lemmas.List.{take-append-le}
use Rattle.yaml_text.specs.Test.{by_test}
use Rattle.yaml_lexeme.specs.Token.{token_bytes}
use Rattle.yaml_lexeme.specs.Record.{record_words}
use Rattle.yaml_scan.specs.State.{Event}
use Rattle.yaml_scan.specs.Candidates.{GivenToken}
use Rattle.yaml_scan.specs.Slots.{Slot}
use Rattle.yaml_scan.specs.SlotLaws.{SlotsHold}
use Rattle.yaml_stream.specs.Stream.{brings, counted_from, least_records, waits}
use Rattle.rooms.specs.Room.{sets_join, take_sets}
use Rattle.events.specs.declared.Counts.{Counts}
use Rattle.events.specs.Event.{event_texts}
use Rattle.sink.specs.SlotWords.{slot_record, slot_record_length, slot_texts, slot_words, slot_words_length, used_by, with_slots}
use Rattle.sink.specs.EventsStored.{store_events}
use Rattle.sink.specs.Stored.{Stored}
use Rattle.stream_laws.specs.Notes.{waits_stored}
use Rattle.stream_laws.specs.Sought.{Said, brings_texts, front_texts, waits_texts}

-- xs wait from slot 0 on; the bytes hold the texts of the tokens given, gone, then theirs
pub record Laid (l b gone : List ℕ) (xs : List Slot) : Type 0 where
  pub slots : take (length xs * record_words) l ≡ slot_words (length gone) xs
  pub texts : take (length gone + used_by xs) b ≡ gone ++ slot_texts xs

-- the first of them

front_words : (used : ℕ) (xs ys : List Slot) → take (length xs * record_words) (slot_words used (xs ++ ys)) ≡ slot_words used xs
unfolding slot_words
front_words used [] ys = refl
front_words used (x ∷ xs) ys =
    let r = slot_record used x in
    let u = used + length (token_bytes x.token) in
    let e : length (x ∷ xs) * record_words ≡ length r + length xs * record_words = omega (arith, slot_record_length used x) in
    rw e (take-append-add r (slot_words u (xs ++ ys)) (length xs * record_words) ∙ ap (λ (w : List ℕ). r ++ w) (front_words u xs ys))

-- so far as there is room, the bytes hold what was stored
stored_front : (m k : ℕ) (b v : List ℕ) → m ≤ length b → m ≤ k + length v → take m (sets b k v) ≡ take m (take k b ++ v)
stored_front m k b v h f = by_test (ltb k m) (λ e. more (ltb-true k m e)) (λ e. less (ltb-false k m e))
  where
    less : m ≤ k → take m (sets b k v) ≡ take m (take k b ++ v)
    less o = take_sets v b m k o ∙ sym (take-append-le m (take k b) v (omega (arith, length-take k b)) ∙ take-take m k b o)

    more : k < m → take m (sets b k v) ≡ take m (take k b ++ v)
    more o =
        let a = m - k in
        let p = take k b in
        let u = take a v in
        let i : length u ≡ a = length-take-le a v (omega arith) in
        let j : length p ≡ k = length-take-le k b (omega arith) in
        let c : length (p ++ u) ≡ m = omega (arith, length-append p u) in
        let d : m ≡ length p + a = omega arith in
        let w : sets b k v ≡ sets (sets b k u) (k + length u) (drop a v) = ap (sets b k) (sym (take-append-drop a v)) ∙ sym (sets_join u (drop a v) b k) in
        ap (take m) w ∙ take_sets (drop a v) (sets b k u) m (k + length u) (omega arith) ∙ ap (take m) (sets-eq u b k (omega arith)) ∙ take_at (p ++ u) (drop (k + length u) b) m c
        ∙ sym (ap (λ (n : ℕ). take n (p ++ v)) d ∙ take-append-add p v a)

-- n, m: the counts before the steps and behind them; base: the number of the token in slot 0
module _ {base : ℕ} {gs : List GivenToken} {xs : List Slot} {es : List Event} {n m : Counts} {l b l' b' : List ℕ} (gone : List ℕ) (h : SlotsHold gs xs) (d : Said base gs xs es)
    (counted : base + length xs ≡ n.count) (so_far : n.used ≡ length gone + used_by xs) (st : Stored base n m l b l' b' es) (r : least_records * record_words ≤ length l)
    (before : Laid l b gone xs) where
  abbrev ys : List Slot
  ys = waits base xs es

  abbrev v : List ℕ
  v = event_texts es

  pub used_then : m.used ≡ length gone + used_by ys
  used_then = omega (arith, st.counts.used, so_far, ap length (waits_texts base xs es), length-append (slot_texts xs) v)

  words_then : l' ≡ with_slots (length gone) ys l
  words_then =
      let g = length gone in
      let p = length xs * record_words in
      let fs = map (counted_from base) es in
      let a : with_slots g xs l ≡ l = ap (λ (k : List ℕ). k ++ drop p l) (sym before.slots) ∙ take-append-drop p l in
      let i : n.count - base ≡ length xs = omega (arith, counted) in
      let j : store_events l (n.count - base) n.used fs ≡ store_events l (length xs) (g + used_by xs) fs = rw (i, so_far) in
      let room : length ys * record_words ≤ length l = omega (arith, d.few) in
      st.words ∙ j ∙ ap (λ (k : List ℕ). store_events k (length xs) (g + used_by xs) fs) (sym a) ∙ waits_stored g base es gs xs l h d.placed d.notes room

  slots_then : take (length ys * record_words) l' ≡ slot_words (length gone) ys
  slots_then =
      let w = slot_words (length gone) ys in
      ap (take (length ys * record_words)) words_then ∙ take_at w (drop (length ys * record_words) l) (length ys * record_words) (slot_words_length (length gone) ys)

  -- so many bytes as there is room for
  texts_then : (k : ℕ) → k ≤ length b → k ≤ m.used → take k b' ≡ take k (gone ++ slot_texts ys)
  texts_then k f i =
      let e : take n.used b ≡ gone ++ slot_texts xs = rw so_far before.texts in
      ap (take k) st.bytes ∙ stored_front k n.used b v f (omega (arith, st.counts.used)) ∙ ap (λ (z : List ℕ). take k (z ++ v)) e
      ∙ ap (take k) (append_assoc gone (slot_texts xs) v ∙ ap (λ (z : List ℕ). gone ++ z) (sym (waits_texts base xs es)))

  -- with the room that a stream asks for
  pub laid_then : n.used + brings es ≤ length b → Laid l' b' gone ys
  laid_then f =
      let k = length gone + used_by ys in
      let w = gone ++ slot_texts ys in
      let i : k ≤ length b = omega (arith, used_then, st.counts.used, brings_texts es) in
      record { slots = slots_then; texts = texts_then k i (omega (arith, used_then)) ∙ take_all k w (omega (arith, length-append gone (slot_texts ys))) }

  -- the first j slots, where the texts of these have room, and the bytes used so far stay
  pub laid_first : (j : ℕ) (b'' : List ℕ) → j ≤ length ys → length gone + used_by (take j ys) ≤ length b → take m.used b'' ≡ take m.used b' → Laid l' b'' gone (take j ys)
  laid_first j b'' o f e =
      let zs = take j ys in
      let k = length gone + used_by zs in
      let all : zs ++ drop j ys ≡ ys = take-append-drop j ys in
      let t : slot_texts ys ≡ slot_texts zs ++ slot_texts (drop j ys) = ap slot_texts (sym all) ∙ front_texts zs (drop j ys) in
      let i : k ≤ m.used = omega (arith, used_then, ap length t, length-append (slot_texts zs) (slot_texts (drop j ys))) in
      let q : length zs * record_words ≤ length ys * record_words = omega (arith, length-take-le j ys o) in
      let c : length (gone ++ slot_texts zs) ≡ k = length-append gone (slot_texts zs) in
      record {
        slots = sym (take-take (length zs * record_words) (length ys * record_words) l' q) ∙ ap (take (length zs * record_words)) (slots_then ∙ ap (slot_words (length gone)) (sym all))
            ∙ front_words (length gone) zs (drop j ys);
        texts = sym (take-take k m.used b'' i) ∙ ap (take k) e ∙ take-take k m.used b' i ∙ texts_then k f i
            ∙ ap (take k) (ap (λ (z : List ℕ). gone ++ z) t ∙ sym (append_assoc gone (slot_texts zs) (slot_texts (drop j ys)))) ∙ take_at (gone ++ slot_texts zs) (slot_texts (drop j ys)) k c;
      }
