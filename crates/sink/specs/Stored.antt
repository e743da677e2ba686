-- What is said in a row is counted, and stored behind what came before.
use Rattle.std.specs.Prelude.{◌*◌, ◌+◌, ◌-◌, ◌≤◌, suc, zero, ℕ, List, [], ◌++◌, ◌∷◌, map, ◌≡◌, refl, length}
use Rattle.std.proofs.Common.{◌∙◌, ap, sym, arith, length-append}
use Rattle.std.proofs.lemmas.List.{length-map}
use Rattle.std.proofs.lemmas.List.Edits.{sets}
use Rattle.yaml_text.specs.declared.Mark.{Mark}
use Rattle.yaml_lexeme.specs.Record.{laid_token}
use Rattle.yaml_lexeme.specs.Token as tokens
use Rattle.yaml_scan.specs.State as definition
use Rattle.yaml_scan.specs.State.{block_ends, puts}
use Rattle.yaml_scan.specs.SlotLaws.{total}
use Rattle.yaml_stream.specs.Stream.{counted_from}
use Rattle.reading.specs.Reading.{text_size}
use Rattle.rooms.specs.Room.{sets_join}
use Rattle.events.specs.declared.Counts.{Counts}
use Rattle.events.specs.declared.Event.{Event}
use Rattle.events.specs.declared.Note.{Note}
use Rattle.events.specs.declared.Note.TheVariants as note
use Rattle.events.specs.declared.Opening.{Opening}
use Rattle.events.specs.declared.Opening.TheVariants as opening
use Rattle.events.specs.Count.{countable, note_few, opening_few}
use Rattle.events.specs.Event.{Countable, LaidEvent, counted_of, ends_of, event_size, event_texts, laid_events, laid_of, note_size, noted_of, opened_of, opening_size, put, put_before}
use Rattle.events.specs.Laid.{puts_append, puts_ends, texts_append, texts_ends}
use Rattle.events.specs.Weighed.{same_bytes, same_puts}
use Rattle.sink.specs.EventsStored.{store_events, store_laid}
use Rattle.sink.specs.CountedFrom.{counted_all, counted_append}

-- nothing was said
abbrev pub no_counts : Counts
no_counts = record { count = 0; put_in = 0; used = 0 }

-- T
abbrev pub tokens_counted : Counts → ℕ
tokens_counted n = n.count + n.put_in

-- the counts behind so many ends of blocks
abbrev pub counts_ending : Counts → ℕ → Counts
counts_ending n ended = record { count = n.count + ended; put_in = n.put_in; used = n.used }

-- the counts m are n and what these events come to
pub record CountsBehind (n m : Counts) (es : List definition.Event) : Type 0 where
  pub count : m.count ≡ n.count + puts es
  pub tokens : tokens_counted m ≡ tokens_counted n + total es
  pub used : m.used ≡ n.used + length (event_texts es)

-- these events, stored behind the counts n, make the words l' of l and the bytes b' of b; slot 0 is that of token base
pub record Stored (base : ℕ) (n m : Counts) (l b l' b' : List ℕ) (es : List definition.Event) : Type 0 where
  pub words : l' ≡ store_events l (n.count - base) n.used (map (counted_from base) es)
  pub bytes : b' ≡ sets b n.used (event_texts es)
  pub counts : CountsBehind n m es

-- how many tokens events come to, with those put in before others

total_append : (es fs : List definition.Event) → total (es ++ fs) ≡ total es + total fs
unfolding total
total_append [] fs = omega arith
total_append (definition.put t ∷ es) fs = let e = total_append es fs in omega arith
total_append (definition.put_before n ts ∷ es) fs = let e = total_append es fs in omega arith

total_ends : (n : ℕ) (m : Mark) (es : List definition.Event) → total (block_ends n m ++ es) ≡ n + total es
unfolding total
total_ends zero m es = omega arith
total_ends (suc n) m es = let e = total_ends n m es in omega arith

-- the same of the events that code holds
unfoldable laid_total : List LaidEvent → ℕ
laid_total [] = 0
laid_total (put t ∷ hs) = suc (laid_total hs)
laid_total (put_before n ts ∷ hs) = length ts + laid_total hs

total_laid : (used : ℕ) (es : List definition.Event) → laid_total (laid_events used es) ≡ total es
unfolding laid_total total laid_events
total_laid used [] = refl
total_laid used (definition.put t ∷ es) = ap suc (total_laid (used + length (tokens.token_bytes t)) es)
total_laid used (definition.put_before n ts ∷ es) = rw (length-map ts (λ (t : tokens.Token). laid_token used t), total_laid used es)

noted_total : (m : Mark) (o : Note) (hs : List LaidEvent) → laid_total (noted_of m o ++ hs) ≡ note_size o + laid_total hs
unfolding laid_total noted_of
noted_total m note.Nothing hs = omega arith
noted_total m (note.Key n) hs = omega arith
noted_total m (note.Pair n) hs = omega arith
noted_total m (note.Block n) hs = omega arith

ends_total : (k : ℕ) (m : Mark) (hs : List LaidEvent) → laid_total (ends_of k m ++ hs) ≡ k + laid_total hs
unfolding laid_total
ends_total zero m hs = omega arith
ends_total (suc k) m hs = let e = ends_total k m hs in omega arith

opened_total : (o : Opening) (m : Mark) (hs : List LaidEvent) → laid_total (opened_of m o ++ hs) ≡ opening_size o + laid_total hs
unfolding laid_total opened_of
opened_total opening.Nothing m hs = omega arith
opened_total opening.BlockSequenceStart m hs = omega arith
opened_total opening.BlockMappingStart m hs = omega arith
opened_total opening.FlowMappingStart m hs = omega arith
opened_total opening.FlowMappingEnd m hs = omega arith

-- where an event of the code stands for these events
same_total : (m : Mark) (e : Event) (used : ℕ) (es : List definition.Event) → laid_of m e ≡ laid_events used es → total es ≡ event_size e + note_size e.note
unfolding laid_of laid_total
same_total m e used es h =
    let start = e.token.start in
    let last = put e.token ∷ [] in
    let opened = opened_of start e.opening ++ last in
    let a = noted_total m e.note (ends_of e.closed start ++ opened) in
    let b = ends_total e.closed start opened in
    let c = opened_total e.opening start last in
    sym (total_laid used es) ∙ ap laid_total (sym h) ∙ omega arith

-- in a row

pub stored_none : (base : ℕ) (n : Counts) (l b : List ℕ) → Stored base n n l b l b []
unfolding store_laid laid_events event_texts puts total
stored_none base n l b = record { words = refl; bytes = refl; counts = record { count = omega arith; tokens = omega arith; used = omega arith } }

pub stored_then : {base : ℕ} {n m k : Counts} {l b l' b' l'' b'' : List ℕ} {es fs : List definition.Event} → base ≤ n.count
    → Stored base n m l b l' b' es → Stored base m k l' b' l'' b'' fs → Stored base n k l b l'' b'' (es ++ fs)
stored_then {base} {n} {m} {l = l} {b = b} {es = es} {fs = fs} h f g =
    let c = puts_append es fs in
    let p = total_append es fs in
    let t = texts_append es fs in
    let u = ap length t ∙ length-append (event_texts es) (event_texts fs) in
    let s : m.count - base ≡ n.count - base + puts es = omega (arith, f.counts, h) in
    record {
      words = g.words ∙ rw (f.words, s, f.counts.used) (sym (counted_append base es fs l (n.count - base) n.used));
      bytes = g.bytes ∙ rw (f.bytes, f.counts.used, t) (sets_join (event_texts es) (event_texts fs) b n.used);
      counts = record { count = omega (arith, f.counts, g.counts); tokens = omega (arith, f.counts, g.counts); used = omega (arith, f.counts, g.counts) };
    }

-- from token 0 on, the events themselves
pub stored_words : {n m : Counts} {l b l' b' : List ℕ} {es : List definition.Event} → Stored 0 n m l b l' b' es → l' ≡ store_events l n.count n.used es
stored_words {n} {es = es} f = let e : n.count - 0 ≡ n.count = omega arith in f.words ∙ rw (e, counted_all es)

-- one token, behind so many ends of blocks at the mark here: the event e of the code stands for hs, its candidate at m
module _ (n : Counts) (here m : Mark) (ended : ℕ) (e : Event) (hs : List definition.Event) (laid : laid_of m e ≡ laid_events n.used hs) where
  pub token_counted : CountsBehind n (counted_of (counts_ending n ended) e) (block_ends ended here ++ hs)
  token_counted =
      let t = total_ends ended here hs in
      record {
        count = omega (arith, puts_ends here hs ended, same_puts m e n.used hs laid);
        tokens = omega (arith, same_total m e n.used hs laid);
        used = rw (texts_ends here hs ended, same_bytes m e n.used hs laid);
      }

-- how much so many bytes of text may come to

pub record CountsWithin (n : Counts) (at : ℕ) : Type 0 where
  pub count : n.count ≤ 1 + 512 * at
  pub put_in : n.put_in ≤ 2 * at
  pub used : n.used ≤ 3 * at

pub within_more : {n : Counts} {at to : ℕ} → at ≤ to → CountsWithin n at → CountsWithin n to
within_more h f = record { count = omega (arith, f); put_in = omega (arith, f); used = omega (arith, f) }

module _ {n : Counts} {at to ended : ℕ} (e : Event) (f : CountsWithin n at) (few : ended ≤ 255) (closed : e.closed ≤ 255)
    (size : 3 * at + text_size e.token.kind ≤ 3 * to) where
  pub within_counted : at + 1 ≤ to → CountsWithin (counted_of (counts_ending n ended) e) to
  within_counted onward =
      let o = opening_few e.opening in
      let k = note_few e.note in
      record { count = omega (arith, f); put_in = omega (arith, f); used = omega (arith, f) }

  pub within_countable : to ≤ 1_048_577 → Countable (counts_ending n ended) e
  within_countable short = countable (counts_ending n ended) e (omega (arith, f)) (omega (arith, f)) (omega (arith, f)) closed (omega arith)
