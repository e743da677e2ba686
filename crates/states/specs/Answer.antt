-- How a fetcher's answer is put together, and what a step keeps.
use Rattle.std.specs.Prelude.{◌<◌, ◌≤◌, ◌^◌, ℕ, List, [], ◌≡◌, Result, Ok, Err, refl, length}
use Rattle.std.proofs.Common.{sym, arith}
use Rattle.std.proofs.lemmas.List.Edits.{sets}
use Rattle.yaml_text.specs.declared.Mark.{Mark}
use Rattle.yaml_text.specs.declared.Refusal.{Refusal}
use Rattle.yaml_text.specs.Refusal.{Read, got, refused}
use Rattle.yaml_scan.specs.declared.Limits.{Limits}
use Rattle.yaml_scan.specs.State.{News, emit, ends_with}
use Rattle.yaml_scan.specs.State as definition
use Rattle.chars.specs.Places.{small}
use Rattle.chars.specs.View.{Small}
use Rattle.stacks.specs.Stack.{entry_words, stack_words}
use Rattle.stacks.specs.Frame.{key_of}
use Rattle.reading.specs.Reading.{text_size}
use Rattle.events.specs.declared.Counts.{Counts}
use Rattle.events.specs.declared.Event.{Event}
use Rattle.events.specs.Event.{event_texts, laid_events, laid_news, laid_of, news_texts}
use Rattle.events.specs.Weighed.{no_bytes, same_puts}
use Rattle.states.specs.declared.State.{State}
use Rattle.states.specs.declared.Fetched.{Fetched}
use Rattle.states.specs.declared.Fetched.TheVariants.{Ends, Goes}
use Rattle.states.specs.State.{Lent, Sane, key_mark, state_of}
use Rattle.states.specs.Fetch.{Fetches, FetchesQuiet, FetchesText, Ready, Went, bytes_left, fetched_seen}

-- what a step keeps makes its state ready, and the other way round

pub ready : {limits : Limits} {text stacks : List ℕ} {s : State} → Lent limits stacks → Sane limits text s → Ready limits text stacks s
ready l h = record { stands = h.stands; low = h.low; deep = h.deep; lent = l }

pub lent_kept : {limits : Limits} {a e : List ℕ} → length e ≡ length a → Lent limits a → Lent limits e
lent_kept q l = record { room = omega (arith, l.room); entries_most = l.entries_most; levels_most = l.levels_most }

module _ {limits : Limits} {text stacks : List ℕ} {s : State} (y : Ready limits text stacks s) where
  pub ready_sane : Sane limits text s
  ready_sane = record { stands = y.stands; low = y.low; deep = y.deep }

  pub ready_small : length text < 2 ^ 63 → Small s.place
  ready_small = small y.stands

  pub ready_col : s.place.mark.col ≤ 1_048_576
  ready_col = omega (arith, y.stands)

  -- what the rules of the candidate ask
  pub ready_key : (s.flow_level ≤ 255) × (s.indents.depth ≤ entry_words) × (stack_words ≤ length stacks)
  ready_key = (omega (arith, y.deep, y.lent.levels_most), omega (arith, y.low.deep, y.lent.entries_most), y.lent.room)

  pub ready_saves : (s.flow_level ≤ 255) × (s.indents.depth ≤ entry_words) × (stack_words ≤ length stacks) × (s.place.mark.col ≤ 1_048_576)
  ready_saves = (ready_key.0, ready_key.1, ready_key.2, ready_col)

-- from the lent words a to e, which are to be w
module _ {limits : Limits} {text a e w : List ℕ} {n : Counts} {s : State} {d : Read News} where
  pub fetch_refused : {k : ℕ} {m : Mark} → d ≡ refused k m → e ≡ a → FetchesQuiet limits text a e w n s d (Err (record { number = k; mark = m }))
  unfolding fetched_seen laid_news news_texts
  fetch_refused i q = record { fetches = record { same = rw i; after = tt; words = q }; quiet = rw i }

  module _ {v : Event} (hs : List definition.Event) (laid : laid_of (key_mark (key_of a s.flow_level)) v ≡ laid_events n.used hs) where
    -- on with the state t, as the definition with x
    pub fetch_goes : {t : State} (x : definition.State) → d ≡ emit hs x → state_of text e n.count t ≡ x → Went limits text s t v → e ≡ w
        → Fetches limits text a e w n s d (Ok (Goes v t))
    unfolding fetched_seen laid_news
    fetch_goes x i same h q =
        record { same = rw (i, laid, ← same, same_puts (key_mark (key_of a s.flow_level)) v n.used hs laid); after = h; words = q }

    pub fetch_quiet : {t : State} (x : definition.State) → d ≡ emit hs x → state_of text e n.count t ≡ x → Went limits text s t v → text_size v.token.kind ≡ 0 → e ≡ w
        → FetchesQuiet limits text a e w n s d (Ok (Goes v t))
    unfolding news_texts
    fetch_quiet x i same h z q =
        record { fetches = fetch_goes x i same h q; quiet = rw i (no_bytes (key_mark (key_of a s.flow_level)) v n.used hs laid z) }

    pub fetch_ends : d ≡ got (ends_with hs) → v.closed ≤ 255 → text_size v.token.kind ≡ 0 → e ≡ w → FetchesQuiet limits text a e w n s d (Ok (Ends v))
    unfolding fetched_seen laid_news news_texts
    fetch_ends i l z q =
        record {
          fetches = record { same = rw (i, laid); after = (l, z); words = q };
          quiet = rw i (no_bytes (key_mark (key_of a s.flow_level)) v n.used hs laid z);
        }

  -- the same by other names: of the definition's answer, of the words that are to be left
  pub fetch_as : {r : Result Fetched Refusal} {x : Read News} {u : List ℕ} → x ≡ d → u ≡ w → FetchesQuiet limits text a e u n s x r → FetchesQuiet limits text a e w n s d r
  fetch_as i q f = rw (← i, ← q) f

-- the lent bytes

module _ (used : ℕ) (before z : List ℕ) {d : Read News} where
  pub bytes_said : (hs : List definition.Event) (x : definition.State) → d ≡ emit hs x → bytes_left used before z d ≡ sets before used (event_texts hs)
  unfolding bytes_left news_texts
  bytes_said hs x i = rw i

  pub bytes_refused : {k : ℕ} {m : Mark} → d ≡ refused k m → bytes_left used before z d ≡ z
  unfolding bytes_left
  bytes_refused i = rw i

-- where nothing is said the lent bytes stay
bytes_none : (used : ℕ) (before : List ℕ) (d : Read News) → news_texts d ≡ [] → bytes_left used before before d ≡ before
unfolding bytes_left
bytes_none used before (got v) q = rw q
bytes_none used before (refused k m) q = refl

pub quiet_text : {limits : Limits} {text a e w : List ℕ} {n : Counts} {s : State} {d : Read News} {r : Result Fetched Refusal} (before : List ℕ)
    → FetchesQuiet limits text a e w n s d r → FetchesText limits text a e w before before before n s d r
quiet_text {n = n} {d = d} before f = record { fetches = f.fetches; bytes = sym (bytes_none n.used before d f.quiet) }
