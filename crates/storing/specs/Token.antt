-- The second half of a step: what was fetched is what the definition says, and the counts and lent bytes behind it are those of its events.
use Rattle.std.specs.Prelude.{◌+◌, ◌-◌, ◌≤◌, ℕ, List, ◌++◌, map, ◌≡◌, refl, length, Result, Ok, Err}
use Rattle.std.proofs.Common.{◌∙◌, ap, arith}
use Rattle.std.proofs.lemmas.List.Edits.{sets}
use Rattle.yaml_text.specs.declared.Mark.{Mark}
use Rattle.yaml_text.specs.declared.Refusal.{Refusal}
use Rattle.yaml_text.specs.Refusal.{Read, ◌>>=◌, got, refused}
use Rattle.yaml_scan.specs.declared.Limits.{Limits}
use Rattle.yaml_scan.specs.State.{News, block_ends, ends_with, goes_on}
use Rattle.yaml_scan.specs.State as definition
use Rattle.yaml_stream.specs.Stream.{counted_from}
use Rattle.stacks.specs.Frame.{key_of}
use Rattle.events.specs.declared.Counts.{Counts}
use Rattle.events.specs.declared.Event.{Event}
use Rattle.events.specs.Event.{Countable, LaidEvent, counted_of, event_texts, laid_events, laid_news, laid_of, news_texts}
use Rattle.events.specs.Event as event
use Rattle.events.specs.Laid.{texts_ends}
use Rattle.states.specs.declared.State.{State}
use Rattle.states.specs.declared.Fetched.{Fetched}
use Rattle.states.specs.declared.Fetched.TheVariants.{Ends, Goes}
use Rattle.states.specs.Answer.{lent_kept, ready}
use Rattle.states.specs.Fetch.{FetchesText, bytes_left, fetched_seen}
use Rattle.states.specs.State.{key_mark, state_of}
use Rattle.sink.specs.EventsStored.{store_events}
use Rattle.sink.specs.StepStored.{news_stored}
use Rattle.sink.specs.StepTokens.{put_news, shifted}
use Rattle.sink.specs.Stored.{CountsBehind, counts_ending, token_counted, within_countable, within_counted, within_more}
use Rattle.storing.specs.Step.{StepEnds, StepGiven, StepGoes, StepRefused, behind_ends, events_of}

-- what is seen of an answer is what the definition says

seen_goes : (used : ℕ) (d : Read News) {hs : List LaidEvent} {x : definition.State} → got (event.goes_on hs x) ≡ laid_news used d
    → (d ≡ got (goes_on (events_of d) x)) × (hs ≡ laid_events used (events_of d))
unfolding laid_news events_of
seen_goes used (got (goes_on es y)) e = ((cc), (cc))
seen_goes used (got (ends_with es)) e = let z : ◌≡◌ {A = ℕ} 0 1 = cc in absurd (omega arith)
seen_goes used (refused n m) e = let z : ◌≡◌ {A = ℕ} 0 1 = cc in absurd (omega arith)

seen_ends : (used : ℕ) (d : Read News) {hs : List LaidEvent} → got (event.ends_with hs) ≡ laid_news used d
    → (d ≡ got (ends_with (events_of d))) × (hs ≡ laid_events used (events_of d))
unfolding laid_news events_of
seen_ends used (got (goes_on es y)) e = let z : ◌≡◌ {A = ℕ} 0 1 = cc in absurd (omega arith)
seen_ends used (got (ends_with es)) e = (refl, (cc))
seen_ends used (refused n m) e = let z : ◌≡◌ {A = ℕ} 0 1 = cc in absurd (omega arith)

seen_refused : (used : ℕ) (d : Read News) {n : ℕ} {m : Mark} → refused n m ≡ laid_news used d → d ≡ refused n m
unfolding laid_news
seen_refused used (got (goes_on es y)) e = let z : ◌≡◌ {A = ℕ} 0 1 = cc in absurd (omega arith)
seen_refused used (got (ends_with es)) e = let z : ◌≡◌ {A = ℕ} 0 1 = cc in absurd (omega arith)
seen_refused used (refused n m) e = cc

-- the event that was fetched
pub data FetchedEvent : Result Fetched Refusal → Event → Type 0 where
  at_end : {v : Event} → FetchedEvent (Ok (Ends v)) v
  going : {t : State} {v : Event} → FetchedEvent (Ok (Goes v t)) v

pub fetched_as : {r x : Result Fetched Refusal} {v u : Event} → r ≡ x → v ≡ u → FetchedEvent x u → FetchedEvent r v
fetched_as p q h = rw (p, q) h

-- behind the ends of blocks

behind_goes : (ended : ℕ) (m : Mark) {d : Read News} {es : List definition.Event} {x : definition.State} → d ≡ got (goes_on es x)
    → (behind_ends ended m d ≡ got (goes_on (events_of (behind_ends ended m d)) x)) × (events_of (behind_ends ended m d) ≡ block_ends ended m ++ es)
unfolding ◌>>=◌ events_of
behind_goes ended m i = rw i (refl, refl)

behind_last : (ended : ℕ) (m : Mark) {d : Read News} {es : List definition.Event} → d ≡ got (ends_with es)
    → (behind_ends ended m d ≡ got (ends_with (events_of (behind_ends ended m d)))) × (events_of (behind_ends ended m d) ≡ block_ends ended m ++ es)
unfolding ◌>>=◌ events_of
behind_last ended m i = rw i (refl, refl)

-- the lent bytes where something is said

left_goes : (used : ℕ) (b z : List ℕ) {d : Read News} {es : List definition.Event} {x : definition.State} → d ≡ got (goes_on es x)
    → bytes_left used b z d ≡ sets b used (event_texts es)
unfolding bytes_left news_texts
left_goes used b z i = rw i

left_last : (used : ℕ) (b z : List ℕ) {d : Read News} {es : List definition.Event} → d ≡ got (ends_with es) → bytes_left used b z d ≡ sets b used (event_texts es)
unfolding bytes_left news_texts
left_last used b z i = rw i

-- one token from s, behind so many ends of blocks there
module _ {limits : Limits} {text a : List ℕ} {s : State} {n : Counts} (h : StepGiven limits text a s n) (ended : ℕ) (few : ended ≤ 255) where
  -- the counts behind these
  abbrev k : Counts
  k = counts_ending n ended

  abbrev here : Mark
  here = s.place.mark

  abbrev candidate : Mark
  candidate = key_mark (key_of a s.flow_level)

  -- what the definition says of the step, where it says d of the token
  abbrev news : Read News → Read News
  news d = behind_ends ended here d

  -- the event v was fetched, with the lent bytes from b to b', where the definition says d
  record Says (b b' : List ℕ) (d : Read News) (v : Event) : Type 0 where
    laid : laid_of candidate v ≡ laid_events n.used (events_of d)
    events : events_of (news d) ≡ block_ends ended here ++ events_of d
    bytes : b' ≡ sets b n.used (event_texts (events_of (news d)))

  says : {b b' : List ℕ} {d : Read News} {v : Event} → laid_of candidate v ≡ laid_events n.used (events_of d)
      → events_of (news d) ≡ block_ends ended here ++ events_of d → b' ≡ sets b n.used (event_texts (events_of d)) → Says b b' d v
  says {d = d} i j q =
      let t : event_texts (events_of (news d)) ≡ event_texts (events_of d) = ap event_texts j ∙ texts_ends here (events_of d) ended in
      record { laid = i; events = j; bytes = q ∙ rw t }

  counted : {b b' : List ℕ} {d : Read News} {v : Event} {m : Counts} → Says b b' d v → m ≡ counted_of k v → CountsBehind n m (events_of (news d))
  counted {d = d} {v = v} x c = rw (c, x.events) (token_counted n here candidate ended v (events_of d) x.laid)

  module _ {e w b z b' : List ℕ} {d : Read News} where
    pub token_refused : {f : Refusal} → FetchesText limits text a e w b z b' k s d (Err f) → StepRefused (news d) z b' f
    unfolding ◌>>=◌ fetched_seen bytes_left
    token_refused v = let i = seen_refused n.used d v.fetches.same in record { same = rw i; bytes = v.bytes ∙ rw i }

    goes_says : {t : State} {v : Event} → FetchesText limits text a e w b z b' k s d (Ok (Goes v t))
        → Says b b' d v × (news d ≡ got (goes_on (events_of (news d)) (state_of text e (counted_of k v).count t)))
    unfolding fetched_seen
    goes_says g =
        let i = seen_goes n.used d g.fetches.same in
        let j = behind_goes ended here i.0 in
        (says i.1 j.1 (g.bytes ∙ left_goes n.used b z i.0), j.0)

    ends_says : {v : Event} → FetchesText limits text a e w b z b' k s d (Ok (Ends v)) → Says b b' d v × (news d ≡ got (ends_with (events_of (news d))))
    unfolding fetched_seen
    ends_says g =
        let i = seen_ends n.used d g.fetches.same in
        let j = behind_last ended here i.0 in
        (says i.1 j.1 (g.bytes ∙ left_last n.used b z i.0), j.0)

    pub token_goes : {r : Result Fetched Refusal} {v : Event} {t : State} {m : Counts} → FetchesText limits text a e w b z b' k s d r → r ≡ Ok (Goes v t) → length e ≡ length a → m ≡ counted_of k v
        → StepGoes limits text e (news d) n m b b' t
    token_goes {v = v} g q kept c =
        let f = rw q at g in
        let x = goes_says f in
        let after = f.fetches.after in
        record {
          same = x.1 ∙ rw c;
          counts = counted x.0 c;
          bytes = x.0.bytes;
          given = record {
            short = h.short;
            ready = ready (lent_kept kept h.ready.lent) after.sane;
            few = rw c (within_counted v h.few few after.closed after.size after.onward);
          };
        }

    pub token_ends : {r : Result Fetched Refusal} {v : Event} {m : Counts} → FetchesText limits text a e w b z b' k s d r → r ≡ Ok (Ends v) → m ≡ counted_of k v → StepEnds (news d) n m b b'
    token_ends {v = v} g q c =
        let f = rw q at g in
        let x = ends_says f in
        let after = f.fetches.after in
        let counts = within_counted {to = s.place.at + 1} v h.few few after.0 (omega (arith, after.1)) (omega arith) in
        record {
          same = x.1;
          counts = counted x.0 c;
          bytes = x.0.bytes;
          few = rw c (within_more (omega (arith, h.short, h.ready.stands.within)) counts);
        }

    -- no count wraps
    pub token_countable : {r : Result Fetched Refusal} {v : Event} → FetchesText limits text a e w b z b' k s d r → FetchedEvent r v → Countable k v
    token_countable {v = v} g at_end =
        let after = g.fetches.after in
        within_countable {to = s.place.at + 1} v h.few few after.0 (omega (arith, after.1)) (omega (arith, h.short, h.ready.stands.within))
    token_countable {v = v} g going =
        let after = g.fetches.after in
        within_countable v h.few few after.closed after.size (omega (arith, h.short, after.sane.stands.within))

    fetched_says : {r : Result Fetched Refusal} {v : Event} → FetchesText limits text a e w b z b' k s d r → FetchedEvent r v → Says b b' d v
    fetched_says g at_end = (ends_says g).0
    fetched_says g going = (goes_says g).0

    -- stored from the slot of the first token on, in the words l, where slot 0 is that of token base
    pub token_words : {r : Result Fetched Refusal} {v : Event} (base : ℕ) (l : List ℕ) {l' : List ℕ} → FetchesText limits text a e w b z b' k s d r → FetchedEvent r v
        → l' ≡ put_news l (n.count - base) here ended (shifted base v) → l' ≡ store_events l (n.count - base) n.used (map (counted_from base) (events_of (news d)))
    token_words {v = v} base l g f q =
        let x = fetched_says g f in
        q ∙ news_stored base v here ended candidate l (n.count - base) n.used (events_of d) x.laid ∙ rw x.events
