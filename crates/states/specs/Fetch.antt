-- The contract of every fetcher. It is given the whole text, a state that is ready, and what stands at its place. What it says and
-- the state behind it are the definition's, what a step keeps is kept, and the lent words and bytes are given for every answer.
use Rattle.std.specs.Prelude.{◌*◌, ◌+◌, ◌<◌, ◌≤◌, ℕ, List, [], ◌≡◌, Result, Ok, Err, get_or, length}
use Rattle.std.proofs.lemmas.List.Edits.{sets}
use Rattle.yaml_text.specs.declared.Mark.{Mark}
use Rattle.yaml_text.specs.declared.Refusal.{Refusal}
use Rattle.yaml_text.specs.Refusal.{Read, got, refused}
use Rattle.yaml_scan.specs.declared.Limits.{Limits}
use Rattle.yaml_scan.specs.State.{News}
use Rattle.chars.specs.declared.mark.Place.{Place}
use Rattle.chars.specs.View.{Stands}
use Rattle.stacks.specs.Frame.{key_of}
use Rattle.stacks.specs.Indent.{Low}
use Rattle.reading.specs.Reading.{text_size}
use Rattle.events.specs.declared.Counts.{Counts}
use Rattle.events.specs.declared.Event.{Event}
use Rattle.events.specs.Event.{LaidNews, ends_with, event_size, goes_on, laid_news, laid_of, news_texts}
use Rattle.states.specs.declared.State.{State}
use Rattle.states.specs.declared.Fetched.{Fetched}
use Rattle.states.specs.declared.Fetched.TheVariants.{Ends, Goes}
use Rattle.states.specs.State.{Lent, Sane, key_mark, state_of}

-- what a fetcher asks for: a state that stands in the text, within the limits of its stacks, which are lent
pub record Ready (limits : Limits) (text stacks : List ℕ) (s : State) : Type 0 where
  pub stands : Stands text s.place
  pub low : Low limits.entries s.indents
  pub deep : s.flow_level ≤ limits.levels
  pub lent : Lent limits stacks

-- a character of one byte stands at a place
pub record OneByte (text : List ℕ) (p : Place) : Type 0 where
  pub some : p.at < length text
  pub ascii : get_or text p.at 0 < 128

-- the state t behind an event that was fetched from s: at least a byte on, with at most three bytes of text a byte
pub record Went (limits : Limits) (text : List ℕ) (s t : State) (v : Event) : Type 0 where
  pub sane : Sane limits text t
  pub onward : s.place.at + 1 ≤ t.place.at
  pub size : 3 * s.place.at + text_size v.token.kind ≤ 3 * t.place.at
  pub closed : v.closed ≤ 255

abbrev pub After : Limits → List ℕ → State → Result Fetched Refusal → Type 0
After limits text s (Ok (Goes v t)) = Went limits text s t v
After limits text s (Ok (Ends v)) = (v.closed ≤ 255) × (text_size v.token.kind ≡ 0)
After limits text s (Err f) = Unit {0}

-- what the definition sees of an answer, from a state of so many tokens with the candidate at m
unfoldable pub fetched_seen : List ℕ → List ℕ → ℕ → Mark → Result Fetched Refusal → Read LaidNews
fetched_seen text stacks count m (Ok (Goes v t)) = got (goes_on (laid_of m v) (state_of text stacks (count + event_size v) t))
fetched_seen text stacks count m (Ok (Ends v)) = got (ends_with (laid_of m v))
fetched_seen text stacks count m (Err f) = refused f.number f.mark

-- the lent words at exit: w, or at a refusal what they were, a
abbrev pub words_left : List ℕ → List ℕ → Result Fetched Refusal → List ℕ
words_left a w (Ok r) = w
words_left a w (Err f) = a

-- what a fetcher answers, against the definition's d: from the lent words a to e, which are w unless it refuses
pub record Fetches (limits : Limits) (text a e w : List ℕ) (n : Counts) (s : State) (d : Read News) (r : Result Fetched Refusal) : Type 0 where
  pub same : fetched_seen text e n.count (key_mark (key_of a s.flow_level)) r ≡ laid_news n.used d
  pub after : After limits text s r
  pub words : e ≡ words_left a w r

-- one that is lent no bytes: what is said has no text
pub record FetchesQuiet (limits : Limits) (text a e w : List ℕ) (n : Counts) (s : State) (d : Read News) (r : Result Fetched Refusal) : Type 0 where
  pub fetches : Fetches limits text a e w n s d r
  pub quiet : news_texts d ≡ []

-- the lent bytes at exit: behind those used so far the text of what is said, clipped to the room; or z at a refusal
unfoldable pub bytes_left : ℕ → List ℕ → List ℕ → Read News → List ℕ
bytes_left used before z (got v) = sets before used (news_texts (got v))
bytes_left used before z (refused k m) = z

-- one that is lent bytes, from `before` to `after`, which are z at a refusal
pub record FetchesText (limits : Limits) (text a e w before z after : List ℕ) (n : Counts) (s : State) (d : Read News) (r : Result Fetched Refusal) : Type 0 where
  pub fetches : Fetches limits text a e w n s d r
  pub bytes : after ≡ bytes_left n.used before z d
