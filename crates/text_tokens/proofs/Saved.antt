-- Each lexeme that saves a candidate: what the definition does with what it read, and one law that makes of it the fetcher's answer.
use Rattle.std.proofs.Common.{◌∙◌, ◌≡◌, [], ◌∷◌, ℕ, Bool, List, Err, Ok, arith, false, length, ltb, refl, true}
use Rattle.yaml_text.specs.declared.Mark.{Mark}
use Rattle.yaml_text.specs.declared.Refusal.{Refusal}
use Rattle.yaml_text.specs.Refusal.{Read, ◌>>=◌, got}
use Rattle.yaml_lexeme.specs.Anchor.{scan_anchor}
use Rattle.yaml_lexeme.specs.Block.{scan_block_scalar}
use Rattle.yaml_lexeme.specs.Plain.{scan_plain_scalar}
use Rattle.yaml_lexeme.specs.Quoted.{scan_flow_scalar}
use Rattle.yaml_lexeme.specs.Tag.{scan_tag}
use Rattle.yaml_lexeme.specs.Token as tokens
use Rattle.yaml_scan.specs.declared.Limits.{Limits}
use Rattle.yaml_scan.specs.Fetch.{fetch_anchor, fetch_block_scalar, fetch_flow_scalar, fetch_plain_scalar, fetch_tag}
use Rattle.yaml_scan.specs.Indent.{drop_non_ending}
use Rattle.yaml_scan.specs.State.{News, adjacent_here, allow, at_place, emit, put, save_key, with_indents}
use Rattle.yaml_scan.specs.State as definition
use Rattle.reading.specs.declared.Lexeme.{Lexeme}
use Rattle.reading.specs.Reading.{Lexes}
use Rattle.stacks.specs.declared.indent.Indents.{Indents}
use Rattle.stacks.specs.Indent.{Low, Lowers, entries_of, indents_seen}
use Rattle.events.specs.declared.Counts.{Counts}
use Rattle.events.specs.Event.{closing_of}
use Rattle.states.specs.declared.Fetched.TheVariants.{Goes}
use Rattle.states.specs.declared.State.{State}
use Rattle.states.specs.Fetch.{Ready}
use Rattle.states.specs.Key.{Saves}
use Rattle.states.specs.Lexed.{Way, goes_to, lexed_got, lexed_refused, state_to}
use Rattle.states.specs.Rest.{is_rest, rest_at, rest_view}
use Rattle.states.specs.Seen.{entries_seen, in_flow_seen}
use Rattle.states.specs.State.{behind_of, state_of}
use Rattle.text_tokens.specs.Lexeme.{FetchesSaved, unused, with_unused}
use Rattle.text_tokens.proofs.Read.{from_here, same_for_all}

-- on behind a token that ends no block
abbrev pub on : Indents → Bool → Bool → (Mark → ℕ) → Way
on i leads allowed adjacent = record { indents = i; leading_whitespace = leads; simple_key_allowed = allowed; adjacent_value_allowed_at = adjacent; ended = 0 }

-- what the definition does with what it read: the token, and on from the state whose candidate is saved
abbrev pub Tells : (definition.State → Read News) → Read tokens.Lexeme → (tokens.Lexeme → definition.State → definition.State) → definition.State → Type 0
Tells f x go v = f v ≡ (x >>= λ (l : tokens.Lexeme). emit (put l.token ∷ []) (go l (save_key v)))

-- on behind it, where a simple key is allowed or not
abbrev pub going : Bool → tokens.Lexeme → definition.State → definition.State
going b l v = at_place l.place b (allow b v)

-- behind a block scalar in the indents of its own block
abbrev pub in_block : List ℕ → Indents → tokens.Lexeme → definition.State → definition.State
in_block a i l v = going true l (with_indents (indents_seen a i) v)

-- THE LAW
module _ {limits : Limits} {text a lent : List ℕ} (before : List ℕ) {n : Counts} {s : State} (f : definition.State → Read News)
    (go : tokens.Lexeme → definition.State → definition.State) {x : Read tokens.Lexeme} (tells : Tells f x go (state_of text a n.count s)) where
  -- a refusal saves nothing
  pub saved_refused : {g : Refusal} → Lexes (rest_at text s.place) (unused n.used before) lent n.used (Err g) x
      → FetchesSaved limits text a a before (with_unused n.used before lent) n s f (Err g)
  saved_refused h = lexed_refused before refl x (λ (l : tokens.Lexeme). emit (put l.token ∷ []) (go l (save_key (state_of text a n.count s)))) h tells refl

  -- else the candidate is saved
  module _ {e : List ℕ} {l : Lexeme} (y : Ready limits text a s) (h : Lexes (rest_at text s.place) (unused n.used before) lent n.used (Ok l) x) (q : Saves a e n.count s) where
    pub saved : (i : Indents) (leads allowed : Bool) (adjacent : Mark → ℕ) → Low limits.entries i
        → ((m : tokens.Lexeme) → go m (state_of text e n.count s) ≡ state_to e n.count s (on i leads allowed adjacent) m.place)
        → FetchesSaved limits text a e before (with_unused n.used before lent) n s f (Ok (Goes (closing_of 0 l.token) (goes_to s (on i leads allowed adjacent) (behind_of s.place l.next))))
    saved i leads allowed adjacent low goes =
        lexed_got before refl (on i leads allowed adjacent) x y (is_rest text s.place)
        (record { low = low; few = omega arith })
        h
        (tells ∙ same_for_all x (λ m. rw (← q.same text, goes m)))
        q.words

-- each of them

module _ (text a : List ℕ) (count : ℕ) (s : State) where
  pub plain_tells : Tells (λ v. fetch_plain_scalar v) (got (scan_plain_scalar (ltb 0 s.flow_level) (from_here text s))) (going false) (state_of text a count s)
  unfolding fetch_plain_scalar ◌>>=◌
  plain_tells = rw (rest_view text s.place (is_rest text s.place), in_flow_seen text a count s)

  pub flow_tells : (single : Bool)
      → Tells (λ v. fetch_flow_scalar single v) (scan_flow_scalar (ltb 0 s.flow_level) single s.indents.indent (from_here text s)) (λ l v. adjacent_here (going false l v)) (state_of text a count s)
  unfolding fetch_flow_scalar
  flow_tells single = rw (rest_view text s.place (is_rest text s.place), in_flow_seen text a count s)

  pub tag_tells : Tells (λ v. fetch_tag v) (scan_tag (ltb 0 s.flow_level) (from_here text s)) (going false) (state_of text a count s)
  unfolding fetch_tag
  tag_tells = rw (rest_view text s.place (is_rest text s.place), in_flow_seen text a count s)

  pub anchor_tells : (alias : Bool) → Tells (λ v. fetch_anchor alias v) (scan_anchor alias (from_here text s)) (going false) (state_of text a count s)
  unfolding fetch_anchor
  anchor_tells alias = rw (rest_view text s.place (is_rest text s.place))

  module _ {i : Indents} (k : Lowers a s.indents i (drop_non_ending s.indents.indent (entries_of a s.indents.depth))) where
    pub block_tells : (literal : Bool) → Tells (λ v. fetch_block_scalar literal v) (scan_block_scalar literal i.indent (from_here text s)) (in_block a i) (state_of text a count s)
    unfolding fetch_block_scalar
    block_tells literal = rw (rest_view text s.place (is_rest text s.place), ← k.same)

    pub block_goes : {limits : Limits} {e : List ℕ} → Ready limits text a s → Saves a e count s → (l : tokens.Lexeme)
        → in_block a i l (state_of text e count s) ≡ state_to e count s (on i true true (λ m. s.adjacent_value_allowed_at)) l.place
    block_goes y q l = rw (entries_seen i q.entries (let h = k.below.depth in omega (arith, y.low, y.lent)))
