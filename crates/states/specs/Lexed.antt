-- A fetcher's answer by what a reader read of the rest of the text, with the unused end of the bytes lent to it.
use Rattle.std.specs.Prelude.{◌+◌, ◌-◌, ◌<◌, ◌≤◌, ◌^◌, suc, ℕ, Bool, Result, Ok, Err, List, [], ◌++◌, ◌∷◌, ltb, drop, length, replicate, take}
use Rattle.std.proofs.Common.{append-nil, ◌∙◌, arith, drop_of_length-le, length-drop, take_all, ltb-false, ltb-true}
use Rattle.std.proofs.Math.Path.{◌≡◌, ap, sym}
use Rattle.std.proofs.lemmas.List.Edits.{sets}
use Rattle.yaml_text.specs.declared.Mark.{Mark}
use Rattle.yaml_text.specs.declared.Refusal.{Refusal}
use Rattle.yaml_text.specs.Mark as mark
use Rattle.yaml_text.specs.Refusal.{Read, ◌>>=◌, got, refused}
use Rattle.yaml_text.specs.Test.{by_test}
use Rattle.yaml_lexeme.specs.Record.{laid_token}
use Rattle.yaml_lexeme.specs.Token as tokens
use Rattle.yaml_scan.specs.declared.Limits.{Limits}
use Rattle.yaml_scan.specs.State.{Event, News, block_ends, emit, put}
use Rattle.yaml_scan.specs.State as definition
use Rattle.chars.specs.declared.mark.Place.{Place}
use Rattle.chars.specs.View.{view}
use Rattle.rooms.specs.Room.{cleared, rest_whole, sets_at, sets_past}
use Rattle.reading.specs.declared.Lexeme.{Lexeme}
use Rattle.reading.specs.Reading.{ReadsAhead, Lexes, Seen, bytes_after, laid_read, seen}
use Rattle.stacks.specs.declared.indent.Indents.{Indents}
use Rattle.stacks.specs.Frame.{frame_keys, frame_levels}
use Rattle.stacks.specs.Indent.{Low, indents_seen}
use Rattle.events.specs.declared.Counts.{Counts}
use Rattle.events.specs.Event.{closing_of, event_texts, laid_events, laid_of}
use Rattle.events.specs.Laid.{laid_ends, laid_of_closing, texts_ends}
use Rattle.states.specs.declared.Fetched.TheVariants as fetched
use Rattle.states.specs.declared.State.{State}
use Rattle.states.specs.State.{behind_of}
use Rattle.states.specs.Rest.{behind_fits, behind_stands, behind_view, is_rest, rest_at}
use Rattle.states.specs.Fetch.{FetchesText, Ready}
use Rattle.states.specs.Answer.{bytes_refused, bytes_said, fetch_goes, fetch_refused}

-- the unused end of the bytes

-- where it begins: the smaller of the two
abbrev pub clipped : ℕ → ℕ → ℕ
clipped used room = room - (room - used)

-- what `&mut l[n..]` lends
abbrev pub part : ℕ → List ℕ → List ℕ
part n l = take (length l - n) (drop n l)

-- the whole, where x comes back
abbrev pub back : ℕ → List ℕ → List ℕ → List ℕ
back n l x = take n l ++ (x ++ drop (length l - n) (drop n l))

module _ {n : ℕ} (used : ℕ) (l : List ℕ) (from : n ≡ clipped used (length l)) where
  pub back_sets : {x : List ℕ} (t : List ℕ) → x ≡ sets (part n l) 0 t → back n l x ≡ sets l used t
  back_sets t e =
      rw (e, rest_whole n l)
      (sets_at t l n (omega arith)
      ∙ by_test (ltb used (length l))
      (λ h. let k = ltb-true used (length l) h in let i : n ≡ used = omega arith in rw i)
      (λ h. let k = ltb-false used (length l) h in sets_past t l n used (omega arith) k))

  -- zeros in the part are zeros from there on
  pub back_cleared : {x : List ℕ} → x ≡ replicate (length (part n l)) 0 → back n l x ≡ cleared l used
  back_cleared e =
      let k : length (drop n l) ≤ length l - n = (let q = length-drop n l in omega arith) in
      let room : length l - n ≡ length l - used = omega arith in
      let front : take n l ≡ take used l =
      by_test (ltb used (length l))
      (λ h. let g = ltb-true used (length l) h in let i : n ≡ used = omega arith in rw i)
      (λ h. let g = ltb-false used (length l) h in take_all n l (omega arith) ∙ sym (take_all used l g)) in
      rw (e, rest_whole n l, length-drop n l, drop_of_length-le (drop n l) k, append-nil, front, room)

-- what is said

abbrev pub closed_events : ℕ → tokens.Token → List Event
closed_events n t = block_ends n t.start ++ (put t ∷ [])

laid_lexeme : (m : Mark) (used n : ℕ) (t : tokens.Token) → laid_of m (closing_of n (laid_token used t)) ≡ laid_events used (closed_events n t)
unfolding laid_events
laid_lexeme m used n t = laid_of_closing m (laid_token used t) n ∙ sym (laid_ends t.start (put t ∷ []) used n)

texts_lexeme : (n : ℕ) (t : tokens.Token) → event_texts (closed_events n t) ≡ tokens.token_bytes t
unfolding event_texts
texts_lexeme n t = texts_ends t.start (put t ∷ []) n ∙ append-nil (tokens.token_bytes t)

-- how it goes on behind what was read: in which indents, and after how many ends of blocks
pub record Way : Type 0 where
  pub indents : Indents
  pub leading_whitespace : Bool
  pub simple_key_allowed : Bool
  pub adjacent_value_allowed_at : Mark → ℕ
  pub ended : ℕ

-- the state there, of the code and of the definition

abbrev pub goes_to : State → Way → Place → State
goes_to s w p =
    record {
      place = p;
      leading_whitespace = w.leading_whitespace;
      simple_key_allowed = w.simple_key_allowed;
      indents = w.indents;
      flow_level = s.flow_level;
      adjacent_value_allowed_at = w.adjacent_value_allowed_at p.mark;
    }

abbrev pub state_to : List ℕ → ℕ → State → Way → mark.Place → definition.State
state_to stacks count s w p =
    record {
      place = p;
      leading_whitespace = w.leading_whitespace;
      simple_key_allowed = w.simple_key_allowed;
      indents = indents_seen stacks w.indents;
      keys = frame_keys stacks (suc s.flow_level);
      levels = frame_levels stacks s.flow_level;
      adjacent_value_allowed_at = w.adjacent_value_allowed_at p.mark;
      count = count;
    }

-- the indents stay within their bounds, of so many entries
pub record KeepsIndents (room : ℕ) (s : State) (w : Way) : Type 0 where
  pub low : Low room w.indents
  pub few : w.ended ≤ s.indents.depth

-- the reader's answer and the definition's are alike
module _ {rest before after : List ℕ} {used : ℕ} where
  lexeme_same : {l : Lexeme} {x : tokens.Lexeme} → Lexes rest before after used (Ok l) (got x) → (l.token ≡ laid_token used x.token) × (view rest l.next ≡ x.place)
  unfolding seen laid_read
  lexeme_same {l} {x} h =
      let e : ◌≡◌ {A = Seen} (record { token = l.token; place = view rest l.next }) (record { token = laid_token used x.token; place = x.place }) = cc h.same in
      (ap (λ (y : Seen). y.token) e, ap (λ (y : Seen). y.place) e)

-- the place behind it wraps nowhere
pub lexed_fits : {limits : Limits} {text a : List ℕ} {s : State} {l : Lexeme} {r : Result Lexeme Refusal} → Ready limits text a s → r ≡ Ok l → ReadsAhead (rest_at text s.place) r
    → length text < 2 ^ 63 → (s.place.at + l.next.at < 2 ^ 63) × (l.next.mark.index < 2 ^ 31)
lexed_fits {text = text} {s = s} y e h n =
    let k = rw e at h in
    (behind_fits text s.place (is_rest text s.place) y.stands k.stands n, omega (arith, k.stands))

-- of the whole text, from the words a to e, which are to be u; the definition's answer is d, which goes by its reader's answer x
module _ {limits : Limits} {text rest a e u lent : List ℕ} (before : List ℕ) {from : ℕ} {n : Counts} {s : State} {d : Read News}
    (at : from ≡ clipped n.used (length before)) where
  pub lexed_refused : {f : Refusal} (x : Read tokens.Lexeme) (k : tokens.Lexeme → Read News) → Lexes rest (part from before) lent n.used (Err f) x
      → d ≡ (x >>= k) → e ≡ a
      → FetchesText limits text a e u before (cleared before n.used) (back from before lent) n s d (Err f)
  unfolding seen laid_read bytes_after ◌>>=◌
  lexed_refused {f} (refused i m) k h tells q =
      let y : i ≡ f.number = cc h.same in
      let z : m ≡ f.mark = cc h.same in
      let is : d ≡ refused f.number f.mark = tells ∙ rw (y, z) in
      record {
        fetches = (fetch_refused is q).fetches;
        bytes = back_cleared n.used before at h.bytes ∙ sym (bytes_refused n.used before (cleared before n.used) is);
      }
  lexed_refused (got x) k h tells q = let z : ◌≡◌ {A = ℕ} 0 1 = cc h.same in absurd (omega arith)

  pub lexed_got : {l : Lexeme} (w : Way) (x : Read tokens.Lexeme) → Ready limits text a s → rest ≡ drop s.place.at text → KeepsIndents limits.entries s w
      → Lexes rest (part from before) lent n.used (Ok l) x
      → d ≡ (x >>= λ (l : tokens.Lexeme). emit (closed_events w.ended l.token) (state_to e n.count s w l.place)) → e ≡ u
      → FetchesText limits text a e u before (cleared before n.used) (back from before lent) n s d
      (Ok (fetched.Goes (closing_of w.ended l.token) (goes_to s w (behind_of s.place l.next))))
  unfolding seen laid_read bytes_after ◌>>=◌
  lexed_got {l} w (got x) y r k h tells q =
      let same = lexeme_same h in
      record {
        fetches =
            rw same.0
            (fetch_goes (closed_events w.ended x.token) (laid_lexeme _ n.used w.ended x.token) (state_to e n.count s w x.place) tells
            (ap (state_to e n.count s w) (behind_view text s.place r l.next ∙ same.1))
            (record {
              sane = record {
                stands = behind_stands text s.place r y.stands h.ahead.stands;
                low = k.low;
                deep = y.deep;
              };
              onward = omega (arith, h.ahead);
              size = let z = rw same.0 at h.ahead.size in omega arith;
              closed = omega (arith, k.few, y.low.deep, y.lent.entries_most);
            })
            q);
        bytes = back_sets n.used before at (tokens.token_bytes x.token) h.bytes
            ∙ sym (bytes_said n.used before (cleared before n.used) (closed_events w.ended x.token) (state_to e n.count s w x.place) tells ∙ rw (texts_lexeme w.ended x.token));
      }
  lexed_got w (refused k m) y r kept h tells q = let z : ◌≡◌ {A = ℕ} 0 1 = cc h.same in absurd (omega arith)
