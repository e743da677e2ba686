-- What the stores of a function come to.
use Prim.Native.Nat.{◌+◌, ◌-◌, ◌<◌, ◌≤◌, suc, ℕ}
use mathlib.Core.Bool.{Bool}
use mathlib.Core.List.{List, [], ◌++◌, ◌∷◌}
use mathlib.Core.Path.{◌∙◌, ◌≡◌, refl, sym}
use native.Mathlib.Numerals.{add-one}
use native.Mathlib.Omega.{arith}
use lib.ListN.{length, length-replicate}
use Rattle.yaml_text.specs.declared.Mark.{Mark}
use Rattle.yaml_lexeme.specs.declared.Kind.TheVariants.{BlockEnd}
use Rattle.yaml_lexeme.specs.declared.Token.{Token}
use Rattle.yaml_lexeme.specs.Record.{record_of}
use Rattle.events.specs.declared.Event.{Event}
use Rattle.events.specs.declared.Opening.{Opening}
use Rattle.events.specs.declared.Opening.TheVariants as opening
use Rattle.events.specs.Event.{brief_event}
use Rattle.events.specs.Event.{opening_if}
use Rattle.events.specs.Event.{empty_of}
use Rattle.sink.specs.StepTokens.{end_tokens, event_tokens, noted_words, opening_tokens, put_news}
use Rattle.sink.specs.Store.{put_list, put_list_append, put_record}

-- BlockEnds one by one: what is left gives the whole
pub ends_start : (l : List ℕ) (m : Mark) (n k : ℕ) → put_list l n (end_tokens k m) ≡ put_list l n (end_tokens (n + k - n) m)
ends_start l m n k = let e : n + k - n ≡ k = omega arith in rw e

pub ends_more : (l o : List ℕ) (m : Mark) (i j e : ℕ) → i < e → j ≡ i + 1 → o ≡ put_record l i (record_of (empty_of BlockEnd m))
    → put_list l i (end_tokens (e - i) m) ≡ put_list o j (end_tokens (e - j) m)
unfolding put_list
ends_more l o m i j e h p q =
    let s : e - i ≡ suc (e - (i + 1)) = omega arith in
    rw (s, q, p, add-one i)

pub ends_none : (l : List ℕ) (m : Mark) (i e : ℕ) → e - i ≡ 0 → put_list l i (end_tokens (e - i) m) ≡ l
unfolding put_list
ends_none l m i e h = rw h

-- the empty token that comes first
pub opening_none : (o : Opening) (m : Mark) (l : List ℕ) (n : ℕ) → opening_tokens o m ≡ [] → (n ≡ n + length (opening_tokens o m)) × (l ≡ put_list l n (opening_tokens o m))
unfolding put_list
opening_none o m l n e = rw e (omega arith, refl)

pub opens_few : (o : Opening) (m : Mark) → length (opening_tokens o m) ≤ 1
unfolding opening_tokens
opens_few opening.Nothing m = omega arith
opens_few opening.BlockSequenceStart m = omega arith
opens_few opening.BlockMappingStart m = omega arith
opens_few opening.FlowMappingStart m = omega arith
opens_few opening.FlowMappingEnd m = omega arith

-- tokens behind others
behind : (ts us : List Token) (l a o : List ℕ) (n k : ℕ) → k ≡ n + length ts → a ≡ put_list l n ts → o ≡ put_list a k us → o ≡ put_list l n (ts ++ us)
behind ts us l a o n k p q r = r ∙ rw (q, p) (sym (put_list_append ts us l n))

behind_ends : (z : ℕ) (m : Mark) (us : List Token) (l a o : List ℕ) (n k : ℕ) → k ≡ n + z → a ≡ put_list l n (end_tokens z m)
    → o ≡ put_list a k us → o ≡ put_list l n (end_tokens z m ++ us)
behind_ends z m us l a o n k p = behind (end_tokens z m) us l a o n k (p ∙ rw (length-replicate z (empty_of BlockEnd m)))

pub event_put : (e : Event) (l a b o : List ℕ) (n k j : ℕ) → k ≡ n + e.closed → a ≡ put_list l n (end_tokens e.closed e.token.start)
    → j ≡ k + length (opening_tokens e.opening e.token.start) → b ≡ put_list a k (opening_tokens e.opening e.token.start)
    → o ≡ put_record b j (record_of e.token) → o ≡ put_list l n (event_tokens e)
unfolding put_list
event_put e l a b o n k j p q r s t =
    let m = e.token.start in
    let us = opening_tokens e.opening m in
    behind_ends e.closed m (us ++ (e.token ∷ [])) l a o n k p q (behind us (e.token ∷ []) a b o k j r s t)

news_put : (e : Event) (here : Mark) (ended : ℕ) (l a b o : List ℕ) (n k : ℕ) → k ≡ n + ended → a ≡ put_list l n (end_tokens ended here)
    → b ≡ noted_words a e.note → o ≡ put_list b k (event_tokens e) → o ≡ put_news l n here ended e
news_put e here ended l a b o n k p q i r = r ∙ rw (i, q, p)

-- a brief event has no note and ends no block
pub brief_put : (led : Bool) (x : Opening) (t : Token) (here : Mark) (ended : ℕ) (l a b o : List ℕ) (n k j : ℕ) → k ≡ n + ended → a ≡ put_list l n (end_tokens ended here)
    → j ≡ k + length (opening_tokens (opening_if led x) t.start) → b ≡ put_list a k (opening_tokens (opening_if led x) t.start)
    → o ≡ put_record b j (record_of t) → o ≡ put_news l n here ended (brief_event led x t)
unfolding put_list noted_words
brief_put led x t here ended l a b o n k j p q r s u =
    let z : k ≡ k + 0 = omega arith in
    news_put (brief_event led x t) here ended l a a o n k p q refl (event_put (brief_event led x t) a a b o k k j z refl r s u)
