-- Calls one after the other, from a fresh state (a state of zeros): the records given are those of the definition's tokens, their texts
-- stand in front of the bytes, and the next answer is the definition's. So what yaml_stream proves of calls holds of what the code gives: behind
-- "ended" the records are those of 01's whole list, a refusal is the broken rule's or has its reason, and either comes for ever.
use Rattle.std.specs.Prelude.{◌+◌, ◌≤◌, ℕ, List, [], ◌++◌, ◌∷◌, ◌⊎◌, ◌≡◌, refl, get_or, length, replicate, take, Result, Ok, Err}
use Rattle.std.proofs.Common.{append_assoc, append-nil, inl, inr, ◌∙◌, ap, subst, sym, arith, length-append, take_at, take-take}
use Rattle.yaml_text.specs.declared.Mark.{Mark}
use Rattle.yaml_text.specs.declared.Refusal.{Refusal}
use Rattle.yaml_lexeme.specs.Record.{laid_token, records}
use Rattle.yaml_lexeme.specs.RecordLaws.{record_some}
use Rattle.yaml_lexeme.specs.Token.{Token, texts, token_bytes}
use Rattle.yaml_scan.specs.declared.Limits.{Limits}
use Rattle.yaml_scan.specs.State.{Event}
use Rattle.yaml_scan.specs.Scan.{outcome, scanned, stopped}
use Rattle.yaml_scan.specs.Slots.{Slot, tokens_of}
use Rattle.yaml_stream.specs.Answers.{Comes, ended_again, ended_stays, here, refused_again, refused_stays, then_call}
use Rattle.yaml_stream.proofs.Answers.{comes_owes}
use Rattle.yaml_stream.proofs.Numbers.{at_least_one}
use Rattle.yaml_stream.specs.Given.{Answered, Own}
use Rattle.yaml_stream.proofs.Given.{call_answers}
use Rattle.yaml_stream.specs.Tale.{Close, at_rule, built, outcome_of, outcome_told, told as tale_told}
use Rattle.yaml_stream.specs.Sizes.{texts_append}
use Rattle.yaml_stream.specs.Stream.{Called, Stream, broken, call, called, closing, ended, fresh, refusal, spent, token}
use Rattle.yaml_stream.specs.Stream as stream
use Rattle.sink.specs.SlotWords.{laid_record, slot_texts, used_by}
use Rattle.driver.specs.Held.{held_words, phase_at, until_at, word}
use Rattle.stream.specs.declared.Next.{Next}
use Rattle.stream.specs.declared.Next.TheVariants as next
use Rattle.stream.specs.Holds.{Holds, Promises, Says, Waits, breaks, closes, fresh_state, scans, text_given}

-- calls that each gave a token: the records given, and what stands behind them. What is lent keeps its length
pub data Run (limits : Limits) (text h l b : List ℕ) : List ℕ → List ℕ → List ℕ → List ℕ → Type 0 where
  none : Run limits text h l b [] h l b
  more : {rs h₁ l₁ b₁ h₂ l₂ b₂ r : List ℕ} → Run limits text h l b rs h₁ l₁ b₁ → length l₂ ≡ length l₁ → length b₂ ≡ length b₁
      → Promises limits text h₁ l₁ b₁ h₂ l₂ b₂ r (Ok next.Token) → Run limits text h l b (rs ++ r) h₂ l₂ b₂

-- the definition's calls to the tokens ts; y is the stream behind them
pub record Gave (limits : Limits) (text l b rs h' l' b' : List ℕ) : Type 0 where
  pub tokens : List Token
  pub behind : Stream
  pub comes : Comes limits (length b) (fresh limits text (length l)) tokens behind
  pub words : rs ≡ records 0 tokens
  pub bytes : take (length (texts tokens)) b' ≡ texts tokens
  pub holds : Holds limits text h' l' b' (texts tokens) behind
  pub same_words : length l' ≡ length l
  pub same_bytes : length b' ≡ length b

-- the texts of what was given stand in front

front_waits : {h l b gone : List ℕ} {gs xs : List Slot} → Waits h l b gone gs xs → take (length gone) b ≡ gone
front_waits {b = b} {gone = gone} {gs = gs} {xs = xs} w =
    sym (take-take (length gone) (length gone + used_by (gs ++ xs)) b (omega arith)) ∙ ap (λ (z : List ℕ). take (length gone) z) w.texts ∙ take_at gone (slot_texts (gs ++ xs)) (length gone) refl

pub texts_in_front : (limits : Limits) (text h l b : List ℕ) {gone : List ℕ} {x : Stream} → Holds limits text h l b gone x → take (length gone) b ≡ gone
texts_in_front limits text h l b (fresh_state e f) = refl
texts_in_front limits text h l b (scans m a c) = front_waits c.waits
texts_in_front limits text h l b (closes a c) = front_waits c.waits
texts_in_front limits text h l b (breaks a e w) = front_waits w.waits

-- one more

record Told (used : ℕ) (n : stream.Next) (r : List ℕ) : Type 0 where
  given : Token
  is : n ≡ token given
  words : r ≡ laid_record used given

told : (used : ℕ) (n : stream.Next) (r : List ℕ) → Says used n r (Ok next.Token) → Told used n r
told used (token t) r s = record { given = t; is = refl; words = s.1 }
told used ended r s = let z : ◌≡◌ {A = ℕ} 0 1 = cc in absurd (omega arith)
told used (refusal k m) r s = let z : ◌≡◌ {A = ℕ} 0 1 = cc in absurd (omega arith)
told used spent r s = absurd s

records_more : (used : ℕ) (ts : List Token) (t : Token) → records used (ts ++ (t ∷ [])) ≡ records used ts ++ laid_record (used + length (texts ts)) t
unfolding records texts
records_more used [] t = let e : used + 0 ≡ used = omega arith in rw e (append-nil (laid_record used t))
records_more used (u ∷ ts) t =
    let e : used + length (token_bytes u) + length (texts ts) ≡ used + length (token_bytes u ++ texts ts) = omega (arith, length-append (token_bytes u) (texts ts)) in
    rw (records_more (used + length (token_bytes u)) ts t, e, append_assoc)

texts_more : (ts : List Token) (t : Token) → texts (ts ++ (t ∷ [])) ≡ texts ts ++ token_bytes t
unfolding texts
texts_more ts t = texts_append ts (t ∷ []) ∙ ap (λ (z : List ℕ). texts ts ++ z) (append-nil (token_bytes t))

gave_more : {limits : Limits} {text l b rs h₁ l₁ b₁ h₂ l₂ b₂ r : List ℕ} → Gave limits text l b rs h₁ l₁ b₁ → length l₂ ≡ length l₁ → length b₂ ≡ length b₁
    → Promises limits text h₁ l₁ b₁ h₂ l₂ b₂ r (Ok next.Token) → Gave limits text l b (rs ++ r) h₂ l₂ b₂
gave_more {limits} {text} {l} {b} {rs} {h₁} {l₁} {b₁} {h₂} {l₂} {b₂} {r} g e f p =
    let ts = g.tokens in
    let y = g.behind in
    let k = p (texts ts) y g.holds in
    let c = call limits (length b₁) y in
    let v = told (length (texts ts)) c.answer r k.says in
    let t = v.given in
    let i : c ≡ called (token t) c.stream = ap (λ (n : stream.Next). called n c.stream) v.is in
    let j : call limits (length b) y ≡ called (token t) c.stream = ap (λ (n : ℕ). call limits n y) (sym g.same_bytes) ∙ i in
    let o : texts ts ++ text_given c.answer ≡ texts (ts ++ (t ∷ [])) = ap (λ (n : stream.Next). texts ts ++ text_given n) v.is ∙ sym (texts_more ts t) in
    let w : Holds limits text h₂ l₂ b₂ (texts (ts ++ (t ∷ []))) c.stream = subst (λ (z : List ℕ). Holds limits text h₂ l₂ b₂ z c.stream) o k.holds in
    let z : 0 + length (texts ts) ≡ length (texts ts) = omega arith in
    record {
      tokens = ts ++ (t ∷ []);
      behind = c.stream;
      comes = then_call g.comes j;
      words =
          ap (λ (q : List ℕ). q ++ r) g.words ∙ ap (λ (q : List ℕ). records 0 ts ++ q) v.words
          ∙ sym (records_more 0 ts t ∙ ap (λ (n : ℕ). records 0 ts ++ laid_record n t) z);
      bytes = texts_in_front limits text h₂ l₂ b₂ w;
      holds = w;
      same_words = e ∙ g.same_words;
      same_bytes = f ∙ g.same_bytes;
    }

-- from a state of zeros

pub run_gave : {limits : Limits} {text h l b rs h' l' b' : List ℕ} → word h phase_at ≡ 0 → word h until_at ≡ 0 → Run limits text h l b rs h' l' b'
    → Gave limits text l b rs h' l' b'
unfolding texts records
run_gave {limits} {text} {h} {l} {b} e f none =
    record { tokens = []; behind = fresh limits text (length l); comes = here; words = refl; bytes = refl; holds = fresh_state e f; same_words = refl; same_bytes = refl }
run_gave e f (more r i j p) = gave_more (run_gave e f r) i j p

-- the call behind them answers what the definition's does
pub run_answers : {limits : Limits} {text l b rs h₁ l₁ b₁ h₂ l₂ b₂ r : List ℕ} {a : Result Next Refusal} (g : Gave limits text l b rs h₁ l₁ b₁) → Promises limits text h₁ l₁ b₁ h₂ l₂ b₂ r a
    → Says (length (texts g.tokens)) (call limits (length b) g.behind).answer r a
run_answers {limits} {r = r} {a = a} g p =
    subst (λ (n : ℕ). Says (length (texts g.tokens)) (call limits n g.behind).answer r a) g.same_bytes (p (texts g.tokens) g.behind g.holds).says

-- how they end

says_ended : (used : ℕ) (n : stream.Next) (r : List ℕ) → Says used n r (Ok next.Ended) → n ≡ ended
says_ended used (token t) r s = let z : ◌≡◌ {A = ℕ} 0 1 = cc in absurd (omega arith)
says_ended used ended r s = refl
says_ended used (refusal k m) r s = let z : ◌≡◌ {A = ℕ} 0 1 = cc in absurd (omega arith)
says_ended used spent r s = absurd s

says_refused : (used : ℕ) (n : stream.Next) (r : List ℕ) (f : Refusal) → Says used n r (Err f) → n ≡ refusal f.number f.mark
says_refused used (token t) r f s = let z : ◌≡◌ {A = ℕ} 0 1 = cc in absurd (omega arith)
says_refused used ended r f s = let z : ◌≡◌ {A = ℕ} 0 1 = cc in absurd (omega arith)
says_refused used (refusal k m) r f s = let e : f ≡ record { number = k; mark = m } = cc in rw e
says_refused used spent r f s = absurd s

-- what is owed behind the tokens given, by the answer n
record Owing (limits : Limits) (text l b : List ℕ) (ts : List Token) (n : stream.Next) (x : Stream) : Type 0 where
  owed : List Token
  list : built limits text ≡ ts ++ owed
  answered : Answered limits (length l) (length b) (built limits text) owed (tale_told limits text).close n x

behind_run : {limits : Limits} {text l b rs h₁ l₁ b₁ : List ℕ} {n : stream.Next} (g : Gave limits text l b rs h₁ l₁ b₁) → (call limits (length b) g.behind).answer ≡ n
    → Owing limits text l b g.tokens n (call limits (length b) g.behind).stream
behind_run {limits} {text} {l} {b} g e =
    let k = comes_owes limits text (length l) (length b) g.comes in
    record {
      owed = k.0;
      list = k.1;
      answered = rw e at (call_answers limits (length l) (length b) (built limits text) k.0 (tale_told limits text).close g.behind k.2);
    }

-- "ended": 01 accepts the text, and the records given are those of its whole list
pub run_ended : {limits : Limits} {text l b rs h₁ l₁ b₁ h₂ l₂ b₂ r : List ℕ} (g : Gave limits text l b rs h₁ l₁ b₁) → Promises limits text h₁ l₁ b₁ h₂ l₂ b₂ r (Ok next.Ended)
    → (es : List Event) × (outcome limits text ≡ scanned es) × (rs ≡ records 0 (tokens_of es))
run_ended {limits} {text} {r = r} g p =
    let ts = g.tokens in
    let es = (tale_told limits text).events in
    let v = behind_run g (says_ended (length (texts ts)) _ r (run_answers g p)) in
    let f : built limits text ≡ ts = v.list ∙ ap (λ (us : List Token). ts ++ us) v.answered.0 ∙ append-nil ts in
    (es, outcome_told limits text ∙ ap (λ (c : Close). outcome_of es c) v.answered.1, g.words ∙ ap (λ (us : List Token). records 0 us) (sym f))

-- a refusal: 01's, or one of the stream's own with its reason
pub run_refused : {limits : Limits} {text l b rs h₁ l₁ b₁ h₂ l₂ b₂ r : List ℕ} {f : Refusal} (g : Gave limits text l b rs h₁ l₁ b₁) → Promises limits text h₁ l₁ b₁ h₂ l₂ b₂ r (Err f)
    → (outcome limits text ≡ stopped f.number f.mark) ⊎ Own (length l) (length b) (built limits text) f.number f.mark
run_refused {limits} {text} {l} {b} {r = r} {f = f} g p = by_close (behind_run g (says_refused (length (texts g.tokens)) _ r f (run_answers g p))).answered
  where
    by_close : ((tale_told limits text).close ≡ at_rule f.number f.mark) ⊎ Own (length l) (length b) (built limits text) f.number f.mark
        → (outcome limits text ≡ stopped f.number f.mark) ⊎ Own (length l) (length b) (built limits text) f.number f.mark
    by_close (inl e) = inl (outcome_told limits text ∙ ap (λ (c : Close). outcome_of (tale_told limits text).events c) e)
    by_close (inr o) = inr o

-- what a caller tells the answers apart by: a record begins with its kind's number, which is not 0, and no refusal's number is 0
pub kind_not_zero : {limits : Limits} {text l b rs h₁ l₁ b₁ h₂ l₂ b₂ r : List ℕ} (g : Gave limits text l b rs h₁ l₁ b₁) → Promises limits text h₁ l₁ b₁ h₂ l₂ b₂ r (Ok next.Token) → 1 ≤ get_or r 0 0
kind_not_zero {limits} {b = b} {r = r} g p =
    let used = length (texts g.tokens) in
    let v = told used (call limits (length b) g.behind).answer r (run_answers g p) in
    subst (λ (z : List ℕ). 1 ≤ get_or z 0 0) (sym v.words) (record_some (laid_token used v.given))

pub number_not_zero : {limits : Limits} {text l b rs h₁ l₁ b₁ h₂ l₂ b₂ r : List ℕ} {f : Refusal} (g : Gave limits text l b rs h₁ l₁ b₁) → Promises limits text h₁ l₁ b₁ h₂ l₂ b₂ r (Err f)
    → 1 ≤ f.number
number_not_zero {limits} {text} {l} {b} {r = r} {f = f} g p =
    at_least_one limits text (length l) (length b) g.comes f.number f.mark
    (says_refused (length (texts g.tokens)) (call limits (length b) g.behind).answer r f (run_answers g p))

-- each later call

-- no token was given: the texts stay
held_behind : {limits : Limits} {text gone h l b h' l' b' r : List ℕ} {a : Result Next Refusal} {n : stream.Next} {x y : Stream} → Holds limits text h l b gone x → Promises limits text h l b h' l' b' r a
    → (call limits (length b) x).answer ≡ n → text_given n ≡ [] → (call limits (length b) x).stream ≡ y → Holds limits text h' l' b' gone y
held_behind {gone = gone} {x = x} w p e f i = rw (e, f, i, append-nil gone) at (p gone x w).holds

-- behind "ended" nothing is left
pub run_closed : {limits : Limits} {text l b rs h₁ l₁ b₁ h₂ l₂ b₂ r : List ℕ} (g : Gave limits text l b rs h₁ l₁ b₁) → Promises limits text h₁ l₁ b₁ h₂ l₂ b₂ r (Ok next.Ended)
    → Holds limits text h₂ l₂ b₂ (texts g.tokens) (closing [])
run_closed {limits} {b₁ = b₁} {r = r} g p =
    let y = g.behind in
    let e = says_ended (length (texts g.tokens)) (call limits (length b₁) y).answer r (p (texts g.tokens) y g.holds).says in
    held_behind g.holds p e refl (ended_stays limits (length b₁) y e)

-- and behind a refusal it stands
pub run_broken : {limits : Limits} {text l b rs h₁ l₁ b₁ h₂ l₂ b₂ r : List ℕ} {f : Refusal} (g : Gave limits text l b rs h₁ l₁ b₁) → Promises limits text h₁ l₁ b₁ h₂ l₂ b₂ r (Err f)
    → Holds limits text h₂ l₂ b₂ (texts g.tokens) (broken f.number f.mark)
run_broken {limits} {b₁ = b₁} {r = r} {f = f} g p =
    let y = g.behind in
    let e = says_refused (length (texts g.tokens)) (call limits (length b₁) y).answer r f (p (texts g.tokens) y g.holds).says in
    held_behind g.holds p e refl (refused_stays limits (length b₁) y f.number f.mark e)

-- the same answer again, and the same is held behind it: so it comes for ever
pub ended_for_ever : {limits : Limits} {text gone h l b h' l' b' r : List ℕ} {a : Result Next Refusal} → Holds limits text h l b gone (closing []) → Promises limits text h l b h' l' b' r a
    → Says (length gone) ended r a × Holds limits text h' l' b' gone (closing [])
ended_for_ever {limits} {gone = gone} {b = b} w p =
    let e = ended_again limits (length b) in
    (rw e at (p gone (closing []) w).says, held_behind w p (ap (λ (c : Called). c.answer) e) refl (ap (λ (c : Called). c.stream) e))

pub refused_for_ever : {limits : Limits} {text gone h l b h' l' b' r : List ℕ} {a : Result Next Refusal} {k : ℕ} {m : Mark} → Holds limits text h l b gone (broken k m) → Promises limits text h l b h' l' b' r a
    → Says (length gone) (refusal k m) r a × Holds limits text h' l' b' gone (broken k m)
refused_for_ever {limits} {gone = gone} {b = b} {k = k} {m = m} w p =
    let e = refused_again limits (length b) k m in
    (rw e at (p gone (broken k m) w).says, held_behind w p (ap (λ (c : Called). c.answer) e) refl (ap (λ (c : Called). c.stream) e))

-- a state of zeros

pub zeros_fresh : (word (replicate held_words 0) phase_at ≡ 0) × (word (replicate held_words 0) until_at ≡ 0)
zeros_fresh = (refl, refl)
