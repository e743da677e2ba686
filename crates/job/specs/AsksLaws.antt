-- What the code answers is what the definition's call comes to: by cases of the stream's answer, and of the effect of its token; and a token that only leads on
-- leaves the rest of the call.
use Rattle.std.specs.Prelude.{◌-◌, ◌<◌, suc, zero, ℕ, Result, ◌≡◌, refl, length}
use mathlib.Core.List.{List, [], ◌++◌, ◌∷◌}
use Rattle.std.proofs.Common.{◌∙◌, subst, sym, arith, length-append}
use Rattle.std.proofs.Math.Path.{ap}
use Rattle.yaml_text.specs.declared.Refusal.{Refusal}
use Rattle.yaml_lexeme.specs.Record.{record_of}
use Rattle.yaml_lexeme.specs.Token.{Token, token_bytes}
use Rattle.yaml_scan.specs.declared.Limits.{Limits}
use Rattle.yaml_scan.specs.Scan.{standard}
use Rattle.yaml_stream.specs.Answers.{ended_again, ended_stays, then_call}
use Rattle.yaml_stream.specs.Stream.{Called, Stream, call, called, closing, ended, refusal, spent, token}
use Rattle.yaml_stream.specs.Stream as stream
use Rattle.yaml_job.specs.declared.Effect.{Effect}
use Rattle.yaml_job.specs.declared.Effect.TheVariants.{Finishes, Hands, Passes, Refuses}
use Rattle.yaml_job.specs.declared.Met.{Met}
use Rattle.yaml_job.specs.declared.ShapePlace.{ShapePlace}
use Rattle.yaml_job.specs.Job.{JobCalled, asks, effect, sight}
use Rattle.driver.specs.Held.{held_words}
use Rattle.stacks.specs.Most.{at_most_stays}
use Rattle.stream.specs.declared.Next.{Next}
use Rattle.stream.specs.declared.Next.TheVariants as next
use Rattle.stream.specs.Holds.{Holds, Promises, Says, text_given}
use Rattle.stream.specs.Run.{texts_in_front}
use Rattle.job.specs.declared.Asked.{Asked}
use Rattle.job.specs.declared.Asked.TheVariants.{Goes, Replies}
use Rattle.job.specs.declared.Replied.{Replied}
use Rattle.job.specs.Asks.{AskPromises, AsksOn, AsksPromise, ComesTo, Tells, from_answer, from_effect, lost, next_count}
use Rattle.job.specs.CountLaws.{given_few}
use Rattle.job.specs.JobHolds.{Counted, by_tokens, has_closed, no_more, reads}
use Rattle.job.specs.Sees.{effect_seen}

-- the count behind an answer

-- one more token was given; the count may go up
record CountsOn (text : List ℕ) (words room n : ℕ) (x : Stream) : Type 0 where
  same : Counted standard text words room n x
  next : Counted standard text words room (suc n) x
  fits : next_count n ≡ suc n

counts_on : {text : List ℕ} {words room n : ℕ} {x y : Stream} {t : Token} → Counted standard text words room n x
    → call standard room x ≡ called (token t) y → CountsOn text words room n y
counts_on {text} {words} {room} {n} {t = t} (by_tokens {ts = ts} c h) e =
    let r = then_call c e in
    let i = length-append ts (t ∷ []) in
    let f = at_most_stays 4_294_967_294 n (omega (arith, given_few standard text words room c)) in
    record { same = by_tokens r (omega arith); next = by_tokens r (omega arith); fits = omega arith }
counts_on {room = room} {t = t} no_more e =
    let f : ended ≡ token t = ap (λ (d : Called). d.answer) (sym (ended_again standard room) ∙ e) in
    let z : ◌≡◌ {A = ℕ} 0 1 = cc in absurd (omega arith)

-- by the effect of a token

module _ (text h l b gone : List ℕ) (p : ShapePlace) (m : Met) (n : ℕ) (x : Stream)
    (w : Holds standard text h l b gone x) (c : CountsOn text (length l) (length b) n x) where
  effect_comes : (e : Effect) (t : Token) → effect p m (sight t) ≡ e → ComesTo standard text h l b p m n (token t) x (from_effect e t.start n)
  effect_comes (Passes q k) t e = (record { gone = gone; count = c.same; holds = w }, λ go. rw e)
  effect_comes (Hands v q k) t e = λ go. rw (e, c.fits) (record { answers = refl; holds = reads (record { gone = gone; count = c.next; holds = w }) })
  effect_comes (Refuses r) t e = λ go. rw e (record { answers = refl; holds = has_closed })
  effect_comes Finishes t e = λ go. rw e (record { answers = refl; holds = has_closed })

-- by the stream's answer

counted_as : {limits : Limits} {text : List ℕ} {words room words' room' n : ℕ} {x : Stream} → words' ≡ words → room' ≡ room
    → Counted limits text words room n x → Counted limits text words' room' n x
counted_as e f c = rw (e, f) c

module _ (text h' l' b' : List ℕ) (p : ShapePlace) (m : Met) (n room : ℕ) (x : Stream) (c : Counted standard text (length l') room n x) (same : length b' ≡ room) where
  answer_comes : (gone r : List ℕ) (a : stream.Next) (y : Stream) (s : Result Next Refusal) → call standard room x ≡ called a y → Says (length gone) a r s
      → Holds standard text h' l' b' (gone ++ text_given a) y
      → ComesTo standard text h' l' b' p m n a y (from_answer s r b' p m n)
  unfolding record_of
  answer_comes gone r (token t) y s e (f, g) w =
      let k = rw (sym same) at (counts_on c e) in
      let i = effect_seen p m t gone b' (texts_in_front standard text h' l' b' w) in
      rw (f, g, i) (effect_comes text h' l' b' (gone ++ token_bytes t) p m n y w k (effect p m (sight t)) t refl)
  answer_comes gone r ended y s e (f, g) w =
      let i : y ≡ closing [] = ap (λ (d : Called). d.stream) (sym e) ∙ ended_stays standard room x (ap (λ (d : Called). d.answer) e) in
      let j : Counted standard text (length l') (length b') n y = rw i no_more in
      rw f (λ go. record { answers = refl; holds = reads (record { gone = gone ++ []; count = j; holds = w }) })
  answer_comes gone r (refusal k j) y s e (f, g) w = rw f (λ go. record { answers = refl; holds = has_closed })
  answer_comes gone r spent y s e f w = absurd f

pub ask_told : (text h l b h' l' b' r : List ℕ) (p : ShapePlace) (m : Met) (n : ℕ) (a : Result Next Refusal) (o : Asked) → length l' ≡ length l → length b' ≡ length b
    → Promises standard text h l b h' l' b' r a → o ≡ from_answer a r b' p m n → AskPromises standard text h l b h' l' b' p m n o
ask_told text h l b h' l' b' r p m n a o e f k g x w =
    let c = call standard (length b) x in
    let s = k w.gone x w.holds in
    rw g (answer_comes text h' l' b' p m n (length b) x (counted_as e refl w.count) f w.gone r c.answer c.stream a refl s.says s.holds)

-- the loop

pub asks_begin : (limits : Limits) (text h l b : List ℕ) (p : ShapePlace) (m : Met) (n k : ℕ) → length h ≡ held_words → AsksOn limits text h l b p m n k h l b p m k
asks_begin limits text h l b p m n k e = record { held = e; same_words = refl; same_bytes = refl; all = λ f. f }

asks_on : (limits : Limits) (text h l b h₁ l₁ b₁ h' l' b' : List ℕ) (p q : ShapePlace) (m k : Met) (n j : ℕ) (r : Replied) → length b₁ ≡ length b
    → AskPromises limits text h l b h₁ l₁ b₁ p m n (Goes q k) → AsksPromise limits text j h₁ l₁ b₁ h' l' b' q k n r → AsksPromise limits text (suc j) h l b h' l' b' p m n r
unfolding asks
asks_on limits text h l b h₁ l₁ b₁ h' l' b' p q m k n j r e f g x w =
    let c = call limits (length b) x in
    let s = f x w in
    let t : Tells limits text h' l' b' r (asks limits (length b) j c.stream q k n) = rw e at (g c.stream s.0) in
    subst (λ (d : JobCalled). Tells limits text h' l' b' r d) (sym (s.1 (λ i o. asks limits (length b) j c.stream i o n))) t

asks_told : (limits : Limits) (text h l b h' l' b' : List ℕ) (p : ShapePlace) (m : Met) (n j : ℕ) (r : Replied)
    → AskPromises limits text h l b h' l' b' p m n (Replies r) → AsksPromise limits text (suc j) h l b h' l' b' p m n r
unfolding asks
asks_told limits text h l b h' l' b' p m n j r f x w = f x w (λ i o. asks limits (length b) j (call limits (length b) x).stream i o n)

asks_lost : (limits : Limits) (text h l b : List ℕ) (p : ShapePlace) (m : Met) (n : ℕ) → AsksPromise limits text zero h l b h l b p m n (lost p m n)
unfolding asks
asks_lost limits text h l b p m n x w = record { answers = refl; holds = reads w }

module _ (limits : Limits) (text h₀ l₀ b₀ : List ℕ) (p₀ : ShapePlace) (m₀ : Met) (n k : ℕ) (h l b : List ℕ) (p : ShapePlace) (m : Met) (j : ℕ)
    (w : AsksOn limits text h₀ l₀ b₀ p₀ m₀ n k h l b p m j) where
  -- a turn, whose token came to o
  module _ (h' l' b' : List ℕ) (o : Asked) (some : 0 < j) (t : AskPromises limits text h l b h' l' b' p m n o) where
    one : suc (j - 1) ≡ j
    one = omega arith

    pub turn_goes : (q : ShapePlace) (i : Met) → length h' ≡ length h → length l' ≡ length l → length b' ≡ length b → o ≡ Goes q i
        → AsksOn limits text h₀ l₀ b₀ p₀ m₀ n k h' l' b' q i (j - 1)
    turn_goes q i e f g d =
        record {
          held = e ∙ w.held;
          same_words = f ∙ w.same_words;
          same_bytes = g ∙ w.same_bytes;
          all = λ {h' = v} {l' = x} {b' = y} {r} a. w.all (rw one at (asks_on limits text h l b h' l' b' v x y p q m i n (j - 1) r g (rw d at t) a));
        }

    pub turn_replies : (r : Replied) → o ≡ Replies r → AsksPromise limits text k h₀ l₀ b₀ h' l' b' p₀ m₀ n r
    turn_replies r d = w.all (rw one at (asks_told limits text h l b h' l' b' p m n (j - 1) r (rw d at t)))

  pub turn_none : (r : Replied) → j ≡ 0 → r ≡ lost p m n → AsksPromise limits text k h₀ l₀ b₀ h l b p₀ m₀ n r
  turn_none r e d =
      let f : AsksPromise limits text j h l b h l b p m n (lost p m n) = rw e (asks_lost limits text h l b p m n) in
      w.all (rw d f)
