-- The loop over the turns, from behind the opening quote to the scalar's end.
use Prim.Native.Nat.{◌≤◌, ℕ}
use mathlib.Core.List.{List}
use mathlib.Core.Path.{◌∙◌, ◌≡◌, ap, refl}
use native.Mathlib.Omega.{arith}
use lib.ListN.{drop, length}
use lib.Seq.{length-sets}
use Rattle.std.proofs.Common.{Err, Ok, Result}
use Rattle.yaml_text.specs.declared.Refusal.{Refusal}
use Rattle.yaml_text.specs.Mark.{along}
use Rattle.yaml_text.specs.Utf8.{chars, encode}
use Rattle.yaml_lexeme.specs.Quoted.{chars_of, quoted_run}
use Rattle.chars.specs.Places.{stands_along}
use Rattle.chars.specs.View.{Stands, past}
use Rattle.reading.specs.declared.Written.{Written}
use Rattle.reading.specs.Reading.{first_at}
use Rattle.quoted.specs.declared.turns.Quote.{Quote}
use Rattle.quoted.specs.declared.turns.Progress.{Progress}
use Rattle.quoted.specs.declared.turns.Turned.{Turned}
use Rattle.quoted.specs.declared.turns.Turned.TheVariants.{Closes, Goes}
use Rattle.quoted.specs.Modes.{mode_of}
use Rattle.quoted.specs.Advance.{Advances, RunEnds, Sound, ended, led_to, quote_of, text_turn, to_write, turn_of, written}

pub record Running (text : List ℕ) (q : Quote) (before out : List ℕ) (t : Progress) : Type 0 where
  pub sound : Sound text t
  pub same : length out ≡ length before
  pub whole : written before 0 (quoted_run (quote_of q) chars_of 0 (along q.start) (chars (drop 1 text))) ≡ to_write text q out t

pub running_start : {text : List ℕ} {q : Quote} {t : Progress} (before : List ℕ) → Stands text (first_at q.start) → 1 ≤ length text
    → t ≡ text_turn (record { count = 0; place = past (first_at q.start) 1 (along q.start) }) → Running text q before before t
unfolding mode_of
running_start before s h e =
    rw e
    (record {
      sound = record { stands = stands_along s 1 1 (omega arith) h; short = omega (arith, s.index); kept = tt; few = omega arith };
      same = refl;
      whole = refl;
    })

module _ {text : List ℕ} {q : Quote} {before out next : List ℕ} {t : Progress} {r : Result Turned Refusal} (w : Running text q before out t) (h : Advances text q out next t r) where
  pub running_more : {u : Progress} → r ≡ Ok (Goes u) → length next ≡ length out → Running text q before next u
  unfolding led_to
  running_more e l = let k = rw e at h in record { sound = k.onward.0; same = l ∙ w.same; whole = w.whole ∙ k.same }

  pub running_closed : {u : Written} → r ≡ Ok (Closes u) → RunEnds text q before next (Ok u)
  unfolding led_to
  running_closed e =
      let k = rw e at h in
      record {
        same = w.whole ∙ k.same;
        kept = ap length k.leaves.bytes ∙ length-sets out t.count (encode (turn_of text q t).text) ∙ w.same;
        behind = record { stands = k.onward.stands; onward = omega (arith, k.onward.onward); few = k.onward.few };
      }

  pub running_refused : {f : Refusal} → r ≡ Err f → RunEnds text q before next (Err f)
  unfolding led_to ended
  running_refused e = let k = rw e at h in record { same = w.whole ∙ k.same; kept = k.leaves ∙ w.same; behind = tt }
