-- A turn of the code, put together: it goes on, is refused, or the scalar is closed.
use Prim.Native.Nat.{◌*◌, ◌+◌, ◌<◌, ◌≤◌, ℕ}
use mathlib.Core.Bool.{◌&&◌, true}
use mathlib.Core.List.{List, [], ◌++◌}
use mathlib.Core.Path.{◌∙◌, ◌≡◌, ap, refl, sym}
use native.Mathlib.Omega.{arith}
use lib.Dec.{eqb, ltb}
use lib.ListN.{drop, length, length-append}
use lib.Seq.{length-sets, sets}
use Rattle.std.proofs.Common.{Err, Ok, Result}
use Rattle.yaml_text.specs.declared.Mark.{Mark}
use Rattle.yaml_text.specs.declared.Refusal.{Refusal}
use Rattle.yaml_text.specs.Char.{tab}
use Rattle.yaml_text.specs.Class.{is_blank}
use Rattle.yaml_text.specs.Mark.{Run, along, break_length, edge_of, new_line}
use Rattle.yaml_text.specs.Mark as definition
use Rattle.yaml_text.specs.Refusal.{Read, before_read, got, refused}
use Rattle.yaml_text.specs.Test.{by_test}
use Rattle.yaml_text.specs.Utf8.{chars, encode}
use Rattle.yaml_text.specs.Utf8Laws.{encode_append}
use Rattle.yaml_lexeme.specs.Quoted.{quoted_run}
use Rattle.rooms.specs.Room.{sets_join}
use Rattle.chars.specs.declared.mark.Place.{Place}
use Rattle.chars.specs.Ascii.{ascii_low, blank_ascii}
use Rattle.chars.specs.Bytes.{CharAt}
use Rattle.chars.specs.Places.{stands_along}
use Rattle.chars.specs.View.{Stands, past, view}
use Rattle.gaps.specs.Breaks.{BreakAt}
use Rattle.reading.specs.Puts.{Puts, puts_then}
use Rattle.quoted.specs.declared.turns.Quote.{Quote}
use Rattle.quoted.specs.declared.turns.Progress.{Progress}
use Rattle.quoted.specs.declared.turns.Turned.{Turned}
use Rattle.quoted.specs.declared.turns.Turned.TheVariants.{Closes, Goes}
use Rattle.quoted.specs.Modes.{behind_break, blank_mode, break_mode, mode_of}
use Rattle.quoted.specs.Texts.{Stretch, before_stretch, passing}
use Rattle.quoted.specs.Advance.{Advances, Leads, TurnLeaves, Sound, blank_turned, break_turned, ended, led_to, quote_of, rest_of, turn_of, written}
use Rattle.quoted.proofs.Kept.{blank_is, blank_kept, blank_owed, break_is, break_kept, break_owed}
use Rattle.quoted.proofs.Putting.{take_blank, take_break}
use Rattle.quoted.proofs.Runs.{before_none, run_blank, run_break}

-- a text written before the rest
written_before : (out : List ℕ) (n : ℕ) (t : List ℕ) (r : Read Run) → written out n (before_read t r) ≡ written (sets out n (encode t)) (n + length (encode t)) r
unfolding written before_read
written_before out n t (got r) =
    let k : n + (length (encode t) + length (encode r.text)) ≡ n + length (encode t) + length (encode r.text) = omega arith in
    rw (encode_append t r.text, ← (sets_join (encode t) (encode r.text) out n), length-append (encode t) (encode r.text), k)
written_before out n t (refused k m) = refl

module _ {text : List ℕ} {q : Quote} {before after : List ℕ} {t : Progress} {r : Result Turned Refusal} where
  -- on to the state u, behind the text w
  pub goes_on : (w : List ℕ) (u : Progress) → record { text = w; mode = mode_of text u.place.at u.mode; place = view text u.place } ≡ turn_of text q t → rest_of text q t ≡ before_read w (rest_of text q u) → after ≡ sets before t.count (encode w)
      → u.count ≡ t.count + length (encode w) → Sound text u → t.place.at < u.place.at → r ≡ Ok (Goes u) → Advances text q before after t r
  unfolding led_to
  goes_on w u i e f g s h k =
      rw k
      (record {
        same = ap (written before t.count) e ∙ written_before before t.count w (rest_of text q u) ∙ rw (f, g);
        leaves = rw (← (ap (λ (d : Stretch). d.text) i)) (record { bytes = f; next = g });
        leads = (ap (λ (d : Stretch). d.mode) i, ap (λ (d : Stretch). d.place) i);
        onward = (s, h);
      })

  pub refused_at : (n : ℕ) (m : Mark) → rest_of text q t ≡ refused n m → r ≡ Err (record { number = n; mark = m })
      → length after ≡ length before → Advances text q before after t r
  unfolding led_to ended written
  refused_at n m e k z = rw k (record { same = rw e; leaves = z; leads = tt; onward = tt })

pub closed_at : {text : List ℕ} {q : Quote} {t : Progress} {r : Result Turned Refusal} (before : List ℕ) {p : Place} → [] ≡ (turn_of text q t).text
    → rest_of text q t ≡ got (record { text = []; place = view text p }) → Stands text p → t.place.at < p.at → t.count ≤ 3 * p.at
    → r ≡ Ok (Closes (record { count = t.count; place = p })) → Advances text q before before t r
unfolding led_to ended written encode
closed_at {t = t} before i e s h l k =
    let z : t.count + 0 ≡ t.count = omega arith in
    rw k (record { same = rw (e, z); leaves = rw (← i) (record { bytes = refl; next = omega arith }); leads = tt; onward = record { stands = s; onward = h; few = l } })

-- what was kept back is written first, on the spot
leaves_from : {before mid : List ℕ} {n k : ℕ} {w : List ℕ} (after t : List ℕ) (r : Result Turned Refusal) → Puts before n mid k w → TurnLeaves mid k after t r
    → TurnLeaves before n after (w ++ t) r
leaves_from after t (Ok (Goes u)) p h = puts_then p h
leaves_from after t (Ok (Closes u)) p h = puts_then p h
leaves_from {before} {n = n} {w = w} after t (Err f) p h = h ∙ ap length p.bytes ∙ length-sets before n (encode w)

leads_from : (text w : List ℕ) (d : Stretch) (r : Result Turned Refusal) → Leads text d r → Leads text (before_stretch w d) r
leads_from text w d (Ok (Goes u)) h = h
leads_from text w d (Ok (Closes u)) h = tt
leads_from text w d (Err f) h = tt

pub turns_from : {text : List ℕ} {q : Quote} {before mid after : List ℕ} {t u : Progress} {r : Result Turned Refusal} (w : List ℕ) → turn_of text q t ≡ before_stretch w (turn_of text q u)
    → rest_of text q t ≡ before_read w (rest_of text q u) → Puts before t.count mid u.count w → u.place.at ≡ t.place.at → Advances text q mid after u r
    → Advances text q before after t r
turns_from {text} {q} {before} {after = after} {t} {u} {r} w i e f h k =
    record {
      same = ap (written before t.count) e ∙ written_before before t.count w (rest_of text q u) ∙ rw (← f.bytes, ← f.next) k.same;
      leaves = rw i (leaves_from after (turn_of text q u).text r f k.leaves);
      leads = rw i (leads_from text w (turn_of text q u) r k.leads);
      onward = rw h at k.onward;
    }

-- over a blank
pub blank_turns : {text : List ℕ} {q : Quote} {t : Progress} {r : Result Turned Refusal} (before : List ℕ) {c : ℕ} → Sound text t → CharAt text t.place.at c 1
    → is_blank c ≡ true → r ≡ blank_turned q t c → Advances text q before before t r
unfolding encode passing
blank_turns {text} {q} {t} {r} before {c} s a b k =
    let l = (ascii_low blank_ascii c b).1 in
    let at = t.place.at in
    let m = t.place.mark in
    let e = run_blank (quote_of q) (mode_of text at t.mode) m c (chars (drop (at + 1) text)) b in
    let f = blank_is a l (quote_of q) m t.mode s.kept in
    let o = blank_owed text at t.mode s.kept in
    by_test (behind_break t.mode && eqb c tab && ltb (edge_of m) q.indent)
    (λ h. refused_at 36 m (rw a.next (e ∙ rw (f, h))) (k ∙ rw h) refl)
    (λ h. goes_on [] (record { place = past t.place 1 (along m); mode = blank_mode at t.mode; count = t.count })
    (rw (a.next, ← (take_blank (quote_of q) (mode_of text at t.mode) m c (chars (drop (at + 1) text)) b), f, h))
    (rw a.next (e ∙ rw (f, h))) refl (omega arith)
    (record {
      stands = stands_along s.stands 1 1 (omega arith) a.within;
      short = s.short;
      kept = blank_kept a l t.mode s.kept;
      few = omega (arith, s.few);
    })
    (omega arith) (k ∙ rw h))

-- over a break
pub break_turns : {text : List ℕ} {q : Quote} {t : Progress} {r : Result Turned Refusal} (before : List ℕ) {n : ℕ} → Sound text t → BreakAt text t.place n → n ≡ break_length (chars (drop t.place.at text))
    → r ≡ Ok (break_turned n t) → Advances text q before before t r
unfolding encode
break_turns {text} {q} {t} {r} before {n} s a e k =
    let p = t.place in
    let m = p.mark in
    let b = mode_of text p.at t.mode in
    let next = quoted_run (quote_of q) (mode_of text (p.at + n) (break_mode t.mode)) 0 (new_line n m) (chars (drop (p.at + n) text)) in
    let d : chars (drop (p.at + n) text) ≡ drop n (chars (drop p.at text)) = ap (λ (x : definition.Place). x.rest) a.moves.same in
    let o = break_owed text p.at (p.at + n) t.mode in
    goes_on [] _ (rw (← (break_is text p.at (p.at + n) t.mode), d) (take_break (quote_of q) b m (chars (drop p.at text)) a.is_break e))
    (run_break (quote_of q) b m a.breaks a.some ∙ rw (break_is text p.at (p.at + n) t.mode, ← d) (sym (before_none next))) refl (omega arith)
    (record { stands = a.moves.stands; short = s.short; kept = break_kept text p.at (p.at + n) t.mode; few = omega (arith, s.few, a.some) })
    (omega (arith, a.some)) k
