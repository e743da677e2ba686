-- What follows the closing quote, and the scalar that is read.
use Prim.Native.Nat.{◌%◌, ◌*◌, ◌+◌, ◌<◌, ◌^◌, ◌≤◌, ℕ}
use mathlib.Core.Bool.{Bool, false, true}
use mathlib.Core.List.{List}
use mathlib.Core.Path.{◌∙◌, ◌≡◌, ap, refl, sym}
use native.Mathlib.Omega.{arith}
use lib.Dec.{eqb}
use lib.ListN.{drop, get_or, length}
use Rattle.std.proofs.Common.{Err, Ok, Result}
use lib.Seq.{sets}
use Rattle.yaml_text.specs.declared.Refusal.{Refusal}
use Rattle.yaml_text.specs.All.{All, all_any, all_bind, all_need, holds, not_read}
use Rattle.yaml_text.specs.Class.{peek}
use Rattle.yaml_text.specs.Mark.{Run, along, look}
use Rattle.yaml_text.specs.Mark as definition
use Rattle.yaml_text.specs.Refusal.{Read, ◌>>=◌, got, need, refused}
use Rattle.yaml_text.specs.Test.{by_test}
use Rattle.yaml_text.specs.Utf8.{chars, encode}
use Rattle.yaml_lexeme.specs.Gap.{blanks_and_comment}
use Rattle.yaml_lexeme.specs.Quoted.{chars_of, fits_after, quoted_run, scan_flow_scalar}
use Rattle.yaml_lexeme.specs.Quoted as quotes
use Rattle.yaml_lexeme.specs.Record.{laid}
use Rattle.yaml_lexeme.specs.Token.{Lexeme, kind_bytes, token_bytes}
use Rattle.chars.specs.declared.mark.Place.{Place}
use Rattle.chars.specs.Bytes.{byte_char}
use Rattle.chars.specs.View.{view}
use Rattle.reading.specs.declared.Lexeme as code
use Rattle.reading.specs.declared.Written.{Written}
use Rattle.reading.specs.Answers.{Reads, answers_refused}
use Rattle.reading.specs.Reading.{Indicated, ReachesAs, first_at, laid_read, seen, seen_place, text_size}
use Rattle.reading.specs.Scalars.{scalar_at}
use Rattle.quoted.specs.declared.turns.Quote.{Quote}
use Rattle.quoted.specs.After.{Follows, after_run, followed, held_after, held_to, scalar_to, style_of}
use Rattle.quoted.specs.Advance.{QuotedText, RunEnds, ended, quote_of, written}

module _ (flow : Bool) (q : Quote) (used n : ℕ) {text : List ℕ} {p : Place} {x : Result Place Refusal} {r : Result code.Lexeme Refusal} (w : ReachesAs text p x (blanks_and_comment (view text p))) where
  pub follows_stuck : {f : Refusal} → x ≡ Err f → r ≡ Err f → Follows text r (held_after flow (quote_of q) used n (view text p))
  unfolding held_after ◌>>=◌ seen_place seen
  follows_stuck e g = let k = sym (rw e at w.same) in rw (g, k) (record { same = refl; ahead = tt })

  module _ {e : Place} (f : x ≡ Ok e) {b : Bool} {c : ℕ} (g : c ≡ peek (chars (drop e.at text)) 0)
      (h : b ≡ fits_after flow (eqb q.start.line e.mark.line) c) where
    -- 40
    pub follows_wrong : b ≡ false → r ≡ Err (record { number = 40; mark = e.mark }) → Follows text r (held_after flow (quote_of q) used n (view text p))
    unfolding held_after ◌>>=◌ need seen_place seen
    follows_wrong u k =
        let l = sym (rw f at w.same) in
        rw (k, l, ← g, ← h, u) (record { same = refl; ahead = tt })

    pub follows_got : b ≡ true → 1 ≤ p.at → n ≤ 3 * p.at → r ≡ Ok (scalar_at (style_of (quote_of q)) used n q.start e)
        → Follows text r (held_after flow (quote_of q) used n (view text p))
    unfolding held_after ◌>>=◌ need seen_place seen text_size
    follows_got u i j k =
        let y = rw f at w in
        rw (k, sym y.same, ← g, ← h, u)
        (record { same = refl; ahead = record { stands = y.onward.0; some = omega (arith, y.onward.1); size = omega (arith, y.onward.1) } })

-- of a text of so many bytes it is what the definition answers
held_is : (flow : Bool) (q : quotes.Quote) (used : ℕ) (t : List ℕ) (d : Read definition.Place) → length (encode t) < 2 ^ 32
    → d >>= followed flow q (held_to q used (length (encode t))) ≡ laid_read used (d >>= followed flow q (scalar_to q t))
unfolding ◌>>=◌ need laid_read laid
held_is flow q used t (got e) l =
    let k : length (encode t) % 2 ^ 32 ≡ length (encode t) = omega arith in
    by_test (fits_after flow (eqb q.start.line e.mark.line) (look e)) (λ f. rw (f, k)) (λ f. rw f)
held_is flow q used t (refused n m) l = refl

-- the bytes of a scalar are those of its text
holds_after : (flow : Bool) (q : quotes.Quote) (before after : List ℕ) (x : Run) → after ≡ sets before 0 (encode x.text)
    → All Lexeme (λ l. after ≡ sets before 0 (token_bytes l.token)) (after_run flow q x)
unfolding after_run kind_bytes
holds_after flow q before after x e = all_bind _ (all_any (blanks_and_comment x.place)) (λ p _. all_need _ 40 p.mark _ (holds e))

-- from its first byte on, the scalar is its run and what follows
scan_is : (flow : Bool) (q : Quote) {text : List ℕ} {used : ℕ} → Indicated text q.start used
    → quoted_run (quote_of q) chars_of 0 (along q.start) (chars (drop 1 text)) >>= after_run flow (quote_of q)
    ≡ scan_flow_scalar flow q.single q.indent (view text (first_at q.start))
unfolding scan_flow_scalar after_run
scan_is flow q {text} h = rw (byte_char text 0 (get_or text 0 0) refl h.some h.ascii).next

abbrev whole : Bool → Quote → List ℕ → Read Lexeme
whole flow q text = scan_flow_scalar flow q.single q.indent (view text (first_at q.start))

module _ (flow : Bool) (q : Quote) {text before after : List ℕ} {used : ℕ} where
  -- the text stands in the room, and what follows it writes nothing
  closed_by : {r : Result code.Lexeme Refusal} (x : Read Run) (u : Written) → written before 0 x ≡ ended text after (Ok u) → length after ≡ length before
      → u.count < 2 ^ 32 → Follows text r (held_after flow (quote_of q) used u.count (view text u.place))
      → Reads text before after used r (x >>= after_run flow (quote_of q))
  unfolding written ended ◌>>=◌ held_after after_run
  closed_by (got x) u e l s f =
      let t = encode x.text in
      let w : ◌≡◌ {A = QuotedText} (record { bytes = after; count = u.count; place = view text u.place }) (record { bytes = sets before 0 t; count = 0 + length t; place = x.place }) = cc in
      let k = ap (λ (y : QuotedText). y.count) w in
      let g : view text u.place ≡ x.place = ap (λ (y : QuotedText). y.place) w in
      let z : u.count ≡ length t = omega arith in
      let i = held_is flow (quote_of q) used x.text (blanks_and_comment x.place) (omega arith) in
      record {
        answers = record { same = f.same ∙ rw (g, z) i; ahead = f.ahead };
        texts = holds_after flow (quote_of q) before after x (ap (λ (y : QuotedText). y.bytes) w);
        kept = l;
      }
  closed_by (refused k m) u e l s f = cc

  refused_by : {r : Result code.Lexeme Refusal} (x : Read Run) {f : Refusal} → written before 0 x ≡ ended text after (Err f) → length after ≡ length before → r ≡ Err f
      → Reads text before after used r (x >>= after_run flow (quote_of q))
  unfolding written ended ◌>>=◌
  refused_by (got x) e z g = cc
  refused_by (refused k m) {f} e z g =
      let i : k ≡ f.number = cc in
      let j : m ≡ f.mark = cc in
      rw (i, j) (record { answers = answers_refused g refl; texts = not_read; kept = z })

  pub scan_closed : {r : Result code.Lexeme Refusal} {u : Written} → Indicated text q.start used → RunEnds text q before after (Ok u)
      → Follows text r (held_after flow (quote_of q) used u.count (view text u.place)) → Reads text before after used r (whole flow q text)
  scan_closed {u = u} h w f =
      let l : u.count < 2 ^ 32 = omega (arith, w.behind.few, w.behind.stands.within, h.given.stands.index) in
      rw (← (scan_is flow q h)) (closed_by _ u w.same w.kept l f)

  pub scan_refused : {r : Result code.Lexeme Refusal} {f : Refusal} → Indicated text q.start used → RunEnds text q before after (Err f) → r ≡ Err f
      → Reads text before after used r (whole flow q text)
  scan_refused h w g = rw (← (scan_is flow q h)) (refused_by _ w.same w.kept g)
