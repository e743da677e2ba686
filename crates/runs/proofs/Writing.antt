-- A run of URI characters, one by one: what is left gives the whole.
use Prim.Native.Nat.{◌+◌, ◌<◌, ◌≤◌, suc, zero, ℕ}
use Rattle.std.specs.Prelude.{Result, Ok, Err}
use mathlib.Core.Bool.{Bool, false, true}
use mathlib.Core.List.{List, [], ◌∷◌}
use mathlib.Core.Path.{◌∙◌, ◌≡◌, ap, refl, sym}
use native.Mathlib.Numerals.{add-one}
use native.Mathlib.Omega.{arith}
use lib.Dec.{eqb}
use lib.ListN.{drop, get_or, length, length-set, set}
use lib.Seq.{length-sets, sets}
use borrow.Author.Tests.{ne_eqb}
use Rattle.rooms.specs.Room.{cleared, cleared_sets}
use Rattle.yaml_text.specs.declared.Mark.{Mark}
use Rattle.yaml_text.specs.declared.Refusal.{Refusal}
use Rattle.yaml_text.specs.All.{All, all_any, all_bind, all_got, holds}
use Rattle.yaml_text.specs.Char.{'%'}
use Rattle.yaml_text.specs.Class.{peek}
use Rattle.yaml_text.specs.Mark.{along, along_by, here, look, nothing_at, skip_by}
use Rattle.yaml_text.specs.Mark as definition
use Rattle.yaml_text.specs.Refusal.{Read, ◌>>=◌, before_read, got, refused}
use Rattle.yaml_text.specs.Test.{by_test}
use Rattle.yaml_text.specs.Utf8.{char_bytes, chars, encode}
use Rattle.yaml_lexeme.specs.Escape.{Escaped}
use Rattle.yaml_lexeme.specs.EscapeFits.{Took, percent_fit}
use Rattle.yaml_lexeme.specs.Tag.{percent, uri_at, uri_run}
use Rattle.yaml_lexeme.specs.Token.{size}
use Rattle.yaml_lexeme.specs.Turns.{uri_escape, uri_more, uri_passed, uri_stop}
use Rattle.chars.specs.declared.mark.Place.{Place}
use Rattle.chars.specs.Ascii.{Ascii}
use Rattle.chars.specs.Bytes.{CharAt, ascii_at}
use Rattle.chars.specs.Places.{stands_along}
use Rattle.chars.specs.Reach.{reach_rest}
use Rattle.chars.specs.View.{Stands, past, view}
use Rattle.escapes.specs.declared.answer.Escaped as code
use Rattle.escapes.specs.Escaped.{Escapes, escape_from}
use Rattle.reading.specs.declared.Written.{Written}
use Rattle.runs.specs.Encode.{bytes_some, encode_ascii, encode_one}
use Rattle.runs.specs.Run.{WritesOr, one_char, seen_run, written}
use Rattle.runs.specs.RunLaws.{ran, run_refused, written_before}
use Rattle.runs.proofs.Percent.{EscapeRead, percent_read}

module _ (f : ℕ → Bool) (start : Mark) where
  -- k characters that are passed over first
  uri_skip : (k : ℕ) (m : Mark) (cs : List ℕ) → k ≤ length cs → uri_run f start k m cs ≡ uri_run f start 0 (along_by k m) (drop k cs)
  uri_skip zero m cs h = let i : m.index + 0 ≡ m.index = omega arith in let j : m.col + 0 ≡ m.col = omega arith in rw (i, j)
  uri_skip (suc k) m [] h = absurd (omega arith)
  uri_skip (suc k) m (c ∷ cs) h =
      let i : m.index + 1 + k ≡ m.index + suc k = omega arith in
      let j : m.col + 1 + k ≡ m.col + suc k = omega arith in
      uri_passed f start k m c cs ∙ uri_skip k (along m) cs (omega arith) ∙ rw (i, j)

  after : definition.Run → Read definition.Run
  after r = before_read r.text (uri_at f start r.place)

  escaped : (m : Mark) (c : ℕ) (cs : List ℕ) (d : Read Escaped) → All Escaped (Took (length cs)) d
      → (d >>= λ e. before_read (e.char ∷ []) (uri_run f start e.took (along m) cs))
      ≡ (d >>= λ e. got (record { text = e.char ∷ []; place = skip_by (e.took + 1) (here m (c ∷ cs)) })) >>= after
  unfolding ◌>>=◌ after
  escaped m c cs (got x) (holds h) =
      let i : m.index + 1 + x.took ≡ m.index + (x.took + 1) = omega arith in
      let j : m.col + 1 + x.took ≡ m.col + (x.took + 1) = omega arith in
      rw (uri_skip x.took (along m) cs h.1, i, j, add-one x.took)
  escaped m c cs (refused n k) h = refl

  -- no character of the class stands here
  uri_none : (m : Mark) (cs : List ℕ) → f (peek cs 0) ≡ false → uri_run f start 0 m cs ≡ got (nothing_at (here m cs))
  unfolding uri_run
  uri_none m [] e = refl
  uri_none m (c ∷ cs) e = uri_stop f start m c cs e

  -- a turn: the character here, and what follows it
  uri_turned : (m : Mark) (c : ℕ) (cs : List ℕ) → f c ≡ true → uri_run f start 0 m (c ∷ cs) ≡ one_char start (here m (c ∷ cs)) >>= after
  unfolding one_char ◌>>=◌ after
  uri_turned m c cs e =
      by_test (eqb c '%')
      (λ g. uri_escape f start m c cs e g ∙ escaped m c cs (percent start (c ∷ cs)) (percent_fit start c cs) ∙ rw (g, one_char))
      (λ g. uri_more f start m c cs e g ∙ rw (g, one_char))

-- an escape that was read
record Told (s : List ℕ) (p : Place) (x : code.Escaped) (d : Read Escaped) : Type 0 where
  escaped_is : Escaped
  is : d ≡ got escaped_is
  char : x.code ≡ escaped_is.char
  next : x.next ≡ past p (escaped_is.took + 1) (along_by (escaped_is.took + 1) p.mark)
  read : EscapeRead s p.at escaped_is

ok_is : {A E : Type 0} {a b : A} → ◌≡◌ {A = Result A E} (Ok a) (Ok b) → a ≡ b
ok_is e = cc

told : {s : List ℕ} {p : Place} {x : code.Escaped} {d : Read Escaped} → All Escaped (EscapeRead s p.at) d → Ok x ≡ escape_from p d → Told s p x d
unfolding escape_from
told {d = got y} (holds h) e =
    let w = ok_is e in
    record { escaped_is = y; is = refl; char = ap (λ (z : code.Escaped). z.code) w; next = ap (λ (z : code.Escaped). z.next) w; read = h }
told {d = refused n m} h e = cc

told_refused : (p : Place) {f : Refusal} (d : Read Escaped) → Err f ≡ escape_from p d → d ≡ refused f.number f.mark
unfolding escape_from
told_refused p (got x) e = cc
told_refused p {f} (refused n m) e = ap (λ (r : Refusal). refused r.number r.mark) (refusal (sym e))
  where
    refusal : ◌≡◌ {A = Result code.Escaped Refusal} (Err (record { number = n; mark = m })) (Err f) → record { number = n; mark = m } ≡ f
    refusal g = cc

module _ (start : Mark) where
  one_plain : (m : Mark) (c : ℕ) (cs : List ℕ) → eqb c '%' ≡ false → one_char start (here m (c ∷ cs)) ≡ got (record { text = c ∷ []; place = here (along m) cs })
  unfolding one_char
  one_plain m c cs e = rw (e, one_char)

  one_escape : {s : List ℕ} (p : Place) → CharAt s p.at '%' 1
      → one_char start (view s p)
      ≡ percent start (chars (drop p.at s)) >>= λ e. got (record { text = e.char ∷ []; place = skip_by (e.took + 1) (view s p) })
  unfolding one_char
  one_escape {s} p a = let e : eqb (peek (chars (drop p.at s)) 0) '%' ≡ true = rw a.next in rw (e, one_char)

-- the three answers to a character
module _ {s before after : List ℕ} {p : Place} {n : ℕ} (start : Mark) (h : Stands s p) where
  pub put_plain : {c : ℕ} {q : Place} → CharAt s p.at c 1 → c < 128 → (c ≡ '%' → ⊥) → after ≡ set before n c → q ≡ past p 1 (along p.mark)
      → WritesOr s before after before p n (Ok (record { count = n + 1; place = q })) (one_char start (view s p))
  unfolding seen_run written
  put_plain {c} a low e o g =
      let i : one_char start (view s p) ≡ got (record { text = c ∷ []; place = view s (past p 1 (along p.mark)) })
      = rw a.next (one_plain start p.mark c (chars (drop (p.at + 1) s)) (ne_eqb c '%' e)) in
      rw g
      (record {
        writes = record {
          same = rw (i, encode_ascii c low, o);
          kept = ap length o ∙ length-set before n c;
          ahead = (stands_along h 1 1 (omega arith) a.within, omega arith);
        };
        leaves = tt;
      })

  module _ {x : Result code.Escaped Refusal} (a : CharAt s p.at '%' 1) (g : Escapes s p x (percent start (chars (drop p.at s)))) where
    pub put_escape : {e : code.Escaped} {k : ℕ} → x ≡ Ok e → after ≡ sets before n (char_bytes e.code) → k ≡ n + length (char_bytes e.code)
        → WritesOr s before after before p n (Ok (record { count = k; place = e.next })) (one_char start (view s p))
    unfolding seen_run written ◌>>=◌
    put_escape {e} {k} i o l =
        let t = told (percent_read start s p.at) (sym i ∙ g.same) in
        let m = t.escaped_is.took + 1 in
        let v = e.code in
        let w : view s e.next ≡ skip_by m (view s p) = ap (view s) t.next ∙ ap (here (along_by m p.mark)) (reach_rest t.read.reach) in
        let few = rw (← t.char) at t.read.few in
        record {
          writes = record {
            same = rw (one_escape start p a, t.is, encode_one t.escaped_is.char, ← t.char, o, l)
                (ap (λ (y : definition.Place). got (record { place = y; next = n + length (char_bytes v); bytes = sets before n (char_bytes v) })) w);
            kept = ap length o ∙ length-sets before n (char_bytes v);
            ahead = ((rw i at g.ahead).1, omega (arith, l, ap (λ (y : Place). y.at) t.next));
          };
          leaves = tt;
        }

    pub put_refused : {f : Refusal} → x ≡ Err f → after ≡ before → WritesOr s before after before p n (Err f) (one_char start (view s p))
    unfolding seen_run written ◌>>=◌
    put_refused i o =
        record {
          writes = record { same = rw (one_escape start p a, told_refused p (percent start (chars (drop p.at s))) (sym i ∙ g.same)); kept = ap length o; ahead = tt };
          leaves = o;
        }

-- a character is written as a byte or more
one_some : (start : Mark) (p : definition.Place) → All definition.Run (λ r. 1 ≤ size r.text) (one_char start p)
unfolding one_char
one_some start p =
    let some : (c : ℕ) → 1 ≤ size (c ∷ []) = λ c. rw (encode_one c) (bytes_some c) in
    by_test (eqb (look p) '%')
    (λ e. rw (e, one_char) (all_bind _ (all_any (percent start p.rest)) (λ x _. holds (some x.char))))
    (λ e. rw (e, one_char) (holds (some (look p))))

pub record Running (f : ℕ → Bool) (start : Mark) (s before : List ℕ) (p : Place) (n : ℕ) (out : List ℕ) (w : Written) : Type 0 where
  pub stands : Stands s w.place
  pub few : w.count + p.at ≤ n + w.place.at
  pub many : n ≤ w.count
  pub kept : length out ≡ length before
  pub clears : cleared out n ≡ cleared before n
  pub whole : written before n (uri_at f start (view s p)) ≡ written out w.count (uri_at f start (view s w.place))

module _ {f : ℕ → Bool} {start : Mark} {s before out : List ℕ} {p : Place} {n : ℕ} {v : Written} (w : Running f start s before p n out v) where
  pub running_stop : {c : ℕ} → Ascii f → c ≡ get_or s v.place.at 0 → f c ≡ false
      → WritesOr s before out (cleared before n) p n (Ok v) (uri_at f start (view s p))
  unfolding seen_run written encode
  running_stop {c} a b e =
      let z : v.count + 0 ≡ v.count = omega arith in
      let stop = uri_none f start v.place.mark (chars (drop v.place.at s)) (ascii_at s v.place.at c b a ∙ e) in
      record { writes = record { same = sym (w.whole ∙ rw (stop, z)); kept = w.kept; ahead = (w.stands, w.few) }; leaves = tt }

  module _ {c : ℕ} {out' : List ℕ} {r : Result Written Refusal} (a : CharAt s v.place.at c 1) (e : f c ≡ true)
      (g : WritesOr s out out' out v.place v.count r (one_char start (view s v.place))) where
    turn : uri_at f start (view s v.place) ≡ one_char start (view s v.place) >>= after f start
    turn = rw a.next (uri_turned f start v.place.mark c (chars (drop (v.place.at + 1) s)) e)

    -- the room is cleared from n on
    pub running_refused : {x : Refusal} {out'' : List ℕ} → r ≡ Err x → out'' ≡ cleared out' n → length out'' ≡ length out'
        → WritesOr s before out'' (cleared before n) p n r (uri_at f start (view s p))
    unfolding seen_run written ◌>>=◌
    running_refused i o l =
        record {
          writes = record { same = rw i (sym (w.whole ∙ rw (turn, run_refused g.writes i))); kept = l ∙ g.writes.kept ∙ w.kept; ahead = rw i tt };
          leaves = rw i (o ∙ ap (λ (x : List ℕ). cleared x n) (rw i at g.leaves) ∙ w.clears);
        }

    module _ {v' : Written} (i : r ≡ Ok v') where
      pub running_on : v.place.at < v'.place.at
      running_on = let t = ran g.writes i in omega (arith, t.few, t.next, all_got (one_some start (view s v.place)) t.is)

      pub running_more : Running f start s before p n out' v'
      unfolding after ◌>>=◌
      running_more =
          let t = ran g.writes i in
          record {
            stands = t.stands;
            few = omega (arith, t.few, w.few);
            many = omega (arith, t.next, w.many);
            kept = g.writes.kept ∙ w.kept;
            clears = rw t.bytes (cleared_sets (encode t.run) out n v.count w.many) ∙ w.clears;
            whole = w.whole ∙ rw (turn, t.is) (written_before out v.count t.run (uri_at f start (view s v'.place)) ∙ rw (← t.bytes, ← t.next));
          }
