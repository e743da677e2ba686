-- Trailing octets, one by one.
use Rattle.std.specs.Prelude.{Ok, Err, Some, None, ⊤}
use Prim.Native.Nat.{◌*◌, ◌+◌, ◌-◌, ◌<◌, ◌≤◌, suc, ℕ}
use mathlib.Core.Bool.{false, true}
use mathlib.Core.List.{List, [], ◌++◌, ◌∷◌, append_assoc, append-nil}
use mathlib.Core.Path.{◌∙◌, ◌≡◌, ap, refl, sym}
use native.Mathlib.Numerals.{add-one}
use native.Mathlib.Omega.{arith}
use lib.ListN.{drop, length, length-set, set, take}
use lib.Seq.{sets, take-length, take-suc-set}
use Rattle.yaml_text.specs.declared.Mark.{Mark}
use Rattle.yaml_text.specs.Mark.{origin}
use Rattle.yaml_text.specs.Refusal.{Read, ◌>>=◌, got, need, refused}
use Rattle.yaml_text.specs.Utf8.{chars, is_tail}
use Rattle.yaml_lexeme.specs.Tag.{octet, trailing}
use Rattle.chars.specs.Reach.{Reach, none, reach_rest, reach_then}
use Rattle.escapes.specs.Parts.{OctetAt, Trails, tails}

-- further octets before what is read
unfoldable pub behind : List ℕ → Read (List ℕ) → Read (List ℕ)
behind done r = r >>= λ bs. got (done ++ bs)

behind_one : (done : List ℕ) (b : ℕ) (r : Read (List ℕ)) → behind done (behind (b ∷ []) r) ≡ behind (done ++ (b ∷ [])) r
unfolding behind ◌>>=◌
behind_one done b (got bs) = ap got (sym (append_assoc done (b ∷ []) bs))
behind_one done b (refused n m) = refl

behind_none : (r : Read (List ℕ)) → behind [] r ≡ r
unfolding behind ◌>>=◌
behind_none (got bs) = refl
behind_none (refused n m) = refl

module _ (start : Mark) (n : ℕ) (cs : List ℕ) where
  octet_more : (b : ℕ) → octet start cs ≡ got b → is_tail b ≡ true → trailing start (suc n) cs ≡ behind (b ∷ []) (trailing start n (drop 3 cs))
  unfolding trailing behind ◌>>=◌ need
  octet_more b e f = rw (e, f)

  octet_head : (b : ℕ) → octet start cs ≡ got b → is_tail b ≡ false → trailing start (suc n) cs ≡ refused 23 start
  unfolding trailing ◌>>=◌ need
  octet_head b e f = rw (e, f)

  octet_none : octet start cs ≡ refused 21 start → trailing start (suc n) cs ≡ refused 21 start
  unfolding trailing ◌>>=◌
  octet_none e = rw e

-- and those that are stored
module _ (n : ℕ) (cs : List ℕ) where
  tails_more : (b : ℕ) → octet origin cs ≡ got b → is_tail b ≡ true → tails (suc n) cs ≡ b ∷ tails n (drop 3 cs)
  unfolding tails
  tails_more b e f = rw (e, f)

  tails_head : (b : ℕ) → octet origin cs ≡ got b → is_tail b ≡ false → tails (suc n) cs ≡ []
  unfolding tails
  tails_head b e f = rw (e, f)

  tails_none : {k : ℕ} {m : Mark} → octet origin cs ≡ refused k m → tails (suc n) cs ≡ []
  unfolding tails
  tails_none e = rw e

-- The octets at a place, as they go on after the first i, which stand in out: what is left gives the whole.
pub record Trailed (text : List ℕ) (at : ℕ) (start : Mark) (before out : List ℕ) (i : ℕ) : Type 0 where
  pub same : length out ≡ length before
  pub read : Reach text at (3 * i) (at + 3 * i)
  pub whole : trailing start (length before) (chars (drop at text))
      ≡ behind (take i out) (trailing start (length out - i) (chars (drop (at + 3 * i) text)))
  pub stored : sets before 0 (tails (length before) (chars (drop at text))) ≡ sets out i (tails (length out - i) (chars (drop (at + 3 * i) text)))

pub trailed_start : (text : List ℕ) (at : ℕ) (start : Mark) (out : List ℕ) → Trailed text at start out out 0
trailed_start text at start out =
    let e : at + 0 ≡ at = omega arith in
    let z : length out - 0 ≡ length out = omega arith in
    record { same = refl; read = rw e none; whole = rw (e, z) (sym (behind_none _)); stored = rw (e, z) }

module _ {text : List ℕ} {at : ℕ} {start : Mark} {before out : List ℕ} {i : ℕ} (w : Trailed text at start before out i) (h : i < length before) where
  within : i < length out
  within = rw w.same h

  left : length out - i ≡ suc (length out - (i + 1))
  left = let l = within in omega arith

  pub trailed_more : {b : ℕ} → OctetAt text (at + 3 * i) (Some b) → is_tail b ≡ true → Trailed text at start before (set out i b) (i + 1)
  trailed_more {b} o f =
      let s : 3 * (i + 1) ≡ 3 * i + 3 = omega arith in
      let t : at + (3 * i + 3) ≡ at + 3 * i + 3 = omega arith in
      let r = length-set out i b in
      let more : trailing start (length out - i) (chars (drop (at + 3 * i) text))
      ≡ behind (b ∷ []) (trailing start (length out - (i + 1)) (chars (drop (at + 3 * i + 3) text)))
      = rw (left, reach_rest o.found.1) (octet_more start (length out - (i + 1)) (chars (drop (at + 3 * i) text)) b (o.same start) f) in
      record {
        same = r ∙ w.same;
        read = rw (s, t) (reach_then w.read o.found.1);
        whole = w.whole ∙ rw (more, behind_one, s, t, r, add-one, take-suc-set out i b within);
        stored = w.stored
            ∙ rw (left, tails_more (length out - (i + 1)) (chars (drop (at + 3 * i) text)) b (o.same origin) f, s, t, r, reach_rest o.found.1, add-one i);
      }

  stops : {k : ℕ} → trailing start (suc (length out - (i + 1))) (chars (drop (at + 3 * i) text)) ≡ refused k start
      → tails (suc (length out - (i + 1))) (chars (drop (at + 3 * i) text)) ≡ []
      → Trails text at start before out (Err (record { number = k; mark = start }))
  unfolding behind ◌>>=◌
  stops e f = record { read = record { same = w.whole ∙ rw (left, e); found = tt }; bytes = sym (w.stored ∙ rw (left, f)) }

  pub trailed_head : {b : ℕ} → OctetAt text (at + 3 * i) (Some b) → is_tail b ≡ false
      → Trails text at start before out (Err (record { number = 23; mark = start }))
  trailed_head {b} o f =
      let n = length out - (i + 1) in
      let cs = chars (drop (at + 3 * i) text) in
      stops (octet_head start n cs b (o.same start) f) (tails_head n cs b (o.same origin) f)

  pub trailed_none : OctetAt text (at + 3 * i) None → Trails text at start before out (Err (record { number = 21; mark = start }))
  trailed_none o =
      let n = length out - (i + 1) in
      let cs = chars (drop (at + 3 * i) text) in
      stops (octet_none start n cs (o.same start)) (tails_none n cs (o.same origin))

pub trailed_done : {text : List ℕ} {at : ℕ} {start : Mark} {before out : List ℕ} {i : ℕ} {u : ⊤} → Trailed text at start before out i
    → i ≤ length before → length before ≤ i → Trails text at start before out (Ok u)
unfolding trailing behind ◌>>=◌ tails
trailed_done {out = out} {i = i} w k h =
    let e : i ≡ length out = omega (arith, w.same) in
    let z : length out - length out ≡ 0 = omega arith in
    let u = rw e at w in
    record {
      read = record { same = u.whole ∙ rw (z, take-length, append-nil); found = rw (← w.same) u.read };
      bytes = sym (u.stored ∙ rw z);
    }
