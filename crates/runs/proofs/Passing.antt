-- A run of a class, character by character: what is left gives the whole.
use Prim.Native.Nat.{◌+◌, ◌≤◌, ℕ}
use mathlib.Core.Bool.{Bool, false, true}
use mathlib.Core.List.{List, [], ◌++◌, ◌∷◌, append_assoc, append-nil}
use mathlib.Core.Path.{◌∙◌, ◌≡◌, ap, sym}
use native.Mathlib.Omega.{arith}
use lib.ListN.{drop}
use Rattle.yaml_text.specs.declared.Decoded.{Decoded}
use Rattle.yaml_text.specs.Mark.{Run, along, before_run, nothing_at, run_of}
use Rattle.yaml_text.specs.MarkLaws.{run_of_more, run_of_stop}
use Rattle.yaml_text.specs.Utf8.{char_bytes, chars, encode, first}
use Rattle.chars.specs.declared.mark.Place.{Place}
use Rattle.chars.specs.Bytes.{CharAt, NoChar, none_told}
use Rattle.chars.specs.Parts.{Spans, part, part_more}
use Rattle.chars.specs.Places.{stands_along}
use Rattle.chars.specs.View.{Stands, past, view}

abbrev run : (ℕ → Bool) → List ℕ → Place → Run
run f s p = run_of f p.mark (chars (drop p.at s))

pub record Passing (f : ℕ → Bool) (s : List ℕ) (p q : Place) : Type 0 where
  pub stands : Stands s q
  pub onward : p.at ≤ q.at
  pub place : (run f s p).place ≡ (run f s q).place
  pub bytes : encode (run f s p).text ≡ part s p.at q.at ++ encode (run f s q).text

module _ {f : ℕ → Bool} {s : List ℕ} {p q : Place} (w : Passing f s p q) where
  pub passing_more : {c n : ℕ} → CharAt s q.at c n → f c ≡ true → Passing f s p (past q n (along q.mark))
  unfolding encode
  passing_more {c} {n} a t =
      let r = past q n (along q.mark) in
      let turn : run f s q ≡ before_run (c ∷ []) (run f s r) = rw a.next (run_of_more f q.mark c (chars (drop (q.at + n) s)) t) in
      record {
        stands = stands_along w.stands n 1 a.some a.within;
        onward = omega (arith, w.onward);
        place = w.place ∙ ap (λ (x : Run). x.place) turn;
        bytes = w.bytes
            ∙ rw (turn, part_more s p.at w.onward a) (sym (append_assoc (part s p.at q.at) (char_bytes c) (encode (run f s r).text)));
      }

  done : run f s q ≡ nothing_at (view s q) → Spans s p q (run f s p)
  unfolding encode
  done e =
      record {
        moves = record { same = sym (w.place ∙ ap (λ (x : Run). x.place) e); stands = w.stands; onward = w.onward };
        bytes = w.bytes ∙ rw e (append-nil (part s p.at q.at));
      }

  pub passing_stop : {c n : ℕ} → CharAt s q.at c n → f c ≡ false → Spans s p q (run f s p)
  passing_stop {c} {n} a t = done (rw a.next (run_of_stop f q.mark c (chars (drop (q.at + n) s)) t))

  pub passing_end : {d : Decoded} → d ≡ first (drop q.at s) → NoChar d → Spans s p q (run f s p)
  unfolding run_of
  passing_end e k = done (rw (none_told s q.at e k))
