-- Whether a text passes: one step over a character other than NUL, and where none begins.
use Prim.Native.Nat.{◌+◌, ◌<◌, ◌≤◌, pred, suc, zero, ℕ}
use mathlib.Core.Bool.{Bool, false, not, true}
use mathlib.Core.List.{List, [], ◌∷◌}
use mathlib.Core.Logic.{inl, inr}
use mathlib.Core.Path.{◌∙◌, ◌≡◌, ap, refl, sym}
use native.Mathlib.Omega.{arith}
use lib.ListN.{drop, drop_of_length-le, get_or, length, length-drop}
use lib.Seq.{drop-drop}
use borrow.Author.Tests.{eqb-false, eqb-true}
use Rattle.yaml_text.specs.declared.Decoded.{Decoded}
use Rattle.yaml_text.specs.declared.Decoded.TheVariants.{Char, End, Ill}
use Rattle.yaml_text.specs.declared.Mark.{Mark}
use Rattle.yaml_text.specs.Utf8.{first}
use Rattle.yaml_text.specs.Class.{is_z, peek}
use Rattle.yaml_text.specs.Mark.{origin, over}
use Rattle.yaml_text.specs.Refusal.{Read, ◌>>=◌, got, need}
use Rattle.yaml_text.specs.Decode.{decode, decoded_char}
use Rattle.yaml_text.specs.Test.{by_test, true_false}
use Rattle.yaml_text.proofs.Utf8Laws.{first_fits}
use Rattle.std.specs.Prelude.{None, Some, Ok, Err, Result}
use Rattle.std.proofs.lemmas.Option.{none-some, same_Some}
use Rattle.yaml_text.specs.declared.Refusal.{Refusal}
use Rattle.validity.specs.Checked.{checked}
use Rattle.validity.specs.Sound.{PassesTo, good_len, onto, passes, past, sound, stops}
use Rattle.validity.proofs.DecodeTurns.{checked_char, some_left, turn, turn_none, turn_nul}

pub passes_sound : (r : Result (Unit {0}) Refusal) → passes r ≡ true → Ok tt ≡ r
passes_sound (Ok u) e = refl
passes_sound (Err x) e = true_false (sym e)

-- whether a text passes does not depend on the mark
free_char : (d : Decoded) (m m' : Mark) (go go' : ℕ → ℕ → Read (List ℕ)) → ((c n : ℕ) → passes (checked (go c n)) ≡ passes (checked (go' c n)))
    → passes (checked (decoded_char d m go)) ≡ passes (checked (decoded_char d m' go'))
unfolding need ◌>>=◌ checked
free_char (Char c n) m m' go go' h = by (not (is_z c))
  where
    by : (b : Bool) → passes (checked (need b 3 m >>= λ _. go c (pred n) >>= λ cs. got (c ∷ cs)))
        ≡ passes (checked (need b 3 m' >>= λ _. go' c (pred n) >>= λ cs. got (c ∷ cs)))
    by true = rw (checked_char c (go c (pred n)), checked_char c (go' c (pred n))) (h c (pred n))
    by false = refl
free_char Ill m m' go go' h = refl
free_char End m m' go go' h = refl

mark_free : (k : ℕ) (m m' : Mark) (l : List ℕ) → passes (checked (decode k m l)) ≡ passes (checked (decode k m' l))
unfolding decode
mark_free k m m' [] = refl
mark_free zero m m' (a ∷ t) = free_char (first (a ∷ t)) m m' _ _ (λ c n. mark_free n (over m c (peek t 0)) (over m' c (peek t 0)) t)
mark_free (suc k) m m' (a ∷ t) = mark_free k m m' t

pub sound_char : (l : List ℕ) (c n : ℕ) → first l ≡ Char c n → (c ≡ 0 → ⊥) → sound l ≡ sound (drop n l)
sound_char l c n e z = ap passes (turn origin l c n e z) ∙ mark_free 0 (over origin c (get_or l 1 0)) origin (drop n l)

pub sound_past : (s : List ℕ) (at : ℕ) → length s ≤ at → sound (drop at s) ≡ true
unfolding decode checked
sound_past s at h = rw drop_of_length-le

-- a character other than NUL
by_good : {P : Type 0} (d : Decoded) (n : ℕ) → Some n ≡ good_len d → ((c : ℕ) → d ≡ Char c n → (c ≡ 0 → ⊥) → P) → P
unfolding is_z
by_good (Char c k) n e f =
    by_test (is_z c)
    (λ q. let z : Some n ≡ None = rw q at e in absurd (none-some n (sym z)))
    (λ q. let g : n ≡ k = same_Some n k (rw q at e) in f c (rw g) (eqb-false c 0 q))
by_good Ill n e f = absurd (none-some n (sym e))
by_good End n e f = absurd (none-some n (sym e))

-- one step of the pass, over n bytes
pub record PassStep (s : List ℕ) (at n : ℕ) : Type 0 where
  pub some : 1 ≤ n
  pub within : at + n ≤ length s
  pub same : sound (drop at s) ≡ sound (drop (at + n) s)

pub next : (s : List ℕ) (at n : ℕ) → at ≤ length s → Some n ≡ good_len (first (drop at s)) → PassStep s at n
next s at n h e = by_good (first (drop at s)) n e (λ c f q.
    let fits = first_fits (drop at s) c n f in
    let l = length-drop at s in
    record { some = omega arith; within = omega arith; same = rw drop-drop at (sound_char (drop at s) c n f q) })

-- where no character other than NUL begins
sound_stop : (l : List ℕ) → 0 < length l → None ≡ good_len (first l) → sound l ≡ false
unfolding is_z
sound_stop l h e = by (first l) refl e
  where
    by : (d : Decoded) → first l ≡ d → None ≡ good_len d → sound l ≡ false
    by (Char c k) f g =
        by_test (is_z c)
        (λ q. sym (ap passes (turn_nul origin l c k f (eqb-true c 0 q))))
        (λ q. let z : None ≡ Some k = rw q at g in absurd (none-some k z))
    by Ill f g = sym (ap passes (turn_none origin l Ill h (sym f) (inl refl)))
    by End f g = sym (ap passes (turn_none origin l End h (sym f) (inr refl)))

-- by characters from a place on
pub record Went (s : List ℕ) (at upto r : ℕ) : Type 0 where
  pub onward : at ≤ r
  pub within : r ≤ length s
  pub same : sound (drop at s) ≡ sound (drop r s)
  pub short : r < upto → sound (drop r s) ≡ false

pub went : {s : List ℕ} {upto at r : ℕ} → at ≤ length s → upto ≤ length s → PassesTo s upto at r → Went s at upto r
went h u (past l) = record { onward = omega arith; within = h; same = refl; short = λ k. absurd (omega arith) }
went {s} {at} h u (stops l e) =
    record { onward = omega arith; within = h; same = refl; short = λ _. sound_stop (drop at s) (some_left s at (omega arith)) e }
went {s} {at} h u (onto {n = n} l e w) =
    let k = next s at n h e in
    let v = went k.within u w in
    record { onward = omega (arith, k.some, v.onward); within = v.within; same = k.same ∙ v.same; short = v.short }
