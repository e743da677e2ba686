-- Percent escapes, by what their first octet leads.
use Rattle.std.specs.Prelude.{Result, Ok, Err, Some, None, ⊤}
use Prim.Native.Nat.{◌*◌, ◌+◌, ◌-◌, ◌<◌, ◌≤◌, ℕ}
use mathlib.Core.List.{List, [], ◌++◌, ◌∷◌}
use mathlib.Core.Path.{◌∙◌, ◌≡◌, refl}
use native.Mathlib.Omega.{arith}
use lib.Dec.{ltb, ltb→lt}
use lib.ListN.{drop, length, take}
use lib.Seq.{length-take-le, take_at}
use borrow.Author.Tests.{lt-ltb}
use Rattle.yaml_text.specs.declared.Decoded.{Decoded}
use Rattle.yaml_text.specs.declared.Decoded.TheVariants.{Char, End, Ill}
use Rattle.yaml_text.specs.declared.Mark.{Mark}
use Rattle.yaml_text.specs.declared.Refusal.{Refusal}
use Rattle.yaml_text.specs.Refusal.{◌>>=◌, got, need, refused}
use Rattle.yaml_text.specs.Utf8.{chars, first, len_of}
use Rattle.yaml_lexeme.specs.Tag.{code_point, percent, trailing}
use Rattle.utf8.proofs.Below.{below}
use Rattle.chars.specs.Reach.{reach_rest, reach_within}
use Rattle.escapes.specs.Parts.{OctetAt, TrailingAt}

len_most : (a : ℕ) → a < 256 → len_of a < 5
unfolding len_of
len_most a h = ltb→lt (len_of a) 5 (below 256 (λ a. ltb (len_of a) 5) tt a h)

-- an octet a that leads n
pub record Lead (text : List ℕ) (at a n : ℕ) : Type 0 where
  pub octet : OctetAt text at (Some a)
  pub len : n ≡ len_of a
  pub some : 1 ≤ n
  pub few : n ≤ 4

pub lead : {text : List ℕ} {at a n : ℕ} → OctetAt text at (Some a) → n ≡ len_of a → (n ≡ 0 → ⊥) → Lead text at a n
lead {a = a} o e z = let h = len_most a o.found.0 in record { octet = o; len = e; some = omega arith; few = omega arith }

-- it stands within the text, and so does the whole escape
module _ {text : List ℕ} {at a n : ℕ} (h : Lead text at a n) (w : at ≤ length text) where
  pub lead_within : at + 3 ≤ length text
  lead_within = (reach_within h.octet.found.1 w).0

  pub percent_within : {start : Mark} {bs : List ℕ} {u : ⊤} → TrailingAt text (at + 3) (n - 1) start bs (Ok u) → at + 3 * n ≤ length text
  percent_within t = let e = reach_within t.found lead_within in omega (arith, e.0, h.some)

no_code : (start : Mark) (took : ℕ) (d : Decoded) → ((c n : ℕ) → d ≡ Char c n → ⊥) → code_point start took d ≡ refused 24 start
unfolding code_point
no_code start took (Char c n) w = absurd (w c n refl)
no_code start took Ill w = refl
no_code start took End w = refl

module _ {text : List ℕ} {at : ℕ} (start : Mark) where
  pub percent_missing : OctetAt text at None → percent start (chars (drop at text)) ≡ refused 21 start
  unfolding percent ◌>>=◌
  percent_missing o = rw (o.same start)

  pub percent_leads_none : {a n : ℕ} → OctetAt text at (Some a) → n ≡ len_of a → n ≡ 0 → percent start (chars (drop at text)) ≡ refused 22 start
  unfolding percent ◌>>=◌ need
  percent_leads_none o e z = rw (o.same start, ← e, z)

  module _ {a n : ℕ} (h : Lead text at a n) where
    percent_trailing : percent start (chars (drop at text))
        ≡ (trailing start (n - 1) (chars (drop (at + 3) text)) >>= λ bs. code_point start (n * 3 - 1) (first (a ∷ bs)))
    unfolding percent ◌>>=◌ need
    percent_trailing = rw (h.octet.same start, ← h.len, lt-ltb 0 n h.some, ← reach_rest h.octet.found.1)

    pub percent_refused : {bs : List ℕ} {f : Refusal} → TrailingAt text (at + 3) (n - 1) start bs (Err f) → percent start (chars (drop at text)) ≡ refused f.number f.mark
    unfolding ◌>>=◌
    percent_refused t = percent_trailing ∙ rw t.same

    percent_code : {bs : List ℕ} {u : ⊤} → TrailingAt text (at + 3) (n - 1) start bs (Ok u)
        → percent start (chars (drop at text)) ≡ code_point start (n * 3 - 1) (first (a ∷ bs))
    unfolding ◌>>=◌
    percent_code t = percent_trailing ∙ rw t.same

    pub percent_ill : {bs : List ℕ} {d : Decoded} {u : ⊤} → TrailingAt text (at + 3) (n - 1) start bs (Ok u) → d ≡ first (a ∷ bs)
        → ((c n : ℕ) → d ≡ Char c n → ⊥) → percent start (chars (drop at text)) ≡ refused 24 start
    percent_ill {d = d} t e w = percent_code t ∙ rw (← e) (no_code start (n * 3 - 1) d w)

    pub percent_char : {bs : List ℕ} {d : Decoded} {c k : ℕ} {u : ⊤} → TrailingAt text (at + 3) (n - 1) start bs (Ok u) → d ≡ first (a ∷ bs) → d ≡ Char c k
        → percent start (chars (drop at text)) ≡ got (record { char = c; took = 3 * n - 1 })
    unfolding code_point
    percent_char t e f = let m : n * 3 ≡ 3 * n = omega arith in percent_code t ∙ rw (← e, f, m)

-- an array for a character: behind the first byte there is room for the others
abbrev others : List ℕ
others = 0 ∷ 0 ∷ 0 ∷ []

pub room : {text : List ℕ} {at a n : ℕ} → Lead text at a n → length (take (n - 1) others) ≡ n - 1
room {n = n} h = length-take-le (n - 1) others (omega (arith, h.few))

pub trailed : {text bs : List ℕ} {at a n : ℕ} {start : Mark} {r : Result ⊤ Refusal} → Lead text at a n
    → TrailingAt text (at + 3) (length (take (n - 1) others)) start bs r → TrailingAt text (at + 3) (n - 1) start bs r
trailed h t = rw (room h) at t

-- and what was filled of it
pub filled : (a n : ℕ) (bs rest : List ℕ) → 1 ≤ n → length bs ≡ n - 1 → take n (a ∷ (bs ++ rest)) ≡ a ∷ bs
filled a n bs rest s e = take_at (a ∷ bs) rest n (omega arith)
