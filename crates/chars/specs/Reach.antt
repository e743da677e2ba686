-- Characters in a row, counted, from one byte offset of a text to another.
use Rattle.std.specs.Prelude.{◌+◌, ◌<◌, ◌≤◌, suc, zero, ℕ, List, ◌≡◌, refl, drop, get_or, length}
use Rattle.std.proofs.Common.{◌∙◌, ap, sym, arith}
use Rattle.yaml_text.specs.Utf8.{chars}
use Rattle.chars.specs.Bytes.{CharAt, byte_char}

-- k characters of a text stand between the offsets at and end
pub data Reach (s : List ℕ) : ℕ → ℕ → ℕ → Type 0 where
  none : {at : ℕ} → Reach s at 0 at
  more : {at c n k end : ℕ} → CharAt s at c n → Reach s (at + n) k end → Reach s at (suc k) end

pub reach_one : {s : List ℕ} {at c n : ℕ} → CharAt s at c n → Reach s at 1 (at + n)
reach_one h = more h none

pub reach_then : {s : List ℕ} {at j mid k end : ℕ} → Reach s at j mid → Reach s mid k end → Reach s at (j + k) end
reach_then {k = k} none q = let e : 0 + k ≡ k = omega arith in rw e q
reach_then {k = k} (more {k = j} h r) q = let e : suc j + k ≡ suc (j + k) = omega arith in rw e (more h (reach_then r q))

-- what is left behind them
pub reach_rest : {s : List ℕ} {at k end : ℕ} → Reach s at k end → chars (drop end s) ≡ drop k (chars (drop at s))
reach_rest none = refl
reach_rest (more {k = j} h r) = reach_rest r ∙ ap (λ (l : List ℕ). drop (suc j) l) (sym h.next)

-- each takes a byte at least
pub reach_within : {s : List ℕ} {at k end : ℕ} → Reach s at k end → at ≤ length s → (end ≤ length s) × (at + k ≤ end)
reach_within none e = (e, omega arith)
reach_within (more h r) e = let w = reach_within r h.within in (w.0, omega (arith, w, h))

-- n bytes below 128
pub reach_bytes : (s : List ℕ) (at n : ℕ) → at + n ≤ length s → ((i : ℕ) → at ≤ i → i < at + n → get_or s i 0 < 128) → Reach s at n (at + n)
reach_bytes s at zero h low = let e : at ≡ at + 0 = omega arith in rw (← e) none
reach_bytes s at (suc n) h low =
    let e : at + 1 + n ≡ at + suc n = omega arith in
    rw (← e)
    (more (byte_char s at (get_or s at 0) refl (omega arith) (low at (omega arith) (omega arith)))
    (reach_bytes s (at + 1) n (omega arith) (λ i k l. low i (omega arith) (omega arith))))
