-- Cases that the definition has only so that its functions are total: no text meets them.
use Rattle.std.specs.Prelude.{◌%◌, ◌*◌, ◌+◌, ◌≤◌, suc, zero, ℕ, Bool, ◌&&◌, false, true, List, ◌∷◌, refl, ltb, get_or}
use Rattle.std.proofs.Common.{arith}
use Rattle.yaml_text.specs.declared.Decoded.{Decoded}
use Rattle.yaml_text.specs.declared.Decoded.TheVariants.{Char, End, Ill}
use Rattle.yaml_text.specs.Test.{by_pick}
use Rattle.yaml_text.specs.Utf8.{by_len, char_if, first, four, is_scalar, is_tail, len_of, three, two}
use Rattle.yaml_scan.specs.declared.Limits.{Limits}
use Rattle.yaml_scan.specs.State.{Event, State}
use Rattle.yaml_scan.specs.Scan.{begin}
use Rattle.yaml_scan.specs.Runs.{StepsReach, here, then_step}
use Rattle.yaml_text.specs.All.{all_got}
use Rattle.yaml_stream.specs.Here.{Levelled, step_levelled}

-- no lead byte has a length above 4: the last case of `by_len` is 4
pub len_most : (a : ℕ) → len_of a ≤ 4
unfolding len_of
len_most a =
    by_pick (λ (n : ℕ). n ≤ 4) (ltb a 128) _ _ (omega arith)
    (by_pick (λ (n : ℕ). n ≤ 4) (ltb a 192) _ _ (omega arith)
    (by_pick (λ (n : ℕ). n ≤ 4) (ltb a 224) _ _ (omega arith)
    (by_pick (λ (n : ℕ). n ≤ 4) (ltb a 240) _ _ (omega arith)
    (by_pick (λ (n : ℕ). n ≤ 4) (ltb a 248) _ _ (omega arith) (omega arith)))))

-- at a byte a character begins, or none does: it is not the end. So `decoded_char` and `code_point`, which are asked of bytes, meet no End
abbrev pub NotEnd : Decoded → Type 0
NotEnd (Char c n) = Unit {0}
NotEnd Ill = Unit {0}
NotEnd End = ⊥

if_not_end : (b : Bool) (c n : ℕ) → NotEnd (char_if b c n)
if_not_end true c n = tt
if_not_end false c n = tt

len_not_end : (n a b c d : ℕ) → NotEnd (by_len n a b c d)
unfolding by_len two three four
len_not_end zero a b c d = tt
len_not_end (suc zero) a b c d = tt
len_not_end (suc (suc zero)) a b c d = let v = a % 32 * 64 + b % 64 in if_not_end (is_tail b && is_scalar 0x80 v) v 2
len_not_end (suc (suc (suc zero))) a b c d =
    let v = a % 16 * 4096 + b % 64 * 64 + c % 64 in
    if_not_end (is_tail b && (is_tail c && is_scalar 0x800 v)) v 3
len_not_end (suc (suc (suc (suc n)))) a b c d =
    let v = a % 8 * 262144 + b % 64 * 4096 + c % 64 * 64 + d % 64 in
    if_not_end (is_tail b && (is_tail c && (is_tail d && is_scalar 0x10000 v))) v 4

pub first_not_end : (a : ℕ) (t : List ℕ) → NotEnd (first (a ∷ t))
unfolding first
first_not_end a t = len_not_end (len_of a) a (get_or t 0 0) (get_or t 1 0) (get_or t 2 0)

-- in every state that a run reaches there is a candidate, or none, for each level and for the outermost: `top_key` is asked of no empty list
pub reached_levelled : {limits : Limits} {es : List Event} {t : State} (cs : List ℕ) → StepsReach limits (begin cs) es t → Levelled t.keys t.levels
reached_levelled {limits} cs r = by_steps r
  where
    by_steps : {es : List Event} {t : State} → StepsReach limits (begin cs) es t → Levelled t.keys t.levels
    by_steps here = refl
    by_steps (then_step {t = t} r e) = all_got (step_levelled limits t (by_steps r)) e
