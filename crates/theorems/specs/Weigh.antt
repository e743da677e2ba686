-- What events say, weighed: for any weight of a token, the list of the events weighs at most what the events do.
-- Tokens weighs each token 1, Bytes by its decoded bytes.
use Prim.Native.Nat.{◌*◌, ◌+◌, ◌≤◌, suc, zero, ℕ}
use Rattle.std.specs.Prelude.{Bool, ◌≡◌}
use Rattle.std.proofs.Math.Bool.{false, true}
use mathlib.Core.List.{List, [], ◌++◌, ◌∷◌}
use native.Mathlib.Omega.{arith}
use Rattle.yaml_text.specs.declared.Mark.{Mark}
use Rattle.yaml_lexeme.specs.Token.{BlockEnd, Kind, Token, empty_token}
use Rattle.yaml_lexeme.specs.Block.{one_if}
use Rattle.yaml_scan.specs.State.{Event, block_ends, empty_if, put, put_before}
use Rattle.yaml_scan.specs.Slots.{Slot, flat, note, slot, slots, tokens_of}

module _ (w : Token → ℕ) where
  -- the weight of a list
  unfoldable pub sum : List Token → ℕ
  sum [] = 0
  sum (t ∷ ts) = w t + sum ts

  -- the weight of what events say
  unfoldable pub weigh : List Event → ℕ
  weigh [] = 0
  weigh (put t ∷ es) = w t + weigh es
  weigh (put_before n ts ∷ es) = sum ts + weigh es

  pub weigh_append : (es fs : List Event) → weigh (es ++ fs) ≡ weigh es + weigh fs
  unfolding weigh
  weigh_append [] fs = omega arith
  weigh_append (put t ∷ es) fs = omega (arith, weigh_append es fs)
  weigh_append (put_before n ts ∷ es) fs = omega (arith, weigh_append es fs)

  pub weigh_one : (t : Token) → weigh (put t ∷ []) ≡ w t
  unfolding weigh
  weigh_one t = omega arith

  -- a token, behind others
  pub weigh_last : (es : List Event) (t : Token) → weigh (es ++ (put t ∷ [])) ≡ weigh es + w t
  weigh_last es t = omega (arith, weigh_append es (put t ∷ []), weigh_one t)

  -- and with tokens put in before it
  pub weigh_before : (n : ℕ) (ts : List Token) (t : Token) → weigh (put_before n ts ∷ put t ∷ []) ≡ sum ts + w t
  unfolding weigh
  weigh_before n ts t = omega arith

  pub weigh_ends : (n : ℕ) (m : Mark) (k : ℕ) → w (empty_token BlockEnd m) ≡ k → weigh (block_ends n m) ≡ n * k
  unfolding weigh
  weigh_ends zero m k e = omega arith
  weigh_ends (suc n) m k e = omega (arith, weigh_ends n m k e)

  pub weigh_if : (b : Bool) (kind : Kind) (m : Mark) (k : ℕ) → w (empty_token kind m) ≡ k → weigh (empty_if b kind m) ≡ one_if b * k
  unfolding weigh
  weigh_if true kind m k e = omega arith
  weigh_if false kind m k e = omega arith

  -- the list of the events

  sum_append : (ts us : List Token) → sum (ts ++ us) ≡ sum ts + sum us
  unfolding sum
  sum_append [] us = omega arith
  sum_append (t ∷ ts) us = omega (arith, sum_append ts us)

  sum_more : (xs : List Slot) (t : Token) → sum (flat (xs ++ (slot t [] ∷ []))) ≡ sum (flat xs) + w t
  unfolding flat sum
  sum_more [] t = omega arith
  sum_more (x ∷ xs) t =
      omega (arith, sum_append x.before (x.token ∷ flat xs), sum_append x.before (x.token ∷ flat (xs ++ (slot t [] ∷ []))), sum_more xs t)

  sum_noted : (xs : List Slot) (n : ℕ) (ts : List Token) → sum (flat (note n ts xs)) ≤ sum (flat xs) + sum ts
  unfolding flat note sum
  sum_noted [] n ts = omega arith
  sum_noted (x ∷ xs) zero ts = omega (arith, sum_append ts (x.token ∷ flat xs), sum_append x.before (x.token ∷ flat xs))
  sum_noted (x ∷ xs) (suc n) ts =
      omega (arith, sum_append x.before (x.token ∷ flat xs), sum_append x.before (x.token ∷ flat (note n ts xs)), sum_noted xs n ts)

  sum_slots : (xs : List Slot) (es : List Event) → sum (flat (slots xs es)) ≤ sum (flat xs) + weigh es
  unfolding slots weigh
  sum_slots xs [] = omega arith
  sum_slots xs (put t ∷ es) = omega (arith, sum_slots (xs ++ (slot t [] ∷ [])) es, sum_more xs t)
  sum_slots xs (put_before n ts ∷ es) = omega (arith, sum_slots (note n ts xs) es, sum_noted xs n ts)

  pub tokens_weigh : (es : List Event) → sum (tokens_of es) ≤ weigh es
  unfolding flat sum
  tokens_weigh es = omega (arith, sum_slots [] es)
