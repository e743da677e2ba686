-- What may still be a key, and what stands behind it. Of the candidates of a state and the tokens that were said before it: which tokens may be keys, what may stand behind
-- a scalar that still may be one, and that '[' behind a key and ':' may be one only on a later line.
use Rattle.std.specs.Prelude.{◌+◌, ◌<◌, ◌≤◌, suc, zero, ℕ, Bool, false, true, List, [], ◌++◌, ◌∷◌, ◌⊎◌, ◌≡◌, refl, drop, length}
use Rattle.std.proofs.Common.{inl, inr, ◌∙◌, sym, arith}
use Rattle.yaml_text.specs.Test.{by_test, true_false}
use Rattle.yaml_lexeme.specs.Token.{Token}
use Rattle.yaml_scan.specs.declared.Candidate.{Candidate}
use Rattle.yaml_scan.specs.Slots.{Slot, note, slot}
use Rattle.yaml_stream.specs.Stream.{possible}
use Rattle.yaml_stream.specs.Orderly.{colon, is_scalar, line_scalar, list_start, may_be_key, part_of, sets_apart}

-- on the line on which x ends no simple key is allowed
abbrev pub Quiet : Bool → ℕ → Token → Type 0
Quiet allowed line x = (x.end.line ≤ line) × ((allowed ≡ false) ⊎ (x.end.line < line))

-- a state's candidates, whether it allows a simple key, and its line
module _ (ks : List Candidate) (allowed : Bool) (line : ℕ) where
  -- token n is x, y comes behind it, and then the slots. A plain or quoted key and its ':': '[' right behind them is a candidate only on a later line than the key's last;
  -- where nothing stands behind them yet, the key's last line is quiet
  abbrev pub BehindTwo : ℕ → Token → Token → List Slot → Type 0
  BehindTwo n x y [] = part_of x ≡ line_scalar → part_of y ≡ colon → Quiet allowed line x
  BehindTwo n x y (z ∷ zs) =
      part_of x ≡ line_scalar → part_of y ≡ colon → part_of z.token ≡ list_start → possible (suc (suc n)) ks ≡ true → x.end.line < z.token.start.line

  -- token n is x, and then come the slots. A scalar that is still a candidate: what stands behind it sets none apart, has nothing put in before it, and is no candidate
  -- itself. Where nothing stands behind it yet, it is none of an outer level, and the last line of a plain or quoted one is quiet
  abbrev pub BehindOne : ℕ → Token → List Slot → Type 0
  BehindOne n x [] = (is_scalar (part_of x) ≡ true → possible n (drop 1 ks) ≡ false) × (part_of x ≡ line_scalar → Quiet allowed line x)
  BehindOne n x (y ∷ ys) =
      (is_scalar (part_of x) ≡ true → possible n ks ≡ true → (sets_apart (part_of y.token) ≡ false) × (y.before ≡ []) × (possible (suc n) ks ≡ false)) × BehindTwo n x y.token ys

  -- the slots from number n on
  abbrev pub StillKeys : ℕ → List Slot → Type 0
  StillKeys n [] = Unit {0}
  StillKeys n (x ∷ xs) = (possible n ks ≡ true → may_be_key (part_of x.token) ≡ true) × BehindOne n x.token xs × StillKeys (suc n) xs

-- token k, number c, is added behind the others: what becomes of the candidates
pub record Added (ks : List Candidate) (allowed : Bool) (line c : ℕ) (k : Token) (ks' : List Candidate) (allowed' : Bool) (line' : ℕ) : Type 0 where
  -- no earlier token becomes a candidate
  pub shrinks : (i : ℕ) → i < c → possible i ks ≡ false → possible i ks' ≡ false
  -- a scalar that stays one, right before it
  pub stays : (i : ℕ) → suc i ≡ c → possible i (drop 1 ks) ≡ false → possible i ks' ≡ true → (sets_apart (part_of k) ≡ false) × (possible c ks' ≡ false)
  pub at_colon : (x : Token) → part_of k ≡ colon → Quiet allowed line x → Quiet allowed' line' x
  pub at_list : (x : Token) → part_of k ≡ list_start → Quiet allowed line x → possible c ks' ≡ true → x.end.line < k.start.line
  pub new_key : possible c ks' ≡ true → may_be_key (part_of k) ≡ true
  pub outer : is_scalar (part_of k) ≡ true → possible c (drop 1 ks') ≡ false
  pub quiet : part_of k ≡ line_scalar → Quiet allowed' line' k

-- what is no candidate before is none behind, so what is one behind was one
was : {b b' : Bool} → (b ≡ false → b' ≡ false) → b' ≡ true → b ≡ true
was {b} h e = by_test b (λ f. f) (λ f. true_false (sym e ∙ h f))

-- other candidates, none of them new; a later place
pub still_gap : (ks ks' : List Candidate) {a a' : Bool} {l l' : ℕ} → ((i : ℕ) → possible i ks ≡ false → possible i ks' ≡ false)
    → ((i : ℕ) → possible i (drop 1 ks) ≡ false → possible i (drop 1 ks') ≡ false) → (a ≡ false → (a' ≡ false) ⊎ (l < l')) → l ≤ l'
    → (n : ℕ) (xs : List Slot) → StillKeys ks a l n xs → StillKeys ks' a' l' n xs
still_gap ks ks' {a} {a'} {l} {l'} shrinks outer calm on = goes
  where
    later : (x : Token) → Quiet a l x → Quiet a' l' x
    later x (b, inl e) = (omega arith, by_calm (calm e))
      where
        by_calm : (a' ≡ false) ⊎ (l < l') → (a' ≡ false) ⊎ (x.end.line < l')
        by_calm (inl f) = inl f
        by_calm (inr f) = inr (omega arith)
    later x (b, inr c) = (omega arith, inr (omega arith))

    two : (n : ℕ) (x y : Token) (zs : List Slot) → BehindTwo ks a l n x y zs → BehindTwo ks' a' l' n x y zs
    two n x y [] h = λ i c. later x (h i c)
    two n x y (z ∷ zs) h = λ i c s p. h i c s (was (shrinks (suc (suc n))) p)

    one : (n : ℕ) (x : Token) (ys : List Slot) → BehindOne ks a l n x ys → BehindOne ks' a' l' n x ys
    one n x [] h = (λ i. outer n (h.0 i), λ i. later x (h.1 i))
    one n x (y ∷ ys) h = (λ i p. let k = h.0 i (was (shrinks n) p) in (k.0, k.1, shrinks (suc n) k.2), two n x y.token ys h.1)

    goes : (n : ℕ) (xs : List Slot) → StillKeys ks a l n xs → StillKeys ks' a' l' n xs
    goes n [] h = tt
    goes n (x ∷ xs) h = (λ p. h.0 (was (shrinks n) p), one n x.token xs h.1, goes (suc n) xs h.2)

-- tokens go in before a candidate's own: what comes right behind a scalar that may be a key is no candidate
pub still_note : (ks : List Candidate) (a : Bool) (l n j : ℕ) (ts : List Token) (xs : List Slot) → possible (n + j) ks ≡ true → StillKeys ks a l n xs → StillKeys ks a l n (note j ts xs)
unfolding note
still_note ks a l n j ts xs p h = goes n j xs refl h
  where
    here : (i : ℕ) → i ≡ n + j → possible i ks ≡ true
    here i e = rw e p

    two : (i k : ℕ) (x y : Token) (zs : List Slot) → BehindTwo ks a l i x y zs → BehindTwo ks a l i x y (note k ts zs)
    two i k x y [] h = h
    two i zero x y (z ∷ zs) h = h
    two i (suc k) x y (z ∷ zs) h = h

    one : (i k : ℕ) (x : Token) (ys : List Slot) → suc i + k ≡ n + j → BehindOne ks a l i x ys → BehindOne ks a l i x (note k ts ys)
    one i k x [] e h = h
    one i zero x (y ∷ ys) e h = (λ s q. true_false (sym (here (suc i) (omega arith)) ∙ (h.0 s q).2), h.1)
    one i (suc k) x (y ∷ ys) e h = (h.0, two i k x y.token ys h.1)

    goes : (i k : ℕ) (ys : List Slot) → i + k ≡ n + j → StillKeys ks a l i ys → StillKeys ks a l i (note k ts ys)
    goes i k [] e h = tt
    goes i zero (y ∷ ys) e h = h
    goes i (suc k) (y ∷ ys) e h = (h.0, one i k y.token ys (omega arith) h.1, goes (suc i) k ys (omega arith) h.2)

-- one more token
pub still_more : {ks ks' : List Candidate} {a a' : Bool} {l l' : ℕ} (n : ℕ) (xs : List Slot) (k : Token) → Added ks a l (n + length xs) k ks' a' l' → StillKeys ks a l n xs
    → StillKeys ks' a' l' n (xs ++ (slot k [] ∷ []))
still_more {ks} {ks'} {a} {a'} {l} {l'} n xs k c h = goes n xs refl h
  where
    last : (i : ℕ) → i ≡ n + length xs → Added ks a l i k ks' a' l'
    last i e = rw e c

    kept : (i : ℕ) → i < n + length xs → possible i ks' ≡ true → possible i ks ≡ true
    kept i b p = was (c.shrinks i b) p

    two : (i : ℕ) (x y : Token) (zs : List Slot) → suc (suc i) + length zs ≡ n + length xs → BehindTwo ks a l i x y zs → BehindTwo ks' a' l' i x y (zs ++ (slot k [] ∷ []))
    two i x y [] e h = λ t v b p. (last (suc (suc i)) (omega arith)).at_list x b (h t v) p
    two i x y (z ∷ zs) e h = λ t v b p. h t v b (kept (suc (suc i)) (omega arith) p)

    one : (i : ℕ) (x : Token) (ys : List Slot) → suc i + length ys ≡ n + length xs → BehindOne ks a l i x ys → BehindOne ks' a' l' i x (ys ++ (slot k [] ∷ []))
    one i x [] e h = (λ s p. let f = (last (suc i) (omega arith)).stays i refl (h.0 s) p in (f.0, refl, f.1), λ t v. c.at_colon x v (h.1 t))
    one i x (y ∷ ys) e h =
        (λ s p. let f = h.0 s (kept i (omega arith) p) in (f.0, f.1, c.shrinks (suc i) (omega arith) f.2), two i x y.token ys (omega arith) h.1)

    goes : (i : ℕ) (ys : List Slot) → i + length ys ≡ n + length xs → StillKeys ks a l i ys → StillKeys ks' a' l' i (ys ++ (slot k [] ∷ []))
    goes i [] e h = let f = last i (omega arith) in (f.new_key, (f.outer, f.quiet), tt)
    goes i (y ∷ ys) e h = (λ p. h.0 (kept i (omega arith) p), one i y.token ys (omega arith) h.1, goes (suc i) ys (omega arith) h.2)
