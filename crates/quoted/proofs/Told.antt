-- An escape takes a character or more behind the backslash, each of one byte and no break.
use Prim.Native.Nat.{◌*◌, ◌+◌, ◌≤◌, suc, zero, ℕ}
use mathlib.Core.Bool.{Bool, ◌&&◌, ◌||◌, false, not, true}
use mathlib.Core.List.{List}
use mathlib.Core.Path.{◌≡◌, refl}
use native.Mathlib.Numerals.{add-one}
use native.Mathlib.Omega.{arith}
use lib.Dec.{T, ltb, ltb→lt}
use mir.Facts.{and_yes}
use lib.ListN.{drop}
use Rattle.yaml_text.specs.declared.Mark.{Mark}
use Rattle.yaml_text.specs.Class.{as_hex, is_break, is_digit, is_hex, peek}
use Rattle.yaml_text.specs.Refusal.{Read, ◌>>=◌, got, need, refused}
use Rattle.yaml_text.specs.Test.{by_test}
use Rattle.yaml_text.specs.Utf8.{is_scalar}
use Rattle.yaml_lexeme.specs.declared.Named.{Named}
use Rattle.yaml_lexeme.specs.declared.Named.TheVariants.{Digits, Stands, Unknown}
use Rattle.yaml_lexeme.specs.Escape.{Escaped, escape, escape_of, hex_number, named}
use Rattle.yaml_lexeme.specs.EscapeTable.{by_letter}
use Rattle.chars.specs.Ascii.{apart, ascii_low, hex_ascii}
use Rattle.quoted.proofs.Texts.{Low, ManyPassed}

-- the letters behind a backslash
known : Named → Bool
known (Stands c) = true
known (Digits n) = true
known Unknown = false

abbrev lettered : ℕ → Bool
lettered c = known (named c)

low_letter : ℕ → Named → Bool
low_letter c k = not (known k) || (ltb 0 c && ltb c 128 && not (is_break c))

letter_low : (c : ℕ) → lettered c ≡ true → Low c
unfolding low_letter known is_break
letter_low c e =
    let t : T (ltb 0 c && ltb c 128 && not (is_break c)) = rw e at (by_letter low_letter tt c tt) in
    let a = and_yes (ltb 0 c && ltb c 128) (not (is_break c)) t in
    let b = and_yes (ltb 0 c) (ltb c 128) a.0 in
    (ltb→lt 0 c b.0, ltb→lt c 128 b.1, not_so (is_break c) a.1)
  where
    not_so : (b : Bool) → T (not b) → b ≡ false
    not_so true t = absurd t
    not_so false t = refl

hex_low : (c : ℕ) → is_hex c ≡ true → Low c
unfolding is_hex is_digit is_break
hex_low c e = let l = ascii_low hex_ascii c e in (l.0, l.1, apart is_break hex_ascii tt c e)

module _ (start : Mark) where
  -- so many characters are taken, or it is refused
  abbrev HexTold : ℕ → List ℕ → Read ℕ → Type 0
  HexTold n cs (got v) = ManyPassed n cs
  HexTold n cs (refused k m) = Unit {0}

  abbrev Told : List ℕ → Read Escaped → Type 0
  Told cs (got e) = (1 ≤ e.took) × ManyPassed e.took cs
  Told cs (refused k m) = Unit {0}

  hex_more : (n : ℕ) (cs : List ℕ) (r : Read ℕ) → Low (peek cs 0) → HexTold n (drop 1 cs) r → HexTold (suc n) cs r
  hex_more n cs (got v) h k = (h, k)
  hex_more n cs (refused x m) h k = k

  hex_told : (n v : ℕ) (cs : List ℕ) → HexTold n cs (hex_number start n v cs)
  unfolding hex_number
  hex_told zero v cs = tt
  hex_told (suc n) v cs =
      let w = v * 16 + as_hex (peek cs 0) in
      by_test (is_hex (peek cs 0))
      (λ e. rw (e, hex_number) (hex_more n cs (hex_number start n w (drop 1 cs)) (hex_low (peek cs 0) e) (hex_told n w (drop 1 cs))))
      (λ e. rw (e, hex_number) tt)

  digits_told : (n : ℕ) (cs : List ℕ) (r : Read ℕ) → Low (peek cs 0) → HexTold n (drop 1 cs) r
      → Told cs (r >>= λ v. need (is_scalar 0 v) 39 start >>= λ _. got (record { char = v; took = n + 1 }))
  unfolding ◌>>=◌ need
  digits_told n cs (got v) h k = by_test (is_scalar 0 v) (λ e. rw (e, add-one n) (omega arith, (h, k))) (λ e. rw e tt)
  digits_told n cs (refused x m) h k = k

  told_by : (cs : List ℕ) (k : Named) → (known k ≡ true → Low (peek cs 0)) → Told cs (escape_of start k (drop 1 cs))
  unfolding escape_of known
  told_by cs (Stands c) h = (omega arith, (h refl, tt))
  told_by cs (Digits n) h = digits_told n cs (hex_number start n 0 (drop 1 cs)) (h refl) (hex_told n 0 (drop 1 cs))
  told_by cs Unknown h = tt

  told : (cs : List ℕ) → Told cs (escape start cs)
  unfolding escape
  told cs = told_by cs (named (peek cs 0)) (letter_low (peek cs 0))

  pub escape_passes : (cs : List ℕ) (e : Escaped) → escape start cs ≡ got e → (1 ≤ e.took) × ManyPassed e.took cs
  escape_passes cs e f = rw f at (told cs)
