-- What code answers for the parts of an escape. Where a part is read, its characters are of one byte each.
use Rattle.std.specs.Prelude.{◌*◌, ◌+◌, ◌<◌, ◌^◌, ◌≤◌, suc, zero, ℕ, List, Option, Some, None, Result, Ok, Err, ⊤, [], ◌∷◌, ◌≡◌, drop, length}
use Rattle.std.proofs.lemmas.List.Edits.{sets}
use Rattle.yaml_text.specs.declared.Mark.{Mark}
use Rattle.yaml_text.specs.declared.Refusal.{Refusal}
use Rattle.yaml_text.specs.Mark.{origin}
use Rattle.yaml_text.specs.Pick.{pick}
use Rattle.yaml_text.specs.Refusal.{Read, got, refused}
use Rattle.yaml_text.specs.Utf8.{chars, is_tail}
use Rattle.yaml_lexeme.specs.declared.Named.{Named}
use Rattle.yaml_lexeme.specs.declared.Named.TheVariants.{Digits, Stands, Unknown}
use Rattle.yaml_lexeme.specs.Escape.{hex_number}
use Rattle.yaml_lexeme.specs.Tag.{octet, trailing}
use Rattle.chars.specs.Reach.{Reach}

-- a letter behind the backslash
abbrev pub Letter : ℕ → Named → Type 0
Letter c (Stands k) = (0 < c) × (c < 128) × (k < 0x110000)
Letter c (Digits n) = (0 < c) × (c < 128) × (n ≤ 8)
Letter c Unknown = Unit {0}

-- a number in hexadecimal digits; where they are missing it is the refusal k
abbrev pub hex_read : ℕ → Mark → Option ℕ → Read ℕ
hex_read k start (Some v) = got v
hex_read k start None = refused k start

abbrev pub HexFound : List ℕ → ℕ → ℕ → ℕ → Option ℕ → Type 0
HexFound text at n limit (Some v) = (v < limit) × Reach text at n (at + n)
HexFound text at n limit None = Unit {0}

-- d reads the number r, of n characters and below the limit
pub record Number (text : List ℕ) (at n limit k : ℕ) (d : Mark → List ℕ → Read ℕ) (r : Option ℕ) : Type 0 where
  pub same : (start : Mark) → d start (chars (drop at text)) ≡ hex_read k start r
  pub found : HexFound text at n limit r

abbrev pub NumberAt : List ℕ → ℕ → ℕ → Option ℕ → Type 0
NumberAt text at n r = Number text at n (16 ^ n) 38 (λ start. hex_number start n 0) r

abbrev pub OctetAt : List ℕ → ℕ → Option ℕ → Type 0
OctetAt text at r = Number text at 3 256 21 octet r

-- octets, three characters each
abbrev pub octets_read : Result ⊤ Refusal → List ℕ → Read (List ℕ)
octets_read (Ok u) bs = got bs
octets_read (Err f) bs = refused f.number f.mark

abbrev pub OctetsFound : List ℕ → ℕ → ℕ → Result ⊤ Refusal → Type 0
OctetsFound text at n (Ok u) = Reach text at (3 * n) (at + 3 * n)
OctetsFound text at n (Err f) = Unit {0}

pub record TrailingAt (text : List ℕ) (at n : ℕ) (start : Mark) (bs : List ℕ) (r : Result ⊤ Refusal) : Type 0 where
  pub same : trailing start n (chars (drop at text)) ≡ octets_read r bs
  pub found : OctetsFound text at n r

-- those up to the first that is missing, or does not go on with a character
abbrev pub tail_before : Read ℕ → List ℕ → List ℕ
tail_before (got b) bs = pick (is_tail b) (b ∷ bs) []
tail_before (refused k m) bs = []

unfoldable pub tails : ℕ → List ℕ → List ℕ
tails zero cs = []
tails (suc n) cs = tail_before (octet origin cs) (tails n (drop 3 cs))

-- which are stored
pub record Trails (text : List ℕ) (at : ℕ) (start : Mark) (before after : List ℕ) (r : Result ⊤ Refusal) : Type 0 where
  pub read : TrailingAt text at (length before) start after r
  pub bytes : after ≡ sets before 0 (tails (length before) (chars (drop at text)))
