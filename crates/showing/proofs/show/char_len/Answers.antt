-- A character takes a byte at least, and no more than there are.
use Prim.Native.Nat.{◌+◌, ◌<◌, ◌≤◌, ℕ}
use mathlib.Core.List.{List}
use mathlib.Core.Path.{◌∙◌, ◌≡◌, sym}
use native.Mathlib.Omega.{arith}
use lib.ListN.{drop, length, length-drop}
use Rattle.yaml_text.specs.Utf8.{first}
use Rattle.yaml_text.proofs.Utf8Laws.{first_fits}
use Rattle.yaml_text.specs.declared.Decoded.TheVariants.{Char}
use borrow.Author.Rules.{rules}
use Rattle.showing.proofs.show.char_len.Goals as goal

taken : (s : List ℕ) (at c n : ℕ) → at < length s → first (drop at s) ≡ Char c n → (1 ≤ n) × (at + n ≤ length s)
taken s at c n h e = let f = first_fits (drop at s) c n e in omega (arith, length-drop at s)

pub returns-in-Char : goal.returns-in-Char
returns-in-Char c = taken _ _ _ _ (search rules) (sym c.char_at-d.ensures ∙ c.in-Char.is)
