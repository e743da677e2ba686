-- Writing the content's text: what is left to write gives the whole.
use Prim.Native.Nat.{◌+◌, ℕ}
use mathlib.Core.List.{List}
use mathlib.Core.Path.{◌∙◌, ◌≡◌, refl, sym}
use native.Mathlib.Omega.{arith}
use lib.ListN.{length, length-append}
use lib.Seq.{sets}
use Rattle.yaml_text.specs.Utf8.{encode}
use Rattle.yaml_text.specs.Utf8Laws.{encode_append}
use Rattle.rooms.specs.Room.{sets_join}
use Rattle.reading.specs.Puts.{Puts}
use Rattle.block_content.specs.Lines.{ContentLines, before_lines}

-- of x, y is left to write, from k on; both end alike
pub record Wrote (before : List ℕ) (n : ℕ) (x : ContentLines) (after : List ℕ) (k : ℕ) (y : ContentLines) : Type 0 where
  pub line : x.line ≡ y.line
  pub place : x.place ≡ y.place
  pub text : sets before n (encode x.text) ≡ sets after k (encode y.text)
  pub size : n + length (encode x.text) ≡ k + length (encode y.text)

pub wrote_none : {before : List ℕ} {n : ℕ} {x : ContentLines} → Wrote before n x before n x
wrote_none = record { line = refl; place = refl; text = refl; size = refl }

pub wrote_more : {a b c : List ℕ} {i j k : ℕ} {x y z : ContentLines} {t : List ℕ} → Wrote a i x b j y → Puts b j c k t → y ≡ before_lines t z → Wrote a i x c k z
wrote_more {b = b} {j = j} {z = z} {t = t} w p e =
    let v = rw e at w in
    record {
      line = v.line;
      place = v.place;
      text = v.text ∙ rw (p.bytes, p.next, encode_append t z.text) (sym (sets_join (encode t) (encode z.text) b j));
      size = v.size ∙ rw (encode_append t z.text) (omega (arith, p.next, length-append (encode t) (encode z.text)));
    }
