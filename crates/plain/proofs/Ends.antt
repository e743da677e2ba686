-- Where a plain scalar's text ends, told by the byte at a place.
use Prim.Native.Nat.{◌%◌, ◌*◌, ◌+◌, ◌<◌, ◌≤◌, suc, ℕ}
use mathlib.Core.Bool.{Bool, ◌&&◌, ◌||◌, and-false, and-true, false, or-false, or-true, true}
use mathlib.Core.List.{List}
use mathlib.Core.Path.{◌∙◌, ◌≡◌, refl, sym}
use Rattle.std.proofs.Common.{None, Option, Some}
use native.Mathlib.Omega.{arith}
use lib.Dec.{eqb, leb, ltb}
use lib.ListN.{drop, get_or, length}
use lib.Seq.{drop-cons}
use borrow.Author.Tests.{le-leb, le-ltb, leb-true, lt-ltb, ltb-false, ltb-true, ne_eqb}
use Rattle.yaml_text.specs.declared.Decoded.{Decoded}
use Rattle.yaml_text.specs.declared.Decoded.TheVariants.{Char, End, Ill}
use Rattle.yaml_text.specs.declared.Mark.{Mark}
use Rattle.yaml_text.specs.Char.{'#', ':', byte_order_mark}
use Rattle.yaml_text.specs.Class.{is_blank, is_bom, is_break, is_breakz, is_flow, is_z, among, peek}
use Rattle.yaml_text.specs.Mark.{here, nothing_at}
use Rattle.yaml_text.specs.Test.{both_true, by_test, true_false}
use Rattle.yaml_text.specs.Utf8.{chars, first, is_scalar, is_tail, len_of, three}
use Rattle.yaml_text.specs.Utf8Laws.{first_past}
use Rattle.yaml_text.proofs.ByteLaws.{first_high}
use Rattle.yaml_lexeme.specs.Plain.{plain_stops, plain_text}
use Rattle.yaml_lexeme.specs.Turns.{plain_stop}
use Rattle.utf8.proofs.Laws.{case3}
use Rattle.chars.specs.Ascii.{Ascii, ◌or◌, apart, blank_ascii, break_ascii, flow_ascii, range}
use Rattle.chars.specs.Blocks.{ordinary}
use Rattle.chars.specs.Bytes.{CharAt, byte_char, byte_within, char_at, none_end, none_ill}
use Rattle.plain.specs.Text.{ends_at_colon, taken, text_length, usual}

-- the characters at which a text could end
unfoldable pub marked : ℕ → Bool
marked c = is_breakz c || is_bom c || is_flow c || eqb c '#' || eqb c ':'

none_of : (a b c d e flow blank x : Bool) → (a || b || c || d || e) ≡ false → (a || b || (flow && c) || (d && blank) || (e && x)) ≡ false
none_of true b c d e flow blank x h = true_false h
none_of false true c d e flow blank x h = true_false h
none_of false false true d e flow blank x h = true_false h
none_of false false false true e flow blank x h = true_false h
none_of false false false false true flow blank x h = true_false h
none_of false false false false false flow blank x h = rw (and-false flow)

pub unmarked : (flow blank : Bool) (c d : ℕ) → marked c ≡ false → plain_stops flow blank c d ≡ false
unfolding marked plain_stops
unmarked flow blank c d e = none_of (is_breakz c) (is_bom c) (is_flow c) (eqb c '#') (eqb c ':') flow blank _ e

pub ordinary_ascii : Ascii ordinary
unfolding ordinary
ordinary_ascii = range 45 57 tt tt or range 59 90 tt tt or range 94 122 tt tt

pub ordinary_unmarked : (c : ℕ) → ordinary c ≡ true → marked c ≡ false
unfolding ordinary marked is_breakz is_break is_z is_bom is_flow among
ordinary_unmarked = apart marked ordinary_ascii tt

pub ordinary_unblank : (c : ℕ) → ordinary c ≡ true → is_blank c ≡ false
unfolding ordinary is_blank
ordinary_unblank = apart is_blank ordinary_ascii tt

pub blank_unmarked : (c : ℕ) → is_blank c ≡ true → marked c ≡ false
unfolding is_blank marked is_breakz is_break is_z is_bom is_flow among
blank_unmarked = apart marked blank_ascii tt

-- a flow indicator is none of the others
flow_alone : (c : ℕ) → is_flow c ≡ true → (is_breakz c ≡ false) × (is_bom c ≡ false) × (eqb c '#' ≡ false) × (eqb c ':' ≡ false)
unfolding is_flow among is_breakz is_break is_z is_bom
flow_alone c e =
    (apart is_breakz flow_ascii tt c e, apart is_bom flow_ascii tt c e, apart (λ k. eqb k '#') flow_ascii tt c e, apart (λ k. eqb k ':') flow_ascii tt c e)

-- the tests of `stops`, for a character below 128
module _ (flow blank : Bool) (c d : ℕ) where
  pub stop_flow : is_flow c ≡ true → flow ≡ plain_stops flow blank c d
  unfolding plain_stops
  stop_flow e = let a = flow_alone c e in sym (rw (a.0, a.1, e, a.2, a.3, and-true flow) (or-false (flow || false) ∙ or-false flow))

  pub stop_colon : c ≡ ':' → ends_at_colon flow d ≡ plain_stops flow blank c d
  unfolding plain_stops ends_at_colon is_breakz is_break is_z is_bom is_flow among
  stop_colon e = rw (e, and-false flow)

  pub stop_hash : c ≡ '#' → blank ≡ plain_stops flow blank c d
  unfolding plain_stops is_breakz is_break is_z is_bom is_flow among
  stop_hash e = rw (e, and-false flow) (sym (or-false blank))

  pub stop_other : c < 128 → is_flow c ≡ false → (c ≡ ':' → ⊥) → (c ≡ '#' → ⊥) → is_breakz c ≡ plain_stops flow blank c d
  unfolding plain_stops is_bom
  stop_other h e f g =
      sym (rw (ne_eqb c 0xFEFF (omega arith), e, ne_eqb c ':' f, ne_eqb c '#' g, and-false flow) (simp or-false))

-- at a byte order mark, and at no other character from 128 up
bom_stops : (flow blank : Bool) (c d : ℕ) → is_bom c ≡ true → plain_stops flow blank c d ≡ true
unfolding plain_stops
bom_stops flow blank c d e = rw (e, or-true (is_breakz c))

high_unmarked : (c : ℕ) → 128 ≤ c → is_bom c ≡ false → marked c ≡ false
unfolding marked is_breakz is_z
high_unmarked c h e = rw (break_ascii.high c h, ne_eqb c 0 (omega arith), e, flow_ascii.high c h, ne_eqb c '#' (omega arith), ne_eqb c ':' (omega arith))

end_stops : (flow blank : Bool) (d : ℕ) → plain_stops flow blank 0 d ≡ true
unfolding plain_stops is_breakz is_break is_z
end_stops flow blank d = refl

-- what `text_length` answers: by the byte b there
module _ (flow blank : Bool) (s : List ℕ) (at b : ℕ) (e : b ≡ get_or s at 0) where
  pub low_stops : b < 128 → plain_stops flow blank b (peek (chars (drop (at + 1) s)) 0) ≡ true → None ≡ text_length flow blank s at
  unfolding taken
  low_stops h f =
      by_test (ltb at (length s))
      (λ t. rw ((byte_char s at b e (ltb-true at (length s) t) h).is, f))
      (λ t. rw (first_past s at (ltb-false at (length s) t)))

  pub low_goes : b < 128 → plain_stops flow blank b (peek (chars (drop (at + 1) s)) 0) ≡ false → Some 1 ≡ text_length flow blank s at
  unfolding taken
  low_goes h f =
      by_test (ltb 0 b)
      (λ t. rw ((byte_char s at b e (byte_within s at b e (ltb-true 0 b t)) h).is, f))
      (λ t. let z : b ≡ 0 = omega (arith, ltb-false 0 b t) in true_false (sym (end_stops flow blank _) ∙ rw z at f))

  pub high_goes : 128 ≤ b → (c n : ℕ) → first (drop at s) ≡ Char c n → is_bom c ≡ false → Some n ≡ text_length flow blank s at
  unfolding taken
  high_goes h c n f g =
      let k : at < length s = byte_within s at b e (omega arith) in
      let w : 128 ≤ c = first_high b (drop (suc at) s) c n h (rw (drop-cons s at 0 k, ← e) at f) in
      rw (f, unmarked flow blank c (peek (chars (drop (at + n) s)) 0) (high_unmarked c w g))

  pub usual_goes : usual b (get_or s (at + 1) 0) (get_or s (at + 2) 0) ≡ true → Some 3 ≡ text_length flow blank s at
  unfolding usual len_of three is_scalar is_bom
  usual_goes u =
      let x = get_or s (at + 1) 0 in
      let y = get_or s (at + 2) 0 in
      let u' = both_true (leb 225 b && leb b 236) (is_tail x && is_tail y) u in
      let t = both_true (is_tail x) (is_tail y) u'.1 in
      let h = both_true (leb 225 b) (leb b 236) u'.0 in
      let l = leb-true 225 b h.0 in
      let m = leb-true b 236 h.1 in
      let v = b % 16 * 4096 + x % 64 * 64 + y % 64 in
      let v0 : 0x800 ≤ v = omega arith in
      let v1 : v < 0xd800 = omega arith in
      let v2 : v < 0x110000 = omega arith in
      let n : 3 ≡ len_of b = rw (le-ltb b 128 (omega arith), le-ltb b 192 (omega arith), le-ltb b 224 (omega arith), lt-ltb b 240 (omega arith)) in
      let w : Char v 3 ≡ three b x y = rw (t.0, t.1, le-leb 0x800 v v0, lt-ltb v 0xd800 v1, lt-ltb v 0x110000 v2) in
      high_goes (omega arith) v 3 (sym (case3 s at (byte_within s at b e (omega arith)) 3 (rw (← e) n) refl x y (Char v 3) refl refl (rw (← e) w))) (ne_eqb v byte_order_mark (omega arith))

pub high_stops : (flow blank : Bool) (s : List ℕ) (at c n : ℕ) → first (drop at s) ≡ Char c n → is_bom c ≡ true → None ≡ text_length flow blank s at
unfolding taken
high_stops flow blank s at c n f g = rw (f, bom_stops flow blank c (peek (chars (drop (at + n) s)) 0) g)

pub none_length : (flow blank : Bool) (s : List ℕ) (at : ℕ) (d : Decoded) → d ≡ first (drop at s) → ((c n : ℕ) → d ≡ Char c n → ⊥)
    → None ≡ text_length flow blank s at
unfolding taken
none_length flow blank s at (Char c n) e k = absurd (k c n refl)
none_length flow blank s at Ill e k = rw (← e)
none_length flow blank s at End e k = rw (← e)

-- the cases of `stops` and of `text_length`
pub ruleset by_char = (stop_flow, stop_colon, stop_hash, stop_other)

pub ruleset by_byte = (low_stops, low_goes, high_goes, high_stops, none_length, usual_goes)

-- a character of n bytes that is text
pub record IsText (flow blank : Bool) (s : List ℕ) (at n : ℕ) : Type 0 where
  pub char : ℕ
  pub is : CharAt s at char n
  pub on : plain_stops flow blank char (peek (chars (drop (at + n) s)) 0) ≡ false

pub goes_by : (flow blank : Bool) (s : List ℕ) (at : ℕ) (d : Decoded) → first (drop at s) ≡ d → (n : ℕ) → taken flow blank s at d ≡ Some n
    → IsText flow blank s at n
unfolding taken
goes_by flow blank s at (Char c k) f n e =
    by_test (plain_stops flow blank c (peek (chars (drop (at + k) s)) 0))
    (λ t. let z : ◌≡◌ {A = Option ℕ} None (Some n) = rw t at e in cc)
    (λ t. let w : ◌≡◌ {A = Option ℕ} (Some k) (Some n) = rw t at e in
    let z : n ≡ k = cc in
    rw z (record { char = c; is = char_at s at c k f; on = t }))
goes_by flow blank s at Ill f n e = cc
goes_by flow blank s at End f n e = cc

pub stops_by : (flow blank : Bool) (s : List ℕ) (at : ℕ) (d : Decoded) → first (drop at s) ≡ d → taken flow blank s at d ≡ None → (m : Mark)
    → plain_text flow blank m (chars (drop at s)) ≡ nothing_at (here m (chars (drop at s)))
unfolding taken plain_text
stops_by flow blank s at (Char c k) f e m =
    by_test (plain_stops flow blank c (peek (chars (drop (at + k) s)) 0))
    (λ t. rw (char_at s at c k f).next (plain_stop flow blank m c (chars (drop (at + k) s)) t))
    (λ t. let z : ◌≡◌ {A = Option ℕ} (Some k) None = rw t at e in cc)
stops_by flow blank s at Ill f e m = rw (none_ill s at f)
stops_by flow blank s at End f e m = rw (none_end s at f)
