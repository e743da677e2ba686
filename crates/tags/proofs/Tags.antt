-- A tag, by its form, and its end.
use Rattle.std.specs.Prelude.{Ok, Err}
use Prim.Native.Nat.{◌%◌, ◌+◌, ◌^◌, ℕ}
use mathlib.Core.Bool.{Bool, ◌&&◌, ◌||◌, false, true}
use mathlib.Core.List.{List}
use mathlib.Core.Path.{◌∙◌, ◌≡◌, ap, refl, sym}
use native.Mathlib.Omega.{arith}
use lib.Dec.{eqb}
use lib.ListN.{drop, get_or}
use borrow.Author.Tests.{eq-eqb}
use Rattle.yaml_text.specs.declared.Mark.{Mark}
use Rattle.yaml_text.specs.declared.Refusal.{Refusal}
use Rattle.yaml_text.specs.Char.{'!', '<'}
use Rattle.yaml_text.specs.Class.{is_alpha, is_blank_or_breakz, is_flow, peek}
use Rattle.yaml_text.specs.Mark.{Run, along, look, run_of}
use Rattle.yaml_text.specs.Mark as definition
use Rattle.yaml_text.specs.Refusal.{◌>>=◌, got, need, refused}
use Rattle.yaml_text.specs.Utf8.{chars}
use Rattle.yaml_lexeme.specs.declared.Kind.TheVariants as kind
use Rattle.yaml_lexeme.specs.declared.Text.{Text}
use Rattle.yaml_lexeme.specs.Record.{laid}
use Rattle.yaml_lexeme.specs.Tag.{handled, primary, scan_tag, tag_texts, verbatim}
use Rattle.yaml_lexeme.specs.Tag as tag
use Rattle.yaml_lexeme.specs.Token.{Tag, kind_bytes, lexeme}
use Rattle.chars.specs.declared.mark.Place.{Place}
use Rattle.chars.specs.Bytes.{eq_at, ne_char}
use Rattle.chars.specs.View.{view}
use Rattle.reading.specs.Answers.{Reads, reads_got, reads_refused, texts_at}
use Rattle.reading.specs.Reading.{Indicated, first_at, text_size}
use Rattle.tags.specs.declared.tag.Texts.{Texts}
use Rattle.tags.specs.Texts.{Lays, NameAt, Tagged, name_in}
use Rattle.tags.proofs.Laying.{laid_got, laid_refused}

-- the forms, told by the character behind the mark and the one behind the word
module _ (start : Mark) (p : definition.Place) where
  is_verbatim : eqb (peek p.rest 1) '<' ≡ true → tag_texts start p ≡ verbatim start p
  unfolding tag_texts
  is_verbatim e = rw (e, tag_texts)

  module _ (w : Run) (e : eqb (peek p.rest 1) '<' ≡ false) (f : run_of is_alpha (along p.mark) (drop 1 p.rest) ≡ w) where
    is_handled : eqb (look w.place) '!' ≡ true → tag_texts start p ≡ handled start w.text w.place
    unfolding tag_texts
    is_handled g = rw (e, f, g, tag_texts, f)

    is_primary : eqb (look w.place) '!' ≡ false → tag_texts start p ≡ primary start w.text w.place
    unfolding tag_texts
    is_primary g = rw (e, f, g, tag_texts, f)

module _ {text : List ℕ} {start : Mark} (h : Tagged text start) where
  next_seen : (b : Bool) → eqb (peek (chars (drop 1 text)) 0) '<' ≡ b → eqb (peek (chars (drop 0 text)) 1) '<' ≡ b
  next_seen b e = rw h.first.next e

  pub tag_verbatim : get_or text 1 0 ≡ '<' → tag_texts start (view text (first_at start)) ≡ verbatim start (view text (first_at start))
  tag_verbatim e =
      is_verbatim start (view text (first_at start)) (next_seen true (eq_at text 1 (get_or text 1 0) refl '<' tt ∙ eq-eqb (get_or text 1 0) '<' e))

  module _ {c b : ℕ} {p : Place} (e : c ≡ get_or text 1 0) (z : c ≡ '<' → ⊥) (n : NameAt text start p) (f : b ≡ get_or text p.at 0) where
    other : eqb (peek (chars (drop 0 text)) 1) '<' ≡ false
    other = next_seen false (ne_char text 1 c e '<' tt z)

    named : run_of is_alpha (along start) (drop 1 (chars (drop 0 text))) ≡ record { text = (name_in text start).text; place = view text p }
    named = rw h.first.next (ap (λ (q : definition.Place). record { text = (name_in text start).text; place = q }) (sym n.name.moves.same))

    pub tag_handled : b ≡ '!' → tag_texts start (view text (first_at start)) ≡ handled start (name_in text start).text (view text p)
    tag_handled g =
        is_handled start (view text (first_at start)) (record { text = (name_in text start).text; place = view text p }) other named
        (eq_at text p.at b f '!' tt ∙ eq-eqb b '!' g)

    pub tag_primary : (b ≡ '!' → ⊥) → tag_texts start (view text (first_at start)) ≡ primary start (name_in text start).text (view text p)
    tag_primary g =
        is_primary start (view text (first_at start)) (record { text = (name_in text start).text; place = view text p }) other named (ne_char text p.at b f '!' tt g)

-- its end
abbrev ends : Bool → ℕ → Bool
ends flow c = is_blank_or_breakz c || (flow && is_flow c)

module _ (flow : Bool) (p : definition.Place) where
  scan_refused : {n : ℕ} {m : Mark} → tag_texts p.mark p ≡ refused n m → scan_tag flow p ≡ refused n m
  unfolding scan_tag ◌>>=◌
  scan_refused e = rw e

  module _ {t : tag.Texts} (e : tag_texts p.mark p ≡ got t) where
    scan_open : ends flow (look t.place) ≡ false → scan_tag flow p ≡ refused 26 t.place.mark
    unfolding scan_tag ◌>>=◌ need
    scan_open f = rw (e, f)

    scan_ended : ends flow (look t.place) ≡ true → scan_tag flow p ≡ got (lexeme (Tag t.one t.other) p.mark t.place.mark t.place)
    unfolding scan_tag ◌>>=◌ need
    scan_ended f = rw (e, f)

module _ {text before after : List ℕ} {start : Mark} {used : ℕ} (flow : Bool) (h : Indicated text start used) where
  pub tag_refused : {f : Refusal} → Lays text before after (Err f) (tag_texts start (view text (first_at start)))
      → Reads text before after used (Err f) (scan_tag flow (view text (first_at start)))
  tag_refused l = reads_refused (scan_refused flow (view text (first_at start)) (laid_refused l)) l.kept

  module _ {v : Texts} {c : ℕ} (l : Lays text before after (Ok v) (tag_texts start (view text (first_at start))))
      (j : c ≡ peek (chars (drop v.place.at text)) 0) where
    pub tag_open : ends flow c ≡ false
        → Reads text before after used (Err (record { number = 26; mark = v.place.mark })) (scan_tag flow (view text (first_at start)))
    tag_open f =
        let t = laid_got l in
        reads_refused (scan_open flow (view text (first_at start)) t.1 (rw (← t.2.place, ← j) f) ∙ rw (← t.2.place)) l.kept

    pub tag_ended : {one other : Text} {w : ℕ} → ends flow c ≡ true → one ≡ record { at = used; len = v.one % 2 ^ 32 } → w ≡ v.one % 2 ^ 32
        → other ≡ record { at = used + w; len = v.other % 2 ^ 32 }
        → Reads text before after used
        (Ok (record { token = record { kind = kind.Tag one other; start = start; end = v.place.mark }; next = v.place }))
        (scan_tag flow (view text (first_at start)))
    unfolding laid kind_bytes text_size
    tag_ended f o m n =
        let x = laid_got l in
        let t = x.0 in
        let k = x.2 in
        let at = texts_at h.given t.one t.other k.one k.other (omega (arith, k.few, k.stands.within)) o m n in
        reads_got (scan_ended flow (view text (first_at start)) x.1 (rw (← k.place, ← j) f))
        (rw (at.0, at.1, ← k.place))
        k.place
        k.bytes
        (record { stands = k.stands; some = k.some; size = rw (at.0, at.1, ← k.one, ← k.other) (omega (arith, k.few)) })
