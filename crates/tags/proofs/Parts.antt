-- The three forms of a tag.
use Rattle.std.specs.Prelude.{Ok, Err}
use Prim.Native.Nat.{◌+◌, ◌-◌, suc, ℕ}
use mathlib.Core.Bool.{Bool, false, true}
use mathlib.Core.List.{List, [], ◌++◌, ◌∷◌}
use mathlib.Core.Path.{◌∙◌, ◌≡◌, ap, refl, sym}
use native.Mathlib.Omega.{arith}
use lib.Dec.{eqb}
use lib.ListN.{drop, get_or, length, length-append, take}
use lib.Seq.{length-sets, length-take-le, sets}
use borrow.Author.Tests.{eq-eqb, ne_eqb}
use Rattle.rooms.specs.Room.{sets_join}
use Rattle.yaml_text.specs.declared.Mark.{Mark}
use Rattle.yaml_text.specs.declared.Refusal.{Refusal}
use Rattle.yaml_text.specs.Char.{'!', '<', '>'}
use Rattle.yaml_text.specs.Class.{is_tag, is_uri, none_left, peek}
use Rattle.yaml_text.specs.Mark.{along, along_by, look, skip_by}
use Rattle.yaml_text.specs.Mark as definition
use Rattle.yaml_text.specs.Pick.{pick}
use Rattle.yaml_text.specs.Refusal.{◌>>=◌, got, need, refused}
use Rattle.yaml_text.specs.Utf8.{char_bytes, chars, encode}
use Rattle.yaml_text.specs.Utf8Laws.{encode_append}
use Rattle.yaml_lexeme.specs.Tag.{handled, primary, uri_at, verbatim}
use Rattle.yaml_lexeme.specs.Token.{size}
use Rattle.chars.specs.declared.mark.Place.{Place}
use Rattle.chars.specs.Bytes.{CharAt, eq_char, ne_char}
use Rattle.chars.specs.Parts.{part_join, part_more}
use Rattle.chars.specs.Places.{stands_along}
use Rattle.chars.specs.Reach.{more, none, reach_one, reach_rest}
use Rattle.chars.specs.View.{past, view}
use Rattle.reading.specs.Reading.{first_at}
use Rattle.reading.specs.declared.Written.{Written}
use Rattle.runs.specs.Encode.{none_size}
use Rattle.runs.specs.Run.{Writes}
use Rattle.runs.specs.RunLaws.{Ran, ran, run_refused}
use Rattle.tags.specs.Texts.{Lays, NameAt, Tagged, name_in}
use Rattle.tags.proofs.Laying.{lays_got, lays_refused}

-- the definition, by what it reads
module _ (start : Mark) (p : definition.Place) {s : List ℕ} {q : definition.Place} where
  verbatim_is : uri_at is_uri start (skip_by 2 p) ≡ got (record { text = s; place = q }) → eqb (look q) '>' ≡ true
      → verbatim start p ≡ got (record { one = []; other = s; place = skip_by 1 q })
  unfolding verbatim ◌>>=◌ need
  verbatim_is e f = rw (e, f)

  handled_is : (h : List ℕ) → uri_at is_tag start (skip_by 1 p) ≡ got (record { text = s; place = q }) → none_left s ≡ false
      → handled start h p ≡ got (record { one = '!' ∷ h ++ ('!' ∷ []); other = s; place = q })
  unfolding handled ◌>>=◌ need
  handled_is h e f = rw (e, f)

  handled_no : (h : List ℕ) → uri_at is_tag start (skip_by 1 p) ≡ got (record { text = s; place = q }) → none_left s ≡ true → handled start h p ≡ refused 25 start
  unfolding handled ◌>>=◌ need
  handled_no h e f = rw (e, f)

  primary_is : (h : List ℕ) (b : Bool) → uri_at is_tag start p ≡ got (record { text = s; place = q }) → none_left (h ++ s) ≡ b
      → primary start h p ≡ got (record { one = pick b [] ('!' ∷ []); other = pick b ('!' ∷ []) (h ++ s); place = q })
  unfolding primary ◌>>=◌
  primary_is h b e f = rw (e, f)

-- `!<x>`, whose x begins at the third character
abbrev pub third : Mark → Place
third start = past (first_at start) 2 (along_by 2 start)

module _ {text : List ℕ} {start : Mark} (h : Tagged text start) (b : get_or text 1 0 ≡ '<') where
  opened : CharAt text 1 '<' 1
  opened = eq_char text 1 (get_or text 1 0) refl '<' tt b

  third_rest : chars (drop 2 text) ≡ drop 2 (chars (drop 0 text))
  third_rest = reach_rest (more h.first (more opened none))

  module _ {before after : List ℕ} where
    pub verbatim_refused : {f : Refusal} → Writes text before after (third start) 0 (Err f) (uri_at is_uri start (view text (third start)))
        → Lays text before after (Err f) (verbatim start (view text (first_at start)))
    unfolding verbatim ◌>>=◌
    verbatim_refused w = lays_refused (rw (run_refused (rw third_rest at w) refl)) w.kept

    module _ {x : Written} (w : Writes text before after (third start) 0 (Ok x) (uri_at is_uri start (view text (third start)))) where
      x_read : Ran text before after (third start) 0 x (uri_at is_uri start (skip_by 2 (view text (first_at start))))
      x_read = ran (rw third_rest at w) refl

      pub verbatim_open : {c : ℕ} → c ≡ get_or text x.place.at 0 → (c ≡ '>' → ⊥)
          → Lays text before after (Err (record { number = 20; mark = start })) (verbatim start (view text (first_at start)))
      unfolding verbatim ◌>>=◌ need
      verbatim_open {c = c} i z = lays_refused (rw (x_read.is, ne_char text x.place.at c i '>' tt z)) w.kept

      pub verbatim_closed : {q : Place} → CharAt text x.place.at '>' 1 → q ≡ past x.place 1 (along x.place.mark)
          → Lays text before after (Ok (record { one = 0; other = x.count; place = q })) (verbatim start (view text (first_at start)))
      unfolding encode
      verbatim_closed {q} a i =
          let t = x_read in
          let s : eqb (peek (chars (drop x.place.at text)) 0) '>' ≡ true = rw a.next in
          rw i
          (lays_got (verbatim_is start (view text (first_at start)) t.is s)
          (record {
            one = refl;
            other = omega (arith, t.next);
            place = rw a.next;
            bytes = t.bytes;
            stands = stands_along t.stands 1 1 (omega arith) a.within;
            some = omega arith;
            few = omega (arith, t.few);
          }))

-- a text that is written behind the first n bytes, which were copied
pub record Copied (text before mid : List ℕ) (n : ℕ) : Type 0 where
  pub is : mid ≡ sets before 0 (take n text)

module _ {text before mid : List ℕ} {n : ℕ} (c : Copied text before mid n) where
  kept : length mid ≡ length before
  kept = ap length c.is ∙ length-sets before 0 (take n text)

  behind : {after : List ℕ} (s t : List ℕ) → take n text ≡ encode s → size s ≡ n → after ≡ sets mid n (encode t) → after ≡ sets before 0 (encode s ++ encode t)
  behind s t e l f = let z : 0 + size s ≡ n = omega arith in f ∙ rw (c.is, e) (rw z at (sets_join (encode s) (encode t) before 0))

empty : (l : List ℕ) → length l ≡ 0 → l ≡ []
empty [] e = refl
empty (x ∷ l) e = absurd (omega arith)

module _ {text : List ℕ} {start : Mark} {p : Place} (h : NameAt text start p) where
  front : take p.at text ≡ encode ('!' ∷ (name_in text start).text)
  unfolding encode char_bytes
  front =
      let k : p.at - 0 ≡ p.at = omega arith in
      rw (← k) (part_join text 0 1 p.at (omega arith) h.name.moves.onward ∙ rw (part_more text 0 (omega arith) h.tagged.first, ← h.name.bytes))

  front_size : size ('!' ∷ (name_in text start).text) ≡ p.at
  front_size = ap length (sym front) ∙ length-take-le p.at text h.name.moves.stands.within

  -- `!!s`, `!h!s`: the second mark stands at p
  module _ (b : get_or text p.at 0 ≡ '!') where
    second : CharAt text p.at '!' 1
    second = eq_char text p.at (get_or text p.at 0) refl '!' tt b

    abbrev handle : List ℕ
    handle = '!' ∷ (name_in text start).text ++ ('!' ∷ [])

    handle_bytes : take (p.at + 1) text ≡ encode handle
    unfolding encode char_bytes
    handle_bytes =
        let i : p.at + 1 - 0 ≡ p.at + 1 = omega arith in
        let j : p.at - 0 ≡ p.at = omega arith in
        (rw (i, j) at (part_more text 0 (omega arith) second)) ∙ ap (λ (l : List ℕ). l ++ ('!' ∷ [])) front
        ∙ sym (encode_append ('!' ∷ (name_in text start).text) ('!' ∷ []))

    handle_size : size handle ≡ p.at + 1
    handle_size = ap length (sym handle_bytes) ∙ length-take-le (p.at + 1) text second.within

    module _ {before mid after : List ℕ} (c : Copied text before mid (p.at + 1)) where
      pub handled_refused : {f : Refusal} → Writes text mid after (past p 1 (along p.mark)) (p.at + 1) (Err f) (uri_at is_tag start (view text (past p 1 (along p.mark))))
          → Lays text before after (Err f) (handled start (name_in text start).text (view text p))
      unfolding handled ◌>>=◌
      handled_refused w = lays_refused (rw (run_refused (rw (reach_rest (reach_one second)) at w) refl)) (w.kept ∙ kept c)

      module _ {x : Written}
          (w : Writes text mid after (past p 1 (along p.mark)) (p.at + 1) (Ok x) (uri_at is_tag start (view text (past p 1 (along p.mark))))) where
        suffix : Ran text mid after (past p 1 (along p.mark)) (p.at + 1) x (uri_at is_tag start (skip_by 1 (view text p)))
        suffix = ran (rw (reach_rest (reach_one second)) at w) refl

        pub handled_none : x.count ≡ p.at + 1
            → Lays text before after (Err (record { number = 25; mark = start })) (handled start (name_in text start).text (view text p))
        handled_none z =
            let t = suffix in
            let n : none_left t.run ≡ true = none_size t.run ∙ eq-eqb (size t.run) 0 (omega (arith, t.next)) in
            lays_refused (handled_no start (view text p) (name_in text start).text t.is n) (w.kept ∙ kept c)

        pub handled_some : (x.count ≡ p.at + 1 → ⊥)
            → Lays text before after (Ok (record { one = p.at + 1; other = x.count - (p.at + 1); place = x.place }))
            (handled start (name_in text start).text (view text p))
        handled_some z =
            let t = suffix in
            let n : none_left t.run ≡ false = none_size t.run ∙ ne_eqb (size t.run) 0 (λ i. z (omega (arith, t.next))) in
            lays_got (handled_is start (view text p) (name_in text start).text t.is n)
            (record {
              one = sym handle_size;
              other = omega (arith, t.next);
              place = refl;
              bytes = behind c handle t.run handle_bytes handle_size t.bytes;
              stands = t.stands;
              some = omega (arith, t.few, t.next);
              few = omega (arith, t.few, t.next);
            })

  -- `!s`: what follows the mark
  abbrev text_of : List ℕ → List ℕ
  text_of t = (name_in text start).text ++ t

  s_size : (t : List ℕ) {k : ℕ} → k ≡ p.at + size t → k ≡ 1 + size (text_of t)
  unfolding encode char_bytes
  s_size t i =
      let n = (name_in text start).text in
      let l : suc (size n) ≡ p.at = front_size in
      rw (encode_append n t, length-append (encode n) (encode t)) (omega arith)

  s_bytes : {before mid after : List ℕ} → Copied text before mid p.at → (t : List ℕ) → after ≡ sets mid p.at (encode t)
      → after ≡ sets before 0 ('!' ∷ encode (text_of t))
  unfolding encode char_bytes
  s_bytes c t i = rw (encode_append (name_in text start).text t) (behind c ('!' ∷ (name_in text start).text) t front front_size i)

  module _ {before mid after : List ℕ} (c : Copied text before mid p.at) where
    pub primary_refused : {f : Refusal} → Writes text mid after p p.at (Err f) (uri_at is_tag start (view text p))
        → Lays text before after (Err f) (primary start (name_in text start).text (view text p))
    unfolding primary ◌>>=◌
    primary_refused w = lays_refused (rw (run_refused w refl)) (w.kept ∙ kept c)

    module _ {x : Written} (w : Writes text mid after p p.at (Ok x) (uri_at is_tag start (view text p))) where
      pub primary_alone : x.count ≡ 1
          → Lays text before after (Ok (record { one = 0; other = 1; place = x.place })) (primary start (name_in text start).text (view text p))
      unfolding encode char_bytes
      primary_alone z =
          let t = ran w refl in
          let s = text_of t.run in
          let i : size s ≡ 0 = omega (arith, s_size t.run t.next) in
          lays_got (primary_is start (view text p) (name_in text start).text true t.is (none_size s ∙ eq-eqb (size s) 0 i))
          (record {
            one = refl;
            other = refl;
            place = refl;
            bytes = s_bytes c t.run t.bytes ∙ rw (empty (encode s) i);
            stands = t.stands;
            some = omega (arith, t.few, t.next, front_size);
            few = omega (arith, t.few, t.next, front_size);
          })

      pub primary_some : (x.count ≡ 1 → ⊥)
          → Lays text before after (Ok (record { one = 1; other = x.count - 1; place = x.place })) (primary start (name_in text start).text (view text p))
      unfolding encode char_bytes
      primary_some z =
          let t = ran w refl in
          let s = text_of t.run in
          let l = s_size t.run t.next in
          lays_got (primary_is start (view text p) (name_in text start).text false t.is (none_size s ∙ ne_eqb (size s) 0 (λ i. z (omega arith))))
          (record {
            one = refl;
            other = omega arith;
            place = refl;
            bytes = s_bytes c t.run t.bytes;
            stands = t.stands;
            some = omega (arith, t.few, t.next, front_size);
            few = omega (arith, t.few, t.next, front_size);
          })
