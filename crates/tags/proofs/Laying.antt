-- Both texts of a tag: what its readers answer and are answered.
use Rattle.std.specs.Prelude.{Ok, Err}
use Prim.Native.Nat.{◌+◌, ◌≤◌, ℕ}
use mathlib.Core.List.{List, ◌++◌}
use mathlib.Core.Path.{◌∙◌, ◌≡◌, ap, refl}
use lib.ListN.{length}
use lib.Seq.{length-sets, sets}
use Rattle.yaml_text.specs.declared.Mark.{Mark}
use Rattle.yaml_text.specs.declared.Refusal.{Refusal}
use Rattle.yaml_text.specs.Refusal.{Read, got, refused}
use Rattle.yaml_text.specs.Utf8.{encode}
use Rattle.yaml_lexeme.specs.Tag as tag
use Rattle.yaml_lexeme.specs.Token.{size}
use Rattle.chars.specs.View.{Stands, view}
use Rattle.tags.specs.declared.tag.Texts.{Texts}
use Rattle.tags.specs.Texts.{Laid, Lays, laid_texts, seen_texts}

-- two texts of the definition, laid out as code has them
pub record Told (text before after : List ℕ) (x : Texts) (t : tag.Texts) : Type 0 where
  pub one : x.one ≡ size t.one
  pub other : x.other ≡ size t.other
  pub place : view text x.place ≡ t.place
  pub bytes : after ≡ sets before 0 (encode t.one ++ encode t.other)
  pub stands : Stands text x.place
  pub some : 1 ≤ x.place.at
  pub few : x.one + x.other ≤ x.place.at

module _ {text before after : List ℕ} {d : Read tag.Texts} where
  pub lays_got : {x : Texts} {t : tag.Texts} → d ≡ got t → Told text before after x t → Lays text before after (Ok x) d
  unfolding seen_texts laid_texts
  lays_got {t = t} f h =
      rw f
      (record {
        same = rw (h.one, h.other, h.place, h.bytes);
        kept = ap length h.bytes ∙ length-sets before 0 (encode t.one ++ encode t.other);
        ahead = (h.stands, h.some, h.few);
      })

  pub lays_refused : {n : ℕ} {m : Mark} → d ≡ refused n m → length after ≡ length before
      → Lays text before after (Err (record { number = n; mark = m })) d
  unfolding seen_texts laid_texts
  lays_refused f l = rw f (record { same = refl; kept = l; ahead = tt })

got_is : {x y : Laid} → got x ≡ got y → x ≡ y
got_is e = cc

module _ {text before after : List ℕ} where
  pub laid_got : {d : Read tag.Texts} {x : Texts} → Lays text before after (Ok x) d → (t : tag.Texts) × (d ≡ got t) × Told text before after x t
  unfolding seen_texts laid_texts
  laid_got {d = got t} h =
      let w = got_is h.same in (
        t,
        refl,
        record {
          one = ap (λ (y : Laid). y.one) w;
          other = ap (λ (y : Laid). y.other) w;
          place = ap (λ (y : Laid). y.place) w;
          bytes = ap (λ (y : Laid). y.bytes) w;
          stands = h.ahead.0;
          some = h.ahead.1;
          few = h.ahead.2;
        },
      )
  laid_got {d = refused n m} h = cc h.same

  pub laid_refused : {d : Read tag.Texts} {f : Refusal} → Lays text before after (Err f) d → d ≡ refused f.number f.mark
  unfolding seen_texts laid_texts
  laid_refused {d = got t} h = cc h.same
  laid_refused {d = refused n m} h = cc h.same
