-- A turn over a plain scalar's text: what is left gives the whole.
use Prim.Native.Nat.{ℕ}
use mathlib.Core.Bool.{Bool, ◌&&◌, false, true}
use mathlib.Core.List.{List, [], ◌++◌, ◌∷◌, append_assoc, append-nil}
use mathlib.Core.Path.{◌∙◌, ◌≡◌, refl, sym}
use Rattle.yaml_text.specs.declared.Mark.{Mark}
use Rattle.yaml_text.specs.Class.{is_blank, none_left, peek}
use Rattle.yaml_text.specs.Mark.{Run, along, here, nothing_at}
use Rattle.yaml_text.specs.Mark as definition
use Rattle.yaml_text.specs.Pick.{pick}
use Rattle.yaml_text.specs.Test.{by_test, true_false}
use Rattle.yaml_text.specs.Utf8.{char_bytes, encode}
use Rattle.yaml_lexeme.specs.Plain.{glue, plain_stops, plain_text}
use Rattle.yaml_lexeme.specs.Turns.{plain_more, plain_stop}

-- a run's bytes, with the place behind it
pub record Coded : Type 0 where
  pub bytes : List ℕ
  pub place : definition.Place

abbrev pub coded : Run → Coded
coded r = record { bytes = encode r.text; place = r.place }

-- the bytes `passed` before the rest of a text, of which those of `end` are text whatever follows
abbrev pub resume : Coded → List ℕ → Run → Coded
resume end passed r = pick (none_left r.text) end (record { bytes = passed ++ encode r.text; place = r.place })

glue_empty : (c : ℕ) (p : definition.Place) (r : Run) → none_left (glue c p r).text ≡ true → glue c p r ≡ nothing_at p
unfolding glue none_left
glue_empty c p r e =
    by_test (is_blank c && none_left r.text)
    (λ t. rw t)
    (λ t. true_false (sym (rw t at e)))

-- where no text follows it ends here
text_empty : (flow blank : Bool) (m : Mark) (cs : List ℕ) → none_left (plain_text flow blank m cs).text ≡ true
    → plain_text flow blank m cs ≡ nothing_at (here m cs)
unfolding plain_text
text_empty flow blank m [] e = refl
text_empty flow blank m (c ∷ cs) e =
    by_test (plain_stops flow blank c (peek cs 0))
    (λ t. plain_stop flow blank m c cs t)
    (λ t. let f = plain_more flow blank m c cs t in f ∙ glue_empty c _ _ (rw f at e))

-- behind text that is known
pub resume_here : (flow blank : Bool) (m : Mark) (cs passed : List ℕ)
    → resume (record { bytes = passed; place = here m cs }) passed (plain_text flow blank m cs)
    ≡ record { bytes = passed ++ encode (plain_text flow blank m cs).text; place = (plain_text flow blank m cs).place }
unfolding encode
resume_here flow blank m cs passed =
    by_test (none_left (plain_text flow blank m cs).text)
    (λ t. rw (t, text_empty flow blank m cs t) (rw (append-nil passed)))
    (λ t. rw t)

module _ (flow blank : Bool) (m : Mark) (c : ℕ) (cs passed : List ℕ) (end : Coded) (h : plain_stops flow blank c (peek cs 0) ≡ false) where
  pub turn_text : is_blank c ≡ false → resume end passed (plain_text flow blank m (c ∷ cs))
      ≡ resume (record { bytes = passed ++ char_bytes c; place = here (along m) cs }) (passed ++ char_bytes c) (plain_text flow false (along m) cs)
  unfolding glue none_left encode
  turn_text e =
      let r = plain_text flow false (along m) cs in
      rw (plain_more flow blank m c cs h, e)
      (sym (resume_here flow false (along m) cs (passed ++ char_bytes c) ∙ rw (append_assoc passed (char_bytes c) (encode r.text))))

  pub turn_blank : is_blank c ≡ true → resume end passed (plain_text flow blank m (c ∷ cs)) ≡ resume end (passed ++ char_bytes c) (plain_text flow true (along m) cs)
  unfolding glue none_left encode
  turn_blank e =
      let r = plain_text flow true (along m) cs in
      rw (plain_more flow blank m c cs h, e)
      (by_test (none_left r.text) (λ t. rw t) (λ t. rw (t, append_assoc passed (char_bytes c) (encode r.text))))
