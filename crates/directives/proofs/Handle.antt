-- The handle of %TAG.
use Rattle.std.specs.Prelude.{Ok, Err}
use Prim.Native.Nat.{◌+◌, ℕ}
use mathlib.Core.Bool.{Bool, false, true}
use mathlib.Core.List.{List, [], ◌++◌, ◌∷◌}
use mathlib.Core.Path.{◌∙◌, ◌≡◌, ap, sym}
use native.Mathlib.Omega.{arith}
use lib.Dec.{eqb}
use lib.ListN.{drop, get_or}
use Rattle.yaml_text.specs.declared.Mark.{Mark}
use Rattle.yaml_text.specs.Char.{'!'}
use Rattle.yaml_text.specs.Class.{is_alpha, none_left, peek}
use Rattle.yaml_text.specs.Mark.{Run, along, look, skip_by, run_of}
use Rattle.yaml_text.specs.Mark as definition
use Rattle.yaml_text.specs.Refusal.{◌>>=◌, got, need, refused}
use Rattle.yaml_text.specs.Utf8.{char_bytes, chars, encode}
use Rattle.yaml_lexeme.specs.Directive.{tag_handle}
use Rattle.chars.specs.declared.mark.Place.{Place}
use Rattle.chars.specs.Bytes.{CharAt, ne_char}
use Rattle.chars.specs.Parts.{Spans, part_more, part_none}
use Rattle.chars.specs.View.{past, view}
use Rattle.runs.specs.RunLaws.{span_none, span_some}
use Rattle.directives.proofs.Spans.{span_before, span_behind}
use Rattle.directives.specs.Tag.{Handles, handle, no_handle}

-- the definition, by what stands there
module _ (start : Mark) (p : definition.Place) (e : eqb (look p) '!' ≡ true) (w : Run) (f : run_of is_alpha (along p.mark) (drop 1 p.rest) ≡ w) where
  is_closed : eqb (look w.place) '!' ≡ true → tag_handle start p ≡ got (record { text = '!' ∷ w.text ++ ('!' ∷ []); place = skip_by 1 w.place })
  unfolding tag_handle ◌>>=◌ need
  is_closed g = rw (e, f, g)

  is_lone : eqb (look w.place) '!' ≡ false → none_left w.text ≡ true → tag_handle start p ≡ got (record { text = '!' ∷ []; place = w.place })
  unfolding tag_handle ◌>>=◌ need
  is_lone g h = rw (e, f, g, h)

  is_open : eqb (look w.place) '!' ≡ false → none_left w.text ≡ false → tag_handle start p ≡ refused 17 start
  unfolding tag_handle ◌>>=◌ need
  is_open g h = rw (e, f, g, h)

-- the answers
module _ (start : Mark) {text : List ℕ} (p : Place) where
  pub handle_none : {c : ℕ} → c ≡ get_or text p.at 0 → (c ≡ '!' → ⊥)
      → Handles text p (Err (record { number = 16; mark = start })) (tag_handle start (view text p))
  unfolding tag_handle ◌>>=◌ need
  handle_none {c} b e = rw (ne_char text p.at c b '!' tt e) no_handle

  module _ {h : Place} (a : CharAt text p.at '!' 1) (s : Spans text (past p 1 (along p.mark)) h (run_of is_alpha (along p.mark) (chars (drop (p.at + 1) text)))) where
    abbrev name : Run
    name = run_of is_alpha (along p.mark) (chars (drop (p.at + 1) text))

    mark : eqb (peek (chars (drop p.at text)) 0) '!' ≡ true
    mark = rw a.next

    read : run_of is_alpha (along p.mark) (drop 1 (chars (drop p.at text))) ≡ name
    read = rw a.next

    behind : {b : Bool} → eqb (peek (chars (drop h.at text)) 0) '!' ≡ b → eqb (look name.place) '!' ≡ b
    behind e = ap (λ (q : definition.Place). eqb (look q) '!') (sym s.moves.same) ∙ e

    pub handle_closed : CharAt text h.at '!' 1 → Handles text p (Ok (past h 1 (along h.mark))) (tag_handle start (view text p))
    handle_closed c = rw (is_closed start (view text p) mark name read (behind (rw c.next))) (handle (span_behind (span_before a s) c))

    module _ {c : ℕ} (b : c ≡ get_or text h.at 0) (n : c ≡ '!' → ⊥) where
      other : eqb (look name.place) '!' ≡ false
      other = behind (ne_char text h.at c b '!' tt n)

      pub handle_lone : h.at ≡ p.at + 1 → Handles text p (Ok h) (tag_handle start (view text p))
      unfolding encode char_bytes
      handle_lone e =
          rw (is_lone start (view text p) mark name read other (span_none s e))
          (handle {h = record { text = '!' ∷ []; place = name.place }} (record {
            moves = record { same = s.moves.same; stands = s.moves.stands; onward = omega arith };
            bytes = rw (e, part_more text p.at (omega arith) a, part_none text p.at);
          }))

      pub handle_open : (h.at ≡ p.at + 1 → ⊥) → Handles text p (Err (record { number = 17; mark = start })) (tag_handle start (view text p))
      handle_open e = rw (is_open start (view text p) mark name read other (span_some s e)) no_handle
