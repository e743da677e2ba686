-- K7: plain scalars, of one line.
use Rattle.std.specs.Prelude.{ℕ, Bool, ◌&&◌, ◌||◌, false, true, List, [], ◌∷◌, eqb, drop}
use Rattle.yaml_text.specs.declared.Mark.{Mark}
use Rattle.yaml_text.specs.Pick.{pick}
use Rattle.yaml_text.specs.Char.{'#', ':'}
use Rattle.yaml_text.specs.Class.{is-blank, is-blank-or-breakz, is-bom, is-breakz, is-flow, none_left, peek}
use Rattle.yaml_text.specs.Mark.{Place, Run, along, before-run, here, look, nothing-at}
use Rattle.yaml_lexeme.specs.declared.Style.TheVariants.{Plain}
use Rattle.yaml_lexeme.specs.Token.{Lexeme, Scalar, lexeme}

-- behind its first character it ends at the line's end, at a BOM, at a flow indicator in flow, at blank + '#',
-- and at a ':' before blank, break, end or, in flow, a flow indicator. c before d; blank: after a blank
unfoldable pub plain-stops : Bool → Bool → ℕ → ℕ → Bool
plain-stops flow blank c d =
    is-breakz c
    || is-bom c
    || (flow && is-flow c)
    || (eqb c '#' && blank)
    || (eqb c ':' && (is-blank-or-breakz d || (flow && is-flow d)))

-- trailing blanks drop, from the span too: a blank is text only if text follows
unfoldable pub glue : ℕ → Place → Run → Run
glue c p r = pick (is-blank c && none_left r.text) (nothing-at p) (before-run (c ∷ []) r)

-- the text behind its first character
unfoldable pub plain-text : Bool → Bool → Mark → List ℕ → Run
plain-text flow blank m [] = nothing-at (here m [])
plain-text flow blank m (c ∷ cs) =
    elim (plain-stops flow blank c (peek cs 0)) [
      | true ↦ nothing-at (here m (c ∷ cs))
      | false ↦ glue c (here m (c ∷ cs)) (plain-text flow (is-blank c) (along m) cs)
    ]

-- whatever character it begins with is text (K3) [C10, F1 to F3]
unfoldable pub scan-plain-scalar : Bool → Place → Lexeme
scan-plain-scalar flow p =
    let r = plain-text flow false (along p.mark) (drop 1 p.rest) in
    lexeme (Scalar Plain (look p ∷ r.text)) p.mark r.place.mark r.place
