-- A tab among the leading blanks is refused just where a character stands.
use mathlib.Core.Path.{◌∙◌, ◌≡◌, refl, sym}
use Rattle.yaml_lexeme.specs.Gap.{is_leading}
use Rattle.chars.specs.Bytes.{char_at, none_told, not_char}
use Rattle.gaps.specs.Answers.{skips_refused, skips_to}
use Rattle.gaps.proofs.Laws.{gap_ends, gap_nothing, gap_tabbed}
use Rattle.gaps.proofs.gap_end.Goals as goal
use Rattle.gaps.proofs.gap_end.Goals.{in-Tabbed+in_default-char_at, in_default}

pub returns-in-Char : goal.returns-in-Char
returns-in-Char c =
    λ flow. skips_refused c.refuse.ensures
    (gap_tabbed flow _ _ _ _ _ _ c.in-Tabbed.is (char_at c.args.text.now c.args.p.at _ _ (sym c.char_at.ensures ∙ c.in-Char.is)).next c.requires.1)

pub returns : goal.returns
returns c =
    λ flow. skips_to refl c.requires.0
    (elim c.match-b.branch [
      | in-Tabbed+in_default-char_at w ↦
          let l : c.is_leading.result ≡ is_leading c.args.b = cc in
          gap_nothing flow _ _ _ _ l (none_told c.args.text.now c.args.p.at w.char_at.ensures (not_char w.char_at.result w.in_default-char_at.not-Char))
      | in_default w ↦
          let l : c.is_leading.result ≡ is_leading c.args.b = cc in
          gap_ends flow _ _ _ l c.requires.2 w.in_default.not-Tabbed c.requires.1
    ])
