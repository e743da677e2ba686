-- Directives (10 to 19; YAML 1.2.2, 6.8).
use Rattle.std.specs.Prelude.{◌*◌, ◌+◌, ◌-◌, suc, ℕ, Bool, ◌&&◌, ◌||◌, false, not, true, List, [], ◌++◌, ◌∷◌, eqb, ltb, drop}
use Rattle.yaml_text.specs.declared.Mark.{Mark}
use Rattle.yaml_text.specs.Pick.{pick}
use Rattle.yaml_text.specs.Char.{'!', '0', 'A', 'G', 'L', 'M', 'T', 'Y', dot, space}
use Rattle.yaml_text.specs.Class.{is_alpha, is_blank, is_blank_or_breakz, is_breakz, is_digit, is_non_space, is_tag, is_uri, none_left, same}
use Rattle.yaml_text.specs.Mark.{Place, Run, along, before_run, here, look, nothing_at, skip_break, skip_by, run_of}
use Rattle.yaml_text.specs.Refusal.{Read, ◌>>=◌, got, need, refused}
use Rattle.yaml_lexeme.specs.Token.{Lexeme, ReservedDirective, TagDirective, VersionDirective, lexeme}
use Rattle.yaml_lexeme.specs.Gap.{blanks, blanks_and_comment}
use Rattle.yaml_lexeme.specs.Tag.{uri_at}

pub record Numbered : Type 0 where
  pub value : ℕ
  pub place : Place

-- the digits of a version's number, after n digits of the value v; 14: a tenth digit
unfoldable pub version_digits : Mark → ℕ → ℕ → Mark → List ℕ → Read Numbered
version_digits start n v m [] = got (record { value = v; place = here m [] })
version_digits start n v m (c ∷ cs) =
    elim (is_digit c) [
      | true ↦ elim (ltb n 9) [
        | true ↦ version_digits start (suc n) (v * 10 + (c - '0')) (along m) cs
        | false ↦ refused 14 start
      ]
      | false ↦ got (record { value = v; place = here m (c ∷ cs) })
    ]

-- 12: no digit
unfoldable pub version_number : Mark → Place → Read Numbered
version_number start p = do
  _ ← need (is_digit (look p)) 12 start
  version_digits start 0 0 p.mark p.rest

abbrev pub blanks_at : Place → Place
blanks_at p = blanks p.mark p.rest

-- %YAML; 13: no '.'
unfoldable pub version_directive : Mark → Place → Read Lexeme
version_directive start p = do
  a ← version_number start (blanks_at p)
  _ ← need (eqb (look a.place) dot) 13 start
  b ← version_number start (skip_by 1 a.place)
  got (lexeme (VersionDirective a.value b.value) start b.place.mark b.place)

-- the handle of %TAG. 16: no '!'; 17: not closed
unfoldable pub tag_handle : Mark → Place → Read Run
tag_handle start p = do
  _ ← need (eqb (look p) '!') 16 start
  let h = run_of is_alpha (along p.mark) (drop 1 p.rest)
  let closed = eqb (look h.place) '!'
  _ ← need (closed || none_left h.text) 17 start
  got (pick closed
      (record { text = '!' ∷ h.text ++ ('!' ∷ []); place = skip_by 1 h.place })
      (record { text = '!' ∷ []; place = h.place }))

-- the prefix of %TAG. 18: a bad first character
unfoldable pub tag_prefix : Mark → Place → Read Run
tag_prefix start p = do
  _ ← need (eqb (look p) '!' || is_tag (look p)) 18 start
  uri_at is_uri start p

-- %TAG; 19: no blank after the prefix [H3]
unfoldable pub tag_directive : Mark → Place → Read Lexeme
tag_directive start p = do
  h ← tag_handle start (blanks_at p)
  r ← tag_prefix start (blanks_at h.place)
  let e = r.place
  _ ← need (is_blank_or_breakz (look e)) 19 start
  got (lexeme (TagDirective h.text r.text) start e.mark e)

-- parameters joined by one space; '#' words are parameters. some: a word came before; blank: after a blank
unfoldable pub parameters : Bool → Bool → Mark → List ℕ → Run
parameters some blank m [] = nothing_at (here m [])
parameters some blank m (c ∷ cs) =
    elim (is_blank c) [
      | true ↦ parameters some true (along m) cs
      | false ↦ elim (is_non_space c) [
        | true ↦ before_run (pick (some && blank) (space ∷ c ∷ []) (c ∷ [])) (parameters true false (along m) cs)
        | false ↦ nothing_at (here m (c ∷ cs))
      ]
    ]

-- the span takes in the blanks behind the last word [H1, H2]
unfoldable pub reserved_directive : Mark → List ℕ → Place → Lexeme
reserved_directive start name p =
    let r = parameters false false p.mark p.rest in
    lexeme (ReservedDirective name r.text) start r.place.mark r.place

-- the names that mean something; any other is reserved
abbrev pub yaml_name : List ℕ
yaml_name = 'Y' ∷ 'A' ∷ 'M' ∷ 'L' ∷ []

abbrev pub tag_name : List ℕ
tag_name = 'T' ∷ 'A' ∷ 'G' ∷ []

unfoldable pub directive_of : Mark → List ℕ → Place → Read Lexeme
directive_of start name p =
    elim (same name yaml_name) [
      | true ↦ version_directive start p
      | false ↦ elim (same name tag_name) [
        | true ↦ tag_directive start p
        | false ↦ got (reserved_directive start name p)
      ]
    ]

-- from its '%', and past its line. 10: no name; 11: the name is stopped by a BOM; 15: no comment or break [H4]
unfoldable pub scan_directive : Place → Read Lexeme
scan_directive p = do
  let name_mark = along p.mark
  let name = run_of is_non_space name_mark (drop 1 p.rest)
  _ ← need (not (none_left name.text)) 10 name_mark
  _ ← need (is_blank_or_breakz (look name.place)) 11 name_mark
  l ← directive_of p.mark name.text name.place
  e ← blanks_and_comment l.place
  _ ← need (is_breakz (look e)) 15 p.mark
  got (record { token = l.token; place = skip_break e })
