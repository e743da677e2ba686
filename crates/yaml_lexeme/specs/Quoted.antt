-- Quoted scalars (33 to 40; YAML 1.2.2, 7.3.1 and 7.3.2).
use Rattle.std.specs.Prelude.{suc, zero, ℕ, Bool, ◌&&◌, ◌||◌, false, not, true, List, [], ◌++◌, ◌∷◌, eqb, ltb, drop, replicate}
use Rattle.yaml_text.specs.declared.Mark.{Mark}
use Rattle.yaml_text.specs.Pick.{pick}
use Rattle.yaml_text.specs.Char.{':', ']', backslash, close_brace, comma, double_quote, line_feed, single_quote, tab}
use Rattle.yaml_text.specs.Class.{among, is_blank, is_break, is_breakz, peek}
use Rattle.yaml_text.specs.Mark.{Place, Run, along, break_length, edge_of, half_break, here, is_marker, look, over}
use Rattle.yaml_text.specs.Refusal.{Read, ◌>>=◌, before_read, got, need, refused}
use Rattle.yaml_lexeme.specs.declared.Style.TheVariants.{DoubleQuoted, SingleQuoted}
use Rattle.yaml_lexeme.specs.Token.{Lexeme, Scalar, lexeme}
use Rattle.yaml_lexeme.specs.Gap.{blanks_and_comment}
use Rattle.yaml_lexeme.specs.Escape.{Escaped, escape}
use Rattle.yaml_lexeme.specs.Fold.{fold}

-- what holds for the whole scalar
pub record Quote : Type 0 where
  pub single : Bool
  pub indent : ℕ
  pub start : Mark

abbrev pub quote_char : Quote → ℕ
quote_char q = pick q.single single_quote double_quote

-- what came right before a character of the scalar
pub data Mode : Type 0 where
  -- a character that is text
  chars_of : Mode
  -- these blanks, which are text if no break follows
  blanks_of : List ℕ → Mode
  -- a break, and n more after it
  folded : ℕ → Mode
  -- an escaped break, and n breaks after it; whether nothing came after it
  joined : ℕ → Bool → Mode

-- a turn over one character
pub data QuotedTurn : Type 0 where
  -- put this text, go on behind the character and n more
  goes : List ℕ → Mode → ℕ → QuotedTurn
  -- the closing quote, after this text
  closes : List ℕ → QuotedTurn
  wrong_quote : ℕ → Mark → QuotedTurn

-- what blanks and breaks become once text follows; an escaped break is nothing
unfoldable pub folds_to : Mode → List ℕ
folds_to chars_of = []
folds_to (blanks_of bs) = bs
folds_to (folded n) = fold (suc n)
folds_to (joined n fresh) = replicate n line_feed

-- 36: a tab as indentation, after a break [D8]
unfoldable pub quoted_blank : Quote → Mark → ℕ → Mode → QuotedTurn
quoted_blank q m c chars_of = goes [] (blanks_of (c ∷ [])) 0
quoted_blank q m c (blanks_of bs) = goes [] (blanks_of (bs ++ (c ∷ []))) 0
quoted_blank q m c (folded n) = pick (eqb c tab && ltb (edge_of m) q.indent) (wrong_quote 36 m) (goes [] (folded n) 0)
quoted_blank q m c (joined n fresh) = pick (eqb c tab && ltb (edge_of m) q.indent) (wrong_quote 36 m) (goes [] (joined n false) 0)

-- behind a break: blanks before it go
unfoldable pub broken : Mode → Mode
broken chars_of = folded 0
broken (blanks_of bs) = folded 0
broken (folded n) = folded (suc n)
broken (joined n fresh) = joined (suc n) false

-- the CR of a CR LF is passed over
unfoldable pub quoted_break : Mode → ℕ → ℕ → QuotedTurn
quoted_break b c d = pick (half_break c d) (goes [] b 0) (goes [] (broken b) 0)

abbrev pub escape_turn : List ℕ → Read Escaped → QuotedTurn
escape_turn t (got e) = goes (t ++ (e.char ∷ [])) chars_of e.took
escape_turn t (refused n m) = wrong_quote n m

-- a character of the text: t stands before it. cs: the text behind it [E9]
unfoldable pub quoted_char : Quote → List ℕ → ℕ → List ℕ → QuotedTurn
quoted_char q t c cs =
    elim (eqb c (quote_char q)) [
      | true ↦ pick (q.single && eqb (peek cs 0) single_quote) (goes (t ++ (single_quote ∷ [])) chars_of 1) (closes t)
      | false ↦ elim (not q.single && eqb c backslash) [
        | true ↦ elim (is_break (peek cs 0)) [
          | true ↦ goes t (joined 0 true) (break_length cs)
          | false ↦ escape_turn t (escape q.start cs)
        ]
        | false ↦ goes (t ++ (c ∷ [])) chars_of 0
      ]
    ]

-- 33: a document marker; 35: a column below the indent. Looked at where text follows blanks and breaks [E3, E8]
unfoldable pub quoted_line : Quote → Mode → Mark → ℕ → List ℕ → QuotedTurn
quoted_line q b m c cs =
    elim (is_marker m (c ∷ cs)) [
      | true ↦ wrong_quote 33 q.start
      | false ↦ elim (ltb (edge_of m) q.indent) [
        | true ↦ wrong_quote 35 q.start
        | false ↦ quoted_char q (folds_to b) c cs
      ]
    ]

-- directly behind an escaped break the closing quote is not held against the indent [E1]
unfoldable pub quoted_text : Quote → Mode → Mark → ℕ → List ℕ → QuotedTurn
quoted_text q chars_of m c cs = quoted_char q [] c cs
quoted_text q (blanks_of bs) m c cs = quoted_line q (blanks_of bs) m c cs
quoted_text q (folded n) m c cs = quoted_line q (folded n) m c cs
quoted_text q (joined n false) m c cs = quoted_line q (joined n false) m c cs
quoted_text q (joined n true) m c cs =
    elim (eqb c (quote_char q)) [
      | true ↦ quoted_char q [] c cs
      | false ↦ quoted_line q (joined n true) m c cs
    ]

-- blanks and breaks are kept back until text follows
unfoldable pub quoted_turn : Quote → Mode → Mark → ℕ → List ℕ → QuotedTurn
quoted_turn q b m c cs =
    elim (is_blank c) [
      | true ↦ quoted_blank q m c b
      | false ↦ elim (is_break c) [
        | true ↦ quoted_break b c (peek cs 0)
        | false ↦ quoted_text q b m c cs
      ]
    ]

abbrev pub after_turn : QuotedTurn → (Mode → ℕ → Read Run) → Place → Read Run
after_turn (goes t b n) go p = before_read t (go b n)
after_turn (closes t) go p = got (record { text = t; place = p })
after_turn (wrong_quote n m) go p = refused n m

-- the scalar's text from here on, k characters being passed over first; 34: the end
unfoldable pub quoted_run : Quote → Mode → ℕ → Mark → List ℕ → Read Run
quoted_run q b k m [] = refused 34 q.start
quoted_run q b zero m (c ∷ cs) =
    after_turn (quoted_turn q b m c cs)
    (λ b' n. quoted_run q b' n (over m c (peek cs 0)) cs)
    (here (along m) cs)
quoted_run q b (suc k) m (c ∷ cs) = quoted_run q b k (over m c (peek cs 0)) cs

-- 40: what may follow a quoted scalar [E4 to E6]
unfoldable pub fits_after : Bool → Bool → ℕ → Bool
fits_after flow same_line c =
    is_breakz c || (flow && among c (comma ∷ ']' ∷ close_brace ∷ [])) || (eqb c ':' && (flow || same_line))

-- from its opening quote; the span takes in the blanks and comment behind it
unfoldable pub scan_flow_scalar : Bool → Bool → ℕ → Place → Read Lexeme
scan_flow_scalar flow single indent p = do
  r ← quoted_run (record { single = single; indent = indent; start = p.mark }) chars_of 0 (along p.mark) (drop 1 p.rest)
  e ← blanks_and_comment r.place
  _ ← need (fits_after flow (eqb p.mark.line e.mark.line) (look e)) 40 e.mark
  got (lexeme (Scalar (pick single SingleQuoted DoubleQuoted) r.text) p.mark e.mark e)
