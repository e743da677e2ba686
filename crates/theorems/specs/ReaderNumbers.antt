-- The numbers that the readers of lexemes refuse with, one by one: each has a rule, 10 to 49 (for Numbers).
use Rattle.std.specs.Prelude.{◌-◌, suc, zero, ℕ, Bool, ◌&&◌, ◌||◌, false, not, true, List, [], ◌∷◌, T, eqb, leb, ltb, drop}
use Rattle.yaml_text.specs.declared.Decoded.{Decoded}
use Rattle.yaml_text.specs.declared.Decoded.TheVariants.{Char, End, Ill}
use Rattle.yaml_text.specs.declared.Mark.{Mark}
use Rattle.yaml_text.specs.Char.{'!', '#', '%', '0', '<', backslash, single_quote, tab}
use Rattle.yaml_text.specs.Class.{is_alpha, is_blank, is_break, is_digit, is_hex, is_tag, is_uri, none_left, peek, same}
use Rattle.yaml_text.specs.Mark.{Place, Run, along, edge_of, half_break, is_marker, look, over, skip_break, skip_by, run_of}
use Rattle.yaml_text.specs.Refusal.{Read, ◌>>=◌, before_read, got, need, refused}
use Rattle.yaml_text.specs.Test.{by_test, on_pick}
use Rattle.yaml_text.specs.Utf8.{first, len_of}
use Rattle.yaml_lexeme.specs.declared.Before.{Before}
use Rattle.yaml_lexeme.specs.declared.Before.TheVariants.{AfterText, InComment, Leading, Spaced, Tabbed}
use Rattle.yaml_lexeme.specs.declared.Named.{Named}
use Rattle.yaml_lexeme.specs.declared.Named.TheVariants.{Digits, Stands, Unknown}
use Rattle.yaml_lexeme.specs.declared.Style.{Style}
use Rattle.yaml_lexeme.specs.Token.{Lexeme}
use Rattle.yaml_lexeme.specs.Gap.{Gap, GapTurn, after_gap_turn, blanks, blanks_and_comment, comment_after, gap_turn, on_hash, on_other, pass, skip_gap, stop, wrong}
use Rattle.yaml_lexeme.specs.Escape.{Escaped, escape, escape_of, hex_number, named}
use Rattle.yaml_lexeme.specs.Quoted.{Mode, Quote, QuotedTurn, after_turn, blanks_of, chars_of, closes, escape_turn, folded, folds_to, goes, joined, quote_char, quoted_blank, quoted_break, quoted_char, quoted_line, quoted_run, quoted_text, quoted_turn, scan_flow_scalar, wrong_quote}
use Rattle.yaml_lexeme.specs.Block.{Header, Layout, Margin, block_content, content_column, increment_of, indicators, is_chomp, margin, opens_content, scan_block_scalar}
use Rattle.yaml_lexeme.specs.Tag.{Texts, code_point, handled, octet, percent, primary, scan_tag, tag_texts, trailing, uri_run, verbatim}
use Rattle.yaml_lexeme.specs.Anchor.{scan_anchor}
use Rattle.yaml_lexeme.specs.Directive.{Numbered, directive_of, scan_directive, tag_directive, tag_handle, tag_prefix, version_digits, version_directive, version_number}

-- the numbers of the rules
abbrev pub rule : ℕ → Bool
rule n = leb 10 n && leb n 49

-- what a reader answers: if it refuses, by such a number
pub data By (ok : ℕ → Bool) (A : Type 0) : Read A → Type 0 where
  reads : {a : A} → By ok A (got a)
  refuses : {n : ℕ} {m : Mark} → T (ok n) → By ok A (refused n m)

pub by_bind : {ok : ℕ → Bool} {A B : Type 0} {r : Read A} (f : A → Read B) → By ok A r → ((a : A) → By ok B (f a)) → By ok B (r >>= f)
unfolding ◌>>=◌
by_bind f (reads {a = x}) k = k x
by_bind f (refuses t) k = refuses t

pub by_need : {ok : ℕ → Bool} {B : Type 0} (b : Bool) (n : ℕ) (m : Mark) (f : Unit {0} → Read B) → T (ok n) → By ok B (f tt) → By ok B (need b n m >>= f)
unfolding ◌>>=◌ need
by_need true n m f t h = h
by_need false n m f t h = refuses t

by_before : {ok : ℕ → Bool} {r : Read Run} (t : List ℕ) → By ok Run r → By ok Run (before_read t r)
unfolding before_read
by_before t reads = reads
by_before t (refuses h) = refuses h

-- gaps: 44, 45

abbrev GapBy : GapTurn → Type 0
GapBy (pass b allows) = Unit {0}
GapBy stop = Unit {0}
GapBy (wrong n m) = T (rule n)

hash_by : (m : Mark) (b : Before) → GapBy (on_hash m b)
unfolding on_hash
hash_by m Leading = tt
hash_by m (Tabbed t) = tt
hash_by m Spaced = tt
hash_by m AfterText = tt
hash_by m InComment = tt

other_by : (b : Before) → GapBy (on_other b)
unfolding on_other
other_by Leading = tt
other_by (Tabbed t) = tt
other_by Spaced = tt
other_by AfterText = tt
other_by InComment = tt

gap_turn_by : (flow : Bool) (b : Before) (m : Mark) (c : ℕ) → GapBy (gap_turn flow b m c)
unfolding gap_turn
gap_turn_by flow b m c =
    on_pick GapBy (is_break c) (λ _. tt) λ _.
    on_pick GapBy (is_blank c) (λ _. tt) λ _.
    on_pick GapBy (eqb c '#') (λ _. hash_by m b) λ _. other_by b

gap_turned : (t : GapTurn) (go : Before → Bool → Read Gap) (end : Gap) → GapBy t → ((b : Before) (a : Bool) → By rule Gap (go b a)) → By rule Gap (after_gap_turn t go end)
gap_turned (pass b a) go end h k = k b a
gap_turned stop go end h k = reads
gap_turned (wrong n m) go end h k = refuses h

pub skip_gap_by : (flow allowed : Bool) (b : Before) (m : Mark) (cs : List ℕ) → By rule Gap (skip_gap flow allowed b m cs)
unfolding skip_gap
skip_gap_by flow allowed b m [] = reads
skip_gap_by flow allowed b m (c ∷ cs) =
    gap_turned (gap_turn flow b m c) _ _ (gap_turn_by flow b m c) (λ b' a. skip_gap_by flow (allowed || a) b' (over m c (peek cs 0)) cs)

comment_after_by : (b : Bool) (p : Place) → By rule Place (comment_after b p)
unfolding comment_after
comment_after_by true p = by_test (eqb (look p) '#') (λ e. rw (e, comment_after) reads) (λ e. rw (e, comment_after) reads)
comment_after_by false p = by_test (eqb (look p) '#') (λ e. rw (e, comment_after) (refuses tt)) (λ e. rw (e, comment_after) reads)

pub blanks_and_comment_by : (p : Place) → By rule Place (blanks_and_comment p)
unfolding blanks_and_comment
blanks_and_comment_by p = comment_after_by (is_blank (look p)) (blanks p.mark p.rest)

-- quoted scalars: 33 to 40

hex_number_by : (start : Mark) (n v : ℕ) (cs : List ℕ) → By rule ℕ (hex_number start n v cs)
unfolding hex_number
hex_number_by start zero v cs = reads
hex_number_by start (suc n) v cs =
    by_test (is_hex (peek cs 0)) (λ e. rw (e, hex_number) (hex_number_by start n _ (drop 1 cs))) (λ e. rw (e, hex_number) (refuses tt))

escape_of_by : (start : Mark) (n : Named) (cs : List ℕ) → By rule Escaped (escape_of start n cs)
unfolding escape_of
escape_of_by start (Stands c) cs = reads
escape_of_by start (Digits n) cs = by_bind _ (hex_number_by start n 0 cs) (λ v. by_need _ 39 start _ tt reads)
escape_of_by start Unknown cs = refuses tt

escape_by : (start : Mark) (cs : List ℕ) → By rule Escaped (escape start cs)
unfolding escape
escape_by start cs = escape_of_by start (named (peek cs 0)) (drop 1 cs)

abbrev QuotedBy : QuotedTurn → Type 0
QuotedBy (goes t b n) = Unit {0}
QuotedBy (closes t) = Unit {0}
QuotedBy (wrong_quote n m) = T (rule n)

escape_turn_by : {r : Read Escaped} (t : List ℕ) → By rule Escaped r → QuotedBy (escape_turn t r)
escape_turn_by t reads = tt
escape_turn_by t (refuses h) = h

quoted_blank_by : (q : Quote) (m : Mark) (c : ℕ) (b : Mode) → QuotedBy (quoted_blank q m c b)
unfolding quoted_blank
quoted_blank_by q m c chars_of = tt
quoted_blank_by q m c (blanks_of bs) = tt
quoted_blank_by q m c (folded n) = on_pick QuotedBy (eqb c tab && ltb (edge_of m) q.indent) (λ _. tt) (λ _. tt)
quoted_blank_by q m c (joined n fresh) = on_pick QuotedBy (eqb c tab && ltb (edge_of m) q.indent) (λ _. tt) (λ _. tt)

quoted_break_by : (b : Mode) (c d : ℕ) → QuotedBy (quoted_break b c d)
unfolding quoted_break
quoted_break_by b c d = on_pick QuotedBy (half_break c d) (λ _. tt) (λ _. tt)

quoted_char_by : (q : Quote) (t : List ℕ) (c : ℕ) (cs : List ℕ) → QuotedBy (quoted_char q t c cs)
unfolding quoted_char
quoted_char_by q t c cs =
    by_test (eqb c (quote_char q))
    (λ e. rw (e, quoted_char) (on_pick QuotedBy (q.single && eqb (peek cs 0) single_quote) (λ _. tt) (λ _. tt)))
    (λ e. by_test (not q.single && eqb c backslash)
    (λ f. by_test (is_break (peek cs 0))
    (λ g. rw (e, f, g, quoted_char) tt)
    (λ g. rw (e, f, g, quoted_char) (escape_turn_by t (escape_by q.start cs))))
    (λ f. rw (e, f, quoted_char) tt))

quoted_line_by : (q : Quote) (b : Mode) (m : Mark) (c : ℕ) (cs : List ℕ) → QuotedBy (quoted_line q b m c cs)
unfolding quoted_line
quoted_line_by q b m c cs =
    by_test (is_marker m (c ∷ cs))
    (λ e. rw (e, quoted_line) tt)
    (λ e. by_test (ltb (edge_of m) q.indent)
    (λ f. rw (e, f, quoted_line) tt)
    (λ f. rw (e, f, quoted_line) (quoted_char_by q (folds_to b) c cs)))

quoted_text_by : (q : Quote) (b : Mode) (m : Mark) (c : ℕ) (cs : List ℕ) → QuotedBy (quoted_text q b m c cs)
unfolding quoted_text
quoted_text_by q chars_of m c cs = quoted_char_by q [] c cs
quoted_text_by q (blanks_of bs) m c cs = quoted_line_by q (blanks_of bs) m c cs
quoted_text_by q (folded n) m c cs = quoted_line_by q (folded n) m c cs
quoted_text_by q (joined n false) m c cs = quoted_line_by q (joined n false) m c cs
quoted_text_by q (joined n true) m c cs =
    by_test (eqb c (quote_char q))
    (λ e. rw (e, quoted_text) (quoted_char_by q [] c cs))
    (λ e. rw (e, quoted_text) (quoted_line_by q (joined n true) m c cs))

quoted_turn_by : (q : Quote) (b : Mode) (m : Mark) (c : ℕ) (cs : List ℕ) → QuotedBy (quoted_turn q b m c cs)
unfolding quoted_turn
quoted_turn_by q b m c cs =
    by_test (is_blank c)
    (λ e. rw (e, quoted_turn) (quoted_blank_by q m c b))
    (λ e. by_test (is_break c)
    (λ f. rw (e, f, quoted_turn) (quoted_break_by b c (peek cs 0)))
    (λ f. rw (e, f, quoted_turn) (quoted_text_by q b m c cs)))

quoted_turned : (t : QuotedTurn) (go : Mode → ℕ → Read Run) (p : Place) → QuotedBy t → ((b : Mode) (n : ℕ) → By rule Run (go b n)) → By rule Run (after_turn t go p)
quoted_turned (goes t b n) go p h k = by_before t (k b n)
quoted_turned (closes t) go p h k = reads
quoted_turned (wrong_quote n m) go p h k = refuses h

quoted_run_by : (q : Quote) (b : Mode) (k : ℕ) (m : Mark) (cs : List ℕ) → By rule Run (quoted_run q b k m cs)
unfolding quoted_run
quoted_run_by q b k m [] = refuses tt
quoted_run_by q b zero m (c ∷ cs) =
    quoted_turned (quoted_turn q b m c cs) _ _ (quoted_turn_by q b m c cs) (λ b' n. quoted_run_by q b' n (over m c (peek cs 0)) cs)
quoted_run_by q b (suc k) m (c ∷ cs) = quoted_run_by q b k (over m c (peek cs 0)) cs

pub flow_scalar_by : (flow single : Bool) (indent : ℕ) (p : Place) → By rule Lexeme (scan_flow_scalar flow single indent p)
unfolding scan_flow_scalar
flow_scalar_by flow single indent p =
    by_bind _ (quoted_run_by _ chars_of 0 (along p.mark) (drop 1 p.rest))
    (λ r. by_bind _ (blanks_and_comment_by r.place) (λ e. by_need _ 40 e.mark _ tt reads))

-- block scalars: 29 to 32

increment_by : (start : Mark) (c : ℕ) → By rule ℕ (increment_of start c)
unfolding increment_of
increment_by start c =
    on_pick (By rule ℕ) (is_digit c) (λ _. on_pick (By rule ℕ) (eqb c '0') (λ _. refuses tt) (λ _. reads)) (λ _. reads)

indicators_by : (start : Mark) (p : Place) → By rule Header (indicators start p)
unfolding indicators
indicators_by start p =
    by_test (is_chomp (look p))
    (λ e. rw (e, indicators) (by_bind _ (increment_by start (peek p.rest 1)) (λ _. reads)))
    (λ e. rw (e, indicators) (by_test (is_digit (look p))
    (λ f. rw (f, indicators) (by_bind _ (increment_by start (look p)) (λ _. reads)))
    (λ f. rw (f, indicators) (by_bind _ (increment_by start (look p)) (λ _. reads)))))

block_content_by : (b : Layout) (style : Style) (parent : ℕ) (start : Mark) (g : Margin) → By rule Lexeme (block_content b style parent start g)
unfolding block_content
block_content_by b style parent start g =
    by_test (none_left g.place.rest)
    (λ e. rw (e, block_content) reads)
    (λ e. by_test (opens_content g.place.mark g.place.rest && ltb g.place.mark.col b.column && leb parent g.place.mark.col)
    (λ f. rw (e, f, block_content) (refuses tt))
    (λ f. rw (e, f, block_content) reads))

pub block_scalar_by : (literal : Bool) (parent : ℕ) (p : Place) → By rule Lexeme (scan_block_scalar literal parent p)
unfolding scan_block_scalar
block_scalar_by literal parent p =
    by_bind _ (indicators_by p.mark (skip_by 1 p))
    (λ h. by_bind _ (blanks_and_comment_by h.place)
    (λ e. by_need _ 30 p.mark _ tt (by_need _ 31 p.mark _ tt
    (let q = skip_break e in block_content_by _ _ parent p.mark (margin (content_column parent h.increment q) 0 q.mark q.rest)))))

-- tags, anchors and aliases: 20 to 27

octet_by : (start : Mark) (cs : List ℕ) → By rule ℕ (octet start cs)
unfolding octet
octet_by start cs = on_pick (By rule ℕ) (eqb (peek cs 0) '%' && is_hex (peek cs 1) && is_hex (peek cs 2)) (λ _. reads) (λ _. refuses tt)

trailing_by : (start : Mark) (n : ℕ) (cs : List ℕ) → By rule (List ℕ) (trailing start n cs)
unfolding trailing
trailing_by start zero cs = reads
trailing_by start (suc n) cs =
    by_bind _ (octet_by start cs) (λ b. by_need _ 23 start _ tt (by_bind _ (trailing_by start n (drop 3 cs)) (λ _. reads)))

code_point_by : (start : Mark) (took : ℕ) (d : Decoded) → By rule Escaped (code_point start took d)
unfolding code_point
code_point_by start took (Char c n) = reads
code_point_by start took Ill = refuses tt
code_point_by start took End = refuses tt

percent_by : (start : Mark) (cs : List ℕ) → By rule Escaped (percent start cs)
unfolding percent
percent_by start cs =
    by_bind _ (octet_by start cs)
    (λ a. by_need _ 22 start _ tt (by_bind _ (trailing_by start (len_of a - 1) (drop 3 cs)) (λ bs. code_point_by start _ (first (a ∷ bs)))))

uri_run_by : (p : ℕ → Bool) (start : Mark) (k : ℕ) (m : Mark) (cs : List ℕ) → By rule Run (uri_run p start k m cs)
unfolding uri_run
uri_run_by p start k m [] = reads
uri_run_by p start zero m (c ∷ cs) =
    by_test (p c)
    (λ e. by_test (eqb c '%')
    (λ f. rw (e, f, uri_run) (by_bind _ (percent_by start (c ∷ cs)) (λ x. by_before _ (uri_run_by p start x.took (along m) cs))))
    (λ f. rw (e, f, uri_run) (by_before _ (uri_run_by p start 0 (along m) cs))))
    (λ e. rw (e, uri_run) reads)
uri_run_by p start (suc k) m (c ∷ cs) = uri_run_by p start k (along m) cs

tag_texts_by : (start : Mark) (p : Place) → By rule Texts (tag_texts start p)
unfolding tag_texts verbatim handled primary
tag_texts_by start p =
    let h = run_of is_alpha (along p.mark) (drop 1 p.rest) in
    by_test (eqb (peek p.rest 1) '<')
    (λ e. rw (e, tag_texts) (by_bind _ (uri_run_by is_uri start 0 _ _) (λ r. by_need _ 20 start _ tt reads)))
    (λ e. by_test (eqb (look h.place) '!')
    (λ f. rw (e, f, tag_texts) (by_bind _ (uri_run_by is_tag start 0 _ _) (λ r. by_need _ 25 start _ tt reads)))
    (λ f. rw (e, f, tag_texts) (by_bind _ (uri_run_by is_tag start 0 _ _) (λ r. reads))))

pub tag_by : (flow : Bool) (p : Place) → By rule Lexeme (scan_tag flow p)
unfolding scan_tag
tag_by flow p = by_bind _ (tag_texts_by p.mark p) (λ t. by_need _ 26 t.place.mark _ tt reads)

pub anchor_by : (alias : Bool) (p : Place) → By rule Lexeme (scan_anchor alias p)
unfolding scan_anchor
anchor_by alias p = by_need _ 27 p.mark _ tt reads

-- directives: 10 to 19

version_digits_by : (start : Mark) (n v : ℕ) (m : Mark) (cs : List ℕ) → By rule Numbered (version_digits start n v m cs)
unfolding version_digits
version_digits_by start n v m [] = reads
version_digits_by start n v m (c ∷ cs) =
    by_test (is_digit c)
    (λ e. by_test (ltb n 9)
    (λ f. rw (e, f, version_digits) (version_digits_by start (suc n) _ (along m) cs))
    (λ f. rw (e, f, version_digits) (refuses tt)))
    (λ e. rw (e, version_digits) reads)

version_number_by : (start : Mark) (p : Place) → By rule Numbered (version_number start p)
unfolding version_number
version_number_by start p = by_need _ 12 start _ tt (version_digits_by start 0 0 p.mark p.rest)

directive_of_by : (start : Mark) (name : List ℕ) (p : Place) → By rule Lexeme (directive_of start name p)
unfolding directive_of version_directive tag_directive tag_handle tag_prefix
directive_of_by start name p =
    by_test (same name (89 ∷ 65 ∷ 77 ∷ 76 ∷ []))
    (λ e. rw (e, directive_of) (by_bind _ (version_number_by start _) (λ a. by_need _ 13 start _ tt (by_bind _ (version_number_by start _) (λ _. reads)))))
    (λ e. by_test (same name (84 ∷ 65 ∷ 71 ∷ []))
    (λ f. rw (e, f, directive_of) (by_bind _ (by_need _ 16 start _ tt (by_need _ 17 start _ tt reads))
    (λ h. by_bind _ (by_need _ 18 start _ tt (uri_run_by is_uri start 0 _ _)) (λ r. by_need _ 19 start _ tt reads))))
    (λ f. rw (e, f, directive_of) reads))

pub directive_by : (p : Place) → By rule Lexeme (scan_directive p)
unfolding scan_directive
directive_by p =
    by_need _ 10 _ _ tt (by_need _ 11 _ _ tt (by_bind _ (directive_of_by p.mark _ _)
    (λ l. by_bind _ (blanks_and_comment_by l.place) (λ e. by_need _ 15 p.mark _ tt reads))))
