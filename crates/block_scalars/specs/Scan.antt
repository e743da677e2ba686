-- What code answers for a block scalar, held against the definition, part by part.
use Rattle.std.specs.Prelude.{◌%◌, ◌+◌, ◌<◌, ◌^◌, ◌≤◌, ℕ, ◌&&◌, not, List, ◌≡◌, eqb, ltb, length}
use Rattle.std.proofs.lemmas.List.Edits.{sets}
use Rattle.yaml_text.specs.declared.Mark.{Mark}
use Rattle.yaml_text.specs.Char.{tab}
use Rattle.yaml_text.specs.Class.{is_breakz}
use Rattle.yaml_text.specs.Mark.{Run, look, skip_break, skip_by}
use Rattle.yaml_text.specs.Mark as place
use Rattle.yaml_text.specs.Pick.{pick}
use Rattle.yaml_text.specs.Refusal.{Read, ◌>>=◌, need}
use Rattle.yaml_text.specs.Utf8.{encode}
use Rattle.yaml_lexeme.specs.declared.Kind.TheVariants as kind
use Rattle.yaml_lexeme.specs.declared.Style.{Style}
use Rattle.yaml_lexeme.specs.declared.Style.TheVariants.{Folded, Literal}
use Rattle.yaml_lexeme.specs.Block.{ahead, between, block_content, content_column, indicators, margin, no_content, scan_block_scalar}
use Rattle.yaml_lexeme.specs.Block as definition
use Rattle.yaml_lexeme.specs.Gap.{blanks_and_comment}
use Rattle.yaml_lexeme.specs.Token.{Lexeme, Scalar, lexeme, size}
use Rattle.chars.specs.declared.mark.Place.{Place}
use Rattle.chars.specs.View.{Stands, view}
use Rattle.reading.specs.declared.Lexeme.{Lexeme as Answer}
use Rattle.block_scalars.specs.declared.Block.{Block}
use Rattle.block_content.specs.declared.Layout.{Layout}
use Rattle.block_header.specs.declared.header.Header.{Header}
use Rattle.block_header.specs.declared.margin.Margin.{Margin}
use Rattle.block_content.specs.Content.{content_at}

abbrev pub style_of : Block → Style
style_of k = pick k.literal Literal Folded

abbrev pub scalar_token : Block → ℕ → Mark → Place → Answer
scalar_token k n start p =
    record { token = record { kind = kind.Scalar (style_of k) (record { at = k.used; len = n % 2 ^ 32 }); start = start; end = p.mark }; next = p }

-- a scalar of a run's text
abbrev pub scalar_lexeme : Block → Mark → Run → Lexeme
scalar_lexeme k start r = lexeme (Scalar (style_of k) r.text) start r.place.mark r.place

abbrev pub content_lexeme : List ℕ → Block → Layout → Margin → Lexeme
content_lexeme text k b g = scalar_lexeme k g.place.mark (content_at text b (between (ahead g.breaks)) g.place)

-- the text of a scalar without content
abbrev pub empty_text : Block → Layout → Margin → List ℕ
empty_text k b g = no_content b.chomping g.breaks (ltb k.start.line g.place.mark.line && ltb 0 g.place.mark.col)

abbrev pub empty_lexeme : List ℕ → Block → Layout → Margin → Lexeme
empty_lexeme text k b g = scalar_lexeme k k.start (record { text = empty_text k b g; place = view text g.place })

-- what code answers and writes for it, in no more bytes than lines ended, and one
pub record Empties (k : Block) (b : Layout) (g : Margin) (before after : List ℕ) (r : Answer) : Type 0 where
  pub same : r ≡ scalar_token k (size (empty_text k b g)) k.start g.place
  pub bytes : after ≡ sets before 0 (encode (empty_text k b g))
  pub few : size (empty_text k b g) ≤ g.breaks + 1

abbrev pub margin_of : List ℕ → Margin → definition.Margin
margin_of text g = record { breaks = g.breaks; place = view text g.place }

abbrev pub header_of : List ℕ → Header → definition.Header
header_of text h = record { chomping = h.chomping; increment = h.increment; place = view text h.place }

-- a header was read, and the reading stands at p
pub record HeaderRead (text : List ℕ) (k : Block) (h : Header) (p : Place) : Type 0 where
  pub stands : Stands text p
  pub some : 1 ≤ p.at
  pub short : length text ≤ 2 ^ 20
  pub parent : k.parent < 2 ^ 21
  pub increment : h.increment ≤ 9

-- the definition, cut where the code is

unfoldable pub under_header : Block → definition.Header → place.Place → Read Lexeme
under_header k h q =
    need (not (eqb (look q) tab)) 31 k.start
    >>= λ _.
    let column = content_column k.parent h.increment q in
    block_content (record { literal = k.literal; chomping = h.chomping; column = column }) (style_of k) k.parent k.start (margin column 0 q.mark q.rest)

unfoldable pub header_end : Block → definition.Header → place.Place → Read Lexeme
header_end k h e = need (is_breakz (look e)) 30 k.start >>= λ _. under_header k h (skip_break e)

unfoldable pub after_header : Block → definition.Header → Read Lexeme
after_header k h = blanks_and_comment h.place >>= header_end k h

pub cut : (k : Block) (p : place.Place) → p.mark ≡ k.start → scan_block_scalar k.literal k.parent p ≡ (indicators k.start (skip_by 1 p) >>= after_header k)
unfolding scan_block_scalar after_header header_end under_header
cut k p e = rw e
