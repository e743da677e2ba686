-- What code answers for the content, held against the definition.
use Rattle.std.specs.Prelude.{◌+◌, ◌<◌, ◌^◌, ◌≤◌, suc, ℕ, Bool, ◌&&◌, false, true, List, ◌≡◌, eqb, drop, length, replicate}
use Rattle.yaml_text.specs.Char.{line_feed}
use Rattle.yaml_text.specs.Class.{is_break, none_left, peek}
use Rattle.yaml_text.specs.Mark.{Run}
use Rattle.yaml_text.specs.Pick.{pick}
use Rattle.yaml_text.specs.Utf8.{chars}
use Rattle.block_header.specs.Margin.{margin_goes}
use Rattle.yaml_lexeme.specs.Block.{ahead, behind, between, opens_content}
use Rattle.yaml_lexeme.specs.Block as definition
use Rattle.yaml_lexeme.specs.Fold.{fold}
use Rattle.chars.specs.declared.mark.Place.{Place}
use Rattle.chars.specs.View.{Stands, view}
use Rattle.block_content.specs.declared.Between.{Between}
use Rattle.block_content.specs.declared.Between.TheVariants.{Ahead, Behind}
use Rattle.block_content.specs.declared.Content.{Content}
use Rattle.block_content.specs.declared.Layout.{Layout}
use Rattle.block_header.specs.declared.margin.Margin.{Margin}
use Rattle.block_content.specs.Lines.{ContentLines, behind_line, content_from, line_here, lines_from}
use Rattle.reading.specs.Puts.{Puts}

abbrev pub layout_of : Layout → definition.Layout
layout_of b = record { literal = b.literal; chomping = b.chomping; column = b.column }

unfoldable pub line_of : Between → definition.BetweenLines
line_of (Ahead n) = ahead n
line_of (Behind w n) = behind w n

-- how many line ends are not written yet: a content line's own, and those of empty lines
unfoldable pub own_of : Between → ℕ
own_of (Ahead n) = 0
own_of (Behind w n) = 1

unfoldable pub more_of : Between → ℕ
more_of (Ahead n) = n
more_of (Behind w n) = n

abbrev pub pending : Between → ℕ
pending l = own_of l + more_of l

-- the break behind a content line and n more, kept or folded
unfoldable pub behind_breaks : Bool → ℕ → List ℕ
behind_breaks keeps n = pick keeps (replicate (suc n) line_feed) (fold (suc n))

-- what the definition makes of the rest
abbrev pub content_at : List ℕ → Layout → definition.Line → Place → Run
content_at text b l p = content_from (layout_of b) l (view text p)

-- the same without its end
abbrev pub lines_of : List ℕ → Layout → Content → ContentLines
lines_of text b c = lines_from (layout_of b) (between (line_of c.line)) (view text c.place)

-- the reading stands behind a margin of a text that is short enough, with fewer bytes of text, line ends and all, than it has read
pub record Settles (text : List ℕ) (b : Layout) (c : Content) : Type 0 where
  pub stands : Stands text c.place
  pub short : length text ≤ 2 ^ 20
  pub few : c.count + pending c.line < c.place.at
  pub settled : margin_goes b.column c.place.mark (peek (chars (drop c.place.at text)) 0) ≡ false

-- a content line opens there
abbrev pub opens_at : List ℕ → Layout → Content → Bool
opens_at text b c = eqb c.place.mark.col b.column && opens_content c.place.mark (chars (drop c.place.at text))

pub record OpensContent (text : List ℕ) (b : Layout) (c : Content) : Type 0 where
  pub settles : Settles text b c
  pub opens : opens_at text b c ≡ true

-- from c on the text of y was written, and r stands behind it
pub record Reads (text : List ℕ) (b : Layout) (before : List ℕ) (c : Content) (after : List ℕ) (r : Content) (y : ContentLines) : Type 0 where
  pub puts : Puts before c.count after r.count y.text
  pub line : line_of r.line ≡ y.line
  pub place : view text r.place ≡ y.place
  pub settles : Settles text b r

-- over one line
abbrev pub line_at : List ℕ → Layout → Content → ContentLines
line_at text b c = line_here (layout_of b) (line_of c.line) (view text c.place)

-- a content line ended at p
pub record LineEnd (text : List ℕ) (p : Place) (count : ℕ) : Type 0 where
  pub stands : Stands text p
  pub short : length text ≤ 2 ^ 20
  pub few : count < p.at
  pub ends : none_left (chars (drop p.at text)) ≡ false → is_break (peek (chars (drop p.at text)) 0) ≡ true

-- behind the break there, and the margin
pub record Rests (text : List ℕ) (b : Layout) (blank : Bool) (p : Place) (count : ℕ) (r : Content) : Type 0 where
  pub kept : r.count ≡ count
  pub line : line_of r.line ≡ (behind_line (layout_of b) blank (view text p)).line
  pub place : view text r.place ≡ (behind_line (layout_of b) blank (view text p)).place
  pub settles : Settles text b r
  pub onward : p.at ≤ r.place.at

-- before the first content line
abbrev pub first_of : Margin → Content
first_of g = record { place = g.place; line = Ahead g.breaks; count = 0 }
