-- The parts of a block scalar put together.
use Prim.Native.Nat.{◌<◌, ◌^◌, ◌≤◌, ℕ}
use mathlib.Core.Bool.{Bool, ◌&&◌, false, true}
use mathlib.Core.List.{List}
use mathlib.Core.Path.{◌∙◌, ◌≡◌, ap, refl, sym}
use native.Mathlib.Omega.{arith}
use lib.Dec.{eqb, leb, ltb}
use lib.ListN.{drop, get_or, length}
use Rattle.yaml_text.specs.declared.Mark.{Mark}
use Rattle.yaml_text.specs.Char.{tab}
use Rattle.yaml_text.specs.Class.{is_breakz, none_left, peek}
use Rattle.yaml_text.specs.Mark.{along, look, skip_break, skip_by}
use Rattle.yaml_text.specs.Mark as place
use Rattle.yaml_text.specs.Refusal.{Read, ◌>>=◌, got, need, refused}
use Rattle.yaml_text.specs.Utf8.{chars}
use Rattle.yaml_lexeme.specs.Block.{block_content, content_column, margin, opens_content, scan_block_scalar}
use Rattle.yaml_lexeme.specs.Block as definition
use Rattle.yaml_lexeme.specs.Gap.{blanks_and_comment}
use Rattle.yaml_lexeme.specs.Token.{Lexeme}
use Rattle.chars.specs.declared.mark.Place.{Place}
use Rattle.chars.specs.Bytes.{byte_char}
use Rattle.chars.specs.Places.{moves_along}
use Rattle.chars.specs.Reach.{reach_one}
use Rattle.chars.specs.View.{Moves, past, view}
use Rattle.std.specs.Prelude.{Option, Some, None, Result, Err}
use Rattle.yaml_text.specs.declared.Refusal.{Refusal}
use Rattle.yaml_text.specs.All.{not_read}
use Rattle.reading.specs.declared.Lexeme.{Lexeme as Answer}
use Rattle.reading.specs.Answers.{Reads, answers_refused}
use Rattle.reading.specs.Reading.{Indicated, first_at}
use Rattle.block_scalars.specs.declared.Block.{Block}
use Rattle.block_content.specs.declared.Layout.{Layout}
use Rattle.block_header.specs.declared.header.Header.{Header}
use Rattle.block_header.specs.declared.margin.Margin.{Margin}
use Rattle.block_content.specs.Content.{Settles, first_of, layout_of, more_of, own_of}
use Rattle.block_header.specs.Header.{Heads, seen_header}
use Rattle.block_header.specs.Margin.{Margins, margin_ends, margin_goes}
use Rattle.block_scalars.specs.Scan.{HeaderRead, after_header, content_lexeme, cut, empty_lexeme, header_end, header_of, margin_of, style_of, under_header}

pub reads_as : {text before after : List ℕ} {used : ℕ} {r : Result Answer Refusal} {x y : Read Lexeme} → Reads text before after used r x → x ≡ y → Reads text before after used r y
reads_as l e = rw (← e) l

-- a refusal wrote nothing yet
pub reads_refused : {text before : List ℕ} {used n : ℕ} {m : Mark} {r : Result Answer Refusal} {d : Read Lexeme} → r ≡ Err (record { number = n; mark = m }) → d ≡ refused n m
    → Reads text before before used r d
reads_refused e f = record { answers = answers_refused e f; texts = rw f not_read; kept = refl }

-- behind the first margin

pub settles_first : {text : List ℕ} {q : Place} {g : Margin} (b : Layout) → Margins text q g (margin b.column 0 q.mark (chars (drop q.at text)))
    → 1 ≤ q.at → length text ≤ 2 ^ 20 → Settles text b (first_of g)
unfolding own_of more_of
settles_first {text} {q} b x h short =
    record {
      stands = x.moves.stands;
      short = short;
      few = omega (arith, x.few);
      settled = ap (λ (p : place.Place). margin_goes b.column p.mark (peek p.rest 0)) x.moves.same
          ∙ margin_ends b.column 0 q.mark (chars (drop q.at text));
    }

module _ (text : List ℕ) (k : Block) (b : Layout) (g : Margin) where
  abbrev content_there : Read Lexeme
  content_there = block_content (layout_of b) (style_of k) k.parent k.start (margin_of text g)

  pub block_empty : none_left (chars (drop g.place.at text)) ≡ true → got (empty_lexeme text k b g) ≡ content_there
  unfolding block_content
  block_empty e = rw (e, block_content)

  module _ (e : none_left (chars (drop g.place.at text)) ≡ false) where
    abbrev low : Bool
    low =
        opens_content g.place.mark (chars (drop g.place.at text))
        && ltb g.place.mark.col b.column
        && leb k.parent g.place.mark.col

    pub block_low : low ≡ true → content_there ≡ refused 32 g.place.mark
    unfolding block_content
    block_low f = rw (e, f, block_content)

    pub block_some : low ≡ false → got (content_lexeme text k b g) ≡ content_there
    unfolding block_content
    block_some f = rw (e, f, block_content)

-- behind the header

module _ (k : Block) (h : definition.Header) where
  pub under_tab : (q : place.Place) → eqb (look q) tab ≡ true → under_header k h q ≡ refused 31 k.start
  unfolding under_header need ◌>>=◌
  under_tab q e = rw e

  under_some : (q : place.Place) → eqb (look q) tab ≡ false
      → under_header k h q
      ≡ block_content (record { literal = k.literal; chomping = h.chomping; column = content_column k.parent h.increment q }) (style_of k) k.parent k.start
      (margin (content_column k.parent h.increment q) 0 q.mark q.rest)
  unfolding under_header need ◌>>=◌
  under_some q e = rw e

  pub end_wrong : (e : place.Place) → is_breakz (look e) ≡ false → header_end k h e ≡ refused 30 k.start
  unfolding header_end need ◌>>=◌
  end_wrong e f = rw f

  pub end_right : (e : place.Place) → is_breakz (look e) ≡ true → under_header k h (skip_break e) ≡ header_end k h e
  unfolding header_end need ◌>>=◌
  end_right e f = rw f

  pub after_wrong : {n : ℕ} {m : Mark} → blanks_and_comment h.place ≡ refused n m → after_header k h ≡ refused n m
  unfolding after_header ◌>>=◌
  after_wrong e = rw e

  pub after_right : {e : place.Place} → blanks_and_comment h.place ≡ got e → header_end k h e ≡ after_header k h
  unfolding after_header ◌>>=◌
  after_right e = rw e

pub under_content : {text : List ℕ} {q : Place} {g : Margin} {column : ℕ} (k : Block) (h : Header) → eqb (look (view text q)) tab ≡ false
    → column ≡ content_column k.parent h.increment (view text q) → Margins text q g (margin column 0 q.mark (chars (drop q.at text)))
    → block_content (record { literal = k.literal; chomping = h.chomping; column = column }) (style_of k) k.parent k.start (margin_of text g)
    ≡ under_header k (header_of text h) (view text q)
under_content {text} {q} k h e f x = rw (under_some k (header_of text h) (view text q) e, ← f, x.breaks, x.moves.same)

-- from the indicator

pub first_moves : {text : List ℕ} {start : Mark} {used : ℕ} {q : Place} → Indicated text start used → q ≡ past (first_at start) 1 (along start)
    → Moves text (first_at start) q (skip_by 1 (view text (first_at start)))
first_moves {text} i e = rw e (moves_along i.given.stands 1 1 (reach_one (byte_char text 0 (get_or text 0 0) refl i.some i.ascii)))

module _ {text : List ℕ} {q : Place} {r : Option Header} (k : Block) (w : Moves text (first_at k.start) q (skip_by 1 (view text (first_at k.start)))) (h : Heads text q r) where
  abbrev whole : Read Lexeme
  whole = scan_block_scalar k.literal k.parent (view text (first_at k.start))

  begins : whole ≡ (seen_header k.start text r >>= after_header k)
  begins = cut k (view text (first_at k.start)) refl ∙ rw (h.same k.start, w.same)

  pub scan_zero : r ≡ None → whole ≡ refused 29 k.start
  unfolding seen_header ◌>>=◌
  scan_zero e = begins ∙ rw e

  pub scan_header : {g : Header} → r ≡ Some g → after_header k (header_of text g) ≡ whole
  unfolding seen_header ◌>>=◌
  scan_header e = sym (begins ∙ rw e)

pub ready_first : {text : List ℕ} {q : Place} {r : Option Header} {g : Header} (k : Block) → Indicated text k.start k.used → k.parent < 2 ^ 21
    → q ≡ past (first_at k.start) 1 (along k.start) → Heads text q r → r ≡ Some g → HeaderRead text k g g.place
ready_first k i p e h f =
    let o = rw f at h.onward in
    let a = ap (λ (x : Place). x.at) e in
    record { stands = o.0; some = omega (arith, a, o.1); short = omega (arith, i.given.stands.index); parent = p; increment = o.2 }

pub ready_on : {text : List ℕ} {p q : Place} {k : Block} {h : Header} {d : place.Place} → HeaderRead text k h p → Moves text p q d → HeaderRead text k h q
ready_on r m =
    record { stands = m.stands; some = omega (arith, r.some, m.onward); short = r.short; parent = r.parent; increment = r.increment }
