-- A scalar's token and text: of content that was read, or of none.
use Prim.Native.Nat.{◌%◌, ◌+◌, ◌^◌, ◌≤◌, max, ℕ}
use mathlib.Core.Bool.{Bool, ◌&&◌}
use mathlib.Core.List.{List}
use mathlib.Core.Path.{◌∙◌, ◌≡◌, ap, refl, sym}
use native.Mathlib.Omega.{arith}
use lib.Dec.{leb, ltb}
use lib.ListN.{drop, length, replicate}
use lib.Seq.{length-sets, sets}
use borrow.Author.Tests.{ne_eqb}
use Rattle.yaml_text.specs.declared.Mark.{Mark}
use Rattle.yaml_text.specs.Class.{none_left}
use Rattle.yaml_text.specs.Mark.{Run, before_run}
use Rattle.yaml_text.specs.Mark as definition
use Rattle.std.specs.Prelude.{Ok}
use Rattle.yaml_text.specs.All.{holds}
use Rattle.yaml_text.specs.Refusal.{got}
use Rattle.yaml_text.specs.Utf8.{chars, encode}
use Rattle.yaml_lexeme.specs.declared.Chomping.{Chomping}
use Rattle.yaml_lexeme.specs.declared.Chomping.TheVariants.{Clip, Keep, Strip}
use Rattle.yaml_lexeme.specs.Block.{BetweenLines, ahead, between, chomped, content_end, no_content, one_if}
use Rattle.yaml_lexeme.specs.Record.{laid}
use Rattle.yaml_lexeme.specs.Token.{kind_bytes, size}
use Rattle.chars.specs.declared.mark.Place.{Place}
use Rattle.chars.specs.View.{Stands, view}
use Rattle.reading.specs.declared.Lexeme.{Lexeme as Answer}
use Rattle.reading.specs.Answers.{Reads as ReaderReads}
use Rattle.reading.specs.Reading.{laid_read, seen, text_size}
use Rattle.block_scalars.specs.declared.Block.{Block}
use Rattle.block_content.specs.declared.Content.{Content}
use Rattle.block_content.specs.declared.Layout.{Layout}
use Rattle.block_header.specs.declared.margin.Margin.{Margin}
use Rattle.block_content.specs.Content.{Reads, Settles, first_of, layout_of, line_of, lines_of, more_of, own_of, pending}
use Rattle.block_content.specs.Lines.{content_with_end}
use Rattle.block_scalars.specs.Scan.{Empties, content_lexeme, empty_lexeme, empty_text, scalar_lexeme, scalar_token}
use Rattle.reading.specs.Puts.{Puts, puts_breaks, puts_then}
use Rattle.block_content.proofs.Ends.{last_replicate}

pub scalar_lexed : {text before after : List ℕ} {n : ℕ} {r : Answer} {p : Place} {d : Run} (k : Block) (start : Mark) → r ≡ scalar_token k n start p
    → Puts before 0 after n d.text → d.place ≡ view text p → Stands text p → n ≤ p.at → 1 ≤ p.at → length text ≤ 2 ^ 20
    → ReaderReads text before after k.used (Ok r) (got (scalar_lexeme k start d))
unfolding seen laid_read laid kind_bytes text_size
scalar_lexed {text} {before = before} {n = n} {d = d} k start f w e h few some short =
    let i = h.within in
    let l : n % 2 ^ 32 ≡ length (encode d.text) = omega (arith, w.next) in
    rw f
    (record {
      answers = record { same = rw (l, e); ahead = record { stands = h; some = some; size = omega arith } };
      texts = holds w.bytes;
      kept = rw w.bytes (length-sets before 0 (encode d.text));
    })

-- the content, chomped
pub content_lexed : {text before mid after : List ℕ} {n j : ℕ} {r : Answer} {c : Content} {last : Bool} (k : Block) (b : Layout) (g : Margin)
    → r ≡ scalar_token k n g.place.mark c.place → Reads text b before (first_of g) mid c (lines_of text b (first_of g))
    → (chomped b.chomping last (between (line_of c.line)) ≡ replicate j 10) × (j ≤ pending c.line + 1)
    → last ≡ (none_left (chars (drop c.place.at text)) && leb (max b.column 1) c.place.mark.col)
    → (after ≡ sets mid c.count (replicate j 10)) × (n ≡ c.count + j)
    → ReaderReads text before after k.used (Ok r) (got (content_lexeme text k b g))
unfolding line_of
content_lexed {text} {before} {mid} {after} {n} {j} {c = c} k b g f x y z w =
    let s = x.settles in
    let m = g.place.mark in
    let last = none_left (chars (drop c.place.at text)) && leb (max b.column 1) c.place.mark.col in
    let e : chomped b.chomping last (between (line_of c.line)) ≡ replicate j 10 = rw z at y.0 in
    let t : Puts mid c.count after n (chomped b.chomping last (between (line_of c.line))) = rw e (puts_breaks j w) in
    let v = lines_of text b (first_of g) in
    let l = content_with_end (layout_of b) (between (ahead g.breaks)) m (chars (drop g.place.at text))
    ∙ ap (λ (q : BetweenLines). before_run v.text (content_end (layout_of b) (between q) v.place)) (sym x.line)
    ∙ ap (λ (p : definition.Place). before_run v.text (content_end (layout_of b) (between (line_of c.line)) p)) (sym x.place) in
    rw l (scalar_lexed k m f (puts_then x.puts t) refl s.stands (omega (arith, s.few, y.1, w.1)) (omega (arith, s.few)) s.short)

-- no content

module _ {k : Chomping} (n : ℕ) (part : Bool) where
  pub none_strip : k ≡ Strip → no_content k n part ≡ replicate 0 10
  unfolding no_content
  none_strip e = rw e

  pub none_clip : k ≡ Clip → no_content k n part ≡ replicate 0 10
  unfolding no_content
  none_clip e = rw e

  pub none_part : k ≡ Keep → n ≡ 0 → no_content k n part ≡ replicate (one_if part) 10
  unfolding no_content
  none_part e f = rw (e, f) (last_replicate part)

  pub none_keep : k ≡ Keep → (n ≡ 0 → ⊥) → no_content k n part ≡ replicate n 10
  unfolding no_content
  none_keep e f = rw (e, ne_eqb n 0 f)

pub empty_said : {before after : List ℕ} {n j : ℕ} {r : Answer} {part : Bool} (k : Block) (b : Layout) (g : Margin)
    → r ≡ scalar_token k n k.start g.place → (no_content b.chomping g.breaks part ≡ replicate j 10) × (j ≤ g.breaks + 1)
    → part ≡ (ltb k.start.line g.place.mark.line && ltb 0 g.place.mark.col)
    → (after ≡ sets before 0 (replicate j 10)) × (n ≡ 0 + j) → Empties k b g before after r
empty_said {n = n} {j} k b g f y z w =
    let e : empty_text k b g ≡ replicate j 10 = rw z at y.0 in
    let p = puts_breaks j w in
    let l : n ≡ size (replicate j 10) = omega (arith, p.next) in
    record { same = rw e (f ∙ rw l); bytes = rw e p.bytes; few = rw e (omega (arith, l, y.1, w.1)) }

pub empty_lexed : {text before after : List ℕ} {r : Answer} (k : Block) (b : Layout) (g : Margin) → Empties k b g before after r → Settles text b (first_of g)
    → ReaderReads text before after k.used (Ok r) (got (empty_lexeme text k b g))
unfolding own_of more_of
empty_lexed k b g e s =
    scalar_lexed k k.start e.same (record { bytes = e.bytes; next = omega arith }) refl s.stands (omega (arith, s.few, e.few)) (omega (arith, s.few)) s.short
