-- One law of headers for each return, by the first two bytes.
use mathlib.Core.Bool.{false, true}
use mathlib.Core.Path.{◌∙◌, ◌≡◌, refl, sym}
use Rattle.yaml_text.specs.Class.{is_digit}
use Rattle.yaml_lexeme.specs.Block.{is_chomp}
use Rattle.block_header.proofs.Headers.{heads_chomp, heads_chomp_digit, heads_digit_chomp, heads_digit_only, heads_nothing}
use Rattle.block_header.proofs.header.indicators.Goals as goal

pub returns-then-is_digit : goal.returns-then-is_digit
returns-then-is_digit c =
    let chomp : is_chomp c.byte-c.result ≡ true = sym c.is_chomp.ensures ∙ c.if-is_chomp.true in
    let then-digit : is_digit c.byte-d.result ≡ true = sym c.is_digit.ensures ∙ c.if-is_digit.true in
    heads_chomp_digit c.requires
    c.byte-c.ensures
    c.byte-d.ensures (chomp)
    (then-digit) c.chomping_of-k.ensures
    c.skip_n_non_blank.ensures c.by_digit.ensures

pub returns-then-is_chomp : goal.returns-then-is_chomp
returns-then-is_chomp c =
    let chomp : is_chomp c.byte-c.result ≡ true = sym c.is_chomp.ensures ∙ c.if-is_chomp.true in
    let then-none : is_digit c.byte-d.result ≡ false = sym c.is_digit.ensures ∙ c.if-is_digit.false in
    heads_chomp c.requires
    c.byte-c.ensures c.byte-d.ensures
    (chomp) (then-none) c.chomping_of-k.ensures
    c.skip_blank.ensures refl

pub returns-then-is_chomp-2 : goal.returns-then-is_chomp-2
returns-then-is_chomp-2 c =
    let no-chomp : is_chomp c.byte-c.result ≡ false = sym c.is_chomp.ensures ∙ c.if-is_chomp.false in
    let digit : is_digit c.byte-c.result ≡ true = sym c.is_digit-2.ensures ∙ c.if-is_digit-2.true in
    heads_digit_chomp c.requires
    c.byte-c.ensures
    c.byte-d.ensures
    (no-chomp) (digit)
    (sym c.is_chomp-then-is_digit-2.ensures ∙ c.if-is_chomp-2.true)
    c.chomping_of-k-then-is_digit-2.ensures c.skip_n_non_blank-then-is_chomp-2.ensures c.by_digit-then-is_chomp-2.ensures

pub returns-then-is_digit-2 : goal.returns-then-is_digit-2
returns-then-is_digit-2 c =
    let no-chomp : is_chomp c.byte-c.result ≡ false = sym c.is_chomp.ensures ∙ c.if-is_chomp.false in
    let digit : is_digit c.byte-c.result ≡ true = sym c.is_digit-2.ensures ∙ c.if-is_digit-2.true in
    heads_digit_only c.requires
    c.byte-c.ensures
    c.byte-d.ensures
    (no-chomp) (digit)
    (sym c.is_chomp-then-is_digit-2.ensures ∙ c.if-is_chomp-2.false)
    c.chomping_of-k-then-is_digit-2.ensures c.skip_blank-then-is_digit-2.ensures c.by_digit-then-is_digit-2.ensures

pub returns : goal.returns
returns c =
    let no-chomp : is_chomp c.byte-c.result ≡ false = sym c.is_chomp.ensures ∙ c.if-is_chomp.false in
    let no_digit : is_digit c.byte-c.result ≡ false = sym c.is_digit-2.ensures ∙ c.if-is_digit-2.false in
    heads_nothing c.requires c.byte-c.ensures
    c.byte-d.ensures (no-chomp) (no_digit) refl
