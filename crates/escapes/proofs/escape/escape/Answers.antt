-- Each way out is what the definition makes of the letter behind the backslash.
use Rattle.std.proofs.Common.{◌+◌, arith, sym}
use Rattle.chars.specs.Reach.{reach_within}
use Rattle.escapes.specs.CodePoint.{scalar_small}
use Rattle.escapes.proofs.Answers.{answers, refuses}
use Rattle.escapes.proofs.Letters.{Lettered, counting, escape_digits, escape_missing, escape_no_scalar, escape_stands, escape_unknown, named_as, standing}
use Rattle.escapes.proofs.escape.escape.Goals as goal
use Rattle.escapes.proofs.escape.escape.Goals.{After-letter-l}

-- the letter behind the backslash
lettered : (c : After-letter-l) → Lettered c.args.text.now (c.args.p.at + 1) c.look.result c.letter-l.result
lettered c = record { seen = c.look.ensures; name = c.letter-l.ensures }

pub returns-in-Stands : goal.returns-in-Stands
returns-in-Stands c =
    let l = lettered (goal.at.returns-in-Stands c).After-letter-l in
    let s = standing l c.in-Stands.is in
    answers c.requires.0 (escape_stands _ _ _ (named_as l c.in-Stands.is)) c.skip_n_non_blank-next.ensures
    (omega arith) (omega (arith, s.0.within)) s.1

pub hex_number-requires : goal.hex_number-requires
hex_number-requires c =
    let d = counting (lettered (goal.at.hex_number-requires c).After-letter-l) c.in-Digits.is in
    (d.0.within, d.1)

pub returns-in_default : goal.returns-in_default
returns-in_default c =
    let l = lettered (goal.at.returns-in_default c).After-letter-l in
    let d = counting l c.in-Digits.is in
    refuses (escape_missing _ d.0 _ (named_as l c.in-Digits.is) c.in_default.ensures) c.refuse.ensures

pub returns-then-not-is_scalar : goal.returns-then-not-is_scalar
returns-then-not-is_scalar c =
    let l = lettered (goal.at.returns-then-not-is_scalar c).After-letter-l in
    let d = counting l c.in-Digits.is in
    refuses (escape_no_scalar _ d.0 _ (named_as l c.in-Digits.is) _ c.in-Some.ensures (sym c.if-not-is_scalar.ensures))
    c.refuse-then-not-is_scalar.ensures

pub returns-else-not-is_scalar : goal.returns-else-not-is_scalar
returns-else-not-is_scalar c =
    let l = lettered (goal.at.returns-else-not-is_scalar c).After-letter-l in
    let d = counting l c.in-Digits.is in
    let s = sym c.if-not-is_scalar.ensures in
    let w = reach_within c.in-Some.ensures.found.1 d.0.within in
    answers c.requires.0 (escape_digits _ d.0 _ (named_as l c.in-Digits.is) _ c.in-Some.ensures s)
    c.skip_n_non_blank-next-in-Digits.ensures (omega arith) (omega (arith, w.0)) (scalar_small 0 _ s)

pub returns-in-Unknown : goal.returns-in-Unknown
returns-in-Unknown c =
    let l = lettered (goal.at.returns-in-Unknown c).After-letter-l in
    refuses (escape_unknown _ _ (named_as l c.in-Unknown.is)) c.refuse-in-Unknown.ensures
