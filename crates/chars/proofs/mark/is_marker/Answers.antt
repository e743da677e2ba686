-- An ASCII character is told by its byte.
use Rattle.chars.specs.Ascii.{ascii_low}
use Rattle.chars.specs.Bytes.{ascii_char}
use Rattle.chars.specs.Lines.{marker_ascii}
use Rattle.chars.proofs.mark.is_marker.Goals as goal

pub twice_more-requires : goal.twice_more-requires
twice_more-requires c =
    let l = ascii_low marker_ascii _ c.if-b.true in
    (ascii_char (c.args.s.now) (c.args.p.at) _ c.byte-b.ensures marker_ascii c.if-b.true, l.0, l.1)
