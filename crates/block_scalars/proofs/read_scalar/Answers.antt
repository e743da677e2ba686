-- The indicators are read, or refused; what is behind them is the definition cut there.
use Rattle.block_scalars.proofs.Scans.{first_moves, ready_first, reads_as, reads_refused, scan_header, scan_zero}
use Rattle.block_scalars.proofs.read_scalar.Goals as goal

pub returns-in_default : goal.returns-in_default
returns-in_default c =
    reads_refused c.refuse.ensures
    (scan_zero c.args.k (first_moves c.requires.0 c.skip_blank.ensures) c.indicators.ensures c.in_default.is)

pub returns : goal.returns
returns c =
    reads_as c.after_header.ensures
    (scan_header c.args.k (first_moves c.requires.0 c.skip_blank.ensures) c.indicators.ensures c.in-Some.is)
