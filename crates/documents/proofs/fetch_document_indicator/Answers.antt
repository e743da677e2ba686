-- What follows the marker is read first, and refused before a word is written; then all blocks are left.
use Rattle.yaml_text.specs.Mark.{skip_by}
use Rattle.yaml_scan.specs.Document.{after_marker}
use Rattle.chars.specs.View.{Moves, view}
use Rattle.reading.specs.Reading.{ReachesAs}
use Rattle.documents.proofs.Marker.{behind_marker, marker_flow, marker_goes, marker_moves, marker_refused}
use Rattle.documents.proofs.fetch_document_indicator.Goals as goal
use Rattle.documents.proofs.fetch_document_indicator.Goals.{After-after_marker, Start}

-- from the marker to the place behind it
behind : (c : Start) → let a = c.args in Moves a.text.now a.s.place (behind_marker a.s.place) (skip_by 3 (view a.text.now a.s.place))
behind c = marker_moves c.requires.0.stands c.requires.1

pub returns-then-s-gt0 : goal.returns-then-s-gt0
returns-then-s-gt0 c = rw c.refuse.ensures (marker_flow c.args.starts c.if-s-gt0.true)

pub after_marker-requires : goal.after_marker-requires
after_marker-requires c = let m = behind (goal.at.after_marker-requires c).Start in rw c.skip_n_non_blank-e.ensures m.stands

-- what is read from there
read : (c : After-after_marker) → let a = c.args in ReachesAs a.text.now (behind_marker a.s.place) c.after_marker.result (after_marker a.starts (view a.text.now (behind_marker a.s.place)))
read c = rw c.skip_n_non_blank-e.ensures at c.after_marker.ensures

pub returns-in-Err : goal.returns-in-Err
returns-in-Err c =
    let at = goal.at.returns-in-Err c in
    marker_refused c.args.starts c.if-s-gt0.false (behind at.Start) (rw c.in-Err.is at (read at.After-after_marker))

pub returns-in-Ok : goal.returns-in-Ok
returns-in-Ok c =
    let at = goal.at.returns-in-Ok c in
    rw (c.go_on.ensures, c.pick.ensures, c.skip_n_non_blank-e.ensures)
    (marker_goes c.args.starts c.if-s-gt0.false (behind at.Start) c.requires.0 (rw c.in-Ok.is at (read at.After-after_marker)) c.leave_blocks-u.ensures)
