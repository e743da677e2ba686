-- One law of handles for each return, by the bytes at its two ends.
use Rattle.std.proofs.Common.{◌+◌, drop}
use Rattle.yaml_text.specs.Char.{'!'}
use Rattle.yaml_text.specs.Class.{is_alpha}
use Rattle.yaml_text.specs.Mark.{along, run_of}
use Rattle.yaml_text.specs.Utf8.{chars}
use Rattle.chars.specs.Bytes.{CharAt, eq_char}
use Rattle.chars.specs.Parts.{Spans}
use Rattle.chars.specs.View.{past}
use Rattle.directives.proofs.Handle.{handle_closed, handle_lone, handle_none, handle_open}
use Rattle.directives.proofs.tag.tag_handle.Goals as goal
use Rattle.directives.proofs.tag.tag_handle.Goals.{After-run_of-h, Else-byte-ne33}

-- the mark, and the word behind it
marked : (c : Else-byte-ne33) → CharAt c.args.text.now c.args.p.at '!' 1
marked c = eq_char _ _ _ c.byte.ensures '!' tt c.if-byte-ne33.false

name_read : (c : After-run_of-h) → let a = c.args in
    Spans a.text.now (past a.p 1 (along a.p.mark)) c.run_of-h.result (run_of is_alpha (along a.p.mark) (chars (drop (a.p.at + 1) a.text.now)))
name_read c = rw c.skip_blank.ensures at c.run_of-h.ensures

pub returns-then-byte-ne33 : goal.returns-then-byte-ne33
returns-then-byte-ne33 c = rw c.refuse.ensures (handle_none _ _ c.byte.ensures c.if-byte-ne33.true)

pub returns-then-byte-eq33 : goal.returns-then-byte-eq33
returns-then-byte-eq33 c =
    let at = goal.at.returns-then-byte-eq33 c in
    rw c.skip_blank-then-byte-eq33.ensures
    (handle_closed _ _ (marked at.Else-byte-ne33) (name_read at.After-run_of-h) (eq_char _ _ _ c.byte-2.ensures '!' tt c.if-byte-eq33.true))

pub returns-then-h-p : goal.returns-then-h-p
returns-then-h-p c =
    let at = goal.at.returns-then-h-p c in
    handle_lone _ _ (marked at.Else-byte-ne33) (name_read at.After-run_of-h) c.byte-2.ensures c.if-byte-eq33.false c.if-h-p.true

pub returns : goal.returns
returns c =
    let at = goal.at.returns c in
    rw c.refuse-2.ensures
    (handle_open _ _ (marked at.Else-byte-ne33) (name_read at.After-run_of-h) c.byte-2.ensures c.if-byte-eq33.false c.if-h-p.false)
