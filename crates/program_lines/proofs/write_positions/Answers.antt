-- `program_lines::write_positions` meets its contract. The loop's invariant: the lines of the positions passed were appended.
use native.Mathlib.Omega.{arith}
use lib.ListN.{length}
use lib.Seq.{take_all}
use Rattle.program_lines.specs.Lines.{number_line}
use Rattle.lent.proofs.Pieces.{pieces_none, pieces_more, pieces_room}
use Rattle.lent.proofs.Appending.{appended_none, appended_then, room_then}
use Rattle.program_lines.proofs.write_positions.Goals as goal

pub loop-position-init : goal.loop-position-init
loop-position-init c = rw (pieces_none number_line) (appended_none c.args.writer.now (omega arith))

pub write_labeled_line-requires : goal.write_labeled_line-requires
write_labeled_line-requires c =
    let S = c.args.positions.now in
    room_then c.loop-position.invariant
    (record {
      fits = pieces_room number_line S c.loop-position.position-index (length S) c.args.writer.now.at (omega arith) (omega arith)
          (rw (take_all (length S) S (omega arith)) c.requires.fits);
    })

pub loop-position-preserved : goal.loop-position-preserved
loop-position-preserved c =
    rw (pieces_more number_line c.args.positions.now c.loop-position.position-index (omega arith))
    (appended_then c.loop-position.invariant c.write_labeled_line.ensures)

pub returns : goal.returns
returns c = rw (take_all c.loop-position.position-index c.args.positions.now (omega arith)) at c.loop-position.invariant
