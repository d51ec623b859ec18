-- `sheet_write::write_page` meets its contract. The loop's invariant: the lines of the positions passed were appended.
use Prim.Native.Nat.{ℕ, ◌+◌, ◌≤◌}
use native.Mathlib.Omega.{arith}
use lib.ListN.{length, get_or, length-take, drop}
use lib.Seq.{take-length, take_all}
use Rattle.jumbled.proofs.Windows.{window-part}
use Rattle.lent.proofs.Pieces.{pieces_none, pieces_more, pieces_room}
use Rattle.lent.proofs.Appending.{appended_none, appended_then, room_then}
use Rattle.sheet_form.specs.Sheet.{line_at}
use Rattle.sheet_write.proofs.write_page.Goals as goal

pub loop-position-init : goal.loop-position-init
loop-position-init c = rw (pieces_none _) (appended_none c.args.writer.now (omega arith))

pub write_line-requires : goal.write_line-requires
write_line-requires c =
    let args = c.args in
    let i = c.loop-position.position-index in
    let s : ℕ = get_or args.listed.now i 0 in
    let inside : s + args.m ≤ length args.text.now = c.requires.windows.inside i (omega arith) in
    rw (window-part args.m args.text.now s)
    (record {
      column = omega (arith, inside, c.requires.windows.numbered);
      short = omega (arith, length-take args.m (drop s args.text.now), c.requires.windows.short);
      room = room_then c.loop-position.invariant
          (record {
            fits = pieces_room (line_at args.m args.text.now) args.listed.now i (length args.listed.now) args.writer.now.at (omega arith) (omega arith)
                (rw (take-length args.listed.now) c.requires.room.fits);
          });
    })

pub loop-position-preserved : goal.loop-position-preserved
loop-position-preserved c =
    let args = c.args in
    let i = c.loop-position.position-index in
    rw (pieces_more (line_at args.m args.text.now) args.listed.now i (omega arith))
    (appended_then c.loop-position.invariant (rw (window-part args.m args.text.now (get_or args.listed.now i 0)) at c.write_line.ensures))

pub returns : goal.returns
returns c = rw (take_all c.loop-position.position-index c.args.listed.now (omega arith)) at c.loop-position.invariant
