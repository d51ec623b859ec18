-- `sheet_write::write_line` meets its contract: the position, a blank, the window, and the newline, one after the other.
use mathlib.Core.List.{[], ◌∷◌, ◌++◌, map}
use Rattle.lent.proofs.Appending.{room_first, room_then, appended_then}
use Rattle.sheet_form.specs.Sheet.{shown, left_aligned}
use Rattle.sheet_form.proofs.Lengths.{length-position}
use Rattle.sheet_write.proofs.Columns.{line-parts}
use Rattle.sheet_write.proofs.write_line.Goals as goal

pub position_column-requires : goal.position_column-requires
position_column-requires c = length-position c.args.position c.requires.column

pub copy-requires : goal.copy-requires
copy-requires c =
    rw c.position_column.ensures
    (room_first ((32 ∷ []) ++ (left_aligned 64 (map shown c.args.window.now) ++ (10 ∷ []))) (rw (line-parts c.args.position c.args.window.now) at c.requires.room))

pub put-requires : goal.put-requires
put-requires c =
    let column = rw c.position_column.ensures at c.copy.ensures in
    room_first (left_aligned 64 (map shown c.args.window.now) ++ (10 ∷ []))
    (room_then column (rw (line-parts c.args.position c.args.window.now) at c.requires.room))

pub write_window-requires : goal.write_window-requires
write_window-requires c =
    let column = rw c.position_column.ensures at c.copy.ensures in (
      c.requires.short,
      room_first (10 ∷ []) (room_then c.put.ensures (room_then column (rw (line-parts c.args.position c.args.window.now) at c.requires.room))),
    )

pub put-requires-2 : goal.put-requires-2
put-requires-2 c =
    let column = rw c.position_column.ensures at c.copy.ensures in
    room_then c.write_window.ensures (room_then c.put.ensures (room_then column (rw (line-parts c.args.position c.args.window.now) at c.requires.room)))

pub returns : goal.returns
returns c =
    let column = rw c.position_column.ensures at c.copy.ensures in
    rw (line-parts c.args.position c.args.window.now)
    (appended_then column (appended_then c.put.ensures (appended_then c.write_window.ensures c.put-2.ensures)))
