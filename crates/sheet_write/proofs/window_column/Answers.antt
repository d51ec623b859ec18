-- `sheet_write::window_column` meets its contract. The loop's invariant: the readings passed stand at the column's left end.
use native.Mathlib.Omega.{arith}
use Rattle.sheet_write.proofs.Columns.{none-shown, shown-filled, all-shown}
use Rattle.sheet_write.proofs.window_column.Goals as goal

pub loop-i-init : goal.loop-i-init
loop-i-init c = none-shown c.args.window.now

pub loop-i-preserved : goal.loop-i-preserved
loop-i-preserved c = rw c.shown_as.ensures (shown-filled c.args.window.now c.loop-i.i c.loop-i.invariant (omega arith) c.requires _ (omega arith))

pub returns : goal.returns
returns c = all-shown c.args.window.now c.loop-i.i c.loop-i.invariant (omega arith)
