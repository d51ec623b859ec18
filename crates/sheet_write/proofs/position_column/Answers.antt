-- `sheet_write::position_column` meets its contract. The loop's invariant: the digits behind those of the rest stand at the column's right end.
use native.Mathlib.Omega.{arith}
use Rattle.sheet_write.proofs.Columns.{none-spelled, place-left, digit-spelled, column-filled}
use Rattle.sheet_write.proofs.position_column.Goals as goal

pub loop-rest-init : goal.loop-rest-init
loop-rest-init c = none-spelled c.args.position

pub overflow_sub-i : goal.overflow_sub-i
overflow_sub-i c = place-left c.requires c.loop-rest.invariant

pub loop-rest-preserved : goal.loop-rest-preserved
loop-rest-preserved c = digit-spelled c.requires c.loop-rest.invariant (omega arith)

pub overflow_sub-i-2 : goal.overflow_sub-i-2
overflow_sub-i-2 c = place-left c.requires c.loop-rest.invariant

pub returns : goal.returns
returns c = column-filled c.requires c.loop-rest.invariant (omega arith)
