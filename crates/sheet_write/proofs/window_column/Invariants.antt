use Rattle.sheet_write.proofs.Columns.{Filled}
use Rattle.sheet_write.proofs.window_column.Given as goal

abbrev pub invariant-loop-i : goal.invariant-loop-i
invariant-loop-i l = Filled l.window l.i l.column
