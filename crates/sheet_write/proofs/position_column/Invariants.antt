use Rattle.sheet_write.proofs.Columns.{Spelling}
use Rattle.sheet_write.proofs.position_column.Given as goal

abbrev pub invariant-loop-rest : goal.invariant-loop-rest
invariant-loop-rest l = Spelling l.position l.rest l.i l.column

abbrev pub decreases-loop-rest : goal.decreases-loop-rest
decreases-loop-rest l = l.rest
