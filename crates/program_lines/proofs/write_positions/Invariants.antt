use lib.ListN.{take}
use Rattle.program_lines.specs.Lines.{position_lines}
use Rattle.lent.specs.Appended.{Appended}
use Rattle.program_lines.proofs.write_positions.Given as goal

abbrev pub invariant-loop-position : goal.invariant-loop-position
invariant-loop-position l = Appended l.initial.writer (position_lines (take l.position-index l.positions)) l.writer
