use mathlib.Core.List.{flat_map}
use lib.ListN.{take}
use Rattle.lent.specs.Appended.{Appended}
use Rattle.sheet_form.specs.Sheet.{line_at}
use Rattle.sheet_write.proofs.write_page.Given as goal

abbrev pub invariant-loop-position : goal.invariant-loop-position
invariant-loop-position l = Appended l.initial.writer (flat_map (line_at l.m l.text) (take l.position-index l.listed)) l.writer
