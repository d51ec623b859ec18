-- `program_lines::write_counts` meets its contract: two words with their numbers, one after the other.
use mathlib.Core.List.{◌++◌}
use Rattle.ascii.specs.Codes.{ascii}
use Rattle.program_lines.specs.Lines.{number_line}
use Rattle.lent.proofs.Appending.{room_first, room_then, appended_then}
use Rattle.program_lines.proofs.Lines.{counts-parts}
use Rattle.program_lines.proofs.write_counts.Goals as goal

pub write_labeled-requires : goal.write_labeled-requires
unfolding ascii
write_labeled-requires c = room_first (ascii " looks " ++ number_line c.args.inspections) (rw (counts-parts c.args.found c.args.inspections) at c.requires)

pub write_labeled_line-requires : goal.write_labeled_line-requires
unfolding ascii
write_labeled_line-requires c = room_then c.write_labeled.ensures (rw (counts-parts c.args.found c.args.inspections) at c.requires)

pub returns : goal.returns
unfolding ascii
returns c = rw (counts-parts c.args.found c.args.inspections) (appended_then c.write_labeled.ensures c.write_labeled_line.ensures)
