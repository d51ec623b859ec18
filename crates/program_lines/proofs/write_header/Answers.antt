-- `program_lines::write_header` meets its contract: four parts, one after the other.
use mathlib.Core.List.{◌++◌}
use Rattle.ascii.specs.Codes.{ascii}
use Rattle.ascii.specs.Decimal.{decimal}
use Rattle.program_lines.specs.Lines.{number_line}
use Rattle.lent.proofs.Appending.{appended_then, room_first, room_then}
use Rattle.program_lines.proofs.Lines.{header-parts}
use Rattle.program_lines.proofs.write_header.Goals as goal

pub copy-requires : goal.copy-requires
unfolding ascii
copy-requires c =
    room_first (c.args.pattern.now ++ ((ascii " method " ++ decimal c.args.method) ++ (ascii " k " ++ number_line c.args.k)))
    (rw (header-parts c.args.pattern.now c.args.k c.args.method) at c.requires)

pub copy-requires-2 : goal.copy-requires-2
unfolding ascii
copy-requires-2 c =
    room_first ((ascii " method " ++ decimal c.args.method) ++ (ascii " k " ++ number_line c.args.k))
    (room_then c.copy.ensures (rw (header-parts c.args.pattern.now c.args.k c.args.method) at c.requires))

pub write_labeled-requires : goal.write_labeled-requires
unfolding ascii
write_labeled-requires c =
    room_first (ascii " k " ++ number_line c.args.k)
    (room_then c.copy-2.ensures (room_then c.copy.ensures (rw (header-parts c.args.pattern.now c.args.k c.args.method) at c.requires)))

pub write_labeled_line-requires : goal.write_labeled_line-requires
unfolding ascii
write_labeled_line-requires c =
    room_then c.write_labeled.ensures
    (room_then c.copy-2.ensures (room_then c.copy.ensures (rw (header-parts c.args.pattern.now c.args.k c.args.method) at c.requires)))

pub returns : goal.returns
unfolding ascii
returns c =
    rw (header-parts c.args.pattern.now c.args.k c.args.method)
    (appended_then c.copy.ensures (appended_then c.copy-2.ensures (appended_then c.write_labeled.ensures c.write_labeled_line.ensures)))
