-- `program_lines::write_found` meets its contract: three parts, one after the other.
use mathlib.Core.List.{◌++◌}
use native.Mathlib.Omega.{arith}
use lib.ListN.{take}
use Rattle.std.proofs.Common.{rules}
use Rattle.program_lines.specs.Lines.{position_lines, counts_line}
use Rattle.lent.proofs.Appending.{appended_then, appended_to, room_from, room_first, room_then}
use Rattle.program_lines.proofs.Lines.{found-parts}
use Rattle.program_lines.proofs.write_found.Goals as goal

pub write_header-requires : goal.write_header-requires
write_header-requires c =
    let parts = found-parts c.args.pattern.now c.args.k c.args.method c.args.list.now c.args.found c.args.inspections c.requires.0 in
    room_first (position_lines (take c.args.found c.args.list.now) ++ counts_line c.args.found c.args.inspections)
    (room_from c.new-writer.ensures.bytes c.new-writer.ensures.place (omega (arith, rw parts at c.requires.1)))

pub write_positions-requires : goal.write_positions-requires
write_positions-requires c =
    let parts = found-parts c.args.pattern.now c.args.k c.args.method c.args.list.now c.args.found c.args.inspections c.requires.0 in
    room_first (counts_line c.args.found c.args.inspections)
    (room_then c.write_header.ensures (room_from c.new-writer.ensures.bytes c.new-writer.ensures.place (omega (arith, rw parts at c.requires.1))))

pub write_counts-requires : goal.write_counts-requires
write_counts-requires c =
    let parts = found-parts c.args.pattern.now c.args.k c.args.method c.args.list.now c.args.found c.args.inspections c.requires.0 in
    room_then c.write_positions.ensures
    (room_then c.write_header.ensures (room_from c.new-writer.ensures.bytes c.new-writer.ensures.place (omega (arith, rw parts at c.requires.1))))

pub returns : goal.returns
returns c =
    rw (found-parts c.args.pattern.now c.args.k c.args.method c.args.list.now c.args.found c.args.inspections c.requires.0)
    (appended_to (appended_then c.write_header.ensures (appended_then c.write_positions.ensures c.write_counts.ensures))
    c.new-writer.ensures.bytes c.new-writer.ensures.place (search rules))
