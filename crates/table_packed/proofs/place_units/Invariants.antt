use Rattle.std.proofs.Common.{min}
use Rattle.table_widths.specs.Layouts.{layout}
use Rattle.table_packed.specs.Word.{unit_of}
use Rattle.table_packed.proofs.Words.{Tabled, Summed}
use Rattle.table_packed.proofs.place_units.Given as goal

abbrev pub invariant-loop-byte : goal.invariant-loop-byte
invariant-loop-byte l = Summed l.fields.pattern.now (layout l.fields) l.start l.tops (min l.byte 256)
    × Tabled l.fields.pattern.now (layout l.fields) (unit_of l.fields.pattern.now (layout l.fields)) l.units l.at (min l.byte 256)
