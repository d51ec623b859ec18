use Rattle.std.proofs.Common.{min}
use Rattle.table_widths.specs.Layouts.{layout}
use Rattle.table_packed.specs.Word.{top_of}
use Rattle.table_packed.proofs.Words.{Tabled}
use Rattle.table_packed.proofs.place_own_tops.Given as goal

abbrev pub invariant-loop-byte : goal.invariant-loop-byte
invariant-loop-byte l = Tabled l.fields.pattern.now (layout l.fields) (top_of l.fields.pattern.now (layout l.fields)) l.own_tops l.at (min l.byte 256)
