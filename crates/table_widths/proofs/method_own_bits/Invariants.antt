use Rattle.std.proofs.Common.{◌≡◌, ◌+◌, min}
use Rattle.jumbled.specs.Match.{sum}
use Rattle.jumbled.specs.Fields.{layout_of, width_of}
use Rattle.methods.specs.Numbers.{method_number}
use Rattle.table_widths.specs.Counted.{SomeCounted}
use Rattle.table_widths.proofs.method_own_bits.Given as goal

abbrev pub invariant-loop-count : goal.invariant-loop-count
invariant-loop-count l = (of : SomeCounted l.counts l.fn.span) → l.total ≡ sum (min l.fn.span.low l.fn.span.past + l.count-index) (width_of of.pattern (layout_of l.k (method_number l.method)))
