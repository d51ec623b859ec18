-- `table_widths::method_bits` meets its contract: the fields are the pattern's own and the shared one.
use Rattle.std.proofs.Common.{◌+◌, arith, sym, ◌∙◌}
use mathlib.Core.Path.{ap₂}
use Rattle.methods.specs.Numbers.{method_number}
use Rattle.table_widths.specs.Layouts.{layout}
use Rattle.table_widths.proofs.Widths.{layout-narrow, widths-most, bits-split}
use Rattle.table_widths.proofs.method_bits.Goals as goal

pub overflow_add-result : goal.overflow_add-result
overflow_add-result c =
    let fields = c.of-fields.result in
    let narrow = layout-narrow fields.k (method_number fields.method) fields.tolerance in
    omega (arith, c.own_bits.ensures, c.shared_width.ensures, widths-most fields.pattern.now (layout fields) 256 fields.counted.short narrow, narrow.common-most)

pub returns-in-Bam : goal.returns-in-Bam
returns-in-Bam c =
    let fields = c.of-fields.result in
    rw (← c.of-fields.ensures.0, ← c.of-fields.ensures.1, ← c.of-fields.ensures.2)
    (ap₂ ◌+◌ c.own_bits.ensures c.shared_width.ensures ∙ sym (bits-split fields.pattern.now (layout fields)))
