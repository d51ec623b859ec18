-- `table_widths::method_own_bits` meets its contract. The loop's invariant: the total is the sum of the widths of the bytes before the one at hand.
use Rattle.std.proofs.Common.{◌+◌, min, arith, ◌∙◌, sym, add-zero}
use Rattle.jumbled.specs.Fields.{Layout, layout_of}
use Rattle.methods.specs.Numbers.{method_number}
use Rattle.table_widths.proofs.Widths.{part_count, part-length, sum-begin, few-in-span, sum-own, sum-none, sum-end, widths-most, layout-narrow}
use Rattle.table_widths.proofs.method_own_bits.Goals as goal
use Rattle.table_widths.proofs.method_own_bits.Goals.{then-count-gt0, else-count-gt0}

pub loop-count-preserved : goal.loop-count-preserved
loop-count-preserved c of =
    let layout : Layout = layout_of c.args.k (method_number c.args.method) in
    let at = part_count c.args.counts.now c.min.result c.args.span.past c.loop-count.count-index c.loop-count-test.true in
    let so_far = rw (sym c.min.ensures) at (c.loop-count.invariant of) in
    rw (sym c.min.ensures)
    (elim c.if-count-gt0.branch [
      | then-count-gt0 w ↦ w.total-is ∙ sum-own of.counted layout c.min.result c.loop-count.count-index _ at.0 at.1 _ _ w.if-count-gt0.true w.method_own_width-total.ensures so_far
      | else-count-gt0 w ↦ w.total-is ∙ sum-none of.counted layout c.min.result c.loop-count.count-index _ at.0 at.1 _ w.if-count-gt0.false so_far
    ])

pub loop-count-init : goal.loop-count-init
loop-count-init c of = rw add-zero (sum-begin of.counted (layout_of c.args.k (method_number c.args.method)))

pub method_own_width-total-requires : goal.method_own_width-total-requires
method_own_width-total-requires c =
    let layout : Layout = layout_of c.args.k (method_number c.args.method) in
    let at = part_count c.args.counts.now c.min.result c.args.span.past c.loop-count.count-index c.loop-count-test.true in
    (few-in-span c.requires.0.counted layout c.min.result c.loop-count.count-index _ at.0 at.1, c.requires.1)

pub overflow_add-total : goal.overflow_add-total
overflow_add-total c =
    let layout : Layout = layout_of c.args.k (method_number c.args.method) in
    let counted = c.requires.0.counted in
    let at = part_count c.args.counts.now c.min.result c.args.span.past c.loop-count.count-index c.loop-count-test.true in
    let few = few-in-span counted layout c.min.result c.loop-count.count-index _ at.0 at.1 in
    let narrow = layout-narrow c.args.k (method_number c.args.method) c.requires.1 in
    omega (
      arith,
      c.loop-count.invariant c.requires.0,
      c.method_own_width-total.ensures,
      at.0,
      counted.spanned.bytes,
      widths-most c.requires.0.pattern layout (min c.args.span.low c.args.span.past + c.loop-count.count-index) counted.short narrow,
      narrow.own-most _ few,
    )

pub returns : goal.returns
returns c of =
    let layout : Layout = layout_of c.args.k (method_number c.args.method) in
    let long = part-length of.counted layout c.min.result in
    sum-end of.counted layout _ _ (omega (arith, long)) (omega (arith, long, of.counted.spanned.bytes)) (c.loop-count.invariant of)
