-- `table_parikh::span_of` meets its contract. The loop's invariant: the span holds the bytes passed.
use Rattle.std.proofs.Common.{get_or, arith}
use Rattle.table_parikh.proofs.Letters.{spanned-none, spanned-more, take_more}
use Rattle.table_parikh.proofs.span_of.Goals as goal

pub loop-byte-init : goal.loop-byte-init
loop-byte-init c = spanned-none

pub loop-byte-preserved : goal.loop-byte-preserved
loop-byte-preserved c =
    let i = c.loop-byte.byte-index in
    rw (take_more c.args.pattern.now i (omega arith)) at
    (spanned-more c.loop-byte.invariant (get_or c.args.pattern.now i 0) (record { low = c.min-low.result; past = c.max-past.result }) (omega (arith, c.type_inv.pattern i))
    c.min-low.ensures (omega arith))
