-- `table_parikh::occurring` meets its contract. The loop's invariant: the table is that of the bytes passed.
use Rattle.std.proofs.Common.{get_or, arith}
use Rattle.table_parikh.proofs.Letters.{occurring-none, occurring-more, take_more}
use Rattle.table_parikh.proofs.occurring.Goals as goal

pub loop-byte-init : goal.loop-byte-init
loop-byte-init c = occurring-none

pub loop-byte-preserved : goal.loop-byte-preserved
loop-byte-preserved c =
    let i = c.loop-byte.byte-index in
    rw (take_more c.args.pattern.now i (omega arith)) at
    (occurring-more c.loop-byte.invariant (get_or c.args.pattern.now i 0) (omega (arith, c.type_inv.pattern i)))
