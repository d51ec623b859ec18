-- `table_parikh::counts` meets its contract. The loop's invariant: the counters are the Parikh vector of the bytes passed.
use Rattle.std.proofs.Common.{get_or, ◌<◌, ap, ◌∙◌, arith}
use lib.Seq.{take_all}
use Rattle.table_parikh.specs.Table.{parikh}
use Rattle.table_parikh.proofs.Parikh.{parikh-nil, parikh-take-suc, parikh-take-le}
use Rattle.table_parikh.proofs.counts.Goals as goal

-- first, so that where too few bytes are read the promise is what is refused
pub returns : goal.returns
returns c = c.loop-byte.invariant ∙ ap parikh (take_all c.loop-byte.byte-index c.args.s.now (omega arith))

pub loop-byte-init : goal.loop-byte-init
loop-byte-init c = parikh-nil

pub overflow_add-counts : goal.overflow_add-counts
overflow_add-counts c =
    let i = c.loop-byte.byte-index in
    let byte : get_or c.args.s.now i 0 < 256 = omega (arith, c.type_inv.s i) in
    rw c.loop-byte.invariant (omega (arith, parikh-take-le c.args.s.now i (get_or c.args.s.now i 0) byte))

pub loop-byte-preserved : goal.loop-byte-preserved
loop-byte-preserved c =
    let i = c.loop-byte.byte-index in
    rw c.loop-byte.invariant (parikh-take-suc c.args.s.now i (omega arith) (omega (arith, c.type_inv.s i)))
