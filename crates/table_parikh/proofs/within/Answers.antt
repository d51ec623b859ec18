-- `table_parikh::within` meets its contract. The loop's invariant: the bytes passed are counted, and none of them is too many.
use Rattle.std.proofs.Common.{◌<◌, get_or, sym, arith}
use Rattle.table_parikh.proofs.Parikh.{parikh-nil, parikh-take-suc}
use Rattle.table_parikh.proofs.Excess.{passed_none, passes_on, exceeds, exceeds-nowhere}
use Rattle.table_parikh.proofs.within.Goals as goal

pub returns : goal.returns
returns c = sym (exceeds-nowhere c.loop-byte.invariant.0 (omega arith))

pub loop-byte-init : goal.loop-byte-init
loop-byte-init c = (passed_none _ _, parikh-nil)

pub returns-then-used-byte : goal.returns-then-used-byte
returns-then-used-byte c =
    let byte : get_or c.args.window.now c.loop-byte.byte-index 0 < 256 = omega (arith, c.type_inv.window c.loop-byte.byte-index) in
    sym (exceeds c.loop-byte.invariant.0 c.loop-byte.invariant.1 (omega arith) byte (omega (arith, c.if-used-byte.true)))

pub loop-byte-preserved : goal.loop-byte-preserved
loop-byte-preserved c =
    let byte : get_or c.args.window.now c.loop-byte.byte-index 0 < 256 = omega (arith, c.type_inv.window c.loop-byte.byte-index) in
    let window = c.args.window.now in (
      passes_on c.loop-byte.invariant.0 c.loop-byte.invariant.1 (omega arith) byte (omega (arith, c.if-used-byte.false)),
      rw c.loop-byte.invariant.1 (parikh-take-suc window c.loop-byte.byte-index (omega arith) byte),
    )
