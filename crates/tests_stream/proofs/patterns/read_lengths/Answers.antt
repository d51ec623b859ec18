-- `tests_stream::patterns::read_lengths` meets its contract.
use native.Mathlib.Omega.{arith}
use Rattle.tests_stream.proofs.Filling.{filling-none, filling-part, filled-front}
use Rattle.tests_stream.proofs.patterns.read_lengths.Goals as goal

pub loop-i-init : goal.loop-i-init
loop-i-init c = filling-none _ _ _

pub loop-i-preserved : goal.loop-i-preserved
loop-i-preserved c = filling-part _ _ c.loop-i.invariant (omega arith) c.loop-i-test.true c.number_in.ensures.value

pub returns-clause-filled : goal.returns-clause-filled
returns-clause-filled c = filled-front _ _ c.loop-i.invariant (omega arith) c.loop-i-test.false
