-- `tests_stream::fill_buffer` meets its contract.
use mathlib.Core.Path.{refl}
use Rattle.tests_stream.proofs.Filling.{filling-none, filling-part, filled-front}
use Rattle.tests_stream.proofs.fill_buffer.Goals as goal

pub loop-i-init : goal.loop-i-init
loop-i-init c = filling-none _ _ _

pub loop-i-preserved : goal.loop-i-preserved
loop-i-preserved c = filling-part _ _ c.loop-i.invariant c.requires.1 c.loop-i-test.true refl

pub returns : goal.returns
returns c = filled-front _ _ c.loop-i.invariant c.requires.1 c.loop-i-test.false
