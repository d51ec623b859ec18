-- `Digest::list` meets its contract.
use Rattle.std.proofs.Common.{arith}
use Rattle.tests_outcomes.proofs.Digesting.{digest-place, digest-list-end}
use Rattle.tests_outcomes.proofs.digest.Digest.list.Goals as goal

pub loop-number-preserved : goal.loop-number-preserved
loop-number-preserved c =
    rw (c.number-digest.ensures, ← digest-place c.loop-number.digest.value c.args.list.now c.loop-number.number-index (omega arith)) c.loop-number.invariant

pub returns : goal.returns
returns c = rw (← digest-list-end c.loop-number.digest.value c.args.list.now c.loop-number.number-index (omega arith)) c.loop-number.invariant
