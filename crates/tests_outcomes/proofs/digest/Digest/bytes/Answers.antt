-- `Digest::bytes` meets its contract.
use Rattle.std.proofs.Common.{arith}
use Rattle.tests_outcomes.proofs.Digesting.{digest-drop, digest-end}
use Rattle.tests_outcomes.proofs.digest.Digest.bytes.Goals as goal

pub loop-byte-preserved : goal.loop-byte-preserved
loop-byte-preserved c =
    rw (c.byte-digest.ensures, ← digest-drop c.loop-byte.digest.value c.args.bytes.now c.loop-byte.byte-index (omega arith)) c.loop-byte.invariant

pub returns : goal.returns
returns c = rw (← digest-end c.loop-byte.digest.value c.args.bytes.now c.loop-byte.byte-index (omega arith)) c.loop-byte.invariant
