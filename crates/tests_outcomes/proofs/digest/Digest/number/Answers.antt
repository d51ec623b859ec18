-- `Digest::number` meets its contract.
use Rattle.std.proofs.Common.{◌≡◌, ◌+◌, ◌-◌, arith}
use Rattle.tests_outcomes.proofs.Digesting.{digest-low, digest-low-end}
use Rattle.tests_outcomes.proofs.digest.Digest.number.Goals as goal

pub loop-place-preserved : goal.loop-place-preserved
loop-place-preserved c =
    let left : c.args.width - (c.loop-place.place + 1) ≡ c.args.width - c.loop-place.place - 1 = omega arith in
    rw (left, c.byte-digest.ensures, ← digest-low c.loop-place.digest.value (c.args.width - c.loop-place.place) c.loop-place.rest (omega arith)) c.loop-place.invariant

pub returns : goal.returns
returns c = rw (← digest-low-end c.loop-place.digest.value (c.args.width - c.loop-place.place) c.loop-place.rest (omega arith)) c.loop-place.invariant
