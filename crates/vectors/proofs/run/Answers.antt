-- `vectors::run` meets its contract. The loop's invariant: the cases before `at` were run, no more than turns were made, and each turn took a byte.
use native.Mathlib.Omega.{arith}
use Rattle.vectors.specs.Runs.{none, more, malformed}
use Rattle.vectors.proofs.Running.{run-onward}
use Rattle.vectors.proofs.run.Goals as goal

pub loop-turn-init : goal.loop-turn-init
loop-turn-init g c = (omega arith, (omega arith, (omega arith, (omega arith, none))))

pub loop-turn-preserved : goal.loop-turn-preserved
loop-turn-preserved g c =
    let inv = c.loop-turn.invariant in
    let onward = run-onward c.in-Some.ensures (omega arith) (omega arith) in (
      omega arith,
      (omega arith, (omega arith, (omega arith, rw c.compare-tally.ensures.value (more inv.1.1.1.1 c.in-Some.ensures (omega arith))))),
    )

pub returns-then-stream-step-clause-tally_of : goal.returns-then-stream-step-clause-tally_of
returns-then-stream-step-clause-tally_of g c =
    let inv = c.loop-turn.invariant in
    record { at = _; search = _; reached = inv.1.1.1.1; ended = malformed c.in-Some.ensures (omega arith) }
