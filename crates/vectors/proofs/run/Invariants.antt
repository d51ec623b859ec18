use Prim.Native.Nat.{◌-◌, ◌≤◌}
use Rattle.vectors.specs.Runs.{Reached}
use Rattle.vectors.proofs.run.Given as goal

abbrev pub invariant-loop-turn : goal.invariant-loop-turn
invariant-loop-turn g l = (l.tally.differ ≤ l.tally.cases) × ((l.tally.cases ≤ l.turn) × ((l.turn ≤ l.turn-end) × ((l.turn ≤ l.at) × Reached l.stream l.at l.search l.tally)))

abbrev pub decreases-loop-turn : goal.decreases-loop-turn
decreases-loop-turn g l = l.turn-end - l.turn
