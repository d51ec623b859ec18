use Prim.Native.Nat.{◌≤◌}
use Rattle.charge_runs.proofs.Walking.{Walked}
use Rattle.charge_runs.proofs.cover.Given as goal

abbrev pub invariant-loop-position : goal.invariant-loop-position
invariant-loop-position l = Walked l.m l.positions l.hours l.sixes l.run l.end l.position-index × (l.end ≤ 4294967360)
