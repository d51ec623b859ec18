-- `read_full` ends, since each turn leaves less to fill.
use mathlib.Core.Path.{◌≡◌}
use Prim.Native.Nat.{◌-◌, ◌≤◌}
use lib.ListN.{length}
use Rattle.lent.proofs.read_full.Given as goal

abbrev pub invariant-loop-read : goal.invariant-loop-read
invariant-loop-read g l = (length l.buffer ≡ length l.initial.buffer) × (l.read ≤ length l.buffer)

abbrev pub decreases-loop-read : goal.decreases-loop-read
decreases-loop-read g l = length l.buffer - l.read
