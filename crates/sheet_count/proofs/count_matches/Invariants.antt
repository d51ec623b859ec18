use mathlib.Core.Path.{◌≡◌}
use Prim.Native.Nat.{◌-◌}
use lib.ListN.{length}
use Rattle.sheet_count.proofs.Pieces.{CountedTo}
use Rattle.sheet_count.proofs.count_matches.Given as goal

abbrev pub invariant-loop-first : goal.invariant-loop-first
invariant-loop-first l = (length l.places ≡ 64) × CountedTo l.pattern l.k l.text l.state l.first l.found

abbrev pub decreases-loop-first : goal.decreases-loop-first
decreases-loop-first l = l.end - l.first
