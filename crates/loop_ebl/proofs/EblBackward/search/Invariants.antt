use mathlib.Core.List.{List}
use Prim.Native.Nat.{ℕ, ◌-◌}
use lib.ListN.{length}
use Rattle.jumbled.specs.Steps.{ebl_scan}
use Rattle.loop_backward.proofs.Windows.{Going}
use Rattle.loop_ebl.proofs.Reading.{Inner}
use Rattle.loop_ebl.proofs.EblBackward.search.Given as goal

abbrev pub invariant-loop-p : goal.invariant-loop-p
invariant-loop-p l = Inner l.self.pattern.now l.text l.initial.s l.initial.inspections l.s l.inspections l.p

abbrev pub invariant-windows : goal.invariant-windows
invariant-windows l =
    let P : List ℕ = l.self.pattern.now in
    Going (ebl_scan P) (length P) l.text (record { first = l.initial.s; «end» = l.end; base = l.base; at = l.initial.at }) l.initial.list l.s l.at l.inspections l.list

abbrev pub decreases-windows : goal.decreases-windows
decreases-windows l = l.end - l.s
