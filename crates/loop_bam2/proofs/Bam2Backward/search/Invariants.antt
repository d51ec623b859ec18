use mathlib.Core.List.{List}
use Prim.Native.Nat.{ℕ, ◌-◌}
use lib.ListN.{length}
use Rattle.loop_backward.proofs.Windows.{Going}
use Rattle.loop_backward.proofs.Reading.{scanned_by}
use Rattle.loop_backward.proofs.Scanning.{Inner}
use Rattle.loop_backward.proofs.Methods.{bam2_method}
use Rattle.loop_bam2.proofs.Bam2Backward.search.Given as goal

abbrev pub invariant-loop-s : goal.invariant-loop-s
invariant-loop-s l =
    let P : List ℕ = l.self.pattern.now in
    Inner P (bam2_method P) l.text l.initial.s l.initial.inspections l.s l.inspections l.packed l.p

abbrev pub decreases-loop-s : goal.decreases-loop-s
decreases-loop-s l = l.p

abbrev pub invariant-windows : goal.invariant-windows
invariant-windows l =
    let P : List ℕ = l.self.pattern.now in
    Going (scanned_by P (bam2_method P)) (length P) l.text (record { first = l.initial.s; «end» = l.end; base = l.base; at = l.initial.at }) l.initial.list l.s l.at l.inspections l.list

abbrev pub decreases-windows : goal.decreases-windows
decreases-windows l = l.end - l.s
