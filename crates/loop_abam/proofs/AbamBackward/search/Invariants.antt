use mathlib.Core.List.{List}
use Prim.Native.Nat.{ℕ, ◌-◌}
use lib.ListN.{length}
use Rattle.loop_backward.proofs.Windows.{Going}
use Rattle.loop_backward.proofs.Reading.{scanned_by}
use Rattle.loop_backward.proofs.Errors.{ErrorsCounted}
use Rattle.loop_backward.proofs.Methods.{abam_method}
use Rattle.loop_abam.proofs.AbamBackward.search.Given as goal

abbrev pub invariant-loop-p : goal.invariant-loop-p
invariant-loop-p l =
    let P : List ℕ = l.self.pattern.now in
    ErrorsCounted P (abam_method P l.self.k) l.text l.initial.s l.initial.inspections l.s l.inspections l.packed l.errors l.p

abbrev pub invariant-windows : goal.invariant-windows
invariant-windows l =
    let P : List ℕ = l.self.pattern.now in
    Going (scanned_by P (abam_method P l.self.k)) (length P) l.text (record { first = l.initial.s; «end» = l.end; base = l.base; at = l.initial.at }) l.initial.list l.s l.at l.inspections l.list

abbrev pub decreases-windows : goal.decreases-windows
decreases-windows l = l.end - l.s
