use Prim.Native.Nat.{◌≤◌}
use Rattle.several_form.specs.Finds.{beside}
use Rattle.several_pass.specs.Passing.{Noted, tops_set}
use Rattle.several_pass.proofs.note.Given as goal

abbrev pub invariant-loop-field : goal.invariant-loop-field
invariant-loop-field l = (l.field ≤ l.count) × Noted (beside l.s (tops_set l.word l.field)) l.at l.initial.positions l.positions l.initial.numbers l.numbers l.next
