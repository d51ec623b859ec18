use mathlib.Core.Path.{◌≡◌}
use Prim.Native.Nat.{◌≤◌}
use Rattle.several_fields.specs.Words.{packed}
use Rattle.several_fields.proofs.fields_for.Given as goal

abbrev pub invariant-loop-field : goal.invariant-loop-field
invariant-loop-field l = (l.field ≤ l.count) × (l.ones ≡ packed (λ f. 1) l.field)
