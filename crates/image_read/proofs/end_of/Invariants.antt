use mathlib.Core.Path.{◌≡◌}
use Prim.Native.Nat.{◌≤◌, ◌+◌, ◌*◌}
use Rattle.image_form.specs.Decode.{end_of}
use Rattle.image_read.proofs.end_of.Given as goal

abbrev pub invariant-loop-before : goal.invariant-loop-before
invariant-loop-before l = (l.end ≡ end_of l.before l.image) × (l.end ≤ 13 + 65535 * l.before)
