use mathlib.Core.Path.{◌≡◌}
use Rattle.tests_stream.specs.Fillings.{drawn, letter_at}
use Rattle.tests_stream.proofs.Filling.{Filling}
use Rattle.tests_stream.proofs.put_letters.Given as goal

abbrev pub invariant-loop-i : goal.invariant-loop-i
invariant-loop-i l = (l.x ≡ drawn l.seed l.i) × Filling (letter_at l.letters l.picked l.seed) l.len l.initial.filled l.filled l.i
