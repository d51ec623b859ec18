use Rattle.tests_stream.specs.Fillings.{known_byte}
use Rattle.tests_stream.proofs.Filling.{Filling}
use Rattle.tests_stream.proofs.fill_buffer.Given as goal

abbrev pub invariant-loop-i : goal.invariant-loop-i
invariant-loop-i l = Filling known_byte l.room l.initial.filled l.filled l.i
