use Rattle.tests_stream.specs.Patterns.{length_at}
use Rattle.tests_stream.proofs.Filling.{Filling}
use Rattle.tests_stream.proofs.patterns.read_lengths.Given as goal

abbrev pub invariant-loop-i : goal.invariant-loop-i
invariant-loop-i l = Filling (length_at l.handed) l.count l.initial.filled l.filled l.i
