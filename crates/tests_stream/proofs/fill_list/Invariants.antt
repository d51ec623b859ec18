use Rattle.tests_stream.specs.Fillings.{known_place}
use Rattle.tests_stream.proofs.Filling.{Filling}
use Rattle.tests_stream.proofs.fill_list.Given as goal

abbrev pub invariant-loop-i : goal.invariant-loop-i
invariant-loop-i l = Filling known_place l.places l.initial.filled l.filled l.i
