-- `tests_calls::from_answers::first_found` meets its contract.
use mathlib.Core.Path.{refl}
use mathlib.Core.Option.{Option-elim}
use Rattle.tests_calls.proofs.from_answers.first_found.Goals as goal

pub returns-in-Some : goal.returns-in-Some
unfolding Option-elim
returns-in-Some c = rw (c.outcome.ensures, c.number.ensures, c.new.ensures, c.in-Some.is) refl

pub returns-in-None : goal.returns-in-None
unfolding Option-elim
returns-in-None c = rw (c.outcome-in-None.ensures, c.number-in-None.ensures, c.new-in-None.ensures, c.in-None.is) refl
