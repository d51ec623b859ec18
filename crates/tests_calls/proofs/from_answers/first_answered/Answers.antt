-- `tests_calls::from_answers::first_answered` meets its contract.
use mathlib.Core.Path.{refl}
use mathlib.Core.Option.{Option-elim}
use Rattle.tests_calls.proofs.from_answers.first_answered.Goals as goal

pub returns-in-Err : goal.returns-in-Err
unfolding Option-elim
returns-in-Err c = rw (c.outcome.ensures, c.number.ensures, c.new.ensures, c.in-Err.is) refl
