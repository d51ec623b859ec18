-- `tests_stream::read_number` meets its contract.
use native.Mathlib.Omega.{arith}
use Rattle.tests_stream.proofs.Places.{number_fits, number-large}
use Rattle.tests_stream.proofs.read_number.Goals as goal

pub returns-then-most-value-clause-value : goal.returns-then-most-value-clause-value
returns-then-most-value-clause-value c = number-large _ _ _ c.take_part-part.ensures.value c.from_low_first-value.ensures _ (omega arith)

pub returns-clause-value : goal.returns-clause-value
returns-clause-value c = number_fits _ _ _ c.take_part-part.ensures.value c.from_low_first-value.ensures _ (omega arith)
