-- `tests_stream::take_part` meets its contract.
use native.Mathlib.Omega.{arith}
use Rattle.tests_stream.proofs.Places.{part-there, part-short}
use Rattle.tests_stream.proofs.take_part.Goals as goal

pub returns-then-count-stream-clause-value : goal.returns-then-count-stream-clause-value
returns-then-count-stream-clause-value c = part-there _ _ _ (omega arith)

pub returns-else-count-stream-clause-value : goal.returns-else-count-stream-clause-value
returns-else-count-stream-clause-value c = part-short _ _ _ (omega arith)

pub returns-else-at-stream-clause-value : goal.returns-else-at-stream-clause-value
returns-else-at-stream-clause-value c = part-short _ _ _ (omega arith)
