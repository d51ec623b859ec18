-- `tests_calls::exact` meets its contract.
use borrow.Author.Tests.{lt-ltb, le-ltb}
use Rattle.tests_calls.specs.Calls.{exact_number}
use Rattle.tests_calls.proofs.exact.Goals as goal

pub returns-then-pattern-gt64 : goal.returns-then-pattern-gt64
unfolding exact_number
returns-then-pattern-gt64 c = rw (lt-ltb 64 _ c.if-pattern-gt64.true)

pub returns-then-target : goal.returns-then-target
unfolding exact_number
returns-then-target c =
    rw (le-ltb 64 _ c.if-pattern-gt64.false, ← c.fill_values-target.ensures.exact, c.if-target.true)

pub returns-else-target : goal.returns-else-target
unfolding exact_number
returns-else-target c =
    rw (le-ltb 64 _ c.if-pattern-gt64.false, ← c.fill_values-target.ensures.exact, c.if-target.false)
