-- `tests_calls::width_of` meets its contract.
use borrow.Author.Tests.{lt-ltb, le-ltb}
use Rattle.tests_calls.specs.Calls.{width_number}
use Rattle.tests_calls.proofs.width_of.Goals as goal

pub returns-then-pattern-gt64 : goal.returns-then-pattern-gt64
unfolding width_number
returns-then-pattern-gt64 c = rw (lt-ltb 64 _ c.if-pattern-gt64.true)

pub returns-then-k-gt64 : goal.returns-then-k-gt64
unfolding width_number
returns-then-k-gt64 c = rw (le-ltb 64 _ c.if-pattern-gt64.false, lt-ltb 64 _ c.if-k-gt64.true)

pub returns : goal.returns
unfolding width_number
returns c =
    rw (le-ltb 64 _ c.if-pattern-gt64.false, le-ltb 64 _ c.if-k-gt64.false) c.field_bits.ensures
