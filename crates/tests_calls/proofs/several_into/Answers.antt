-- `tests_calls::several_into` meets its contract.
use Rattle.tests_outcomes.proofs.Digesting.{digest-append}
use Rattle.tests_calls.proofs.several_into.Goals as goal

pub returns : goal.returns
returns c =
    record {
      result = c.whole-answer.result;
      says = c.whole-answer.ensures;
      is = rw (c.answered.ensures, c.list-2.ensures, c.list.ensures, c.new.ensures, digest-append);
    }
