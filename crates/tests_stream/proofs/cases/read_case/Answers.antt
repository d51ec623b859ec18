-- `tests_stream::cases::read_case` meets its contract.
use Rattle.tests_stream.proofs.Arguments.{kind-some, kind-none}
use Rattle.tests_stream.proofs.cases.read_case.Goals as goal

pub returns-in-Ok-clause-stored_case : goal.returns-in-Ok-clause-stored_case
returns-in-Ok-clause-stored_case c =
    kind-some _ _ c.read_number-number.ensures.value c.in-Ok.ensures.0 c.in-Ok.ensures.1 c.read_arguments.ensures.case_read

pub returns-in-Err-clause-stored_case : goal.returns-in-Err-clause-stored_case
returns-in-Err-clause-stored_case c =
    kind-none _ _ c.read_number-number.ensures.value c.read_number-number.ensures.value_le_most c.in-Err.ensures c.read_arguments-in-Err.ensures.case_read
