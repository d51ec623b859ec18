-- `tests_stream::cases::read_arguments` meets its contract: the number read last is bounded by what its kind says at first.
use Rattle.tests_stream.proofs.Arguments.{case-read}
use Rattle.tests_stream.proofs.cases.read_arguments.Goals as goal

pub returns-clause-case_read : goal.returns-clause-case_read
returns-clause-case_read c =
    case-read _ _ _ c.shape_of-shape.ensures.value c.read_text-sought.ensures.text_read c.read_number-k.ensures.value
    c.read_number-method.ensures.value c.read_case_text-searched.ensures c.read_number-places.ensures.value
