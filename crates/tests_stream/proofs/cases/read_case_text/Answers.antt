-- `tests_stream::cases::read_case_text` meets its contract.
use Rattle.tests_stream.proofs.Arguments.{searched-hand, searched-text}
use Rattle.tests_stream.proofs.cases.read_case_text.Goals as goal

pub returns-in-Hand : goal.returns-in-Hand
returns-in-Hand c =
    searched-hand _ _ _ _ c.in-Hand.is c.spell.ensures.spelled

pub returns-in_default : goal.returns-in_default
returns-in_default c =
    searched-text _ _ _ _ c.in_default.not-Hand c.read_text.ensures.text_read
