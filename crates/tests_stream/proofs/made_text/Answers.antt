-- `tests_stream::made_text` meets its contract.
use Rattle.tests_stream.proofs.Spellings.{made-spelled}
use Rattle.tests_stream.proofs.made_text.Goals as goal

pub returns-clause-spelled : goal.returns-clause-spelled
returns-clause-spelled c =
    made-spelled _ _ _ _ c.read_number-len.ensures.value c.read_number-seed.ensures.value c.read_number-count.ensures.value c.spell.ensures.spelled
