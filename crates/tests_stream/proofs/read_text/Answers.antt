-- `tests_stream::read_text` meets its contract.
use Rattle.tests_stream.proofs.Spellings.{plain-spelled, text-none, text-made, text-plain}
use Rattle.tests_stream.proofs.read_text.Goals as goal

pub returns-then-longest-eq0-clause-text_read : goal.returns-then-longest-eq0-clause-text_read
returns-then-longest-eq0-clause-text_read c = text-none _ _ _ _ c.if-longest-eq0.true

pub returns-then-form-gt0-clause-text_read : goal.returns-then-form-gt0-clause-text_read
returns-then-form-gt0-clause-text_read c =
    text-made _ _ _ c.if-longest-eq0.false c.read_number-form.ensures.value c.if-form-gt0.true c.made_text.ensures.spelled

pub returns-clause-text_read : goal.returns-clause-text_read
returns-clause-text_read c =
    text-plain _ _ _ c.if-longest-eq0.false c.read_number-form.ensures.value c.if-form-gt0.false
    (plain-spelled _ _ _ c.read_number-size.ensures.value c.spell.ensures.spelled)
