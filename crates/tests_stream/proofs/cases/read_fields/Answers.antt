-- `tests_stream::cases::read_fields` meets its contract.
use Rattle.tests_stream.specs.Cases.{fields_of}
use Rattle.tests_stream.proofs.Spellings.{array-spelled}
use Rattle.tests_stream.proofs.cases.read_fields.Goals as goal

pub returns : goal.returns
unfolding fields_of
returns c =
    rw (
      ← array-spelled _ 0 64 c.spell.ensures.spelled c.spell.auto.text,
      ← array-spelled _ 78 63 c.spell-2.ensures.spelled c.spell-2.auto.text,
      c.read_number-pattern_len.ensures.value,
      c.read_number-k.ensures.value,
      c.read_number-method.ensures.value,
      c.read_number-total.ensures.value,
      c.read_number-tail_len.ensures.value,
    )
