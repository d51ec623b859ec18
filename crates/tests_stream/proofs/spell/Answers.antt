-- `tests_stream::spell` meets its contract.
use native.Mathlib.Omega.{arith}
use Rattle.tests_stream.proofs.Spellings.{spelled-short, spelled-whole}
use Rattle.tests_stream.proofs.spell.Goals as goal

pub returns-then-made-len-clause-spelled : goal.returns-then-made-len-clause-spelled
returns-then-made-len-clause-spelled c =
    spelled-short _ _ c.take_part-letters.ensures.value c.put_letters-made.ensures.value c.put_letters-made.ensures.filled (omega arith)

pub returns-clause-spelled : goal.returns-clause-spelled
returns-clause-spelled c =
    spelled-whole _ _ c.take_part-letters.ensures.value c.put_letters-made.ensures.value c.put_letters-made.ensures.filled (omega arith)
