-- `lent::copy_in` meets its contract: a part of the buffer is overwritten.
use mathlib.Core.Path.{refl}
use Rattle.lent.proofs.Writing.{written_part}
use Rattle.lent.proofs.copy_in.Goals as goal

pub returns : goal.returns
returns c = written_part _ _ _ c.copy_from_slice.ensures.after refl
