-- `tests_stream::from_low_first` meets its contract.
use Rattle.tests_stream.proofs.Numbers.{number-padded}
use Rattle.tests_stream.proofs.from_low_first.Goals as goal

pub returns : goal.returns
returns c = rw (c.from_le_bytes.ensures, c.copy_from_slice.ensures.after) (number-padded c.args.bytes.now c.requires)
