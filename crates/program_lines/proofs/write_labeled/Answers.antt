-- `program_lines::write_labeled` meets its contract: the number stands after the word.
use Rattle.ascii.specs.Decimal.{decimal}
use Rattle.lent.proofs.Appending.{room_first, room_then, appended_then}
use Rattle.program_lines.proofs.write_labeled.Goals as goal

pub copy-requires : goal.copy-requires
copy-requires c = room_first (decimal c.args.n) c.requires

pub write_decimal-requires : goal.write_decimal-requires
write_decimal-requires c = room_then c.copy.ensures c.requires

pub returns : goal.returns
returns c = appended_then c.copy.ensures c.write_decimal.ensures
