-- `program_lines::write_labeled_line` meets its contract: the newline stands after the word and the number.
use mathlib.Core.List.{[], ◌∷◌, append_assoc}
use Rattle.ascii.specs.Codes.{ascii}
use Rattle.ascii.specs.Decimal.{decimal}
use Rattle.program_lines.specs.Lines.{number_line}
use Rattle.lent.proofs.Appending.{room_first, room_then, appended_then}
use Rattle.program_lines.proofs.write_labeled_line.Goals as goal

pub write_labeled-requires : goal.write_labeled-requires
unfolding number_line ascii
write_labeled-requires c = room_first (10 ∷ []) (rw append_assoc c.requires)

pub put-requires : goal.put-requires
unfolding number_line ascii
put-requires c = room_then c.write_labeled.ensures (rw append_assoc c.requires)

pub returns : goal.returns
unfolding number_line ascii
returns c = rw (← append_assoc c.args.word.now (decimal c.args.n) (10 ∷ [])) (appended_then c.write_labeled.ensures c.put.ensures)
