-- `program_lines::write_refusal` meets its contract: a word and the number on a line.
use Rattle.std.proofs.Common.{rules}
use Rattle.ascii.specs.Codes.{ascii}
use Rattle.program_lines.specs.Lines.{refusal_text}
use Rattle.lent.proofs.Appending.{room_from, appended_to}
use Rattle.program_lines.proofs.write_refusal.Goals as goal

pub write_labeled_line-requires : goal.write_labeled_line-requires
unfolding refusal_text ascii
write_labeled_line-requires c = room_from c.new-writer.ensures.bytes c.new-writer.ensures.place c.requires

pub returns : goal.returns
unfolding refusal_text ascii
returns c = appended_to c.write_labeled_line.ensures c.new-writer.ensures.bytes c.new-writer.ensures.place (search rules)
