use Rattle.lent.specs.Appended.{Appended}
use Rattle.sheet_form.proofs.Lengths.{standing}
use Rattle.sheet_write.proofs.write_sheet.Given as goal

abbrev pub invariant-loop-page : goal.invariant-loop-page
invariant-loop-page l = Appended l.initial.writer (standing l.m l.text l.listed l.page) l.writer
