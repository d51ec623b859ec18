-- `program_request::less_newline` meets its contract.
use Rattle.program_request.proofs.Texts.{text-cut, text-kept, text_none}
use Rattle.program_request.proofs.less_newline.Goals as goal

pub returns-in-Some : goal.returns-in-Some
returns-in-Some c = text-cut c.args.rest.now c.in-Some.last.now c.in-Some.text.now c.in-Some.ensures.cases c.if-last-eq10.true

pub returns-in_default : goal.returns-in_default
returns-in_default c = text-kept c.args.rest.now c.in-Some.last.now c.in-Some.text.now c.in-Some.ensures.cases c.if-last-eq10.false

pub returns-in_default-2 : goal.returns-in_default-2
returns-in_default-2 c = text_none c.args.rest.now (rw c.in_default.is at c.split_last.ensures.cases)
