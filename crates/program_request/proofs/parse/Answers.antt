-- `program_request::parse` meets its contract.
use Rattle.std.proofs.Common.{refl, arith}
use Rattle.program_request.proofs.Requests.{too_long, no-newline, bad-fields, request}
use Rattle.program_request.proofs.Lines.{fields-said, pattern-within}
use Rattle.program_request.proofs.parse.Goals as goal

pub returns-then-input-gt-LONGEST_INPUT : goal.returns-then-input-gt-LONGEST_INPUT
returns-then-input-gt-LONGEST_INPUT c = too_long c.args.input.now (omega arith)

pub returns-in_default : goal.returns-in_default
returns-in_default c = no-newline c.args.input.now (omega arith) c.in_default.ensures

pub returns-in_default-first_line : goal.returns-in_default-first_line
returns-in_default-first_line c = bad-fields c.args.input.now (omega arith) c.in-Some.ensures c.in_default-first_line.ensures

-- the pattern is a part of the first line
pub overflow_sub-result : goal.overflow_sub-result
overflow_sub-result c =
    let line = c.in-Some.line.now in
    pattern-within line c.in-Some-first_line.field-0 (fields-said line c.in-Some-first_line.ensures)

-- and the places are its length and the text's, whichever way they are computed
pub returns : goal.returns
returns c =
    let line = c.in-Some-first_line.field-0 in
    request c.args.input.now (omega arith) c.in-Some.ensures _ line (fields-said c.in-Some.line.now c.in-Some-first_line.ensures)
    refl refl refl c.less_newline-text.ensures (grind arith) refl (grind arith)
