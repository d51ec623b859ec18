-- `program_report::report` meets its contract: the line of a refusal, or what the request asks for.
use borrow.Author.Rules.{rules}
use Rattle.program_request.proofs.Answered.{parsed-refused, parsed-request}
use Rattle.program_report.proofs.Answers.{output-refusal, request-written, text-fits}
use Rattle.program_report.proofs.Founds.{refused-fits}
use Rattle.program_report.proofs.report.Goals as goal

pub write_refusal-requires : goal.write_refusal-requires
write_refusal-requires c = refused-fits c.in-Err.early c.number_of.ensures (search rules)

-- the text is no longer than the input: the one that was lent, or the part of the input where it stands
pub answer_request-requires : goal.answer_request-requires
answer_request-requires c =
    let input = c.args.input.now in
    let requested = parsed-request input c.in-Ok.ensures in
    let lent = requested.text-is in
    let part = requested.text-at in
    (text-fits input requested.accepted cc, search rules)

pub returns-in-Err : goal.returns-in-Err
returns-in-Err c =
    let input = c.args.input.now in
    rw (output-refusal input c.in-Err.early (parsed-refused input c.in-Err.early c.in-Err.ensures), ← c.number_of.ensures) c.write_refusal.ensures

pub returns-in-Ok : goal.returns-in-Ok
returns-in-Ok c =
    let input = c.args.input.now in
    let requested = parsed-request input c.in-Ok.ensures in
    let lent = requested.text-is in
    let part = requested.text-at in
    request-written input requested c.answer_request.ensures cc
