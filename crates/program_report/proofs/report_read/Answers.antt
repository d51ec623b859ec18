-- `program_report::report_read` meets its contract: what the bytes read decide is what the whole input does.
use mathlib.Core.Path.{sym}
use Rattle.program_report.proofs.Room.{output-read}
use Rattle.program_report.proofs.report_read.Goals as goal

pub returns : goal.returns
returns c =
    λ input first. rw (sym (output-read input c.args.bytes.now c.args.read c.requires first)) c.report.ensures
