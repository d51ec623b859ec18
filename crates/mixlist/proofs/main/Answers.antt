-- `mixlist::main` is safe: it reads into as many places as decide the output, and the bytes that it writes lie within its buffer, which has room for
-- every output.
use borrow.Author.Rules.{rules}
use mathlib.Core.Path.{sym}
use Prim.Native.Nat.{◌≤◌}
use lib.ListN.{length}
use lib.Seq.{length-take-le}
use Rattle.program_report.proofs.Room.{read-inside}
use Rattle.mixlist.proofs.main.Goals as goal

pub slice_bounds-output-end : goal.slice_bounds-output-end
slice_bounds-output-end c =
    read-inside (record { room = search rules; within = c.read_full-read.ensures.within }) c.report_read-written.ensures (search rules)

pub slice_bounds-write_all-end : goal.slice_bounds-write_all-end
slice_bounds-write_all-end c =
    let inside : c.report_read-written.result ≤ length c.report_read-written.new.buffer =
    read-inside (record { room = search rules; within = c.read_full-read.ensures.within }) c.report_read-written.ensures (search rules) in
    sym (length-take-le c.report_read-written.result c.report_read-written.new.buffer inside)
