-- `tests_calls::call_report` meets its contract: the output stands in the first bytes of its buffer.
use mathlib.Core.Path.{sym, ap₂, ◌∙◌}
use Prim.Native.Nat.{ℕ, ◌≤◌}
use native.Mathlib.Omega.{arith}
use lib.ListN.{length}
use lib.Seq.{length-take-le}
use Rattle.program_report.proofs.Room.{output-inside}
use borrow.Author.Rules.{rules}
use Rattle.tests_stream.proofs.Filling.{written-part}
use Rattle.tests_outcomes.specs.Digests.{digest}
use Rattle.tests_outcomes.specs.Outcomes.{outcome_of}
use Rattle.tests_calls.specs.Calls.{report_outcome}
use Rattle.tests_calls.proofs.call_report.Goals as goal

pub slice_bounds-output-end : goal.slice_bounds-output-end
slice_bounds-output-end c =
    let inside : c.report-written.result ≤ length c.report-written.new.buffer = output-inside _ c.report-written.ensures (search rules) in
    inside

pub slice_bounds-bytes-end : goal.slice_bounds-bytes-end
slice_bounds-bytes-end c =
    let inside : c.report-written.result ≤ length c.report-written.new.buffer = output-inside _ c.report-written.ensures (search rules) in
    sym (length-take-le c.report-written.result c.report-written.new.buffer inside)

pub returns : goal.returns
unfolding report_outcome
returns c =
    let written = c.report-written.ensures in
    ap₂ (λ (a d : ℕ). outcome_of 0 a 0 d) (omega (arith, written.place)) (c.bytes.ensures ∙ ap₂ digest c.new.ensures (written-part written))
