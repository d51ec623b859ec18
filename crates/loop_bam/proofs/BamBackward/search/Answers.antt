-- The `search` of `loop_bam::Bam` meets its contract: the outer loop's invariant is that the windows before s are done, the inner one's that the
-- window at s is read down to p. Assumes nothing.
use mathlib.Core.Logic.{inl, inr}
use native.Mathlib.Omega.{arith}
use Rattle.jumbled.specs.Steps.{bam_scan}
use Rattle.loop_backward.proofs.Windows.{going-first, going_end}
use Rattle.loop_backward.proofs.Scanning.{inner_first, single-group, single-taken, taken_word, tops-set, tops-clear, inner-on, inner-stop, inner-end}
use Rattle.loop_backward.proofs.Methods.{begun, bam-lawful}
use Rattle.loop_bam.proofs.BamBackward.search.Goals as goal

pub windows-init : goal.windows-init
windows-init c = going-first _ _ _ _ _ c.requires.ordered

pub loop-p-init : goal.loop-p-init
loop-p-init c = inner_first (begun (bam-lawful c.args.self.now.of_the_pattern.bytes) c.args.self.now.of_the_pattern c.type_inv.text c.requires c.windows.invariant c.windows-test.true c.if-at-list.true)

pub overflow_add-packed : goal.overflow_add-packed
overflow_add-packed c =
    let w = begun (bam-lawful c.args.self.now.of_the_pattern.bytes) c.args.self.now.of_the_pattern c.type_inv.text c.requires c.windows.invariant c.windows-test.true c.if-at-list.true in
    let i = c.loop-p.invariant in
    record { fits = taken_word w i (single-taken w i (omega arith) (omega arith) (single-group w i (omega arith))) }

pub windows-preserved-then-packed-tops-ne0 : goal.windows-preserved-then-packed-tops-ne0
windows-preserved-then-packed-tops-ne0 c =
    let w = begun (bam-lawful c.args.self.now.of_the_pattern.bytes) c.args.self.now.of_the_pattern c.type_inv.text c.requires c.windows.invariant c.windows-test.true c.if-at-list.true in
    let i = c.loop-p.invariant in
    let t = single-taken w i (omega arith) (omega arith) (single-group w i (omega arith)) in
    inner-stop w i t (tops-set w i t c.if-packed-tops-ne0.true)

pub loop-p-preserved : goal.loop-p-preserved
loop-p-preserved c =
    let w = begun (bam-lawful c.args.self.now.of_the_pattern.bytes) c.args.self.now.of_the_pattern c.type_inv.text c.requires c.windows.invariant c.windows-test.true c.if-at-list.true in
    let i = c.loop-p.invariant in
    let t = single-taken w i (omega arith) (omega arith) (single-group w i (omega arith)) in
    inner-on w i t (tops-clear w i t c.if-packed-tops-ne0.false)

pub windows-preserved : goal.windows-preserved
windows-preserved c =
    let w = begun (bam-lawful c.args.self.now.of_the_pattern.bytes) c.args.self.now.of_the_pattern c.type_inv.text c.requires c.windows.invariant c.windows-test.true c.if-at-list.true in
    rw c.position.ensures (inner-end w c.loop-p.invariant (omega arith))

pub returns-else-at-list : goal.returns-else-at-list
unfolding bam_scan
returns-else-at-list c = going_end c.windows.invariant (inr c.if-at-list.false)

pub returns-after-windows : goal.returns-after-windows
unfolding bam_scan
returns-after-windows c = going_end c.windows.invariant (inl c.windows-test.false)
