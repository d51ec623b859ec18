-- The `search` of `loop_bam2::Bam2` meets its contract: the outer loop's invariant is that the windows before s are done, the inner one's that the
-- window at s is read down to p. Assumes nothing.
use mathlib.Core.Logic.{inl, inr}
use Prim.Native.Nat.{◌-◌}
use native.Mathlib.Omega.{arith}
use Rattle.jumbled.specs.Steps.{bam2_scan}
use Rattle.loop_backward.proofs.Windows.{going-first, going_end}
use Rattle.loop_backward.proofs.Scanning.{inner_first, pair-group, pair-first, pair-taken, alone-group, alone-taken, inner-word, taken_word, tops-set, tops-clear, inner-on, inner-stop, inner-end}
use Rattle.loop_backward.proofs.Methods.{begun, bam2-lawful}
use Rattle.loop_bam2.proofs.Bam2Backward.search.Goals as goal
use Rattle.loop_bam2.proofs.Bam2Backward.search.Goals.{then-s-p+else-packed-tops-ne0-2, else-s-p}

pub windows-init : goal.windows-init
windows-init c = going-first _ _ _ _ _ c.requires.ordered

pub loop-s-init : goal.loop-s-init
loop-s-init c =
    let w = begun (bam2-lawful c.args.self.now.of_the_pattern.bytes) c.args.self.now.of_the_pattern c.type_inv.text c.requires c.windows.invariant c.windows-test.true c.if-at-list.true in
    (inner_first w)

pub overflow_add-packed : goal.overflow_add-packed
overflow_add-packed c =
    let w = begun (bam2-lawful c.args.self.now.of_the_pattern.bytes) c.args.self.now.of_the_pattern c.type_inv.text c.requires c.windows.invariant c.windows-test.true c.if-at-list.true in
    let i = c.loop-s.invariant in
    record { fits = inner-word w i (c.loop-s.p - 1) _ (omega arith) (omega arith) (pair-first w i c.loop-s-test.true) }

pub overflow_add-packed-in-loop-s : goal.overflow_add-packed-in-loop-s
overflow_add-packed-in-loop-s c =
    let w = begun (bam2-lawful c.args.self.now.of_the_pattern.bytes) c.args.self.now.of_the_pattern c.type_inv.text c.requires c.windows.invariant c.windows-test.true c.if-at-list.true in
    let i = c.loop-s.invariant in
    let t = pair-taken w i c.loop-s-test.true (omega arith) (pair-group w i c.loop-s-test.true) in
    record { fits = taken_word w i t }

pub windows-preserved-then-packed-tops-ne0 : goal.windows-preserved-then-packed-tops-ne0
windows-preserved-then-packed-tops-ne0 c =
    let w = begun (bam2-lawful c.args.self.now.of_the_pattern.bytes) c.args.self.now.of_the_pattern c.type_inv.text c.requires c.windows.invariant c.windows-test.true c.if-at-list.true in
    let i = c.loop-s.invariant in
    let t = pair-taken w i c.loop-s-test.true (omega arith) (pair-group w i c.loop-s-test.true) in
    inner-stop w i t (tops-set w i t c.if-packed-tops-ne0.true)

pub loop-s-preserved : goal.loop-s-preserved
loop-s-preserved c =
    let w = begun (bam2-lawful c.args.self.now.of_the_pattern.bytes) c.args.self.now.of_the_pattern c.type_inv.text c.requires c.windows.invariant c.windows-test.true c.if-at-list.true in
    let i = c.loop-s.invariant in
    let t = pair-taken w i c.loop-s-test.true (omega arith) (pair-group w i c.loop-s-test.true) in
    inner-on w i t (tops-clear w i t c.if-packed-tops-ne0.false)

pub overflow_add-packed-then-s-p : goal.overflow_add-packed-then-s-p
overflow_add-packed-then-s-p c =
    let w = begun (bam2-lawful c.args.self.now.of_the_pattern.bytes) c.args.self.now.of_the_pattern c.type_inv.text c.requires c.windows.invariant c.windows-test.true c.if-at-list.true in
    let i = c.loop-s.invariant in
    let t = alone-taken w i c.if-s-p.true c.loop-s-test.false (omega arith) (alone-group w i c.if-s-p.true c.loop-s-test.false) in
    record { fits = taken_word w i t }

pub windows-preserved-then-packed-tops-ne0-2 : goal.windows-preserved-then-packed-tops-ne0-2
windows-preserved-then-packed-tops-ne0-2 c =
    let w = begun (bam2-lawful c.args.self.now.of_the_pattern.bytes) c.args.self.now.of_the_pattern c.type_inv.text c.requires c.windows.invariant c.windows-test.true c.if-at-list.true in
    let i = c.loop-s.invariant in
    let t = alone-taken w i c.if-s-p.true c.loop-s-test.false (omega arith) (alone-group w i c.if-s-p.true c.loop-s-test.false) in
    inner-stop w i t (tops-set w i t c.if-packed-tops-ne0-2.true)

-- after the pairs the leftmost byte alone may be left, and no bit of it is a stop
pub windows-preserved : goal.windows-preserved
windows-preserved c =
    let w = begun (bam2-lawful c.args.self.now.of_the_pattern.bytes) c.args.self.now.of_the_pattern c.type_inv.text c.requires c.windows.invariant c.windows-test.true c.if-at-list.true in
    let i = c.loop-s.invariant in
    rw c.position.ensures
    (elim c.if-s-p.branch [
      | then-s-p+else-packed-tops-ne0-2 j ↦
          let t = alone-taken w i j.if-s-p.true c.loop-s-test.false (omega arith) (alone-group w i j.if-s-p.true c.loop-s-test.false) in
          rw j.inspections-is (inner-end w (inner-on w i t (tops-clear w i t j.if-packed-tops-ne0-2.false)) (omega arith))
      | else-s-p j ↦ rw j.inspections-is (inner-end w i j.if-s-p.false)
    ])

pub returns-else-at-list : goal.returns-else-at-list
unfolding bam2_scan
returns-else-at-list c = (going_end c.windows.invariant (inr c.if-at-list.false))

pub returns-after-windows : goal.returns-after-windows
unfolding bam2_scan
returns-after-windows c = (going_end c.windows.invariant (inl c.windows-test.false))
