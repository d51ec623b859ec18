-- The `search` of `loop_abam::Abam` meets its contract: the outer loop's invariant is that the windows before s are done, the inner one's that the
-- window at s is read down to p. Assumes nothing.
use mathlib.Core.Path.{◌≡◌, ◌∙◌}
use mathlib.Core.Logic.{inl, inr}
use mathlib.Core.List.{List}
use Prim.Native.Nat.{ℕ, ◌-◌}
use native.Mathlib.Omega.{arith}
use lib.ListN.{length}
use borrow.Author.Tests.{lt-ltb, le-ltb}
use Rattle.jumbled.specs.Fields.{abam_layout, errors as errors_of}
use Rattle.jumbled.specs.Steps.{abam_scan}
use Rattle.loop_backward.proofs.Windows.{going-first, going_end}
use Rattle.loop_backward.proofs.Leftward.{read_from}
use Rattle.loop_backward.proofs.Scanning.{inner-upto, single-group, single-taken, taken_word, inner-on, inner-stop, inner-end}
use Rattle.loop_backward.proofs.Errors.{counting-few, counting-first, error-found, error-none}
use Rattle.loop_backward.proofs.Methods.{begun, abam-lawful}
use Rattle.loop_abam.proofs.AbamBackward.search.Goals as goal
use Rattle.loop_abam.proofs.AbamBackward.search.Goals.{then-packed-own_tops-ne0, else-packed-own_tops-ne0}

pub windows-init : goal.windows-init
windows-init c = going-first _ _ _ _ _ c.requires.ordered

pub loop-p-init : goal.loop-p-init
loop-p-init c =
    let w = begun (abam-lawful c.args.self.now.of_the_pattern.bytes c.args.self.now.k) c.args.self.now.of_the_pattern c.type_inv.text c.requires c.windows.invariant c.windows-test.true c.if-at-list.true in
    (counting-first w)

pub bounds-text-p : goal.bounds-text-p
bounds-text-p c =
    let w = begun (abam-lawful c.args.self.now.of_the_pattern.bytes c.args.self.now.k) c.args.self.now.of_the_pattern c.type_inv.text c.requires c.windows.invariant c.windows-test.true c.if-at-list.true in
    omega (arith, inner-upto w c.loop-p.invariant.inner)

pub overflow_add-packed : goal.overflow_add-packed
overflow_add-packed c =
    let w = begun (abam-lawful c.args.self.now.of_the_pattern.bytes c.args.self.now.k) c.args.self.now.of_the_pattern c.type_inv.text c.requires c.windows.invariant c.windows-test.true c.if-at-list.true in
    let i = c.loop-p.invariant.inner in
    record { fits = taken_word w i (single-taken w i (omega arith) (omega arith) (single-group w i (omega arith))) }

pub overflow_add-inspections : goal.overflow_add-inspections
overflow_add-inspections c =
    let i = c.loop-p.invariant.inner in
    omega (arith, i.inspected, i.here, c.windows.invariant.counted)

pub overflow_add-errors : goal.overflow_add-errors
overflow_add-errors c =
    omega (arith, counting-few c.loop-p.invariant, c.requires.short)

pub windows-smaller-then-errors-k : goal.windows-smaller-then-errors-k
windows-smaller-then-errors-k c =
    let i = c.loop-p.invariant.inner in
    omega (arith, i.same, c.windows-test.true)

pub windows-preserved-then-errors-k : goal.windows-preserved-then-errors-k
windows-preserved-then-errors-k c =
    let w = begun (abam-lawful c.args.self.now.of_the_pattern.bytes c.args.self.now.k) c.args.self.now.of_the_pattern c.type_inv.text c.requires c.windows.invariant c.windows-test.true c.if-at-list.true in
    let counted = c.loop-p.invariant in
    let i = counted.inner in
    let t = single-taken w i (omega arith) (omega arith) (single-group w i (omega arith)) in
    let P : List ℕ = c.args.self.now.pattern.now in
    -- the byte is an error, or it is none
    let now : c.if-packed-own_tops-ne0.errors ≡ errors_of P (abam_layout c.args.self.now.k) (read_from (length P) c.args.text.now c.windows.s (c.loop-p.p - 1)) =
    elim c.if-packed-own_tops-ne0.branch [
      | then-packed-own_tops-ne0 e ↦ e.errors-is ∙ error-found w c.args.self.now.tested i (omega arith) t counted.counted e.if-packed-own_tops-ne0.true
      | else-packed-own_tops-ne0 e ↦ e.errors-is ∙ error-none w c.args.self.now.tested i (omega arith) t counted.counted e.if-packed-own_tops-ne0.false
    ] in
    inner-stop w i t (rw (← now) (lt-ltb _ _ c.if-errors-k.true))

pub loop-p-preserved : goal.loop-p-preserved
loop-p-preserved c =
    let w = begun (abam-lawful c.args.self.now.of_the_pattern.bytes c.args.self.now.k) c.args.self.now.of_the_pattern c.type_inv.text c.requires c.windows.invariant c.windows-test.true c.if-at-list.true in
    let counted = c.loop-p.invariant in
    let i = counted.inner in
    let t = single-taken w i (omega arith) (omega arith) (single-group w i (omega arith)) in
    let P : List ℕ = c.args.self.now.pattern.now in
    let now : c.if-packed-own_tops-ne0.errors ≡ errors_of P (abam_layout c.args.self.now.k) (read_from (length P) c.args.text.now c.windows.s (c.loop-p.p - 1)) =
    elim c.if-packed-own_tops-ne0.branch [
      | then-packed-own_tops-ne0 e ↦ e.errors-is ∙ error-found w c.args.self.now.tested i (omega arith) t counted.counted e.if-packed-own_tops-ne0.true
      | else-packed-own_tops-ne0 e ↦ e.errors-is ∙ error-none w c.args.self.now.tested i (omega arith) t counted.counted e.if-packed-own_tops-ne0.false
    ] in
    record { inner = inner-on w i t (rw (← now) (le-ltb _ _ c.if-errors-k.false)); counted = now }

pub position-requires : goal.position-requires
position-requires c =
    let i = c.loop-p.invariant.inner in
    omega (arith, i.same, c.windows-test.true, c.requires.numbered)

pub windows-smaller : goal.windows-smaller
windows-smaller c =
    let i = c.loop-p.invariant.inner in
    omega (arith, i.same, c.windows-test.true)

pub windows-preserved : goal.windows-preserved
windows-preserved c =
    let w = begun (abam-lawful c.args.self.now.of_the_pattern.bytes c.args.self.now.k) c.args.self.now.of_the_pattern c.type_inv.text c.requires c.windows.invariant c.windows-test.true c.if-at-list.true in
    rw c.position.ensures (inner-end w c.loop-p.invariant.inner (omega arith))

pub returns-else-at-list : goal.returns-else-at-list
unfolding abam_scan
returns-else-at-list c = (going_end c.windows.invariant (inr c.if-at-list.false))

pub returns-after-windows : goal.returns-after-windows
unfolding abam_scan
returns-after-windows c = (going_end c.windows.invariant (inl c.windows-test.false))
