-- `sheet_count::count_matches` meets its contract. The loop's invariant: the positions before `first` are counted, the state is that of the window
-- there, and the list has its length. Each piece goes on by one window at least.
use mathlib.Core.Path.{refl, ◌∙◌}
use native.Mathlib.Omega.{arith}
use Rattle.sheet_count.proofs.Pieces.{Onward, no-windows, all-counted, begun, for-piece, onward}
use Rattle.sheet_count.proofs.count_matches.Goals as goal

pub returns-then-text-pattern : goal.returns-then-text-pattern
returns-then-text-pattern c = no-windows (record { below = λ i. (c.type_inv.text i).fits }) c.args.pattern.now c.args.k c.if-text-pattern.true

pub loop-first-init : goal.loop-first-init
loop-first-init c =
    (refl, begun c.start.ensures.kept)

pub slide-slid-requires : goal.slide-slid-requires
slide-slid-requires c = for-piece c.requires c.loop-first.invariant.1 (omega arith)

pub overflow_add-found : goal.overflow_add-found
overflow_add-found c =
    let so_far = c.loop-first.invariant.1 in
    let searched : Onward c.args.pattern.now c.args.k c.args.text.now c.loop-first.first c.loop-first.found c.slide-slid.result =
    onward c.requires so_far c.slide-slid.ensures (omega arith) (omega (arith, c.loop-first.invariant.0)) c.loop-first-test.true in
    omega (arith, searched.fits)

pub loop-first-smaller : goal.loop-first-smaller
loop-first-smaller c =
    let so_far = c.loop-first.invariant.1 in
    let searched : Onward c.args.pattern.now c.args.k c.args.text.now c.loop-first.first c.loop-first.found c.slide-slid.result =
    onward c.requires so_far c.slide-slid.ensures (omega arith) (omega (arith, c.loop-first.invariant.0)) c.loop-first-test.true in
    omega (arith, searched.further, c.loop-first-test.true)

pub loop-first-preserved : goal.loop-first-preserved
loop-first-preserved c =
    let so_far = c.loop-first.invariant.1 in
    let searched : Onward c.args.pattern.now c.args.k c.args.text.now c.loop-first.first c.loop-first.found c.slide-slid.result =
    onward c.requires so_far c.slide-slid.ensures (omega arith) (omega (arith, c.loop-first.invariant.0)) c.loop-first-test.true in
    (c.slide-slid.auto.list ∙ c.loop-first.invariant.0, searched.so_far)

pub returns : goal.returns
returns c =
    all-counted (record { below = λ i. (c.type_inv.text i).fits }) c.loop-first.invariant.1 (omega (arith, c.loop-first-test.false))
