-- `image_read::end_of` meets its contract: a length more is where the next body ends.
use mathlib.Core.Path.{sym}
use native.Mathlib.Omega.{arith}
use Rattle.image_form.proofs.Contents.{end-first, end-next}
use Rattle.image_read.proofs.end_of.Goals as goal

pub loop-before-init : goal.loop-before-init
loop-before-init c = (sym (end-first c.args.image.now), omega arith)

pub loop-before-preserved : goal.loop-before-preserved
loop-before-preserved c =
    let loop = c.loop-before in
    (omega (arith, end-next c.args.image.now loop.before, loop.invariant.0, c.length_of-end.ensures.0), omega arith)
