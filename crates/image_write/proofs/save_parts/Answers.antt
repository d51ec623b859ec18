-- `image_write::save_parts` meets its contract: the buffer is measured before anything is written.
use mathlib.Core.Path.{◌≡◌}
use Prim.Native.Nat.{◌+◌}
use native.Mathlib.Omega.{arith}
use lib.ListN.{length}
use Rattle.image_form.specs.Image.{Parts, parts_with, image}
use Rattle.image_form.proofs.Images.{length-image}
use Rattle.image_write.proofs.Savings.{saved-short, saved-written}
use Rattle.image_write.proofs.save_parts.Goals as goal

pub returns-then-buffer-image_length : goal.returns-then-buffer-image_length
returns-then-buffer-image_length c =
    let parts : Parts = parts_with c.args.pattern.now c.args.k c.args.method c.args.total c.args.tail.now in
    let long : length (image parts) ≡ 13 + 6 + length c.args.pattern.now + length c.args.tail.now = omega (arith, length-image parts) in
    saved-short parts c.args.buffer.now (omega (arith, c.if-buffer-image_length.true, c.image_length.ensures, long))

pub returns : goal.returns
returns c =
    let parts : Parts = parts_with c.args.pattern.now c.args.k c.args.method c.args.total c.args.tail.now in
    let long : length (image parts) ≡ 13 + 6 + length c.args.pattern.now + length c.args.tail.now = omega (arith, length-image parts) in
    saved-written parts c.args.buffer.now
    (omega (arith, c.if-buffer-image_length.false, c.image_length.ensures, long)) _ c.encode.result c.encode.ensures
