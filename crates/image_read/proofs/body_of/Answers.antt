-- `image_read::body_of` meets its contract: the image is as long as its bodies together.
use mathlib.Core.Path.{◌≡◌, refl}
use Prim.Native.Nat.{◌≤◌, ◌+◌, ◌-◌}
use native.Mathlib.Omega.{arith}
use lib.ListN.{length}
use Rattle.image_form.specs.Decode.{body_of}
use Rattle.image_form.proofs.Contents.{formed, body-within}
use Rattle.image_read.proofs.body_of.Goals as goal

pub end_of-start-requires : goal.end_of-start-requires
end_of-start-requires c =
    let long : 13 ≤ length c.args.image.now = (formed c.args.image.now c.requires.0).long in
    (long, omega arith)

pub length_of-requires : goal.length_of-requires
length_of-requires c =
    let long : 13 ≤ length c.args.image.now = (formed c.args.image.now c.requires.0).long in
    (long, c.requires.1, c.requires.2)

pub slice_bounds-result-end : goal.slice_bounds-result-end
slice_bounds-result-end c =
    let image = c.args.image.now in
    omega (arith, body-within image (formed image c.requires.0) c.args.kind c.requires.1 c.requires.2)

pub returns : goal.returns
unfolding body_of
returns c =
    let end = c.end_of-start in
    let len = c.length_of in
    let all : end.result + len.result - end.result ≡ len.result = omega arith in
    rw (all, end.ensures.0, len.ensures.0) refl
