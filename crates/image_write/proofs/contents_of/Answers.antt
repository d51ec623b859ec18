-- `image_write::contents_of` meets its contract: a length of 64 or less is its own low byte.
use mathlib.Core.Path.{◌≡◌, refl}
use Prim.Native.Nat.{◌/◌, ◌%◌}
use native.Mathlib.Omega.{arith}
use Rattle.image_form.specs.Image.{low_first, contents}
use Rattle.image_write.proofs.contents_of.Goals as goal

pub returns : goal.returns
unfolding contents low_first
returns c =
    let pattern = c.args.pattern in
    let tail = c.args.tail in
    let pattern-low : pattern % 256 ≡ pattern = omega arith in
    let pattern-high : pattern / 256 % 256 ≡ 0 = omega arith in
    let tail-low : tail % 256 ≡ tail = omega arith in
    let tail-high : tail / 256 % 256 ≡ 0 = omega arith in
    rw (pattern-low, pattern-high, tail-low, tail-high) refl
