-- `image_read::length_of` meets its contract: the two bytes, low byte first.
use Rattle.std.proofs.Common.{arith}
use Rattle.image_form.proofs.Contents.{length-bytes}
use Rattle.image_read.proofs.length_of.Goals as goal

pub returns : goal.returns
returns c = (omega (arith, length-bytes c.args.image.now c.args.kind c.requires.0 c.requires.1 c.requires.2), omega arith)
