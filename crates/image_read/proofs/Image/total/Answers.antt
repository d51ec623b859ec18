-- `image_read::Image::total` meets its contract: the body of kind 3 has four bytes.
use Rattle.std.proofs.Common.{◌≡◌, length, ap, ◌∙◌, arith}
use Rattle.image_form.specs.Decode.{from_low_first}
use Rattle.image_form.proofs.Numbers.{number-four}
use Rattle.image_form.proofs.Contents.{four_bytes}
use Rattle.image_read.proofs.Image.total.Goals as goal

pub returns : goal.returns
returns c =
    let body = c.body_of-bytes in
    let four : length body.result.now ≡ 4 = four_bytes c.args.self.bytes.now c.args.self.taken body.ensures in
    let read : c.from_le_bytes.result ≡ from_low_first body.result.now = omega (arith, number-four body.result.now four) in
    read ∙ ap from_low_first body.ensures
