-- `several_fields::take` meets its contract.
use Prim.Native.Nat.{◌<◌}
use Rattle.several_fields.proofs.Rooms.{take-room, take-fits, take_words}
use Rattle.several_fields.proofs.take.Goals as goal

pub returns : goal.returns
returns c ready =
    let is_byte : c.args.byte < 256 = c.ranges.byte.fits in
    take_words ready is_byte

pub overflow_sub-rooms : goal.overflow_sub-rooms
overflow_sub-rooms c =
    let is_byte : c.args.byte < 256 = c.ranges.byte.fits in
    take-room c.requires is_byte

pub overflow_add-result : goal.overflow_add-result
overflow_add-result c =
    let is_byte : c.args.byte < 256 = c.ranges.byte.fits in
    record { fits = take-fits c.requires is_byte }
