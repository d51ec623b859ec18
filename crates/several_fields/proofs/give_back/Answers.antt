-- `several_fields::give_back` meets its contract.
use Prim.Native.Nat.{◌<◌}
use Rattle.several_fields.proofs.Rooms.{give-fits, give-below, give-words}
use Rattle.several_fields.proofs.give_back.Goals as goal

pub returns : goal.returns
returns c ready =
    let is_byte : c.args.byte < 256 = c.ranges.byte.fits in
    give-words ready is_byte

pub overflow_add-room : goal.overflow_add-room
overflow_add-room c =
    let is_byte : c.args.byte < 256 = c.ranges.byte.fits in
    record { fits = give-fits c.requires is_byte }

pub overflow_sub-result : goal.overflow_sub-result
overflow_sub-result c =
    let is_byte : c.args.byte < 256 = c.ranges.byte.fits in
    give-below c.requires is_byte
