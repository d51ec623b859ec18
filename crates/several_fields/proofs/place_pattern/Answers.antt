-- `several_fields::place_pattern` meets its contract.
use Rattle.std.proofs.Common.{◌<◌, get_or}
use Rattle.several_fields.proofs.Placing.{added_none, added_more, added-fits}
use Rattle.several_fields.proofs.place_pattern.Goals as goal

pub loop-byte-preserved : goal.loop-byte-preserved
loop-byte-preserved c =
    let i = c.loop-byte.byte-index in
    let is_byte : get_or c.args.pattern.now i 0 < 256 = (c.type_inv.pattern i).fits in
    rw c.loop-byte.invariant (added_more c.args.pattern.now c.args.unit c.args.rooms.now i c.loop-byte-test.true is_byte)

pub loop-byte-init : goal.loop-byte-init
loop-byte-init c = added_none c.args.unit c.args.rooms.now c.requires.words

pub overflow_add-rooms : goal.overflow_add-rooms
overflow_add-rooms c =
    let i = c.loop-byte.byte-index in
    let is_byte : get_or c.args.pattern.now i 0 < 256 = (c.type_inv.pattern i).fits in
    record { fits = rw c.loop-byte.invariant (added-fits c.args.pattern.now c.args.unit c.args.rooms.now i c.loop-byte-test.true is_byte c.requires) }
