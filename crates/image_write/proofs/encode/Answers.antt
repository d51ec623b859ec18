-- `image_write::encode` meets its contract: the contents and the bodies, each written after the other.
use mathlib.Core.Path.{◌∙◌}
use Rattle.std.proofs.Common.{rules}
use Rattle.image_form.specs.Image.{parts_with, image}
use Rattle.lent.proofs.Appending.{room_then, appended_then, appended_to}
use Rattle.image_write.proofs.Writing.{four-bytes, room-tail, room-number, room-settings, room-pattern, room-head}
use Rattle.image_write.proofs.encode.Goals as goal

pub copy-requires : goal.copy-requires
copy-requires c =
    rw c.contents_of.ensures (room-head (parts_with c.args.pattern.now c.args.k c.args.method c.args.total c.args.tail.now) c.new-writer.ensures.bytes c.new-writer.ensures.place c.requires.room)

pub copy-requires-2 : goal.copy-requires-2
copy-requires-2 c =
    let head = rw c.contents_of.ensures at c.copy.ensures in
    room_then head (room-pattern (parts_with c.args.pattern.now c.args.k c.args.method c.args.total c.args.tail.now) c.new-writer.ensures.bytes c.new-writer.ensures.place c.requires.room)

pub copy-requires-3 : goal.copy-requires-3
copy-requires-3 c =
    let head = rw c.contents_of.ensures at c.copy.ensures in
    room_then (appended_then head c.copy-2.ensures) (room-settings (parts_with c.args.pattern.now c.args.k c.args.method c.args.total c.args.tail.now) c.new-writer.ensures.bytes c.new-writer.ensures.place c.requires.room)

pub copy-requires-4 : goal.copy-requires-4
copy-requires-4 c =
    let head = rw c.contents_of.ensures at c.copy.ensures in
    let number = c.to_le_bytes.ensures ∙ four-bytes c.args.total in
    rw number
    (room_then (appended_then (appended_then head c.copy-2.ensures) c.copy-3.ensures) (room-number (parts_with c.args.pattern.now c.args.k c.args.method c.args.total c.args.tail.now) c.new-writer.ensures.bytes c.new-writer.ensures.place c.requires.room))

pub copy-requires-5 : goal.copy-requires-5
copy-requires-5 c =
    let head = rw c.contents_of.ensures at c.copy.ensures in
    let number = rw (c.to_le_bytes.ensures ∙ four-bytes c.args.total) at c.copy-4.ensures in
    room_then (appended_then (appended_then (appended_then head c.copy-2.ensures) c.copy-3.ensures) number)
    (room-tail (parts_with c.args.pattern.now c.args.k c.args.method c.args.total c.args.tail.now) c.new-writer.ensures.bytes c.new-writer.ensures.place c.requires.room)

pub returns : goal.returns
unfolding image
returns c =
    let head = rw c.contents_of.ensures at c.copy.ensures in
    let number = rw (c.to_le_bytes.ensures ∙ four-bytes c.args.total) at c.copy-4.ensures in
    appended_to (appended_then (appended_then (appended_then (appended_then head c.copy-2.ensures) c.copy-3.ensures) number) c.copy-5.ensures)
    c.new-writer.ensures.bytes c.new-writer.ensures.place (search rules)
