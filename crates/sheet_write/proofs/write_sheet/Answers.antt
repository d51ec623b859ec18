-- `sheet_write::write_sheet` meets its contract. The loop's invariant: the pages passed were appended, with what parts them.
use mathlib.Core.Path.{◌≡◌}
use Prim.Native.Nat.{◌-◌, ◌*◌}
use native.Mathlib.Numerals.{add-one}
use native.Mathlib.Omega.{arith}
use lib.ListN.{length, take, drop}
use Rattle.std.proofs.Common.{rules}
use Rattle.lent.proofs.Appending.{appended_none, appended_then, appended_to, room_from, room_first, room_then}
use Rattle.sheet_form.specs.Sheet.{on_page, page, page_count, first_pages, joined, sheet}
use Rattle.sheet_form.proofs.Lengths.{standing-more}
use Rattle.sheet_write.proofs.Pages.{page-part, page-inside, page-room}
use Rattle.sheet_write.proofs.write_sheet.Goals as goal

pub loop-page-init : goal.loop-page-init
unfolding first_pages joined
loop-page-init c = appended_none c.new-writer.result (omega (arith, c.new-writer.ensures.place))

pub write_break-requires : goal.write_break-requires
write_break-requires c =
    let args = c.args in
    let i = c.loop-page.page in
    let room = page-room args.m args.text.now args.listed.now i (omega (arith, c.page_count-pages.ensures)) c.requires.room in
    room_first (page args.m args.text.now args.listed.now i)
    (room_then c.loop-page.invariant (room_from c.new-writer.ensures.bytes c.new-writer.ensures.place room))

pub write_page-requires : goal.write_page-requires
unfolding page
write_page-requires c =
    let args = c.args in
    let i = c.loop-page.page in
    let listed = args.listed.now in
    let room = page-room args.m args.text.now listed i (omega (arith, c.page_count-pages.ensures)) c.requires.room in
    let part : take (c.min-end.result - 50 * i) (drop (50 * i) listed) ≡ on_page listed i = rw c.min-end.ensures (page-part listed i) in
    rw part
    (record {
      windows = page-inside c.requires.windows i;
      room = room_then c.write_break.ensures
          (room_then c.loop-page.invariant (room_from c.new-writer.ensures.bytes c.new-writer.ensures.place room));
    })

pub loop-page-preserved : goal.loop-page-preserved
unfolding page
loop-page-preserved c =
    let i = c.loop-page.page in
    let listed = c.args.listed.now in
    let part : take (c.min-end.result - 50 * i) (drop (50 * i) listed) ≡ on_page listed i = rw c.min-end.ensures (page-part listed i) in
    rw (add-one i, standing-more c.args.m c.args.text.now listed i)
    (appended_then c.loop-page.invariant (appended_then c.write_break.ensures (rw part at c.write_page.ensures)))

pub returns : goal.returns
unfolding sheet
returns c =
    let all : c.loop-page.page ≡ page_count (length c.args.listed.now) = omega (arith, c.page_count-pages.ensures) in
    appended_to (rw all at c.loop-page.invariant) c.new-writer.ensures.bytes c.new-writer.ensures.place (search rules)
