-- `several_pass::note` meets its contract. The loop's invariant: the fields before the one at hand are noted.
use Rattle.std.proofs.Common.{List, ℕ, ◌+◌, ◌<◌, length, arith}
use Rattle.jumbled.specs.Match.{select}
use Rattle.several_form.specs.Finds.{beside}
use Rattle.several_form.proofs.Separate.{length-beside}
use Rattle.several_pass.specs.Passing.{Noted, Notable, tops_set}
use Rattle.several_pass.proofs.Noting.{noted-none, noted-lengths, noted_one, few-set, set_more, set_same}
use Rattle.several_pass.proofs.note.Goals.{then-word-field-ne0, else-word-field-ne0}
use Rattle.several_pass.proofs.note.Goals as goal

-- there is a place for one find more in both lists
module _ (word : ℕ) {count s at field next : ℕ} {positions positions' numbers numbers' : List ℕ} (given : Notable count s positions numbers at)
    (left : field < count) (so_far : Noted (beside s (tops_set word field)) at positions positions' numbers numbers' next) where
  room : (at + length (beside s (tops_set word field)) < length positions) × (at + length (beside s (tops_set word field)) < length numbers)
  room =
      let few-noted = few-set word field in
      let as_many = length-beside s (tops_set word field) in
      (omega (arith, given.positions-room), omega (arith, given.numbers-room))

  places : (next < length positions') × (next < length numbers')
  places =
      let same = noted-lengths so_far (omega (arith, room.0)) (omega (arith, room.1)) in
      (omega (arith, room.0, same.0, so_far.next_place), omega (arith, room.1, same.1, so_far.next_place))

  place : (next < length positions) × (next < length numbers)
  place = (omega (arith, room.0, so_far.next_place), omega (arith, room.1, so_far.next_place))

pub loop-field-init : goal.loop-field-init
unfolding tops_set select beside
loop-field-init c = (omega arith, noted-none c.args.at c.args.positions.now c.args.numbers.now)

pub offset_bounds-positions-next : goal.offset_bounds-positions-next
offset_bounds-positions-next c = omega (arith, (place c.args.word c.requires c.loop-field-test.true c.loop-field.invariant.1).0)

pub bounds-positions-next : goal.bounds-positions-next
bounds-positions-next c = (places c.args.word c.requires c.loop-field-test.true c.loop-field.invariant.1).0

pub offset_bounds-numbers-next : goal.offset_bounds-numbers-next
offset_bounds-numbers-next c = omega (arith, (place c.args.word c.requires c.loop-field-test.true c.loop-field.invariant.1).1)

pub bounds-numbers-next : goal.bounds-numbers-next
bounds-numbers-next c = (places c.args.word c.requires c.loop-field-test.true c.loop-field.invariant.1).1

pub overflow_add-next : goal.overflow_add-next
overflow_add-next c = omega (arith, (place c.args.word c.requires c.loop-field-test.true c.loop-field.invariant.1).0)

pub loop-field-preserved : goal.loop-field-preserved
loop-field-preserved c =
    let args = c.args in
    let at = c.loop-field in
    let few : at.field < 8 = omega (arith, c.loop-field-test.true, c.requires.few) in
    let free = room args.word c.requires c.loop-field-test.true at.invariant.1 in (
      omega (arith, c.loop-field-test.true),
      elim c.if-word-field-ne0.branch [
        | then-word-field-ne0 w ↦
            rw (w.next-is, w.positions-is, w.numbers-is, set_more args.word at.field few args.s w.if-word-field-ne0.true)
            (noted_one at.invariant.1 (record { position = args.s; number = at.field + 1 }) free.0 free.1)
        | else-word-field-ne0 w ↦
            rw (w.next-is, w.positions-is, w.numbers-is, set_same args.word at.field few args.s w.if-word-field-ne0.false) at.invariant.1
      ],
    )
