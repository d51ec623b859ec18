-- `table_packed::place_units` meets its contract. The loop's invariant: the fields of the bytes before the one at hand are placed.
use mathlib.Core.Path.{◌≡◌}
use mathlib.Core.List.{List}
use Prim.Native.Nat.{ℕ, ◌+◌, ◌<◌, min}
use native.Mathlib.Omega.{arith}
use lib.ListN.{get_or, set}
use Rattle.table_widths.specs.Layouts.{layout}
use Rattle.table_widths.specs.declared.PatternFields.{PatternFields}
use Rattle.table_packed.specs.Word.{FieldPlaced, unit_of, Placeable}
use Rattle.table_packed.specs.declared.Field.{Field}
use Rattle.table_packed.proofs.Words.{Tabled, Summed, few, own_room, own_is, at_here, tabled-begin, tabled-fits, tabled-has, tabled-lacks, summed-begin, summed-fits, summed-has, summed-lacks, packed-end}
use Rattle.table_packed.proofs.place_units.Goals as goal
use Rattle.table_packed.proofs.place_units.Goals.{then-count-gt0, else-count-gt0}

-- the field of a byte that the pattern has is placed, in the word and in the table
placed : (fields : PatternFields) (ready : Placeable fields) (byte : ℕ) {start tops at : ℕ} {units : List ℕ}
    → byte < fields.span.past → 0 < get_or fields.counts.now byte 0
    → (Summed fields.pattern.now (layout fields) start tops (min byte 256))
    × (Tabled fields.pattern.now (layout fields) (unit_of fields.pattern.now (layout fields)) units at (min byte 256))
    → (width : ℕ) → width ≡ (layout fields).own (get_or fields.counts.now byte 0) → (r : Field) → FieldPlaced (get_or fields.counts.now byte 0) width at r
    → (Summed fields.pattern.now (layout fields) (start + r.start) (tops + r.top) (min (byte + 1) 256))
    × (Tabled fields.pattern.now (layout fields) (unit_of fields.pattern.now (layout fields)) (set units byte r.unit) (at + width) (min (byte + 1) 256))
placed fields ready byte {at = at} inside has so_far width width_is r is =
    let field = own_is fields ready byte inside has width at width_is (at_here fields ready _ byte inside so_far.1) r is in
    (summed-has fields ready byte inside so_far.0 r field, tabled-has fields ready _ byte inside so_far.1 width r.unit has width_is field.unit)

pub loop-byte-init : goal.loop-byte-init
loop-byte-init c =
    let fields = c.args.fields.now in
    let ready = c.requires.0 in
    let shared = c.args.shared in
    let field = c.requires.1 in (
      summed-begin fields ready shared field,
      rw c.requires.2 (tabled-begin fields ready (unit_of fields.pattern.now (layout fields)) shared.unit field.unit),
    )

pub own_width-width-requires : goal.own_width-width-requires
own_width-width-requires c =
    let fields = c.args.fields.now in
    let ready = c.requires.0 in
    few fields ready c.loop-byte.byte c.loop-byte-test.true

pub field_at-field-requires : goal.field_at-field-requires
field_at-field-requires c =
    let fields = c.args.fields.now in
    let ready = c.requires.0 in
    let at = c.loop-byte in
    let inside = c.loop-byte-test.true in
    own_room fields ready at.byte inside c.if-count-gt0.true c.own_width-width.result at.at c.own_width-width.ensures (at_here fields ready _ at.byte inside at.invariant.1)

pub overflow_add-start : goal.overflow_add-start
overflow_add-start c =
    let fields = c.args.fields.now in
    let ready = c.requires.0 in
    let all = placed fields ready c.loop-byte.byte c.loop-byte-test.true c.if-count-gt0.true c.loop-byte.invariant c.own_width-width.result c.own_width-width.ensures c.field_at-field.result c.field_at-field.ensures in
    record { fits = (summed-fits fields ready (c.loop-byte.byte + 1) all.0).0 }

pub overflow_add-tops : goal.overflow_add-tops
overflow_add-tops c =
    let fields = c.args.fields.now in
    let ready = c.requires.0 in
    let all = placed fields ready c.loop-byte.byte c.loop-byte-test.true c.if-count-gt0.true c.loop-byte.invariant c.own_width-width.result c.own_width-width.ensures c.field_at-field.result c.field_at-field.ensures in
    record { fits = (summed-fits fields ready (c.loop-byte.byte + 1) all.0).1 }

pub overflow_add-at : goal.overflow_add-at
overflow_add-at c =
    let fields = c.args.fields.now in
    let ready = c.requires.0 in
    let all = placed fields ready c.loop-byte.byte c.loop-byte-test.true c.if-count-gt0.true c.loop-byte.invariant c.own_width-width.result c.own_width-width.ensures c.field_at-field.result c.field_at-field.ensures in
    omega (arith, tabled-fits fields ready _ (c.loop-byte.byte + 1) all.1)

pub loop-byte-preserved : goal.loop-byte-preserved
loop-byte-preserved c =
    let fields = c.args.fields.now in
    let ready = c.requires.0 in
    let at = c.loop-byte in
    let inside = c.loop-byte-test.true in
    elim c.if-count-gt0.branch [
      | then-count-gt0 w ↦
          rw (w.units-is, w.start-is, w.tops-is, w.at-is)
          (placed fields ready at.byte inside w.if-count-gt0.true at.invariant w.own_width-width.result w.own_width-width.ensures w.field_at-field.result w.field_at-field.ensures)
      | else-count-gt0 w ↦
          rw (w.units-is, w.start-is, w.tops-is, w.at-is)
          (summed-lacks fields ready at.byte inside at.invariant.0 w.if-count-gt0.false, tabled-lacks fields ready _ at.byte inside at.invariant.1 w.if-count-gt0.false)
    ]

pub returns : goal.returns
returns c =
    let fields = c.args.fields.now in
    let ready = c.requires.0 in
    let at = c.loop-byte in
    packed-end fields ready at.start at.tops at.byte at.units at.at c.loop-byte-test.false at.invariant.0 at.invariant.1
