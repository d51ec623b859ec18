-- `table_packed::place_own_tops` meets its contract. The loop's invariant: the fields of the bytes before the one at hand are placed.
use mathlib.Core.Path.{◌≡◌, refl}
use mathlib.Core.List.{List}
use Prim.Native.Nat.{ℕ, ◌+◌, ◌<◌, min}
use native.Mathlib.Omega.{arith}
use lib.ListN.{get_or, set}
use Rattle.table_widths.specs.Layouts.{layout}
use Rattle.table_widths.specs.declared.PatternFields.{PatternFields}
use Rattle.table_packed.specs.Word.{FieldPlaced, top_of, Placeable}
use Rattle.table_packed.specs.declared.Field.{Field}
use Rattle.table_packed.proofs.Words.{Tabled, few, own_room, own_is, at_here, tabled-begin, tabled-fits, tabled-has, tabled-lacks, tabled-end}
use Rattle.table_packed.proofs.place_own_tops.Goals as goal
use Rattle.table_packed.proofs.place_own_tops.Goals.{then-count-gt0, else-count-gt0}

-- the field of a byte that the pattern has is placed
placed : (fields : PatternFields) (ready : Placeable fields) (byte : ℕ) {at : ℕ} {tops : List ℕ}
    → byte < fields.span.past → 0 < get_or fields.counts.now byte 0
    → Tabled fields.pattern.now (layout fields) (top_of fields.pattern.now (layout fields)) tops at (min byte 256)
    → (width : ℕ) → width ≡ (layout fields).own (get_or fields.counts.now byte 0) → (r : Field) → FieldPlaced (get_or fields.counts.now byte 0) width at r
    → Tabled fields.pattern.now (layout fields) (top_of fields.pattern.now (layout fields)) (set tops byte r.top) (at + width) (min (byte + 1) 256)
placed fields ready byte {at = at} inside has tabled width width_is r is =
    let field = own_is fields ready byte inside has width at width_is (at_here fields ready _ byte inside tabled) r is in
    tabled-has fields ready _ byte inside tabled width r.top has width_is field.top

pub loop-byte-init : goal.loop-byte-init
loop-byte-init c =
    let fields = c.args.fields.now in
    let ready = c.requires.0 in
    rw c.requires.1 (tabled-begin fields ready (top_of fields.pattern.now (layout fields)) _ refl)

pub own_width-width-requires : goal.own_width-width-requires
own_width-width-requires c =
    let fields = c.args.fields.now in
    let ready = c.requires.0 in
    few fields ready c.loop-byte.byte c.loop-byte-test.true

pub field_at-field-requires : goal.field_at-field-requires
field_at-field-requires c =
    let fields = c.args.fields.now in
    let ready = c.requires.0 in
    let at = c.loop-byte in
    let inside = c.loop-byte-test.true in
    own_room fields ready at.byte inside c.if-count-gt0.true c.own_width-width.result at.at c.own_width-width.ensures (at_here fields ready _ at.byte inside at.invariant)

pub overflow_add-at : goal.overflow_add-at
overflow_add-at c =
    let fields = c.args.fields.now in
    let ready = c.requires.0 in
    let all = placed fields ready c.loop-byte.byte c.loop-byte-test.true c.if-count-gt0.true c.loop-byte.invariant c.own_width-width.result c.own_width-width.ensures c.field_at-field.result c.field_at-field.ensures in
    omega (arith, tabled-fits fields ready _ (c.loop-byte.byte + 1) all)

pub loop-byte-preserved : goal.loop-byte-preserved
loop-byte-preserved c =
    let fields = c.args.fields.now in
    let ready = c.requires.0 in
    let at = c.loop-byte in
    let inside = c.loop-byte-test.true in
    elim c.if-count-gt0.branch [
      | then-count-gt0 w ↦
          rw (w.own_tops-is, w.at-is)
          (placed fields ready at.byte inside w.if-count-gt0.true at.invariant w.own_width-width.result w.own_width-width.ensures w.field_at-field.result w.field_at-field.ensures)
      | else-count-gt0 w ↦ rw (w.own_tops-is, w.at-is) (tabled-lacks fields ready _ at.byte inside at.invariant w.if-count-gt0.false)
    ]

pub returns : goal.returns
returns c =
    let fields = c.args.fields.now in
    let ready = c.requires.0 in
    let at = c.loop-byte in tabled-end fields ready _ at.own_tops at.at at.byte c.loop-byte-test.false at.invariant
