-- `table_packed::shared_field` meets its contract.
use Rattle.table_packed.proofs.Words.{shared-room, shared-is}
use Rattle.table_packed.proofs.shared_field.Goals as goal

pub returns : goal.returns
returns c =
    shared-is c.args.fields.now c.requires c.shared_width.result c.own_bits.result c.shared_width.ensures c.own_bits.ensures c.field_at.result
    c.field_at.ensures

pub field_at-requires : goal.field_at-requires
field_at-requires c =
    shared-room c.args.fields.now c.requires c.shared_width.result c.own_bits.result c.shared_width.ensures c.own_bits.ensures
