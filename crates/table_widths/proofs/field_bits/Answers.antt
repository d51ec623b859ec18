-- `table_widths::field_bits` meets its contract.
use Rattle.std.proofs.Common.{sym}
use Rattle.table_widths.proofs.Widths.{unknown_bits}
use Rattle.table_widths.proofs.field_bits.Goals as goal

pub returns-in-Ok : goal.returns-in-Ok
returns-in-Ok c = rw (← c.in-Ok.ensures) c.method_bits.ensures

pub returns-in-Err : goal.returns-in-Err
returns-in-Err c = sym (unknown_bits c.args.pattern.now c.args.k c.args.method c.in-Err.ensures)
