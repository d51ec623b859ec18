-- `Writer::put` meets its contract: a byte alone was written.
use mathlib.Core.Path.{refl}
use native.Mathlib.Omega.{arith}
use Rattle.lent.proofs.Writing.{written_byte}
use Rattle.lent.proofs.writer.Writer.put.Goals as goal

pub returns : goal.returns
returns c = record {
  room = c.requires;
  same_reference = refl;
  written = written_byte c.args.self.now.buffer.now c.args.self.now.at c.args.byte (omega arith);
}
