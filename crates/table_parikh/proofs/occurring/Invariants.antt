use Rattle.std.proofs.Common.{take}
use Rattle.table_parikh.specs.Letters.{Occurring}
use Rattle.table_parikh.proofs.occurring.Given as goal

abbrev pub invariant-loop-byte : goal.invariant-loop-byte
invariant-loop-byte l = Occurring (take l.byte-index l.pattern) l.occurs
