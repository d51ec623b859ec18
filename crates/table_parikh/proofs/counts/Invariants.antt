use Rattle.std.proofs.Common.{◌≡◌, take}
use Rattle.table_parikh.specs.Table.{parikh}
use Rattle.table_parikh.proofs.counts.Given as goal

abbrev pub invariant-loop-byte : goal.invariant-loop-byte
invariant-loop-byte l = l.counts ≡ parikh (take l.byte-index l.s)
