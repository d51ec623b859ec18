use Rattle.std.proofs.Common.{◌≡◌, take}
use Rattle.table_parikh.specs.Table.{parikh}
use Rattle.table_parikh.proofs.Excess.{Passed}
use Rattle.table_parikh.proofs.within.Given as goal

abbrev pub invariant-loop-byte : goal.invariant-loop-byte
invariant-loop-byte l = Passed l.allowed l.window l.byte-index × (l.used ≡ parikh (take l.byte-index l.window))
