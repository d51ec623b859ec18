use Rattle.std.proofs.Common.{◌≡◌, take}
use Rattle.table_heap.specs.Table.{table_sum}
use Rattle.table_heap.proofs.sum_of.Given as goal

abbrev pub invariant-loop-byte : goal.invariant-loop-byte
invariant-loop-byte l = l.sum ≡ table_sum l.values (take l.byte-index l.bytes)
