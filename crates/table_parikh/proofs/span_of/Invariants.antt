use Rattle.std.proofs.Common.{take}
use Rattle.table_parikh.specs.Letters.{Spanned}
use Rattle.table_parikh.proofs.span_of.Given as goal

abbrev pub invariant-loop-byte : goal.invariant-loop-byte
invariant-loop-byte l = Spanned (take l.byte-index l.pattern) (record { low = l.low; past = l.past })
