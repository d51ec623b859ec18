use lib.ListN.{take}
use Rattle.loop_count.specs.Counting.{Counting}
use Rattle.loop_count.proofs.CountForward.start.Given as goal

-- the state is that of the bytes passed
abbrev pub invariant-loop-byte : goal.invariant-loop-byte
invariant-loop-byte l = Counting l.self.pattern.now (take l.byte-index l.taken) l.counts l.excess
