-- The proof of `program_lines::write_decimal`, which calls itself at n / 10. The measure is n.
use mathlib.Core.List.{[], ◌∷◌}
use native.Mathlib.Omega.{arith}
use Prim.Native.Nat.{◌+◌, ◌%◌}
use Rattle.ascii.proofs.Decimals.{decimal-small, decimal-large}
use Rattle.lent.proofs.Appending.{appended_then, room_first, room_then, room_shorter}
use Rattle.program_lines.proofs.Lines.{put_known}
use Rattle.program_lines.proofs.+write_decimal.Goals as goal
use Rattle.program_lines.proofs.+write_decimal.Goals.{then-n-ge10, else-n-ge10}

pub write_decimal-requires : goal.write_decimal-requires
write_decimal-requires t c =
    (omega arith, room_first ((48 + c.args.n % 10) ∷ []) (rw (decimal-large c.args.n c.if-n-ge10.true) at c.requires))

pub put-requires : goal.put-requires
put-requires t c =
    elim c.if-n-ge10.branch [
      | then-n-ge10 w ↦
          room_shorter {W = (48 + c.args.n % 10) ∷ []}
          (rw w.writer-is (room_then w.write_decimal.ensures (rw (decimal-large c.args.n w.if-n-ge10.true) at c.requires)))
          (omega arith)
      | else-n-ge10 w ↦
          room_shorter {W = (48 + c.args.n) ∷ []} (rw w.writer-is (rw (decimal-small c.args.n (omega arith)) at c.requires)) (omega arith)
    ]

-- the byte put is the last digit, whichever way it was computed
pub returns : goal.returns
returns t c =
    elim c.if-n-ge10.branch [
      | then-n-ge10 w ↦
          rw (decimal-large c.args.n w.if-n-ge10.true)
          (appended_then w.write_decimal.ensures (put_known (rw w.writer-is at c.put.ensures) (omega arith)))
      | else-n-ge10 w ↦
          rw (decimal-small c.args.n (omega arith))
          (put_known (rw w.writer-is at c.put.ensures) (omega arith))
    ]
