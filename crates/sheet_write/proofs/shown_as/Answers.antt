-- `sheet_write::shown_as` meets its contract.
use Rattle.std.proofs.Common.{arith, ⊎_elim}
use Rattle.sheet_write.proofs.Columns.{shown-low, shown-high, shown-itself}
use Rattle.sheet_write.proofs.shown_as.Goals as goal

pub returns-then-reading-le126 : goal.returns-then-reading-le126
returns-then-reading-le126 c = shown-itself c.args.reading (omega arith) (omega arith)

pub returns-else-reading-ge33 : goal.returns-else-reading-ge33
returns-else-reading-ge33 c =
    ⊎_elim (λ high. shown-high c.args.reading high.1) (λ low. shown-low c.args.reading low) c.else-reading-ge33.either
