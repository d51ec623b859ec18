-- `sheet_write::write_break` meets its contract: nothing was written before page 0.
use mathlib.Core.Path.{◌≡◌}
use native.Mathlib.Omega.{arith}
use Rattle.lent.proofs.Appending.{appended_none}
use Rattle.sheet_write.proofs.write_break.Goals as goal

pub returns-else-page-ne0 : goal.returns-else-page-ne0
returns-else-page-ne0 c =
    let first : c.args.page ≡ 0 = omega arith in
    rw first (appended_none c.args.writer.now (omega arith))
