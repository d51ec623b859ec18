-- `table_widths::lg` meets its contract. The test of its table is the `refl`: the checker computes lg(0) to lg(64) by the formula and compares
-- them with the table of the code, which is in the goal. What is read is at most 6, by the rule. Assumes nothing.
use mathlib.Core.Path.{refl}
use native.Mathlib.Omega.{arith}
use Rattle.jumbled.specs.Fields.{first, lg}
use Rattle.table_parikh.specs.Table.{tabulate}
use Rattle.table_parikh.proofs.Tables.{tabulated}
use Rattle.table_widths.proofs.lg.Goals as goal

pub returns : goal.returns
unfolding first lg tabulate
returns c = tabulated 65 lg refl c.args.v (omega arith)
