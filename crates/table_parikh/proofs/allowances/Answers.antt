-- `table_parikh::allowances` meets its contract.
use Rattle.jumbled.specs.Match.{cc, lost_hour}
use Rattle.table_parikh.specs.Table.{parikh, allowances}
use Rattle.table_parikh.proofs.Tables.{tabulate-set}
use Rattle.table_parikh.proofs.allowances.Goals as goal

pub returns : goal.returns
unfolding parikh allowances
returns c P counted = rw counted (tabulate-set 256 (cc P) lost_hour 255)
