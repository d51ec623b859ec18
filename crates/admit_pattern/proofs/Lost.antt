-- The counter of lost hours says whether a pattern has one.
use Rattle.std.proofs.Common.{◌≡◌, ℕ, ◌≤◌, ◌<◌, true, false, List, get_or, arith}
use lib.Dec.{lit<}
use Rattle.jumbled.specs.Match.{cc, occurs, lost_hour}
use Rattle.jumbled.proofs.Counts.{occurs-some, occurs-none}
use Rattle.table_parikh.specs.Table.{parikh}
use Rattle.table_parikh.proofs.Parikh.{get_or-parikh}

module _ (P counts : List ℕ) (counted : counts ≡ parikh P) where
  lost_hours : get_or counts lost_hour 0 ≡ cc P lost_hour
  lost_hours = rw counted (get_or-parikh P lost_hour (lit< tt))

  pub lost_counted : 0 < get_or counts lost_hour 0 → occurs P lost_hour ≡ true
  lost_counted some = occurs-some P lost_hour (omega (arith, lost_hours))

  pub none_lost : get_or counts lost_hour 0 ≤ 0 → occurs P lost_hour ≡ false
  none_lost none = occurs-none P lost_hour (omega (arith, lost_hours))
