-- `search::Search::set_method` meets its contract.
use Rattle.search.proofs.Search.set_method.Goals as goal

pub returns : goal.returns
returns c = let back = c.of.ensures _ _ c.with_method.ensures in record { number = back.number; search = back.search }
