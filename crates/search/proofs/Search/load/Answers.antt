-- `search::Search::load` meets its contract.
use Rattle.search.proofs.Search.load.Goals as goal

pub returns : goal.returns
returns c = let back = c.of.ensures _ _ c.read.ensures in record { number = back.number; search = back.search }
