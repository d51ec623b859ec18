-- `search::Search::open` meets its contract.
use Rattle.search.proofs.Handed.{fresh}
use Rattle.search.proofs.Search.open.Goals as goal

pub returns : goal.returns
returns c = let back = c.of.ensures _ _ (fresh c.args.pattern.now c.args.k c.args.method c.with_parts-fresh.ensures) in record { number = back.number; search = back.search }
