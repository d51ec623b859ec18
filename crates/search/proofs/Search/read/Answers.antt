-- `search::Search::read` meets its contract.
use Rattle.search.proofs.Images.{loaded-bad, loaded-good}
use Rattle.search.proofs.Search.read.Goals as goal

pub returns-in_default : goal.returns-in_default
returns-in_default c = loaded-bad c.args.bytes.now c.in_default.ensures

pub returns : goal.returns
returns c =
    let image = c.in-Some.ensures in
    loaded-good c.args.bytes.now image.0
    (rw (c.pattern.ensures, c.tolerance.ensures, c.method.ensures, c.total.ensures, c.tail.ensures, image.1) at c.with_parts.ensures)
