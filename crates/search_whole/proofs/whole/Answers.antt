-- `search_whole::whole` meets its contract: the tests, and then the search.
use Rattle.std.proofs.Common.{sym}
use Rattle.std.proofs.lemmas.Result.{err_from_is_err_and}
use Rattle.search_whole.specs.Whole.{whole_number}
use Rattle.search_whole.proofs.Wholes.{whole-refusal, whole-listed}
use Rattle.search_whole.proofs.whole.Goals as goal

pub returns-in_err-admitted : goal.returns-in_err-admitted
unfolding whole_number
returns-in_err-admitted c =
    let args = c.args in
    let refused = err_from_is_err_and c.from_residual.result c.from_residual.ensures.1 in
    rw (refused.1, refused.2) (whole-refusal args.pattern.now args.k args.method args.text.now args.list.now _ c.in_err-admitted.ensures.number)

pub search_accepted-requires : goal.search_accepted-requires
unfolding whole_number
search_accepted-requires c =
    let along = c.in_ok-admitted.ensures.taken in
    record { counted = along.counted; accepted = rw along.named (sym c.in_ok-admitted.ensures.number) }

pub returns : goal.returns
unfolding whole_number
returns c =
    let args = c.args in
    whole-listed args.pattern.now args.k args.method args.text.now args.list.now (sym c.in_ok-admitted.ensures.number)
    (rw c.in_ok-admitted.ensures.taken.named at c.search_accepted.ensures)
