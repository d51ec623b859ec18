-- `search::Search::with_parts` meets its contract.
use Rattle.std.proofs.Common.{length, refl, sym, arith}
use Rattle.std.proofs.lemmas.Result.{err_from_is_err_and}
use lib.Dec.{lit<}
use Rattle.jumbled.proofs.Admission.{admitted, search-taken}
use Rattle.search.specs.Calls.{parts_tests}
use Rattle.search.proofs.Search.with_parts.Goals as goal

pub returns-in_err-admit_parts : goal.returns-in_err-admit_parts
unfolding parts_tests
returns-in_err-admit_parts c =
    let refused = err_from_is_err_and c.from_residual.result c.from_residual.ensures.1 in
    rw (refused.1, refused.2) (record { given = c.in_err-admit_parts.ensures.number; made = tt })

pub stored-requires : goal.stored-requires
stored-requires c =
    let args = c.args in
    let none = search-taken args.pattern.now args.k args.method args.total (length args.tail.now) (sym c.in_ok-admit_parts.ensures.number) in
    (lit< tt, (admitted args.pattern.now args.k args.method none.0).short)

pub stored-requires-2 : goal.stored-requires-2
stored-requires-2 c =
    let args = c.args in
    let none = search-taken args.pattern.now args.k args.method args.total (length args.tail.now) (sym c.in_ok-admit_parts.ensures.number) in
    let short = (admitted args.pattern.now args.k args.method none.0).short in (lit< tt, omega (arith, none.1))

pub returns : goal.returns
unfolding parts_tests
returns c = record { given = c.in_ok-admit_parts.ensures.number; made = rw (c.stored.ensures, c.stored-2.ensures) refl }
