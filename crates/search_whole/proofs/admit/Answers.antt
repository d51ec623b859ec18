-- `search_whole::admit` meets its contract: the tests of the pattern, and then those of the text.
use Rattle.std.proofs.Common.{◌≡◌, sym, ◌∙◌}
use Rattle.std.proofs.lemmas.Result.{err_from_is_err_and}
use Rattle.jumbled.specs.Refusals.{given, whole_tests}
use Rattle.admit_chunk.proofs.Documented.{document-limits}
use Rattle.admit_chunk.specs.Limits.{limit_tests}
use Rattle.search_whole.proofs.Wholes.{number-early, number-late}
use Rattle.search_whole.proofs.admit.Goals as goal

pub returns-in_err-admitted : goal.returns-in_err-admitted
returns-in_err-admitted c =
    let args = c.args in
    let refused = err_from_is_err_and c.from_residual.result c.from_residual.ensures.1 in
    rw (refused.1, refused.2) (record { number = number-early args.pattern.now args.k args.method args.bytes args.places _ c.in_err-admitted.ensures.number; taken = tt })

pub returns-in_err-limits : goal.returns-in_err-limits
returns-in_err-limits c =
    let args = c.args in
    let late : given (limit_tests 65536 0 args.bytes args.places) ≡ given (whole_tests args.pattern.now args.k args.method args.bytes args.places) = document-limits 0 args.bytes args.places
    ∙ sym (number-late args.pattern.now args.k args.method args.bytes args.places (sym c.in_ok-admitted.ensures.number)) in
    let refused = err_from_is_err_and c.from_residual-in_err-limits.result c.from_residual-in_err-limits.ensures.1 in
    rw (refused.1, refused.2) (record { number = c.in_err-limits.ensures ∙ late; taken = tt })

pub returns : goal.returns
returns c =
    let args = c.args in
    let late : given (limit_tests 65536 0 args.bytes args.places) ≡ given (whole_tests args.pattern.now args.k args.method args.bytes args.places) = document-limits 0 args.bytes args.places
    ∙ sym (number-late args.pattern.now args.k args.method args.bytes args.places (sym c.in_ok-admitted.ensures.number)) in
    record { number = c.in_ok-limits.ensures ∙ late; taken = c.in_ok-admitted.ensures.taken }
