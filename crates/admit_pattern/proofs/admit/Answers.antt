-- `admit_pattern::admit` meets its contract: the method's number where the method is refused.
use Rattle.std.proofs.Common.{length, arith}
use Rattle.std.proofs.lemmas.Result.{err_from_is_err_and}
use borrow.Author.Tests.{ne_eqb, le-ltb, lt-leb}
use Rattle.jumbled.specs.Refusals.{given, length_tests, lost_tests, tolerance_tests, pattern_tests}
use Rattle.admit_pattern.proofs.Lost.{none_lost}
use Rattle.admit_pattern.proofs.admit.Goals as goal

pub returns-in_err-method : goal.returns-in_err-method
unfolding given pattern_tests length_tests lost_tests tolerance_tests
returns-in_err-method c =
    let P = c.args.pattern.now in
    let k = c.args.k in
    let refused = err_from_is_err_and c.from_residual.result c.from_residual.ensures.1 in
    rw (refused.1, refused.2)
    (record {
      number =
          rw (ne_eqb (length P) 0 (λ e. omega arith), le-ltb 64 (length P) (omega arith), none_lost P c.counts-counts.result c.counts-counts.ensures (omega arith), lt-leb (length P) k (omega arith))
          c.in_err-method.ensures.number;
      taken = tt;
    })
