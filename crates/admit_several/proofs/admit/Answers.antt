-- `admit_several::admit` meets its contract: the tests of the set, then those of the patterns' bytes and of k.
use Rattle.std.proofs.Common.{refl, sym, ◌∙◌, true, false, length, get_or, arith}
use Rattle.std.proofs.lemmas.Result.{err_from_is_err_and}
use borrow.Author.Tests.{le-leb, lt-leb}
use Rattle.jumbled.specs.Match.{lost_hour}
use Rattle.jumbled.proofs.Counts.{occurs-some, occurs-none}
use Rattle.answers.proofs.Refused.{still-refused}
use Rattle.admit_several.proofs.Taken.{set-taken, several-pattern-number, rest-number}
use Rattle.admit_several.proofs.admit.Goals as goal

pub returns-in_err-admit_set : goal.returns-in_err-admit_set
returns-in_err-admit_set c =
    let args = c.args in
    let refused = err_from_is_err_and c.from_residual.result c.from_residual.ensures.1 in
    rw (refused.1, refused.2) (still-refused _ _ _ c.in_err-admit_set.ensures ∙ sym (several-pattern-number args.lengths.now args.patterns.now args.k))

pub returns-then-lost_hours-gt0 : goal.returns-then-lost_hours-gt0
returns-then-lost_hours-gt0 c =
    let args = c.args in
    rest-number args.lengths.now args.patterns.now args.k (sym c.in_ok-admit_set.ensures) true _
    (occurs-some args.patterns.now lost_hour (omega (arith, c.lost_hours.ensures, c.if-lost_hours-gt0.true))) refl

pub bounds-lengths-0 : goal.bounds-lengths-0
bounds-lengths-0 c = (set-taken c.args.lengths.now (length c.args.patterns.now) (sym c.in_ok-admit_set.ensures)).some_pattern

pub returns-then-lengths-k : goal.returns-then-lengths-k
returns-then-lengths-k c =
    let args = c.args in
    rest-number args.lengths.now args.patterns.now args.k (sym c.in_ok-admit_set.ensures) false true
    (occurs-none args.patterns.now lost_hour (omega (arith, c.lost_hours.ensures, c.if-lost_hours-gt0.false)))
    (le-leb (get_or args.lengths.now 0 0) args.k c.if-lengths-k.true)

pub returns : goal.returns
returns c =
    let args = c.args in
    rest-number args.lengths.now args.patterns.now args.k (sym c.in_ok-admit_set.ensures) false false
    (occurs-none args.patterns.now lost_hour (omega (arith, c.lost_hours.ensures, c.if-lost_hours-gt0.false)))
    (lt-leb (get_or args.lengths.now 0 0) args.k c.if-lengths-k.false)
