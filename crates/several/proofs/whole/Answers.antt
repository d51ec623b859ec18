-- `several::whole` meets its contract: the tests, the words of the patterns, and then the pass.
use Rattle.std.proofs.Common.{sym, ap, ◌∙◌, length, replicate, arith}
use Rattle.std.proofs.lemmas.Result.{err_from_is_err_and}
use Rattle.admit_several.proofs.Documented.{document-several-limits}
use Rattle.admit_several.proofs.Taken.{several-taken, pair-taken}
use Rattle.several.proofs.Answers.{several-refusal-early, several-late, several-refusal, several-found}
use Rattle.several.proofs.Words.{ones_below, unplaced, passable}
use Rattle.several.proofs.whole.Goals as goal

pub returns-in_err-admit : goal.returns-in_err-admit
returns-in_err-admit c =
    let args = c.args in
    let refused = err_from_is_err_and c.from_residual.result c.from_residual.ensures.1 in
    rw (refused.1, refused.2)
    (several-refusal-early args.patterns.now args.lengths.now args.k args.text.now args.positions.now args.numbers.now _ c.in_err-admit.ensures)

pub bounds-lengths-0 : goal.bounds-lengths-0
bounds-lengths-0 c = (several-taken c.args.lengths.now c.args.patterns.now c.args.k (sym c.in_ok-admit.ensures)).set.some_pattern

pub limits-requires : goal.limits-requires
limits-requires c = (omega arith, (several-taken c.args.lengths.now c.args.patterns.now c.args.k (sym c.in_ok-admit.ensures)).set.few)

pub returns-in_err-limits : goal.returns-in_err-limits
returns-in_err-limits c =
    let args = c.args in
    let refused = err_from_is_err_and c.from_residual-in_err-limits.result c.from_residual-in_err-limits.ensures.1 in
    rw (refused.1, refused.2)
    (several-refusal args.patterns.now args.lengths.now args.k args.text.now args.positions.now args.numbers.now _
    (c.in_err-limits.ensures
    ∙ document-several-limits (length args.text.now) (length args.lengths.now) (length args.positions.now) (length args.numbers.now)
    ∙ sym (several-late args.patterns.now args.lengths.now args.k args.text.now args.positions.now args.numbers.now (sym c.in_ok-admit.ensures))))

pub overflow_sub-m : goal.overflow_sub-m
overflow_sub-m c =
    let right = several-taken c.args.lengths.now c.args.patterns.now c.args.k (sym c.in_ok-admit.ensures) in
    omega (arith, right.within)

pub fields_for-fields-requires : goal.fields_for-fields-requires
fields_for-fields-requires c =
    let right = several-taken c.args.lengths.now c.args.patterns.now c.args.k (sym c.in_ok-admit.ensures) in
    (right.set.few, omega (arith, right.set.short))

pub overflow_sub-rooms : goal.overflow_sub-rooms
overflow_sub-rooms c = ones_below c.fields_for-fields.ensures

pub place_patterns-requires : goal.place_patterns-requires
place_patterns-requires c =
    let set = (several-taken c.args.lengths.now c.args.patterns.now c.args.k (sym c.in_ok-admit.ensures)).set in
    record {
      waiting = _;
      fields-are = c.fields_for-fields.ensures;
      few = set.few;
      short = set.short;
      enough = omega (arith, set.all);
      lent = ap (replicate 256) (unplaced c.fields_for-fields.ensures);
    }

pub pass-requires : goal.pass-requires
pass-requires c =
    let args = c.args in
    let fits = sym (c.in_ok-limits.ensures ∙ document-several-limits (length args.text.now) (length args.lengths.now) (length args.positions.now) (length args.numbers.now)) in
    passable args.patterns.now args.lengths.now args.k args.text.now args.positions.now args.numbers.now
    (several-taken args.lengths.now args.patterns.now args.k (sym c.in_ok-admit.ensures))
    (pair-taken (length args.text.now) (length args.lengths.now) (length args.positions.now) (length args.numbers.now) fits)
    c.fields_for-fields.ensures c.place_patterns.ensures

pub returns : goal.returns
returns c =
    let args = c.args in
    let fits = sym (c.in_ok-limits.ensures ∙ document-several-limits (length args.text.now) (length args.lengths.now) (length args.positions.now) (length args.numbers.now)) in
    let right = several-taken args.lengths.now args.patterns.now args.k (sym c.in_ok-admit.ensures) in
    several-found args.patterns.now args.lengths.now args.k args.text.now args.positions.now args.numbers.now
    (record { below = λ i. (c.type_inv.text i).fits }) right
    (several-late args.patterns.now args.lengths.now args.k args.text.now args.positions.now args.numbers.now (sym c.in_ok-admit.ensures) ∙ fits)
    (c.pass.ensures
    (passable args.patterns.now args.lengths.now args.k args.text.now args.positions.now args.numbers.now right
    (pair-taken (length args.text.now) (length args.lengths.now) (length args.positions.now) (length args.numbers.now) fits)
    c.fields_for-fields.ensures c.place_patterns.ensures)).0
