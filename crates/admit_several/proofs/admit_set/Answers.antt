-- `admit_several::admit_set` meets its contract: a test a return.
use Rattle.std.proofs.Common.{◌≡◌, sym, ◌∙◌, not, false, eqb, get_or, arith}
use borrow.Author.Tests.{not-true, not-false}
use Rattle.jumbled.specs.Refusals.{any_of, bad_length}
use Rattle.admit_several.proofs.Setting.{length-wrong, no-pattern, many-patterns, product-small, unlike, other-bytes, all-bytes}
use Rattle.admit_several.proofs.admit_set.Goals as goal
use Rattle.admit_several.proofs.admit_set.Goals.{then-count-eq0-via-then-count-eq0, then-count-eq0-via-else-count-eq0+then-count-gt-MOST_PATTERNS, then-not-all_alike-via-then-not-all_alike, then-not-all_alike-via-else-not-all_alike+then-count-m}

pub returns-then-not-lengths_right : goal.returns-then-not-lengths_right
returns-then-not-lengths_right c = length-wrong _ _ (not-false (any_of bad_length c.args.lengths.now) (sym c.lengths_right.ensures ∙ c.if-not-lengths_right.true))

pub returns-then-count-eq0 : goal.returns-then-count-eq0
returns-then-count-eq0 c =
    let right : any_of bad_length c.args.lengths.now ≡ false = not-true _ (sym c.lengths_right.ensures ∙ c.if-not-lengths_right.false) in
    elim c.then-count-eq0.branch [
      | then-count-eq0-via-then-count-eq0 w ↦ no-pattern _ _ right w.if-count-eq0.true
      | then-count-eq0-via-else-count-eq0+then-count-gt-MOST_PATTERNS w ↦ many-patterns _ _ right w.if-count-eq0.false w.if-count-gt-MOST_PATTERNS.true
    ]

pub overflow_mul-count : goal.overflow_mul-count
overflow_mul-count c =
    let right : any_of bad_length c.args.lengths.now ≡ false = not-true _ (sym c.lengths_right.ensures ∙ c.if-not-lengths_right.false) in
    let small = product-small c.args.lengths.now 0 right c.if-count-eq0.false c.if-count-gt-MOST_PATTERNS.false in
    omega arith

pub returns-then-not-all_alike : goal.returns-then-not-all_alike
returns-then-not-all_alike c =
    let right : any_of bad_length c.args.lengths.now ≡ false = not-true _ (sym c.lengths_right.ensures ∙ c.if-not-lengths_right.false) in
    let m = get_or c.args.lengths.now 0 0 in
    elim c.then-not-all_alike.branch [
      | then-not-all_alike-via-then-not-all_alike w ↦
          unlike _ _ right c.if-count-eq0.false c.if-count-gt-MOST_PATTERNS.false
          (not-false (any_of (λ x. not (eqb x m)) c.args.lengths.now) (sym c.all_alike.ensures ∙ w.if-not-all_alike.true))
      | then-not-all_alike-via-else-not-all_alike+then-count-m w ↦
          other-bytes _ _ right c.if-count-eq0.false c.if-count-gt-MOST_PATTERNS.false (not-true _ (sym c.all_alike.ensures ∙ w.if-not-all_alike.false)) w.if-count-m.true
    ]

pub returns : goal.returns
returns c =
    let right : any_of bad_length c.args.lengths.now ≡ false = not-true _ (sym c.lengths_right.ensures ∙ c.if-not-lengths_right.false) in
    all-bytes _ _ right c.if-count-eq0.false c.if-count-gt-MOST_PATTERNS.false (not-true _ (sym c.all_alike.ensures ∙ c.if-not-all_alike.false)) c.if-count-m.false
