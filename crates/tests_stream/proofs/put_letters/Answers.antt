-- `tests_stream::put_letters` meets its contract.
use borrow.Author.Rules.{rules}
use mathlib.Core.Path.{refl, ap, ◌∙◌}
use Prim.Native.Nat.{ℕ, ◌%◌, ◌^◌, ◌<◌}
use native.Mathlib.Numerals.{add-one}
use native.Mathlib.Omega.{arith}
use lib.ListN.{length, get_or}
use Rattle.tests_stream.specs.Fillings.{drawn, letter_index}
use Rattle.tests_stream.proofs.Filling.{filling-none, filling-part, filled-front, filled-empty, made_none, made_all, drawn-small, drawn-more}
use Rattle.tests_stream.proofs.put_letters.Goals as goal

pub returns-then-is_empty-clause-value : goal.returns-then-is_empty-clause-value
returns-then-is_empty-clause-value c = made_none _ _ (search rules)

pub returns-then-is_empty-clause-filled : goal.returns-then-is_empty-clause-filled
returns-then-is_empty-clause-filled c = filled-empty _ _

pub loop-i-init : goal.loop-i-init
unfolding drawn
loop-i-init c = (refl, filling-none _ _ _)

pub overflow_mul-x : goal.overflow_mul-x
overflow_mul-x c =
    let small : c.loop-i.x < 2 ^ 31 = rw c.loop-i.invariant.0 (drawn-small c.args.seed c.loop-i.i) in
    omega (arith, small)

pub overflow_add-x : goal.overflow_add-x
overflow_add-x c =
    let small : c.loop-i.x < 2 ^ 31 = rw c.loop-i.invariant.0 (drawn-small c.args.seed c.loop-i.i) in
    omega (arith, small)

pub loop-i-preserved : goal.loop-i-preserved
loop-i-preserved c =
    let letters = c.args.letters.now in
    let next = drawn-more c.args.seed c.loop-i.i c.loop-i.invariant.0 in
    let index =
    c.letter_index.ensures ∙ ap (λ (x : ℕ). letter_index c.args.picked x c.loop-i.i) next
    in (
      rw add-one next,
      filling-part _ _ c.loop-i.invariant.1 c.requires c.loop-i-test.true (ap (λ (r : ℕ). get_or letters (r % length letters) 0) index),
    )

pub returns-clause-value : goal.returns-clause-value
returns-clause-value c = made_all _ _ (search rules)

pub returns-clause-filled : goal.returns-clause-filled
returns-clause-filled c = filled-front _ _ c.loop-i.invariant.1 c.requires c.loop-i-test.false
