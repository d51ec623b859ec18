-- `first::at_or_after` meets its contract: the tests, and then a search with one place.
use Rattle.std.proofs.Common.{◌≡◌, sym, ◌∙◌, List, ℕ, length, drop, ◌-◌, arith}
use Rattle.std.proofs.lemmas.Result.{err_from_is_err_and}
use native.Mathlib.Nat.{le_refl}
use lib.ListN.{length-take}
use Rattle.jumbled.specs.Refusals.{given, whole_tests}
use Rattle.jumbled.proofs.Admission.{admitted, method-given, whole-taken, first-as-whole}
use Rattle.first.specs.Call.{at_or_after_number}
use Rattle.first.proofs.Firsts.{first-refusal, held, answer-nothing, answer-found}
use Rattle.first.proofs.at_or_after.Goals as goal

-- the tests of a whole search with as many places as bytes are those of this one
as_whole : (P : List ℕ) (k method : ℕ) (T : List ℕ)
    → given (whole_tests P k method (length T) (length T)) ≡ at_or_after_number P k method T
unfolding at_or_after_number
as_whole P k method T = first-as-whole P k method (length T) (length T) (le_refl _)

pub returns-in_err-admitted : goal.returns-in_err-admitted
returns-in_err-admitted c =
    let args = c.args in
    let refused = err_from_is_err_and c.from_residual.result c.from_residual.ensures.1 in
    rw (refused.1, refused.2)
    (first-refusal args.pattern.now args.k args.method args.text.now args.from _
    (c.in_err-admitted.ensures.number ∙ as_whole args.pattern.now args.k args.method args.text.now))

pub search_chunk-searched-requires : goal.search_chunk-searched-requires
search_chunk-searched-requires c =
    let args = c.args in
    let along = c.in_ok-admitted.ensures.taken in
    let right = whole-taken args.pattern.now args.k args.method _ _ (sym c.in_ok-admitted.ensures.number) in
    let pattern = admitted args.pattern.now args.k args.method right.pattern-right in
    record {
      joinable =
          record {
            short = pattern.short;
            tail-short = pattern.some;
            numbered =
                omega (
                  arith,
                  c.min-begun.ensures,
                  right.size.not-long,
                  length-take (length args.text.now - c.min-begun.result) (drop c.min-begun.result args.text.now),
                );
            room = λ s inside there. omega arith;
          };
      taken =
          record {
            counted = along.counted;
            within = pattern.within;
            method-right = rw along.named (method-given args.pattern.now args.k args.method right.pattern-right);
          };
    }

pub returns-then-searched-eq0 : goal.returns-then-searched-eq0
returns-then-searched-eq0 c =
    let args = c.args in
    let none : given (whole_tests args.pattern.now args.k args.method (length args.text.now) (length args.text.now)) ≡ 0 = sym c.in_ok-admitted.ensures.number in
    let right = whole-taken args.pattern.now args.k args.method _ _ none in
    -- the place holds the first match, if there is one
    let holds = held args.pattern.now args.k args.method args.text.now args.from (record { below = λ i. (c.type_inv.pattern i).fits })
    (record { below = λ i. (c.type_inv.text i).fits }) right.pattern-right
    (admitted args.pattern.now args.k args.method right.pattern-right).some c.min-begun.ensures (rw c.in_ok-admitted.ensures.taken.named at c.search_chunk-searched.ensures) in
    answer-nothing args.pattern.now args.k args.method args.text.now args.from
    (sym (as_whole args.pattern.now args.k args.method args.text.now) ∙ none) holds c.if-searched-eq0.true

pub returns-else-searched-eq0 : goal.returns-else-searched-eq0
returns-else-searched-eq0 c =
    let args = c.args in
    let none : given (whole_tests args.pattern.now args.k args.method (length args.text.now) (length args.text.now)) ≡ 0 = sym c.in_ok-admitted.ensures.number in
    let right = whole-taken args.pattern.now args.k args.method _ _ none in
    let holds = held args.pattern.now args.k args.method args.text.now args.from (record { below = λ i. (c.type_inv.pattern i).fits })
    (record { below = λ i. (c.type_inv.text i).fits }) right.pattern-right
    (admitted args.pattern.now args.k args.method right.pattern-right).some c.min-begun.ensures (rw c.in_ok-admitted.ensures.taken.named at c.search_chunk-searched.ensures) in
    answer-found args.pattern.now args.k args.method args.text.now args.from
    (sym (as_whole args.pattern.now args.k args.method args.text.now) ∙ none) holds c.if-searched-eq0.false
