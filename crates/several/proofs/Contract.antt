-- What the contract says where a search for several patterns is accepted, and where it is refused.
use mathlib.Core.Path.{◌≡◌, sym, ◌∙◌}
use mathlib.Core.List.{List}
use Prim.Native.Nat.{ℕ}
use lib.ListN.{length}
use Rattle.jumbled.specs.Refusals.{given, several_pattern_tests, several_size_tests, several_tests}
use Rattle.jumbled.proofs.Admission.{given-append-none}
use Rattle.lent.specs.Placed.{FirstPlaces}
use Rattle.lent.proofs.Placing.{first-places}
use Rattle.answers.specs.Numbers.{answer_number}
use Rattle.answers.specs.Answers.{Answer, answer_found, answer_inspections}
use Rattle.answers.proofs.Refused.{IsRefused, is_zero, not-zero}
use Rattle.admit_several.proofs.Taken.{several-pattern-numbered, SeveralTaken, several-taken, PairTaken, pair-taken}
use Rattle.several_form.specs.Finds.{Find, positions_in, numbers_in, finds}
use Rattle.several_form.specs.Mcount.{mcount}
use Rattle.several_form.specs.Handed.{patterns_of}
use Rattle.several_form.proofs.Separate.{length_part}
use Rattle.several.specs.Whole.{several_number, WholeSeveral}

-- Refused: every place of both lists is as it was, and nothing is reported
pub record NothingFound (positions positions' numbers numbers' : List ℕ) (r : Answer) : Type 0 where
  pub positions-list : positions' ≡ positions
  pub numbers-list : numbers' ≡ numbers
  pub found : answer_found r ≡ 0
  pub inspections : answer_inspections r ≡ 0

module _ {bytes lengths : List ℕ} {k : ℕ} {T positions positions' numbers numbers' : List ℕ} {r : Answer}
    (contract : WholeSeveral bytes lengths k T positions positions' numbers numbers' r) where
  abbrev found : List Find
  found = finds (patterns_of lengths bytes) k T

  pub several-refused : IsRefused (answer_number r) → NothingFound positions positions' numbers numbers' r
  several-refused refusal =
      record {
        positions-list = rw (not-zero contract.number refusal) at contract.positions-list;
        numbers-list = rw (not-zero contract.number refusal) at contract.numbers-list;
        found = rw (not-zero contract.number refusal) at contract.found;
        inspections = rw (not-zero contract.number refusal) at contract.inspections;
      }

  module _ (ok : answer_number r ≡ 0) where
    none-given : several_number bytes lengths k T positions numbers ≡ 0
    none-given = is_zero contract.number ok

    -- accepted: what the tests have let pass,
    parts-given :
        (given (several_pattern_tests lengths bytes k) ≡ 0)
        × (given (several_size_tests (length T) (length lengths) (length positions) (length numbers)) ≡ 0)
    unfolding several_number several_tests
    parts-given = given-append-none (several_pattern_tests lengths bytes k) _ (several-pattern-numbered lengths bytes k) none-given

    pub patterns-taken : SeveralTaken lengths bytes k
    patterns-taken = several-taken lengths bytes k parts-given.0

    pub sizes-taken : PairTaken (length T) (length lengths) (length positions) (length numbers)
    sizes-taken = pair-taken (length T) (length lengths) (length positions) (length numbers) parts-given.1

    -- how much is found, by how many inspections,
    pub as_many : answer_found r ≡ length found
    as_many = rw none-given at contract.found

    pub inspected : answer_inspections r ≡ (mcount (patterns_of lengths bytes) k T).inspections
    inspected = rw none-given at contract.inspections

    -- which are those of the steps,
    pub by-mcount : (mcount (patterns_of lengths bytes) k T).finds ≡ found
    by-mcount = contract.by-steps none-given

    -- and as many first places of both lists hold the positions and the numbers, every later place being as it was
    pub positions-places : FirstPlaces positions positions' (answer_found r) (positions_in found)
    positions-places = first-places (rw none-given at contract.positions-list) (as_many ∙ sym (length_part (λ f. f.position) found))

    pub numbers-places : FirstPlaces numbers numbers' (answer_found r) (numbers_in found)
    numbers-places = first-places (rw none-given at contract.numbers-list) (as_many ∙ sym (length_part (λ f. f.number) found))
