-- The answer of a search for several patterns: a refusal, or what is found.
use mathlib.Core.Path.{◌≡◌, sym, ◌∙◌}
use mathlib.Core.List.{List, [], ◌∷◌, Memᴰ}
use Prim.Native.Nat.{ℕ}
use native.Mathlib.Nat.{zero-add}
use native.Mathlib.Omega.{arith}
use lib.ListN.{length, get_or}
use Rattle.jumbled.specs.Match.{Bytes}
use Rattle.jumbled.specs.Refusals.{given, each_length_tests, set_tests, lost_tests, tolerance_tests, text_tests, pair_place_tests, several_pattern_tests, several_size_tests, several_tests}
use Rattle.jumbled.proofs.Admission.{given-append, given-among}
use Rattle.std.specs.Prelude.{Ok, Err}
use Rattle.lent.specs.Placed.{placed}
use Rattle.lent.specs.declared.SearchCounts.{SearchCounts}
use Rattle.answers.specs.Numbers.{number_of, unless_refused}
use Rattle.answers.specs.declared.Refusal.{Refusal}
use Rattle.answers.proofs.Refused.{number-positive, on-refusal, on-accepted, still-refused, tested-later}
use Rattle.admit_several.proofs.Taken.{several-pattern-numbered, SeveralTaken}
use Rattle.several_form.specs.Finds.{Find, Together, finds, positions_in, numbers_in}
use Rattle.several_form.specs.Mcount.{mcount}
use Rattle.several_form.specs.Handed.{patterns_of}
use Rattle.several_form.proofs.Passes.{mcount-finds}
use Rattle.several_form.proofs.Handed as handed
use Rattle.several_pass.specs.Passing.{PassedOver}
use Rattle.several.specs.Whole.{several_number, WholeSeveral}

-- the patterns are searched together
pub taken-together : (bytes lengths : List ℕ) (k : ℕ) → SeveralTaken lengths bytes k → Together (patterns_of lengths bytes) (get_or lengths 0 0)
taken-together bytes lengths k taken =
    let set = taken.set in
    handed.together (get_or lengths 0 0) lengths bytes set.some set.short set.some_pattern set.alike set.all

module _ (bytes lengths : List ℕ) (k : ℕ) (T positions numbers : List ℕ) where
  abbrev number : ℕ
  number = several_number bytes lengths k T positions numbers

  abbrev found : List Find
  found = finds (patterns_of lengths bytes) k T

  abbrev inspected : ℕ
  inspected = (mcount (patterns_of lengths bytes) k T).inspections

  -- the tests of the patterns and of k, then 6 and 7
  several-number :
      number
      ≡ unless_refused (given (several_pattern_tests lengths bytes k)) (given (several_size_tests (length T) (length lengths) (length positions) (length numbers)))
      (given (several_pattern_tests lengths bytes k))
  unfolding several_number several_tests
  several-number = given-append (several_pattern_tests lengths bytes k) _ (several-pattern-numbered lengths bytes k)

  -- past those of the patterns and of k, the number is that of 6 and 7
  pub several-late : given (several_pattern_tests lengths bytes k) ≡ 0
      → number ≡ given (several_size_tests (length T) (length lengths) (length positions) (length numbers))
  several-late e = several-number ∙ sym (tested-later _ _ e)

  -- 0, 1, 12, 13, 2, 6 or 7: without a method 3, 4 and 5 never come
  pub several-numbers : Memᴰ number (0 ∷ 1 ∷ 12 ∷ 13 ∷ 2 ∷ 6 ∷ 7 ∷ [])
  unfolding several_number several_tests several_pattern_tests several_size_tests each_length_tests set_tests lost_tests tolerance_tests text_tests pair_place_tests
  several-numbers = given-among (several_tests lengths bytes k (length T) (length positions) (length numbers))

  -- a refusal leaves everything as it was
  pub several-refusal : (refusal : Refusal) → number_of refusal ≡ number → WholeSeveral bytes lengths k T positions positions numbers numbers (Err refusal)
  several-refusal refusal e =
      record {
        number = e;
        found = on-refusal refusal number (length found) 0 e;
        inspections = on-refusal refusal number inspected 0 e;
        positions-list = on-refusal refusal number (placed positions 0 (positions_in found)) positions e;
        numbers-list = on-refusal refusal number (placed numbers 0 (numbers_in found)) numbers e;
        by-steps = λ q. absurd (let positive = number-positive refusal in omega arith);
      }

  pub several-refusal-early : (refusal : Refusal) → number_of refusal ≡ given (several_pattern_tests lengths bytes k)
      → WholeSeveral bytes lengths k T positions positions numbers numbers (Err refusal)
  several-refusal-early refusal e = several-refusal refusal (still-refused _ _ refusal e ∙ sym several-number)

  -- what the pass found
  pub several-found : Bytes T → SeveralTaken lengths bytes k → number ≡ 0 → {positions' numbers' : List ℕ} {counts : SearchCounts}
      → PassedOver (patterns_of lengths bytes) k T positions positions' numbers numbers' counts
      → WholeSeveral bytes lengths k T positions positions' numbers numbers' (Ok counts)
  several-found bytes-right taken e passed =
      let noted = passed.noted in
      record {
        number = sym e;
        found = noted.next_place ∙ zero-add (length found) ∙ on-accepted number (length found) 0 e;
        inspections = passed.inspected ∙ on-accepted number inspected 0 e;
        positions-list = noted.positions-filled ∙ on-accepted number (placed positions 0 (positions_in found)) positions e;
        numbers-list = noted.numbers-filled ∙ on-accepted number (placed numbers 0 (numbers_in found)) numbers e;
        by-steps = λ q. mcount-finds (taken-together bytes lengths k taken) k (omega (arith, taken.within)) T bytes-right;
      }
