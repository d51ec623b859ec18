-- A whole search's number and its answer: a refusal, or what its steps list.
use mathlib.Core.Path.{◌≡◌, sym, ap, ◌∙◌}
use mathlib.Core.List.{List, [], ◌++◌}
use Prim.Native.Nat.{ℕ}
use native.Mathlib.Omega.{arith}
use lib.ListN.{length}
use Rattle.jumbled.specs.Match.{Bytes, positions}
use Rattle.jumbled.specs.Steps.{steps}
use Rattle.jumbled.specs.Refusals.{given, pattern_tests, size_tests, whole_tests, chunk_tests}
use Rattle.jumbled.proofs.Admission.{given-later, pattern-numbered, first_chunk}
use Rattle.jumbled.proofs.Methods.{methods-list}
use Rattle.lent.specs.Placed.{placed}
use Rattle.lent.proofs.Placing.{shifted-zero}
use Rattle.std.proofs.Common.{Ok, Err}
use Rattle.answers.specs.Numbers.{number_of}
use Rattle.answers.specs.declared.Refusal.{Refusal}
use Rattle.lent.specs.Found.{Found}
use Rattle.lent.specs.declared.SearchCounts.{SearchCounts}
use Rattle.answers.proofs.Refused.{number-positive, on-refusal, on-accepted}
use Rattle.admit_pattern.proofs.Refusing.{refused-first}
use Rattle.search_whole.specs.Whole.{whole_number, Searched, Whole}

-- ---- the number

module _ (P : List ℕ) (k method bytes places : ℕ) where
  -- what the tests of the pattern refuse
  pub number-early : (refusal : Refusal) → number_of refusal ≡ given (pattern_tests P k method) → number_of refusal ≡ given (whole_tests P k method bytes places)
  unfolding whole_tests
  number-early = refused-first (pattern_tests P k method) (size_tests bytes places) (pattern-numbered P k method)

  -- past them, the number is that of the tests of a first chunk
  pub number-late : given (pattern_tests P k method) ≡ 0 → given (whole_tests P k method bytes places) ≡ given (chunk_tests 0 bytes places)
  unfolding whole_tests
  number-late e = given-later (pattern_tests P k method) (size_tests bytes places) (pattern-numbered P k method) e ∙ sym (first_chunk bytes places)

-- ---- the answer

module _ (P : List ℕ) (k method : ℕ) (T list : List ℕ) where
  pub whole-late : given (pattern_tests P k method) ≡ 0 → whole_number P k method T list ≡ given (chunk_tests 0 (length T) (length list))
  unfolding whole_number
  whole-late = number-late P k method (length T) (length list)

  -- a refusal leaves everything as it was
  pub whole-refusal : (refusal : Refusal) → number_of refusal ≡ whole_number P k method T list → Whole P k method T list list (Err refusal)
  whole-refusal refusal e =
      record {
        number = e;
        found = on-refusal refusal (whole_number P k method T list) (length (positions P k T)) 0 e;
        inspections = on-refusal refusal (whole_number P k method T list) (steps P k method T).inspections 0 e;
        list = on-refusal refusal (whole_number P k method T list) (placed list 0 (positions P k T)) list e;
        by-steps = λ q. absurd (let positive = number-positive refusal in omega arith);
      }

  -- the steps over an empty tail and the text list the positions
  pub steps-searched : Bytes P → Bytes T → given (pattern_tests P k method) ≡ 0 → {after : List ℕ} {r : SearchCounts}
      → Found (steps P k method ([] ++ T)) 0 list after r → Searched P k method T list after r
  steps-searched hP hT admitted found =
      let right : (steps P k method T).occurrences ≡ positions P k T = methods-list P k method T hP hT admitted in
      record {
        found = found.found ∙ ap length right;
        inspections = found.inspections;
        list = found.filled ∙ ap (placed list 0) (shifted-zero (steps P k method T).occurrences ∙ right);
        by-steps = right;
      }

  pub whole-listed : whole_number P k method T list ≡ 0 → {after : List ℕ} {r : SearchCounts} → Searched P k method T list after r
      → Whole P k method T list after (Ok r)
  whole-listed e searched =
      record {
        number = sym e;
        found = searched.found ∙ on-accepted (whole_number P k method T list) (length (positions P k T)) 0 e;
        inspections = searched.inspections ∙ on-accepted (whole_number P k method T list) (steps P k method T).inspections 0 e;
        list = searched.list ∙ on-accepted (whole_number P k method T list) (placed list 0 (positions P k T)) list e;
        by-steps = λ q. searched.by-steps;
      }
