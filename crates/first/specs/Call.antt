-- The first match at or after a given position: document 02, T-08.
use Rattle.std.specs.Prelude.{◌≡◌, ℕ, length}
use mathlib.Core.List.{List, Option-to_list}
use Rattle.std.proofs.Math.Option.{none}
use Rattle.jumbled.specs.Match.{first_match}
use Rattle.jumbled.specs.Steps.{steps_from}
use Rattle.jumbled.specs.Refusals.{given, first_tests}
use Rattle.answers.specs.Numbers.{answer_number, unless_refused}
use Rattle.answers.specs.Answers.{FirstAnswer, first_position, first_inspections}

-- The number that it gives: where the search begins makes no difference to it
unfoldable pub at_or_after_number : List ℕ → ℕ → ℕ → List ℕ → ℕ
at_or_after_number P k method T = given (first_tests P k method (length T))

-- What it says of the text T from the position a on
pub record AtOrAfter (P : List ℕ) (k method : ℕ) (T : List ℕ) (a : ℕ) (r : FirstAnswer) : Type 0 where
  pub number : answer_number r ≡ at_or_after_number P k method T
  pub position : first_position r ≡ unless_refused (at_or_after_number P k method T) (first_match P k T a) none
  pub inspections : first_inspections r ≡ unless_refused (at_or_after_number P k method T) (steps_from P k method T a).inspections 0
  -- the method's steps from a on list this position too, or nothing
  pub by-steps : at_or_after_number P k method T ≡ 0 → (steps_from P k method T a).occurrences ≡ Option-to_list (first_match P k T a)
