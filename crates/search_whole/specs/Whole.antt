-- Whole search: document 01, "A search and its calls", and "When a call says no", 1 to 7; document 02, T-07, for 13.
use Rattle.std.specs.Prelude.{◌≡◌, List, ℕ, length}
use Rattle.jumbled.specs.Match.{positions}
use Rattle.jumbled.specs.Steps.{steps}
use Rattle.jumbled.specs.Refusals.{given, whole_tests}
use Rattle.table_parikh.specs.Table.{parikh}
use Rattle.lent.specs.Placed.{placed}
use Rattle.lent.specs.declared.SearchCounts.{SearchCounts}
use Rattle.methods.specs.Numbers.{method_number}
use Rattle.answers.specs.Numbers.{answer_number, unless_refused}
use Rattle.answers.specs.Answers.{Answer, answer_found, answer_inspections}
use Rattle.admit_pattern.specs.declared.Admitted.{Admitted}

-- The number that a whole search gives
unfoldable pub whole_number : List ℕ → ℕ → ℕ → List ℕ → List ℕ → ℕ
whole_number P k method T list = given (whole_tests P k method (length T) (length list))

-- Nothing is refused, and what is taken along says how often the pattern has each byte
pub record Taken (P : List ℕ) (admitted : Admitted) (k : ℕ) (T list : List ℕ) : Type 0 where
  pub counted : admitted.counts ≡ parikh P
  pub accepted : whole_number P k (method_number admitted.method) T list ≡ 0

-- What a search that is not refused says of the text T, and what the list holds before and after it
pub record Searched (P : List ℕ) (k method : ℕ) (T before after : List ℕ) (r : SearchCounts) : Type 0 where
  pub found : r.found ≡ length (positions P k T)
  pub inspections : r.inspections ≡ (steps P k method T).inspections
  pub list : after ≡ placed before 0 (positions P k T)
  -- these positions are those of the method's steps too
  pub by-steps : (steps P k method T).occurrences ≡ positions P k T

-- What a whole search of the text T says, and what the list holds before and after it
pub record Whole (P : List ℕ) (k method : ℕ) (T before after : List ℕ) (r : Answer) : Type 0 where
  pub number : answer_number r ≡ whole_number P k method T before
  pub found : answer_found r ≡ unless_refused (whole_number P k method T before) (length (positions P k T)) 0
  pub inspections : answer_inspections r ≡ unless_refused (whole_number P k method T before) (steps P k method T).inspections 0
  pub list : after ≡ unless_refused (whole_number P k method T before) (placed before 0 (positions P k T)) before
  -- these positions are those of the method's steps too
  pub by-steps : whole_number P k method T before ≡ 0 → (steps P k method T).occurrences ≡ positions P k T
