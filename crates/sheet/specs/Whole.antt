-- A whole search and its marked sheet: document 02, T-02.
use Rattle.std.specs.Prelude.{◌≡◌, List, ℕ, length}
use Rattle.jumbled.specs.Match.{positions}
use Rattle.jumbled.specs.Steps.{steps}
use Rattle.jumbled.specs.Refusals.{given, sheet_tests}
use Rattle.lent.specs.Placed.{placed}
use Rattle.answers.specs.Numbers.{answer_number, unless_refused}
use Rattle.answers.specs.Answers.{SheetAnswer, sheet_found, sheet_inspections, sheet_length}
use Rattle.sheet_form.specs.Sheet.{sheet_of}

-- The number that it gives
unfoldable pub whole_sheet_number : List ℕ → ℕ → ℕ → (T list buffer : List ℕ) → ℕ
whole_sheet_number P k method T list buffer = given (sheet_tests P k method (length T) (length list) (length buffer) (length (sheet_of P k T)))

-- What it says of the text T, and what the list and the buffer hold before and after it
pub record WholeSheet (P : List ℕ) (k method : ℕ) (T list list' buffer buffer' : List ℕ) (r : SheetAnswer) : Type 0 where
  pub number : answer_number r ≡ whole_sheet_number P k method T list buffer
  pub found : sheet_found r ≡ unless_refused (whole_sheet_number P k method T list buffer) (length (positions P k T)) 0
  pub inspections : sheet_inspections r ≡ unless_refused (whole_sheet_number P k method T list buffer) (steps P k method T).inspections 0
  pub len : sheet_length r ≡ unless_refused (whole_sheet_number P k method T list buffer) (length (sheet_of P k T)) 0
  pub listed : list' ≡ unless_refused (whole_sheet_number P k method T list buffer) (placed list 0 (positions P k T)) list
  pub laid_out : buffer' ≡ unless_refused (whole_sheet_number P k method T list buffer) (placed buffer 0 (sheet_of P k T)) buffer
  -- these positions are those of the method's steps too
  pub by-steps : whole_sheet_number P k method T list buffer ≡ 0 → (steps P k method T).occurrences ≡ positions P k T
