-- A search for several patterns in one pass: document 02, T-01.
use Rattle.std.specs.Prelude.{◌≡◌, List, ℕ, length}
use Rattle.jumbled.specs.Refusals.{given, several_tests}
use Rattle.lent.specs.Placed.{placed}
use Rattle.answers.specs.Numbers.{answer_number, unless_refused}
use Rattle.answers.specs.Answers.{Answer, answer_found, answer_inspections}
use Rattle.several_form.specs.Finds.{finds, positions_in, numbers_in}
use Rattle.several_form.specs.Mcount.{mcount}
use Rattle.several_form.specs.Handed.{patterns_of}

-- The number that it gives, for patterns that are handed in as their bytes and their lengths, and for lists of so many places
unfoldable pub several_number : (bytes lengths : List ℕ) → ℕ → List ℕ → (position_list number_list : List ℕ) → ℕ
several_number bytes lengths k T position_list number_list = given (several_tests lengths bytes k (length T) (length position_list) (length number_list))

-- What it says of the text T, and what the two lists hold before and after it
pub record WholeSeveral (bytes lengths : List ℕ) (k : ℕ) (T position_list position_list' number_list number_list' : List ℕ) (r : Answer) : Type 0 where
  pub number : answer_number r ≡ several_number bytes lengths k T position_list number_list
  pub found : answer_found r ≡ unless_refused (several_number bytes lengths k T position_list number_list) (length (finds (patterns_of lengths bytes) k T)) 0
  pub inspections :
      answer_inspections r ≡ unless_refused (several_number bytes lengths k T position_list number_list) (mcount (patterns_of lengths bytes) k T).inspections 0
  pub positions-list :
      position_list'
      ≡ unless_refused (several_number bytes lengths k T position_list number_list)
      (placed position_list 0 (positions_in (finds (patterns_of lengths bytes) k T))) position_list
  pub numbers-list :
      number_list'
      ≡ unless_refused (several_number bytes lengths k T position_list number_list)
      (placed number_list 0 (numbers_in (finds (patterns_of lengths bytes) k T))) number_list
  -- these finds are those of the steps too
  pub by-steps :
      several_number bytes lengths k T position_list number_list ≡ 0 → (mcount (patterns_of lengths bytes) k T).finds ≡ finds (patterns_of lengths bytes) k T
