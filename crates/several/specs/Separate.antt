-- That one pass for several patterns is the counting searches for each of them, put together: document 02, T-01.
use Rattle.std.specs.Prelude.{◌≡◌, List, ◌⊎◌, ℕ, suc, ◌≤◌, ◌<◌, length, get_or, take}
use Rattle.jumbled.specs.Match.{sum}
use Rattle.answers.specs.Numbers.{answer_number}
use Rattle.answers.specs.Answers.{Answer, answer_found, answer_inspections}
use Rattle.search_whole.specs.Whole.{Whole}
use Rattle.several_form.specs.Finds.{Find, numbered, side_by_side, positions_of}

-- Accepted whole searches by method 1, one for each pattern by its number: their lists before and after them, and their answers
pub record Separately (Ps : List (List ℕ)) (k : ℕ) (T : List ℕ) : Type 0 where
  pub before : ℕ → List ℕ
  pub after : ℕ → List ℕ
  pub answer : ℕ → Answer
  pub contract :
      (number : ℕ) → 1 ≤ number → number ≤ length Ps → Whole (numbered Ps number) k 1 T (before number) (after number) (answer number)
  pub accepted : (number : ℕ) → 1 ≤ number → number ≤ length Ps → answer_number (answer number) ≡ 0

-- The pairs in the first places of two lists
abbrev pub pairs_in : (places : ℕ) (position_list number_list : List ℕ) → List Find
pairs_in places position_list number_list = side_by_side (take places position_list) (take places number_list)

-- A search that answered r and left these two lists puts the separate ones together
pub record PutTogether {Ps : List (List ℕ)} {k : ℕ} {T : List ℕ} (separately : Separately Ps k T) (position_list number_list : List ℕ) (r : Answer) : Type 0 where
  -- Beside each pattern's number stand the positions that its own search lists, in that order,
  pub positions-beside :
      (number : ℕ)
      → 1 ≤ number
      → number ≤ length Ps
      → positions_of number (pairs_in (answer_found r) position_list number_list) ≡ take (answer_found (separately.answer number)) (separately.after number)
  -- and there is no other number.
  pub numbers-right : (i : ℕ) → i < answer_found r → (1 ≤ get_or number_list i 0) × (get_or number_list i 0 ≤ length Ps)
  -- The pairs rise, by position and at one position by number.
  pub rising :
      (i j : ℕ)
      → i < j
      → j < answer_found r
      → (get_or position_list i 0 < get_or position_list j 0) ⊎ ((get_or position_list i 0 ≡ get_or position_list j 0) × (get_or number_list i 0 < get_or number_list j 0))
  -- Found is what the separate searches find, added up.
  pub found : answer_found r ≡ sum (length Ps) (λ f. answer_found (separately.answer (suc f)))
  -- The inspections are those of any one of them.
  pub inspections : (number : ℕ) → 1 ≤ number → number ≤ length Ps → answer_inspections r ≡ answer_inspections (separately.answer number)
