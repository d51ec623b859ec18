-- What a search for several patterns of one length finds: document 02, T-01. A pattern's number is its place among those handed in, from 1.
use Rattle.std.specs.Prelude.{◌≡◌, ℕ, zero, suc, ◌+◌, ◌-◌, ◌≤◌, ◌<◌, cond, List, [], ◌∷◌, ◌++◌, map, eqb, length, get_or}
use Rattle.jumbled.specs.Match.{matches, window, starts, select}

-- A window that matches a pattern: where it starts, and the number of the pattern
pub record Find : Type 0 where
  pub position : ℕ
  pub number : ℕ

-- The pattern that has this number
abbrev pub numbered : List (List ℕ) → ℕ → List ℕ
numbered Ps number = get_or Ps (number - 1) []

-- The one length of all patterns: the first one's
abbrev pub common_length : List (List ℕ) → ℕ
common_length Ps = length (numbered Ps 1)

-- Patterns that are searched together: at least one, and all of m bytes, 1 to 64
pub record Together (Ps : List (List ℕ)) (m : ℕ) : Type 0 where
  pub some_pattern : 1 ≤ length Ps
  pub some : 1 ≤ m
  pub short : m ≤ 64
  pub one-length : (number : ℕ) → 1 ≤ number → number < 1 + length Ps → length (numbered Ps number) ≡ m

-- One position beside each of these numbers
unfoldable pub beside : ℕ → List ℕ → List Find
beside s numbers = map (λ number. record { position = s; number = number }) numbers

-- The `left` window starts from s on, one after the other, each beside the numbers that are found there
unfoldable pub collect : (ℕ → List ℕ) → ℕ → ℕ → List Find
collect numbers_at s zero = []
collect numbers_at s (suc left) = beside s (numbers_at s) ++ collect numbers_at (suc s) left

-- The numbers of the patterns that a window matches, ascending
unfoldable pub matching : List (List ℕ) → ℕ → List ℕ → List ℕ
matching Ps k W = select (λ number. matches (numbered Ps number) k W) 1 (length Ps)

-- What is found in a text: by position, and at one position by number
unfoldable pub finds : List (List ℕ) → ℕ → List ℕ → List Find
finds Ps k T = collect (λ s. matching Ps k (window (common_length Ps) T s)) 0 (starts (common_length Ps) T)

-- Of some finds one part: the positions, or the numbers
unfoldable pub part_in : (Find → ℕ) → List Find → List ℕ
part_in part found = map part found

abbrev pub positions_in : List Find → List ℕ
positions_in found = part_in (λ f. f.position) found

abbrev pub numbers_in : List Find → List ℕ
numbers_in found = part_in (λ f. f.number) found

-- and the finds that two such lists hold, read side by side as far as both go
unfoldable pub side_by_side : (positions numbers : List ℕ) → List Find
side_by_side [] numbers = []
side_by_side (p ∷ positions) [] = []
side_by_side (p ∷ positions) (n ∷ numbers) = record { position = p; number = n } ∷ side_by_side positions numbers

-- Of some finds the positions of those with one number, in their order
unfoldable pub positions_of : ℕ → List Find → List ℕ
positions_of number [] = []
positions_of number (f ∷ more) = cond (eqb f.number number) (f.position ∷ positions_of number more) (positions_of number more)
