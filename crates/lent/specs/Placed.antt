-- What a lent list or buffer holds once numbers were put into it (document 01, "A search and its calls", Feed and Save).
use Rattle.std.specs.Prelude.{◌≡◌, ℕ, ◌+◌, List, ◌++◌, map, length, take, drop}

-- The list with the numbers in its places from `at` on, and every other place as it was
unfoldable pub placed : List ℕ → ℕ → List ℕ → List ℕ
placed list at numbers = take at list ++ (numbers ++ drop (at + length numbers) list)

-- Positions with a number added to each
unfoldable pub shifted : ℕ → List ℕ → List ℕ
shifted base positions = map (λ p. base + p) positions

-- The list's first places hold these numbers, and every place after them is as it was
pub record FirstPlaces (before after : List ℕ) (count : ℕ) (numbers : List ℕ) : Type 0 where
  pub first : take count after ≡ numbers
  pub rest : drop count after ≡ drop count before
