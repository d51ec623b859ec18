-- How several patterns are handed in: document 02, T-01, which leaves it open. All their bytes stand in one list, pattern after pattern, and another
-- list has the length of each.
use Rattle.std.specs.Prelude.{List, [], ◌∷◌, ℕ, take, drop}

unfoldable pub patterns_of : (lengths bytes : List ℕ) → List (List ℕ)
patterns_of [] bytes = []
patterns_of (m ∷ lengths) bytes = take m bytes ∷ patterns_of lengths (drop m bytes)
