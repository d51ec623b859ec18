-- What every search loop asks of its arguments, and what it says of the lent list.
use Rattle.std.specs.Prelude.{◌≡◌, List, ℕ, ◌+◌, ◌-◌, ◌^◌, ◌≤◌, ◌<◌, length}
use Rattle.jumbled.specs.Scan.{Result, through}
use Rattle.lent.specs.declared.Range.{Range}
use Rattle.lent.specs.Placed.{placed, shifted}

-- A range of window starts of the text T, for windows of m bytes: every window is whole, and every position fits 32 bits
pub record Fitting (T : List ℕ) (m : ℕ) (range : Range) : Type 0 where
  pub some : 1 ≤ m
  pub short : m ≤ 64
  pub ordered : range.first ≤ range.end
  pub whole : (s : ℕ) → s < range.end → s + m ≤ length T
  pub numbered : range.base + range.end ≤ 2 ^ 32

-- How many of the range's window starts a loop goes through whose driver would list these positions: it ends where the list is full
abbrev pub passed : Range → List ℕ → List ℕ → ℕ
passed range list positions = through (length list - range.at) range.first (range.end - range.first) positions

-- A loop that started with the list `before` has listed what the result holds: the positions, with the base added, stand in the next places
-- and every other place is as it was; `at` is the next place after them, and `inspections` the inspections made
pub record Listed (result : Result) (range : Range) (before after : List ℕ) (at inspections : ℕ) : Type 0 where
  pub filled : after ≡ placed before range.at (shifted range.base result.occurrences)
  pub next_place : at ≡ range.at + length result.occurrences
  pub inspected : inspections ≡ result.inspections
