-- How a seam keeps its bytes.
use Rattle.std.specs.Prelude.{◌≡◌, List, ℕ, ◌≤◌, replicate, take}
use Rattle.lent.specs.Placed.{placed}

-- They are in the first `len` of 128 places, and every other place is 0
pub record Kept (bytes : List ℕ) (len : ℕ) : Type 0 where
  pub inside : len ≤ 128
  pub zeros : bytes ≡ placed (replicate 128 0) 0 (take len bytes)
