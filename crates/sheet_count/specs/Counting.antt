-- What it takes to count the positions of a pattern.
use Rattle.std.specs.Prelude.{◌≡◌, List, ℕ, ◌^◌, ◌≤◌, length}
use Rattle.table_parikh.specs.Table.{parikh}

-- A pattern of 1 to 64 bytes, its counts, and a text whose positions fit 32 bits
pub record Countable (P counts T : List ℕ) : Type 0 where
  pub some : 1 ≤ length P
  pub short : length P ≤ 64
  pub pattern-counts : counts ≡ parikh P
  pub numbered : length T ≤ 2 ^ 32
