-- What method 1 has of a pattern, and what it keeps of a window's bytes: document 01, "The five methods", 1.
use Rattle.std.specs.Prelude.{◌≡◌, List, ℕ, ◌≤◌, length}
use native.Mathlib.Omega.{arith}
use Rattle.jumbled.specs.Match.{excess}
use Rattle.jumbled.specs.Steps.{count_judged}
use Rattle.table_parikh.specs.Table.{parikh, allowances}

-- The allowances of a pattern of 1 to 64 bytes
pub record CountTabled (P allowed : List ℕ) : Type 0 where
  pub some : 1 ≤ length P
  pub short : length P ≤ 64
  pub allows : allowed ≡ allowances P

-- The counters and the excess are those of the bytes U, for the pattern P
pub record Counting (P U counts : List ℕ) (window_excess : ℕ) : Type 0 where
  pub counters : counts ≡ parikh U
  pub exceeding : window_excess ≡ excess P U

-- Method 1 verifies no window
pub none-verified : (P : List ℕ) (k : ℕ) (W : List ℕ) → (count_judged P k W).verification ≤ 64
unfolding count_judged
none-verified P k W = Prim.omega arith
