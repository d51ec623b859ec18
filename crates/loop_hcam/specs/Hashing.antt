-- What method 5 has of a pattern, what it keeps of a window's bytes, and what it finds of a window: document 01, "The five methods", 5; document 02,
-- T-07, for the lost hours.
use Rattle.std.specs.Prelude.{◌≡◌, ℕ, Bool, true, false, cond, not, ◌||◌, ◌≤◌, List, length, nat_lt}
use native.Mathlib.Omega.{arith}
use Rattle.jumbled.specs.Match.{cc, lost_hour}
use Rattle.jumbled.specs.Heap.{heap_sum}
use Rattle.jumbled.specs.Steps.{verified, hcam_judged}
use Rattle.jumbled.proofs.Positions.{hcam-verification}
use Rattle.table_parikh.specs.Table.{allowances, within_counts}
use Rattle.table_heap.specs.declared.Target.{Target}
use Rattle.table_heap.specs.Table.{HeapTabled}
use Rattle.loop_hcam.specs.declared.Summed.{Summed}
use Rattle.loop_hcam.specs.declared.Finding.{Finding}

-- The allowances and the heap values of a pattern of 1 to 64 bytes
pub record HcamTabled (P allowed values : List ℕ) (target : Target) : Type 0 where
  pub some : 1 ≤ length P
  pub short : length P ≤ 64
  pub allows : allowed ≡ allowances P
  pub valued : HeapTabled P values target

-- The sum is that of the bytes U, by the values of the pattern P, and so many of them are lost hours
pub record Summing (P U : List ℕ) (r : Summed) : Type 0 where
  pub sums : r.sum ≡ heap_sum P U
  pub holds-lost : r.lost ≡ cc U lost_hour

-- What is found of a window that is a candidate or holds so many lost hours, by a table of allowances: it is listed where that is sure, and verified
-- otherwise
abbrev pub Finds : List ℕ → ℕ → Bool → List ℕ → Finding → Type 0
Finds allowed lost exact W r =
    r ≡ cond (nat_lt 0 lost || not exact) (record { listed = within_counts allowed W; verification = length W }) (record { listed = true; verification = 0 })

-- A verification takes the window's bytes, as many as the pattern has
pub verification-small : (P : List ℕ) → length P ≤ 64 → (W : List ℕ) → (hcam_judged P W).verification ≤ 64
verification-small P short W = Prim.rw (hcam-verification P W) (small (verified P W))
  where
    small : (t : Bool) → cond t (length P) 0 ≤ 64
    small true = Prim.omega arith
    small false = Prim.omega arith
