-- How a sum of heap values, and the number of lost hours, follow the bytes that enter and leave a window.
use mathlib.Core.Path.{◌≡◌}
use mathlib.Core.List.{List, [], ◌∷◌, ◌++◌}
use Prim.Native.Nat.{ℕ, ◌+◌, ◌-◌, ◌%◌, ◌^◌, ◌≤◌, ◌<◌}
use native.Mathlib.Omega.{arith}
use mir.Val.{bool_byte}
use lib.Dec.{eqb}
use lib.ListN.{length, get_or}
use Rattle.jumbled.specs.Match.{lost_hour}
use Rattle.jumbled.specs.Heap.{heap_value}
use Rattle.jumbled.proofs.Counts.{cc-length}
use Rattle.table_parikh.specs.Table.{tabulate}
use Rattle.table_parikh.proofs.Lost.{lost-snoc, lost-cons}
use Rattle.table_heap.proofs.Sums.{sum_more, sum_less}
use Rattle.loop_hcam.specs.Hashing.{Summing}

-- no more of the bytes are lost hours than there are
pub lost-few : {P U : List ℕ} {sum lost : ℕ} → Summing P U (record { sum = sum; lost = lost }) → lost ≤ length U
lost-few {U = U} state = omega (arith, state.holds-lost, cc-length U lost_hour)

-- what is taken off was there
pub lost-there : {P U : List ℕ} {sum lost b : ℕ} → Summing P (b ∷ U) (record { sum = sum; lost = lost }) → bool_byte (eqb b lost_hour) ≤ lost
lost-there {U = U} {b = b} state = omega (arith, state.holds-lost, lost-cons b U)

module _ {P U values : List ℕ} {sum lost b : ℕ} (known : values ≡ tabulate 256 (heap_value P)) (byte : b < 256) where
  pub summing-more : Summing P U (record { sum = sum; lost = lost }) → {summed : ℕ} → summed ≡ (sum + get_or values b 0) % 2 ^ 64
      → Summing P (U ++ (b ∷ [])) (record { sum = summed; lost = lost + bool_byte (eqb b lost_hour) })
  summing-more state added =
      record { sums = sum_more P known U byte state.sums added; holds-lost = omega (arith, state.holds-lost, lost-snoc U b) }

  pub summing-less : Summing P (b ∷ U) (record { sum = sum; lost = lost }) → {rest : ℕ} → rest < 2 ^ 64 → (rest + get_or values b 0) % 2 ^ 64 ≡ sum
      → Summing P U (record { sum = rest; lost = lost - bool_byte (eqb b lost_hour) })
  summing-less state fits left =
      record { sums = sum_less P known U byte state.sums fits left; holds-lost = omega (arith, state.holds-lost, lost-cons b U) }
