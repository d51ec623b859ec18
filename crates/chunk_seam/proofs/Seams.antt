-- The bytes that a seam holds.
use mathlib.Core.Path.{◌≡◌, ap, ◌∙◌}
use mathlib.Core.List.{List, ◌++◌}
use Prim.Native.Nat.{ℕ, ◌-◌, ◌≤◌, ◌<◌}
use native.Mathlib.Omega.{arith}
use lib.ListN.{length, take, replicate, length-append, length-take, length-replicate}
use Rattle.lent.specs.Placed.{placed}
use Rattle.lent.specs.Written.{Written}
use Rattle.lent.proofs.Placing.{take-placed}
use Rattle.chunk_seam.specs.Seam.{Kept}

-- a tail and what its windows reach of the chunk fit
pub reach-fits : (tail chunk : List ℕ) {m : ℕ} → length tail < m → m ≤ 64 → length (tail ++ take (m - 1) chunk) ≤ 128
reach-fits tail chunk {m} short most = omega (arith, length-append tail (take (m - 1) chunk), length-take (m - 1) chunk)

-- U was put into the places of a seam
module _ {U bytes : List ℕ} {len : ℕ} (written : Written (replicate 128 0) 0 U bytes len) (fits : length U ≤ 128) where
  -- it is what the seam holds,
  pub holds : take len bytes ≡ U
  holds =
      ap (λ (l : List ℕ). take len l) written.filled ∙ ap (λ (n : ℕ). take n (placed (replicate 128 0) 0 U)) written.place
      ∙ take-placed (replicate 128 0) 0 U (omega (arith, length-replicate {A = ℕ} 128 0))

  -- and the places after it are 0
  pub kept : Kept bytes len
  kept = record { inside = omega (arith, written.place); zeros = rw (holds) written.filled }
