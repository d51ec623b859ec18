-- A list with a place for each byte of the chunk is never full too early: all of the method's steps are made.
use mathlib.Core.List.{List, ◌++◌}
use Prim.Native.Nat.{ℕ, ◌+◌, ◌≤◌, ◌<◌}
use native.Mathlib.Omega.{arith}
use lib.ListN.{length, length-append}
use Rattle.jumbled.specs.Steps.{steps}
use Rattle.jumbled.proofs.Positions.{steps-room}
use Rattle.lent.specs.Found.{Found}
use Rattle.lent.specs.declared.SearchCounts.{SearchCounts}
use Rattle.chunk_search.specs.Searchable.{Stepped}

module _ (P tail chunk list : List ℕ) (short : length tail < length P) (room : length chunk ≤ length list) where
  -- it has the places that the search asks for,
  pub places-there : (s : ℕ) → s ≤ length tail → s + length P ≤ length tail + length chunk → s < length list
  places-there s inside there = omega arith

  -- and goes through all windows
  pub all-stepped : (k method base : ℕ) {after : List ℕ} {r : SearchCounts} → Stepped P k method (tail ++ chunk) base list after r
      → Found (steps P k method (tail ++ chunk)) base list after r
  all-stepped k method base stepped = rw (steps-room (length list) P k method (tail ++ chunk) (omega (arith, length-append tail chunk))) at stepped
