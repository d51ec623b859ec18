-- How many inspections a request can take: 64 for the first window of a forward method, and at most 128 for each window start, where method 6 reads
-- it and verifies it.
use mathlib.Core.Path.{◌≡◌}
use mathlib.Core.List.{List}
use mathlib.Core.Logic.{⊎_elim}
use Prim.Native.Nat.{ℕ, zero, suc, ◌+◌, ◌*◌, ◌≤◌, ◌<◌}
use native.Mathlib.Omega.{arith}
use lib.ListN.{length}
use Rattle.jumbled.specs.Match.{window, starts}
use Rattle.jumbled.specs.Scan.{Judged, forward}
use Rattle.jumbled.specs.Steps.{count_judged, hcam_judged, ebl_scan, steps}
use Rattle.jumbled.proofs.Admission.{Admitted}
use Rattle.jumbled.proofs.Cuts.{backward-most, forward-most}
use Rattle.jumbled.proofs.Ebl.{ebl-most}
use Rattle.jumbled.proofs.Sums.{below_or_not}
use Rattle.chunk_backward.specs.Scans.{scan_of}
use Rattle.chunk_backward.proofs.Scans.{scan-inspections}
use Rattle.loop_hcam.specs.Hashing.{verification-small}
use Rattle.chunk_search.proofs.Steps.{way-1, way-5, way-6, way-backward}

-- the first window may cost more than the others
forward-few : (judged : List ℕ → Judged) (m : ℕ) (T : List ℕ) → ((W : List ℕ) → (judged W).verification ≤ 64)
    → (s left cost : ℕ) → (forward judged m T s left cost).inspections ≤ cost + 65 * left
unfolding forward
forward-few judged m T few s zero cost = omega arith
forward-few judged m T few s (suc left) cost =
    omega (arith, few (window m T s), forward-most judged m T 64 few (suc s) left)

count-few : (P : List ℕ) (k : ℕ) (W : List ℕ) → (count_judged P k W).verification ≤ 64
unfolding count_judged
count-few P k W = omega arith

module _ (P : List ℕ) (k method : ℕ) (T : List ℕ) (request : Admitted P k method) where
  by-counting : method ≡ 1 → (steps P k method T).inspections ≤ 128 * starts (length P) T + 64
  unfolding steps
  by-counting e =
      let short = request.short in
      rw (way-1 P k method e)
      (omega (arith, forward-few (count_judged P k) (length P) T (count-few P k) 0 (starts (length P) T) (length P)))

  by_values : method ≡ 5 → (steps P k method T).inspections ≤ 128 * starts (length P) T + 64
  unfolding steps
  by_values e =
      let short = request.short in
      rw (way-5 P k method e)
      (omega (arith, forward-few (hcam_judged P) (length P) T (verification-small P short) 0 (starts (length P) T) (length P)))

  by-scans : 2 ≤ method → method ≤ 4 → (steps P k method T).inspections ≤ 128 * starts (length P) T + 64
  unfolding steps
  by-scans least most =
      rw (way-backward P k method least most)
      (omega (arith, backward-most (scan_of P k method) (length P) T 128 (scan-inspections P k method request.short) 0 (starts (length P) T) 0))

  by-reading : method ≡ 6 → (steps P k method T).inspections ≤ 128 * starts (length P) T + 64
  unfolding steps
  by-reading e =
      rw (way-6 P k method e)
      (omega (
        arith,
        backward-most (ebl_scan P) (length P) T 128 (λ W short. omega (arith, ebl-most P W, request.short)) 0 (starts (length P) T) 0,
      ))

  pub steps-few : (steps P k method T).inspections ≤ 128 * starts (length P) T + 64
  steps-few =
      let least = request.taken.least in
      let most = request.taken.most in
      ⊎_elim (λ (l : method < 2). by-counting (omega arith))
      (λ (l : 2 ≤ method).
      ⊎_elim (λ (g : method < 5). by-scans l (omega arith))
      (λ (g : 5 ≤ method). ⊎_elim (λ (h : method < 6). by_values (omega arith)) (λ (h : 6 ≤ method). by-reading (omega arith)) (below_or_not method 6))
      (below_or_not method 5))
      (below_or_not method 2)
