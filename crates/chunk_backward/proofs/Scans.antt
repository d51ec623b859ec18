-- The scan of a backward method by its number, and what is asked for each.
use mathlib.Core.Path.{◌≡◌, refl}
use mathlib.Core.List.{List}
use mathlib.Core.Logic.{⊎_elim}
use Prim.Native.Nat.{ℕ, ◌≤◌, ◌<◌}
use native.Mathlib.Omega.{arith}
use lib.ListN.{length}
use borrow.Author.Tests.{eq-eqb, ne_eqb}
use Rattle.jumbled.specs.Steps.{bam_scan, bam2_scan, abam_scan}
use Rattle.jumbled.specs.Refusals.{given, method_tests}
use Rattle.jumbled.proofs.Admission.{method-taken}
use Rattle.jumbled.proofs.Sums.{below_or_not}
use Rattle.jumbled.proofs.Methods.{bam-most, bam2-most, abam-most}
use Rattle.table_packed.specs.Word.{Packable}
use Rattle.chunk_backward.specs.Scans.{scan_of}

pub scan-2 : (P : List ℕ) (k method : ℕ) → method ≡ 2 → scan_of P k method ≡ bam_scan P
unfolding scan_of
scan-2 P k method e = rw (eq-eqb method 2 e) refl

pub scan-3 : (P : List ℕ) (k method : ℕ) → method ≡ 3 → scan_of P k method ≡ bam2_scan P
unfolding scan_of
scan-3 P k method e = rw e refl

pub scan-4 : (P : List ℕ) (k method : ℕ) → (method ≡ 2 → ⊥) → (method ≡ 3 → ⊥) → scan_of P k method ≡ abam_scan P k
unfolding scan_of
scan-4 P k method two three = rw (ne_eqb method 2 two, ne_eqb method 3 three) refl

-- each makes at most an inspection a byte; method 6 makes one more for each to verify the window
pub scan-inspections : (P : List ℕ) (k method : ℕ) → length P ≤ 64 → (W : List ℕ) → length W ≤ length P → (scan_of P k method W).inspections ≤ 128
scan-inspections P k method short W h =
    ⊎_elim two (λ (l : 3 ≤ method). ⊎_elim three (λ (g : 4 ≤ method). rw (scan-4 P k method (λ e. omega arith) (λ e. omega arith)) (omega (arith, abam-most P k W))) (below_or_not method 4)) (below_or_not method 3)
  where
    other : (method ≡ 2 → ⊥) → (method ≡ 3 → ⊥) → (scan_of P k method W).inspections ≤ 128
    other a b = rw (scan-4 P k method a b) (omega (arith, abam-most P k W))

    two : method < 3 → (scan_of P k method W).inspections ≤ 128
    two l =
        ⊎_elim (λ (g : method < 2). other (λ e. omega arith) (λ e. omega arith))
        (λ (g : 2 ≤ method). rw (scan-2 P k method (omega arith)) (omega (arith, bam-most P W))) (below_or_not method 2)

    three : method < 4 → (scan_of P k method W).inspections ≤ 128
    three l = ⊎_elim (λ (g : method < 3). two g) (λ (g : 3 ≤ method). rw (scan-3 P k method (omega arith)) (omega (arith, bam2-most P W))) (below_or_not method 3)

-- what 2 to 5 do not refuse can have its tables made
pub packable : {P : List ℕ} {k method : ℕ} → length P ≤ 64 → k < length P → given (method_tests P k method) ≡ 0 → 2 ≤ method → method ≤ 4 → Packable P k method
packable {P} {k} {method} short within taken least most =
    record {
      short = short;
      tolerance = omega arith;
      from = least;
      to = most;
      fits = (method-taken P k method taken).narrow;
    }
