-- What a charge comes to, and when a rate is refused (document 02, T-10).
use mathlib.Core.Path.{◌≡◌, refl, sym, ap, ◌∙◌}
use mathlib.Core.Bool.{Bool}
use mathlib.Core.List.{List, [], ◌∷◌}
use Prim.Native.Nat.{ℕ, ◌+◌, ◌*◌, ◌≤◌, ◌<◌}
use native.Mathlib.Nat.{mul-zero, zero-mul, mul-add, mul-le-mul}
use native.Mathlib.Omega.{arith}
use borrow.Author.Tests.{lt-ltb, le-ltb, ltb-false}
use Rattle.jumbled.specs.Refusals.{given, total}
use Rattle.jumbled.proofs.Admission.{Numbered, none, next, given-one}
use Rattle.charge_form.specs.Runs.{Run, runs}
use Rattle.charge_form.specs.Charge.{sixes_begun, charge_for, rate_tests}
use Rattle.charge_form.proofs.Tally.{added, sixes-few}

-- the rate for every six hours begun, in all runs together: but it goes by the sixes of each run
pub charge-by-sixes : (rate : ℕ) (rs : List Run) → charge_for rate rs ≡ rate * added sixes_begun rs
unfolding charge_for total
charge-by-sixes rate [] = sym (mul-zero rate)
charge-by-sixes rate (run ∷ rs) =
    ap (λ (x : ℕ). rate * sixes_begun run.hours + x) (charge-by-sixes rate rs) ∙ sym (mul-add rate (sixes_begun run.hours) (added sixes_begun rs))

-- six hours are begun so often that all hours are in them, and that in all but one of them not all are
pub sixes-are : (hours : ℕ) → (hours ≤ 6 * sixes_begun hours) × (6 * sixes_begun hours < hours + 6)
sixes-are hours = (omega arith, omega arith)

-- a rate of 0 costs 0
pub free : (rs : List Run) → charge_for 0 rs ≡ 0
free rs = charge-by-sixes 0 rs ∙ zero-mul _

-- the most that can be charged at all: every second hour of 65,536 is a run, at 100,000 cents. It fits 32 bits, and so the 64 that it has.
pub charge-most : (marks : ℕ → Bool) (n rate : ℕ) → n ≤ 65536 → rate ≤ 100000 → charge_for rate (runs marks n) ≤ 3276800000
charge-most marks n rate short fair =
    let few = sixes-few marks n in
    let sixes : added sixes_begun (runs marks n) ≤ 32768 = omega arith in
    omega (arith, charge-by-sixes rate (runs marks n), mul-le-mul fair sixes)

-- ---- the test of a rate

pub rate-numbered : (rate : ℕ) → Numbered (rate_tests rate)
unfolding rate_tests
rate-numbered rate = next refl none

-- over 100,000 cents
pub rate-high : (rate : ℕ) → 100000 < rate → given (rate_tests rate) ≡ 17
unfolding given rate_tests
rate-high rate high = rw (lt-ltb 100000 rate high) refl

-- and up to them
pub rate-fair : (rate : ℕ) → rate ≤ 100000 → given (rate_tests rate) ≡ 0
unfolding given rate_tests
rate-fair rate fair = rw (le-ltb 100000 rate fair) refl

pub rate-taken : (rate : ℕ) → given (rate_tests rate) ≡ 0 → rate ≤ 100000
unfolding rate_tests
rate-taken rate e = ltb-false 100000 rate (given-one (rate-numbered rate) e)
