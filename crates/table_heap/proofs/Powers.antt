-- The next power of a base: its value modulo a number, and whether it is at most a bound.
use Rattle.std.proofs.Common.{◌≡◌, ℕ, leb, ◌+◌, ◌-◌, ◌*◌, ◌/◌, ◌%◌, ◌^◌, ◌<◌, ◌≤◌, sym, refl, ap, ◌∙◌, lt_of_lt_of_le, add-mul, one-mul, pow-suc, le-mul_of_pos_right, add-one, arith, Option, Some, None, MatchOption, IfSome, IfNone, div-add-mod', mul_right_comm}
use borrow.Author.Tests.{le-leb, lt-leb}
use Rattle.std.specs.Option.{is_some}
use native.Mathlib.Nat.{pow-zero, mul-add-mod_self_right}
use Rattle.table_heap.specs.Powers.{IsPower}

-- a factor may be reduced first
mod-mul-mod : (a b m : ℕ) → a % m * b % m ≡ a * b % m
mod-mul-mod a b m =
    sym (mul-add-mod_self_right (a / m * b) m (a % m * b))
    ∙ ap (λ (n : ℕ). n % m)
    (ap (λ (n : ℕ). n + a % m * b) (mul_right_comm (a / m) b m)
    ∙ sym (add-mul (a / m * m) (a % m) b)
    ∙ ap (λ (n : ℕ). n * b) (div-add-mod' a m))

pub power_zero : (base : ℕ) → IsPower base 0 (record { value = 1; largest = Some 0 })
power_zero base = record { value = rw (pow-zero base) refl; largest = (sym (pow-zero base), rw (pow-zero base) (omega arith)) }

power-next : (base i : ℕ) → base ^ (i + 1) ≡ base ^ i * base
power-next base i = ap (λ (n : ℕ). base ^ n) (add-one i) ∙ pow-suc base i

-- a power that wraps, times the base
pub power-mod-next : (base i m : ℕ) {v : ℕ} → v ≡ base ^ i % m → v * base % m ≡ base ^ (i + 1) % m
power-mod-next base i m e =
    ap (λ (n : ℕ). n * base % m) e ∙ mod-mul-mod (base ^ i) base m ∙ ap (λ (n : ℕ). n % m) (sym (power-next base i))

-- a power stays above a bound
pub power-above : (base i n : ℕ) → 0 < base → n < base ^ i → n < base ^ (i + 1)
power-above base i n pos h = rw (power-next base i) (lt_of_lt_of_le h (le-mul_of_pos_right (base ^ i) pos))

-- e is the largest number of i digits: a digit more, the largest itself, makes it that of i + 1
pub largest-next : (base i e : ℕ) → 0 < base → e + 1 ≡ base ^ i → e * base + (base - 1) + 1 ≡ base ^ (i + 1)
largest-next base i e pos h =
    omega (arith, power-next base i, ap (λ (n : ℕ). n * base) h, add-mul e 1 base, one-mul base)

-- one digit more, of a power that may have passed the bound
pub next-largest : (base i : ℕ) → 0 < base → (largest more : Option ℕ) → MatchOption largest (2 ^ 64 < base ^ i) (λ e. (e + 1 ≡ base ^ i) × (base ^ i ≤ 2 ^ 64))
    → IfNone largest (more ≡ None) → IfSome largest (λ e. MatchOption more (2 ^ 64 ≤ e * base + (base - 1)) (λ f. (f ≡ e * base + (base - 1)) × (f < 2 ^ 64)))
    → MatchOption more (2 ^ 64 < base ^ (i + 1)) (λ f. (f + 1 ≡ base ^ (i + 1)) × (base ^ (i + 1) ≤ 2 ^ 64))
next-largest base i pos None more above none some = rw none (power-above base i (2 ^ 64) pos above)
next-largest base i pos (Some e) None is none some = omega (arith, largest-next base i e pos is.0)
next-largest base i pos (Some e) (Some f) is none some =
    let next : f + 1 ≡ base ^ (i + 1) = omega (arith, largest-next base i e pos is.0, some.0) in
    (next, omega (arith, some.1))

-- whether it is within the bound
pub within-bound : (base i : ℕ) (largest : Option ℕ) → MatchOption largest (2 ^ 64 < base ^ i) (λ e. (e + 1 ≡ base ^ i) × (base ^ i ≤ 2 ^ 64))
    → is_some largest ≡ leb (base ^ i) (2 ^ 64)
within-bound base i None above = sym (lt-leb (base ^ i) (2 ^ 64) above)
within-bound base i (Some e) is = sym (le-leb (base ^ i) (2 ^ 64) is.1)
