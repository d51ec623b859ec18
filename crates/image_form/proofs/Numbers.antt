-- Laws of numbers written low byte first.
use mathlib.Core.Path.{◌≡◌, refl, ap, ap₂, ◌∙◌}
use mathlib.Core.List.{List, [], ◌∷◌}
use Prim.Native.Nat.{ℕ, zero, suc, ◌+◌, ◌*◌, ◌/◌, ◌%◌, ◌^◌, ◌≤◌, ◌<◌}
use native.Mathlib.Nat.{pow-suc}
use native.Mathlib.Omega.{arith}
use lib.ListN.{length, get_or, take}
use Rattle.jumbled.specs.Match.{Bytes}
use Rattle.image_form.specs.Image.{low_first}
use Rattle.image_form.specs.Decode.{from_low_first}

-- what is written is read
pub number-low_first : (count n : ℕ) → n < 256 ^ count → from_low_first (low_first count n) ≡ n
unfolding from_low_first low_first
number-low_first zero n h = omega arith
number-low_first (suc count) n h =
    let high = number-low_first count (n / 256) (omega (arith, pow-suc 256 count)) in
    ap (λ (m : ℕ). n % 256 + 256 * m) high ∙ omega arith

-- and bytes that are read are written again
pub low_first-number : (count : ℕ) (l : List ℕ) → length l ≡ count → Bytes l → low_first count (from_low_first l) ≡ l
unfolding from_low_first low_first
low_first-number zero [] h good = refl
low_first-number zero (b ∷ l) h good = absurd (omega arith)
low_first-number (suc count) [] h good = absurd (omega arith)
low_first-number (suc count) (b ∷ l) h good =
    let low : (b + 256 * from_low_first l) % 256 ≡ b = omega (arith, good.below 0) in
    let high : (b + 256 * from_low_first l) / 256 ≡ from_low_first l = omega (arith, good.below 0) in
    ap₂ (λ (x : ℕ) (n : ℕ). x ∷ low_first count n) low high
    ∙ ap (λ (rest : List ℕ). b ∷ rest) (low_first-number count l (omega arith) (record { below = λ i. good.below (suc i) }))

pub length-low_first : (count n : ℕ) → length (low_first count n) ≡ count
unfolding low_first
length-low_first zero n = refl
length-low_first (suc count) n = ap suc (length-low_first count (n / 256))

-- the bytes of 16 bits, and of 32
pub number-two : (l : List ℕ) → 2 ≤ length l → from_low_first (take 2 l) ≡ get_or l 0 0 + 256 * get_or l 1 0
unfolding from_low_first
number-two [] h = omega arith
number-two (a ∷ []) h = omega arith
number-two (a ∷ b ∷ l) h = omega arith

pub number-four : (l : List ℕ) → length l ≡ 4
    → from_low_first l ≡ get_or l 0 0 + 256 * (get_or l 1 0 + 256 * (get_or l 2 0 + 256 * get_or l 3 0))
unfolding from_low_first
number-four [] h = omega arith
number-four (a ∷ []) h = omega arith
number-four (a ∷ b ∷ []) h = omega arith
number-four (a ∷ b ∷ c ∷ []) h = omega arith
number-four (a ∷ b ∷ c ∷ d ∷ []) h = omega arith
number-four (a ∷ b ∷ c ∷ d ∷ e ∷ l) h = omega arith
