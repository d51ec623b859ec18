-- Laws of `decimal`: a number of one digit, a number of more, what that gives by induction, and how long it is.
use mathlib.Core.Path.{◌≡◌, refl, sym, ap, ◌∙◌}
use mathlib.Core.List.{List, [], ◌∷◌, ◌++◌}
use mathlib.Core.Logic.{⊎_elim}
use Prim.Native.Nat.{ℕ, zero, suc, ◌+◌, ◌/◌, ◌%◌, ◌^◌, ◌≤◌, ◌<◌}
use native.Mathlib.Nat.{pow-suc, div-lt_iff_lt-mul}
use native.Mathlib.Omega.{arith}
use lib.ListN.{length, length-append}
use borrow.Author.Tests.{lt-ltb, le-ltb}
use Rattle.jumbled.proofs.Sums.{below_or_not}
use Rattle.ascii.specs.Decimal.{digits, decimal}

digits-small : (more n : ℕ) → n < 10 → digits more n ≡ (48 + n) ∷ []
unfolding digits
digits-small zero n l = ap (λ (d : ℕ). (48 + d) ∷ []) (omega arith)
digits-small (suc more) n l = rw (lt-ltb n 10 l) refl

digits-large : (more n : ℕ) → 10 ≤ n → digits (suc more) n ≡ digits more (n / 10) ++ ((48 + n % 10) ∷ [])
unfolding digits
digits-large more n l = rw (le-ltb n 10 l) refl

-- the places beyond the number's own make no difference
digits-enough : (more other n : ℕ) → n ≤ more → n ≤ other → digits more n ≡ digits other n
digits-enough zero other n h g = digits-small zero n (omega arith) ∙ sym (digits-small other n (omega arith))
digits-enough (suc more) zero n h g = digits-small (suc more) n (omega arith) ∙ sym (digits-small zero n (omega arith))
digits-enough (suc more) (suc other) n h g =
    ⊎_elim (λ (l : n < 10). digits-small (suc more) n l ∙ sym (digits-small (suc other) n l))
    (λ (l : 10 ≤ n).
    digits-large more n l
    ∙ ap (λ (D : List ℕ). D ++ ((48 + n % 10) ∷ [])) (digits-enough more other (n / 10) (omega arith) (omega arith))
    ∙ sym (digits-large other n l)) (below_or_not n 10)

pub decimal-small : (n : ℕ) → n < 10 → decimal n ≡ (48 + n) ∷ []
unfolding decimal
decimal-small n l = digits-small n n l

pub decimal-large : (n : ℕ) → 10 ≤ n → decimal n ≡ decimal (n / 10) ++ ((48 + n % 10) ∷ [])
unfolding decimal
decimal-large n l =
    digits-enough n (suc n) n (omega arith) (omega arith) ∙ digits-large n n l
    ∙ ap (λ (D : List ℕ). D ++ ((48 + n % 10) ∷ [])) (digits-enough n (n / 10) (n / 10) (omega arith) (omega arith))

-- so what holds of numbers of one digit, and goes on from n / 10 to n, holds of all
module _ (Holds : ℕ → Type 0) (one : (n : ℕ) → n < 10 → Holds n) (more : (n : ℕ) → 10 ≤ n → Holds (n / 10) → Holds n) where
  below : (bound n : ℕ) → n < bound → Holds n
  below zero n h = elim h [ ]
  below (suc bound) n h =
      ⊎_elim (λ (l : n < 10). one n l) (λ (l : 10 ≤ n). more n l (below bound (n / 10) (omega arith))) (below_or_not n 10)

  pub by_digits : (n : ℕ) → Holds n
  by_digits n = below (suc n) n (omega arith)

-- ---- its length

pub length-decimal-small : (n : ℕ) → n < 10 → length (decimal n) ≡ 1
length-decimal-small n l = ap length (decimal-small n l)

pub length-decimal-large : (n : ℕ) → 10 ≤ n → length (decimal n) ≡ length (decimal (n / 10)) + 1
length-decimal-large n l = ap length (decimal-large n l) ∙ length-append (decimal (n / 10)) ((48 + n % 10) ∷ [])

-- below 10^(d + 1) a number has at most d + 1 digits
pub length-decimal : (d n : ℕ) → n < 10 ^ suc d → length (decimal n) ≤ suc d
length-decimal zero n h = omega (arith, length-decimal-small n (rw pow-suc at h))
length-decimal (suc d) n h =
    ⊎_elim (λ (l : n < 10). omega (arith, length-decimal-small n l))
    (λ (l : 10 ≤ n).
    omega (
      arith,
      length-decimal-large n l,
      length-decimal d (n / 10) ((div-lt_iff_lt-mul (omega arith)).1 (rw pow-suc at h)),
    )) (below_or_not n 10)
