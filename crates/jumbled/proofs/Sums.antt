-- Laws of `sum` and `some`, and the two ways a comparison can come out.
use mathlib.Core.Path.{◌≡◌, refl, ap, ap₂}
use mathlib.Core.Bool.{Bool, true, false, cond, ◌||◌}
use mathlib.Core.Logic.{◌⊎◌, inl, inr, ⊎_elim}
use Prim.Native.Nat.{ℕ, zero, suc, ◌+◌, ◌≤◌, ◌<◌}
use native.Mathlib.Nat.{not-suc-le-zero, le_refl, add-le-add, zero-add, add-zero}
use native.Mathlib.Decide.{dec_lt}
use native.Mathlib.Omega.{arith}
use lib.Dec.{eqb}
use borrow.Author.Tests.{eq-eqb, ne_eqb}
use Rattle.jumbled.specs.Match.{sum}
use Rattle.jumbled.specs.Fields.{some}

pub below_or_not : (a b : ℕ) → (a < b) ⊎ (b ≤ a)
below_or_not a b = elim (dec_lt a b) [ yes h ↦ inl h | no h ↦ inr (omega arith) ]

pub sum-zero : (f : ℕ → ℕ) → sum zero f ≡ 0
unfolding sum
sum-zero f = refl

pub sum-suc : (n : ℕ) (f : ℕ → ℕ) → sum (suc n) f ≡ sum n f + f n
unfolding sum
sum-suc n f = refl

pub sum-ext : (n : ℕ) (f g : ℕ → ℕ) → ((c : ℕ) → c < n → f c ≡ g c) → sum n f ≡ sum n g
unfolding sum
sum-ext zero f g h = refl
sum-ext (suc n) f g h = ap₂ ◌+◌ (sum-ext n f g (λ c l. h c (omega arith))) (h n (le_refl (suc n)))

pub sum_mono : (n : ℕ) (f g : ℕ → ℕ) → ((c : ℕ) → c < n → f c ≤ g c) → sum n f ≤ sum n g
unfolding sum
sum_mono zero f g h = omega arith
sum_mono (suc n) f g h = add-le-add (sum_mono n f g (λ c l. h c (omega arith))) (h n (le_refl (suc n)))

pub sum_zeros : (n : ℕ) (f : ℕ → ℕ) → ((c : ℕ) → f c ≡ 0) → sum n f ≡ 0
unfolding sum
sum_zeros zero f h = refl
sum_zeros (suc n) f h = rw (sum_zeros n f h, h n) refl

pub sum-add : (n : ℕ) (f g : ℕ → ℕ) → sum n (λ c. f c + g c) ≡ sum n f + sum n g
unfolding sum
sum-add zero f g = refl
sum-add (suc n) f g = let ih = sum-add n f g in omega arith

-- one of the numbers summed is at most the sum
pub sum-at : (n : ℕ) (f : ℕ → ℕ) (c : ℕ) → c < n → f c ≤ sum n f
unfolding sum
sum-at zero f c l = absurd (not-suc-le-zero l)
sum-at (suc n) f c l =
    ⊎_elim (λ h. let ih = sum-at n f c h in omega arith) (λ (h : n ≤ c). let same : c ≡ n = omega arith in rw same (omega arith))
    (below_or_not c n)

-- numbers that are at most others and add up to the same are the same
pub sum_same : (n : ℕ) (f g : ℕ → ℕ) → ((c : ℕ) → c < n → f c ≤ g c) → sum n f ≡ sum n g → (c : ℕ) → c < n → f c ≡ g c
unfolding sum
sum_same zero f g h e c l = absurd (not-suc-le-zero l)
sum_same (suc n) f g h e c l =
    let below : sum n f ≤ sum n g = sum_mono n f g (λ d m. h d (omega arith)) in
    let last : f n ≤ g n = h n (le_refl (suc n)) in
    ⊎_elim (λ (m : c < n). sum_same n f g (λ d i. h d (omega arith)) (omega arith) c m)
    (λ (m : n ≤ c). let same : c ≡ n = omega arith in rw same (omega arith)) (below_or_not c n)

-- a number that stands at one place alone
sum-none : (n b d : ℕ) → n ≤ b → sum n (λ c. cond (eqb b c) d 0) ≡ 0
unfolding sum
sum-none zero b d l = refl
sum-none (suc n) b d l = rw (sum-none n b d (omega arith), ne_eqb b n (λ e. omega arith)) refl

pub sum-point : (n b d : ℕ) → b < n → sum n (λ c. cond (eqb b c) d 0) ≡ d
unfolding sum
sum-point zero b d l = absurd (not-suc-le-zero l)
sum-point (suc n) b d l =
    ⊎_elim (λ h. rw (sum-point n b d h, ne_eqb b n (λ e. omega arith)) (add-zero d))
    (λ h. rw (sum-none n b d h, eq-eqb b n (omega arith)) (zero-add d)) (below_or_not b n)

-- ---- some

pub some-ext : (n : ℕ) (f g : ℕ → Bool) → ((c : ℕ) → c < n → f c ≡ g c) → some n f ≡ some n g
unfolding some
some-ext zero f g h = refl
some-ext (suc n) f g h = ap₂ ◌||◌ (h n (le_refl (suc n))) (some-ext n f g (λ c l. h c (omega arith)))

or_right : (a b : Bool) → b ≡ true → (a || b) ≡ true
or_right true b e = refl
or_right false b e = e

-- a number that passes the test
pub some_at : (n : ℕ) (test : ℕ → Bool) (c : ℕ) → c < n → test c ≡ true → some n test ≡ true
unfolding some
some_at zero test c l e = absurd (not-suc-le-zero l)
some_at (suc n) test c l e =
    ⊎_elim (λ h. or_right (test n) (some n test) (some_at n test c h e))
    (λ h. let same : n ≡ c = omega arith in rw (ap test same, e) refl) (below_or_not c n)

-- no number passes the test
pub some-none : (n : ℕ) (test : ℕ → Bool) → ((c : ℕ) → c < n → test c ≡ false) → some n test ≡ false
unfolding some
some-none zero test h = refl
some-none (suc n) test h = rw (h n (le_refl (suc n))) (some-none n test (λ c l. h c (omega arith)))
