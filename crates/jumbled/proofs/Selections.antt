-- Laws of `select`: a range cut in two, tests that agree, tests that nothing passes, how many pass and how large they are; laws of `any_of`, and lengths that are all alike.
use mathlib.Core.Path.{◌≡◌, refl, sym, ap, ap₂, ◌∙◌}
use mathlib.Core.Bool.{Bool, true, false, cond, not, ◌||◌}
use mathlib.Core.List.{List, [], ◌∷◌, ◌++◌}
use mathlib.Core.Logic.{⊎_elim}
use Prim.Native.Nat.{ℕ, zero, suc, ◌+◌, ◌*◌, ◌≤◌, ◌<◌}
use native.Mathlib.Nat.{add-zero, zero-add, add-suc, suc-add, zero-mul, suc-mul}
use native.Mathlib.Omega.{arith}
use lib.Dec.{eqb}
use lib.ListN.{length, get_or}
use borrow.Author.Tests.{eqb-true, not-false}
use Rattle.jumbled.specs.Match.{select}
use Rattle.jumbled.specs.Refusals.{any_of, total}
use Rattle.jumbled.proofs.Sums.{below_or_not}
use Rattle.jumbled.proofs.Admission.{or-false}

pub select-cut : (test : ℕ → Bool) (s a b : ℕ) → select test s (a + b) ≡ select test s a ++ select test (s + a) b
unfolding select
select-cut test s zero b = rw (zero-add b, add-zero s) refl
select-cut test s (suc a) b =
    rw (suc-add a b, add-suc s a, ← suc-add s a) (case (test s) (select-cut test (suc s) a b))
  where
    case : (t : Bool) → select test (suc s) (a + b) ≡ select test (suc s) a ++ select test (suc s + a) b
        → cond t (s ∷ select test (suc s) (a + b)) (select test (suc s) (a + b))
        ≡ cond t (s ∷ select test (suc s) a) (select test (suc s) a) ++ select test (suc s + a) b
    case true e = ap (λ (l : List ℕ). s ∷ l) e
    case false e = e

-- tests that agree on the range
pub select-same : (test test' : ℕ → Bool) (s count : ℕ) → ((i : ℕ) → s ≤ i → i < s + count → test i ≡ test' i) → select test s count ≡ select test' s count
unfolding select
select-same test test' s zero same = refl
select-same test test' s (suc count) same =
    ap₂ (λ (t : Bool) (l : List ℕ). cond t (s ∷ l) l) (same s (omega arith) (omega arith))
    (select-same test test' (suc s) count (λ i least below. same i (omega arith) (omega arith)))

pub select-none : (test : ℕ → Bool) (s count : ℕ) → ((i : ℕ) → s ≤ i → i < s + count → test i ≡ false) → select test s count ≡ []
unfolding select
select-none test s zero none = refl
select-none test s (suc count) none =
    rw (none s (omega arith) (omega arith)) (select-none test (suc s) count (λ i least below. none i (omega arith) (omega arith)))

-- no more than there are in the range
pub select-few : (test : ℕ → Bool) (s count : ℕ) → length (select test s count) ≤ count
unfolding select
select-few test s zero = omega arith
select-few test s (suc count) = pick (test s) (select-few test (suc s) count)
  where
    pick : (t : Bool) → length (select test (suc s) count) ≤ count
        → length (cond t (s ∷ select test (suc s) count) (select test (suc s) count)) ≤ suc count
    pick true h = omega arith
    pick false h = omega arith

-- and each of them is below the range's end
pub select-inside : (test : ℕ → Bool) (s count i : ℕ) → i < length (select test s count) → get_or (select test s count) i 0 < s + count
unfolding select
select-inside test s zero i l = omega arith
select-inside test s (suc count) i l = pick (test s) (select-inside test (suc s) count) i l
  where
    pick : (t : Bool) → ((j : ℕ) → j < length (select test (suc s) count) → get_or (select test (suc s) count) j 0 < suc s + count)
        → (j : ℕ) → j < length (cond t (s ∷ select test (suc s) count) (select test (suc s) count))
        → get_or (cond t (s ∷ select test (suc s) count) (select test (suc s) count)) j 0 < s + suc count
    pick true h zero j-below = omega arith
    pick true h (suc j) j-below = omega (arith, h j (omega arith))
    pick false h j j-below = omega (arith, h j j-below)

-- ---- any_of

or-true : (b : Bool) → (b || true) ≡ true
or-true true = refl
or-true false = refl

module _ (passes : ℕ → Bool) where
  -- one of them passes
  pub any_at : (l : List ℕ) (i : ℕ) → i < length l → passes (get_or l i 0) ≡ true → any_of passes l ≡ true
  unfolding any_of
  any_at [] i h e = absurd (omega arith)
  any_at (x ∷ l) zero h e = rw e refl
  any_at (x ∷ l) (suc i) h e = ap (λ (b : Bool). passes x || b) (any_at l i (omega arith) e) ∙ or-true (passes x)

  -- none does
  pub any_none : (l : List ℕ) → ((i : ℕ) → i < length l → passes (get_or l i 0) ≡ false) → any_of passes l ≡ false
  unfolding any_of
  any_none [] none = refl
  any_none (x ∷ l) none = ap₂ ◌||◌ (none 0 (omega arith)) (any_none l (λ i h. none (suc i) (omega arith)))

  pub none-at : (l : List ℕ) → any_of passes l ≡ false → (i : ℕ) → i < length l → passes (get_or l i 0) ≡ false
  unfolding any_of
  none-at [] e i h = absurd (omega arith)
  none-at (x ∷ l) e zero h = (or-false (passes x) (any_of passes l) e).0
  none-at (x ∷ l) e (suc i) h = none-at l (or-false (passes x) (any_of passes l) e).1 i (omega arith)

  -- none of the first i does, and one more does not
  abbrev pub NoneBefore : List ℕ → ℕ → Type 0
  NoneBefore l i = (j : ℕ) → j < i → passes (get_or l j 0) ≡ false

  pub none-next : (l : List ℕ) (i : ℕ) → NoneBefore l i → passes (get_or l i 0) ≡ false → NoneBefore l (i + 1)
  none-next l i before here j h =
      ⊎_elim (before j) (λ (least : i ≤ j). let same : i ≡ j = omega arith in rw (← same) here) (below_or_not j i)

-- ---- lengths that are all m

abbrev pub Alike : ℕ → List ℕ → Type 0
Alike m lengths = any_of (λ x. not (eqb x m)) lengths ≡ false

module _ (m : ℕ) where
  pub first_alike : (x : ℕ) (lengths : List ℕ) → Alike m (x ∷ lengths) → (x ≡ m) × Alike m lengths
  unfolding any_of
  first_alike x lengths e =
      let both = or-false (not (eqb x m)) (any_of (λ y. not (eqb y m)) lengths) e in
      (eqb-true x m (not-false (eqb x m) both.0), both.1)

  pub total-alike : (lengths : List ℕ) → Alike m lengths → total lengths ≡ length lengths * m
  unfolding total
  total-alike [] e = sym (zero-mul m)
  total-alike (x ∷ lengths) e =
      let both = first_alike x lengths e in
      omega (arith, both.0, total-alike lengths both.1, suc-mul (length lengths) m)
