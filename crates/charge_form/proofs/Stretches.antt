-- Laws of a stretch of marked hours, and of where a run begins.
use mathlib.Core.Path.{◌≡◌, refl, sym, ap, ◌∙◌}
use mathlib.Core.Bool.{Bool, true, false, cond, not, ◌&&◌, and-true, true≢false}
use mathlib.Core.List.{List, ◌∷◌, map}
use mathlib.Core.Logic.{⊎_elim}
use Prim.Native.Nat.{ℕ, zero, suc, ◌+◌, ◌≤◌, ◌<◌}
use native.Mathlib.Nat.{add-zero}
use native.Mathlib.Omega.{arith}
use borrow.Author.Tests.{not-true}
use Rattle.jumbled.specs.Match.{select}
use Rattle.jumbled.proofs.Sums.{below_or_not}
use Rattle.charge_form.specs.Runs.{stretch, begins, Run, run_from}

pub both : (a b : Bool) → (a && b) ≡ true → (a ≡ true) × (b ≡ true)
both true b e = (refl, e)
both false b e = absurd (true≢false (sym e))

-- ---- a stretch

module _ (marks : ℕ → Bool) where
  pub stretch-on : (s left : ℕ) → marks s ≡ true → stretch marks s (suc left) ≡ suc (stretch marks (suc s) left)
  unfolding stretch
  stretch-on s left e = rw e refl

  pub stretch-off : (s left : ℕ) → marks s ≡ false → stretch marks s (suc left) ≡ 0
  unfolding stretch
  stretch-off s left e = rw e refl

  pub stretch-few : (s left : ℕ) → stretch marks s left ≤ left
  unfolding stretch
  stretch-few s zero = omega arith
  stretch-few s (suc left) = case (marks s) (stretch-few (suc s) left)
    where
      case : (m : Bool) → stretch marks (suc s) left ≤ left → cond m (suc (stretch marks (suc s) left)) 0 ≤ suc left
      case true h = omega arith
      case false h = omega arith

  -- its hours are marked,
  pub stretch-marked : (s left h : ℕ) → s ≤ h → h < s + stretch marks s left → marks h ≡ true
  unfolding stretch
  stretch-marked s zero h from to = absurd (omega arith)
  stretch-marked s (suc left) h from to = case (marks s) refl to (stretch-marked (suc s) left h)
    where
      case : (m : Bool) → marks s ≡ m → h < s + cond m (suc (stretch marks (suc s) left)) 0 → (suc s ≤ h → h < suc s + stretch marks (suc s) left → marks h ≡ true)
          → marks h ≡ true
      case true e inside rest =
          ⊎_elim (λ (l : s < h). rest l (omega arith)) (λ (l : h ≤ s). let same : h ≡ s = omega arith in ap marks same ∙ e) (below_or_not s h)
      case false e inside rest = absurd (omega arith)

  -- and the one after it is not
  pub stretch-ends : (s left : ℕ) → stretch marks s left < left → marks (s + stretch marks s left) ≡ false
  unfolding stretch
  stretch-ends s zero short = absurd (omega arith)
  stretch-ends s (suc left) short = case (marks s) refl short (stretch-ends (suc s) left)
    where
      case : (m : Bool) → marks s ≡ m → cond m (suc (stretch marks (suc s) left)) 0 < suc left
          → (stretch marks (suc s) left < left → marks (suc s + stretch marks (suc s) left) ≡ false)
          → marks (s + cond m (suc (stretch marks (suc s) left)) 0) ≡ false
      case true e shorter rest = let further : s + suc (stretch marks (suc s) left) ≡ suc s + stretch marks (suc s) left = omega arith in ap marks further ∙ rest (omega arith)
      case false e shorter rest = ap marks (add-zero s) ∙ e

  -- hours that are all marked belong to the stretch that begins with them,
  pub stretch-has : (s d left : ℕ) → d ≤ left → ((h : ℕ) → s ≤ h → h < s + d → marks h ≡ true) → d ≤ stretch marks s left
  stretch-has s d left few all =
      ⊎_elim (λ (l : stretch marks s left < d).
      absurd (true≢false (sym (all (s + stretch marks s left) (omega arith) (omega arith)) ∙ stretch-ends s left (omega arith))))
      (λ (l : d ≤ stretch marks s left). l) (below_or_not (stretch marks s left) d)

  -- and are all of it, where the hour after them is not marked
  pub stretch-is : (s d left : ℕ) → d ≤ left → ((h : ℕ) → s ≤ h → h < s + d → marks h ≡ true) → (d < left → marks (s + d) ≡ false) → stretch marks s left ≡ d
  stretch-is s d left few all ends =
      ⊎_elim (λ (l : d < stretch marks s left).
      absurd (true≢false (sym (stretch-marked s left (s + d) (omega arith) (omega arith)) ∙ ends (omega (arith, stretch-few s left)))))
      (λ (l : stretch marks s left ≤ d). omega (arith, stretch-has s d left few all)) (below_or_not d (stretch marks s left))

  -- ---- where a run begins

  pub begins-marked : (s : ℕ) → begins marks s ≡ true → marks s ≡ true
  unfolding begins
  begins-marked zero e = e
  begins-marked (suc s) e = (both (marks (suc s)) (not (marks s)) e).0

  pub begins-after : (s : ℕ) → begins marks (suc s) ≡ true → marks s ≡ false
  unfolding begins
  begins-after s e = not-true (marks s) (both (marks (suc s)) (not (marks s)) e).1

  pub begins-at : (s : ℕ) → marks s ≡ true → ((h : ℕ) → suc h ≡ s → marks h ≡ false) → begins marks s ≡ true
  unfolding begins
  begins-at zero e unmarked = e
  begins-at (suc s) e unmarked = rw (e, unmarked s refl) refl

  -- whether the hour before s is marked; before the first one there is none
  unfoldable pub marked-before : ℕ → Bool
  marked-before zero = false
  marked-before (suc s) = marks s

  pub begins-by : (s : ℕ) → begins marks s ≡ (marks s && not (marked-before s))
  unfolding begins marked-before
  begins-by zero = sym (and-true (marks zero))
  begins-by (suc s) = refl

  -- ---- the runs of n hours that begin at one of `left` hours from s on

  abbrev pub runs-from : ℕ → ℕ → ℕ → List Run
  runs-from n s left = map (run_from marks n) (select (begins marks) s left)

  pub run-begins : (n s left : ℕ) → begins marks s ≡ true → runs-from n s (suc left) ≡ run_from marks n s ∷ runs-from n (suc s) left
  unfolding select
  run-begins n s left e = rw e refl

  pub none-begins : (n s left : ℕ) → begins marks s ≡ false → runs-from n s (suc left) ≡ runs-from n (suc s) left
  unfolding select
  none-begins n s left e = rw e refl
