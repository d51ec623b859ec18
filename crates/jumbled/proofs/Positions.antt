-- That `positions` are the window starts of matching windows, each of them and no other number, in ascending order; and how many inspections
-- the forward methods make (document 01, "What a match is" and "The five methods", 1 and 5).
use mathlib.Core.Path.{◌≡◌, refl, sym, ap, ◌∙◌}
use mathlib.Core.Bool.{Bool, true, false, cond, false≢true}
use mathlib.Core.List.Memᴰ
use mathlib.Core.List.{List, [], ◌∷◌, Memᴰ}
use mathlib.Core.Logic.{◌↔◌, ⊎_elim}
use Prim.Native.Nat.{ℕ, zero, suc, ◌+◌, ◌-◌, ◌*◌, ◌≤◌, ◌<◌}
use native.Mathlib.Nat.{le_refl, le_trans, mul-suc}
use native.Mathlib.Omega.{arith}
use lib.ListN.{length, get_or, get_or-eq_default}
use borrow.Author.Tests.{leb-true, le-leb}
use Rattle.jumbled.specs.Match.{excess, matches, window, starts, select, positions}
use Rattle.jumbled.specs.Scan.{nothing, Judged, unverified, forward, driven}
use Rattle.jumbled.specs.Steps.{count_judged, candidate, verified, hcam_judged, verified_starts, way_of, steps, steps_into}
use Rattle.jumbled.proofs.Sums.{below_or_not}
use Rattle.jumbled.proofs.Cuts.{driven-within, driven-none, through-room}
use Rattle.jumbled.proofs.Selections.{select-few, select-inside}

-- Each number is over those before it, and none is below `least`
pub data Ascending : ℕ → List ℕ → Type 0 where
  none : {least : ℕ} → Ascending least []
  next : {least s : ℕ} {more : List ℕ} → least ≤ s → Ascending (suc s) more → Ascending least (s ∷ more)

pub weaker : {a : ℕ} {l : List ℕ} (b : ℕ) → b ≤ a → Ascending a l → Ascending b l
weaker b h none = none
weaker b h (next g more) = next (le_trans h g) more

pub select-ascending : (test : ℕ → Bool) (s count : ℕ) → Ascending s (select test s count)
unfolding select
select-ascending test s zero = none
select-ascending test s (suc count) = case (test s) (select-ascending test (suc s) count)
  where
    case : (t : Bool) → Ascending (suc s) (select test (suc s) count) → Ascending s (cond t (s ∷ select test (suc s) count) (select test (suc s) count))
    case true more = next (le_refl s) more
    case false more = weaker s (omega arith) more

-- A number is selected exactly where it is in the range and passes the test
pub record Picked (test : ℕ → Bool) (s count x : ℕ) : Type 0 where
  pub least : s ≤ x
  pub below : x < s + count
  pub passes : test x ≡ true

pub picked : (test : ℕ → Bool) (s count x : ℕ) → Memᴰ x (select test s count) → Picked test s count x
unfolding select
picked test s zero x mem = absurd (Memᴰ.not-nil mem)
picked test s (suc count) x mem = case (test s) refl mem (picked test (suc s) count x)
  where
    later : Picked test (suc s) count x → Picked test s (suc count) x
    later p = record { least = omega (arith, p.least); below = omega (arith, p.below); passes = p.passes }

    case : (t : Bool) → test s ≡ t → Memᴰ x (cond t (s ∷ select test (suc s) count) (select test (suc s) count))
        → (Memᴰ x (select test (suc s) count) → Picked test (suc s) count x) → Picked test s (suc count) x
    case true e inside rest =
        ⊎_elim (λ (q : x ≡ s). record { least = omega arith; below = omega arith; passes = ap test q ∙ e }) (λ i. later (rest i))
        (Memᴰ.cases_cons inside)
    case false e inside rest = later (rest inside)

pub selected : (test : ℕ → Bool) (s count x : ℕ) → Picked test s count x → Memᴰ x (select test s count)
unfolding select
selected test s zero x p = absurd (let l = p.least in let b = p.below in omega arith)
selected test s (suc count) x p =
    ⊎_elim (λ (l : s < x). later (test s) (selected test (suc s) count x (record { least = l; below = omega (arith, p.below); passes = p.passes })))
    (λ (l : x ≤ s). let same : x ≡ s = omega (arith, p.least) in here same (test s) (ap test (sym same) ∙ p.passes)) (below_or_not s x)
  where
    later : (t : Bool) → Memᴰ x (select test (suc s) count) → Memᴰ x (cond t (s ∷ select test (suc s) count) (select test (suc s) count))
    later true mem = Memᴰ.tail mem
    later false mem = mem

    here : x ≡ s → (t : Bool) → t ≡ true → Memᴰ x (cond t (s ∷ select test (suc s) count) (select test (suc s) count))
    here same true e = Memᴰ.head same
    here same false e = absurd (false≢true e)

-- ---- the listed positions

module _ (P : List ℕ) (k : ℕ) (T : List ℕ) where
  pub ascending : Ascending 0 (positions P k T)
  unfolding positions
  ascending = select-ascending (λ s. matches P k (window (length P) T s)) 0 (starts (length P) T)

  pub listed : (s : ℕ) → Memᴰ s (positions P k T) ↔ ((s + length P ≤ length T) × (excess P (window (length P) T s) ≤ k))
  unfolding positions matches
  listed s = (from, to)
    where
      test : ℕ → Bool
      test x = matches P k (window (length P) T x)

      from : Memᴰ s (positions P k T) → (s + length P ≤ length T) × (excess P (window (length P) T s) ≤ k)
      from mem =
          let p : Picked test 0 (starts (length P) T) s = picked test 0 (starts (length P) T) s mem in
          (omega (arith, p.below), leb-true (excess P (window (length P) T s)) k p.passes)

      to : (s + length P ≤ length T) × (excess P (window (length P) T s) ≤ k) → Memᴰ s (positions P k T)
      to h =
          selected test 0 (starts (length P) T) s
          (record { least = omega arith; below = omega (arith, h.0); passes = le-leb (excess P (window (length P) T s)) k h.1 })

-- ---- the forward methods make n inspections, and those of the verified windows besides; none where n < m

-- where verifying a window takes c inspections, and the windows that pass the test are verified
pub forward-inspections : (judged : List ℕ → Judged) (test : List ℕ → Bool) (c : ℕ) → ((W : List ℕ) → (judged W).verification ≡ cond (test W) c 0)
    → (m : ℕ) (T : List ℕ) (s left cost : ℕ)
    → (forward judged m T s (suc left) cost).inspections ≡ cost + left + c * length (select (λ i. test (window m T i)) s (suc left))
unfolding forward select
forward-inspections judged test c by-test m T s zero cost =
    rw (by-test (window m T s)) (case (test (window m T s)))
  where
    case : (t : Bool) → cost + cond t c 0 + 0 ≡ cost + 0 + c * length (cond t (s ∷ []) [])
    case true = omega arith
    case false = omega arith
forward-inspections judged test c by-test m T s (suc left) cost =
    rw (by-test (window m T s), forward-inspections judged test c by-test m T (suc s) left 1) (case (test (window m T s)))
  where
    later : List ℕ
    later = select (λ i. test (window m T i)) (suc s) (suc left)

    case : (t : Bool) → cost + cond t c 0 + (1 + left + c * length later) ≡ cost + suc left + c * length (cond t (s ∷ later) later)
    case true = omega (arith, mul-suc c (length later))
    case false = omega arith

-- what verifying a window of method 5 takes
pub hcam-verification : (P W : List ℕ) → (hcam_judged P W).verification ≡ cond (verified P W) (length P) 0
unfolding hcam_judged
hcam-verification P W = case (verified P W)
  where
    case : (t : Bool) → (cond {A = Judged} t (record { listed = matches P 0 W; verification = length P }) (unverified (candidate P W))).verification ≡ cond t (length P) 0
    case true = refl
    case false = refl

all-starts : (P T : List ℕ) → length P ≤ length T → starts (length P) T ≡ suc (length T - length P)
all-starts P T h = omega arith

-- method 1 verifies nothing: n
pub count-inspections : (P : List ℕ) (k : ℕ) (T : List ℕ) → length P ≤ length T → (steps P k 1 T).inspections ≡ length T
unfolding steps way_of count_judged
count-inspections P k T h =
    rw (all-starts P T h)
    (forward-inspections (count_judged P k) (λ W. false) 0 (λ W. refl) (length P) T 0 (length T - length P) (length P) ∙ omega arith)

-- method 5: n, and m for each verified window
pub hcam-inspections : (P : List ℕ) (k : ℕ) (T : List ℕ) → length P ≤ length T
    → (steps P k 5 T).inspections ≡ length T + length P * length (verified_starts P T)
unfolding steps way_of verified_starts
hcam-inspections P k T h =
    rw (all-starts P T h)
    (forward-inspections (hcam_judged P) (verified P) (length P) (hcam-verification P) (length P) T 0 (length T - length P) (length P) ∙ omega arith)

-- no method lists or inspects anything where no window starts
pub no-windows : (P : List ℕ) (k method : ℕ) (T : List ℕ) → starts (length P) T ≡ 0 → steps P k method T ≡ nothing
unfolding steps
no-windows P k method T empty = driven-none (way_of P k method) (length P) T 0 (starts (length P) T) empty

-- A search that has a place for each window start goes through all of them
pub steps-room : (places : ℕ) (P : List ℕ) (k method : ℕ) (T : List ℕ) → starts (length P) T ≤ places → steps_into places P k method T ≡ steps P k method T
unfolding steps_into steps
steps-room places P k method T room =
    ap (driven (way_of P k method) (length P) T 0) (through-room (driven-within (way_of P k method) (length P) T 0 (starts (length P) T)) places room)

-- No window starts where n < m
pub no-inspections : (P : List ℕ) (k method : ℕ) (T : List ℕ) → length T < length P → steps P k method T ≡ nothing
no-inspections P k method T h = no-windows P k method T (omega arith)

-- ---- the positions are few, and small

pub positions-few : (P : List ℕ) (k : ℕ) (T : List ℕ) → length (positions P k T) ≤ suc (length T) - length P
unfolding positions
positions-few P k T = select-few _ 0 (suc (length T) - length P)

-- the window at a position lies in the text
pub positions-inside : (P : List ℕ) (k : ℕ) (T : List ℕ) (i : ℕ) → i < length (positions P k T) → get_or (positions P k T) i 0 + length P ≤ length T
unfolding positions
positions-inside P k T i l =
    let below = select-inside (λ s. matches P k (window (length P) T s)) 0 (suc (length T) - length P) i l in
    omega arith

pub positions-below : (P : List ℕ) (k : ℕ) (T : List ℕ) (n : ℕ) → length T < n → (i : ℕ) → get_or (positions P k T) i 0 < n
positions-below P k T n l i =
    ⊎_elim (λ (inside : i < length (positions P k T)). omega (arith, positions-inside P k T i inside))
    (λ (outside : length (positions P k T) ≤ i). omega (arith, get_or-eq_default (positions P k T) 0 outside)) (below_or_not i (length (positions P k T)))
