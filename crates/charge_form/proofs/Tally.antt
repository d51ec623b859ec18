-- A sum over all runs, hour by hour: a run that is not over grows with a marked hour, and is over with one that is not marked. What each run adds to the
-- sum is any function of its hours: the hours themselves, or how often six of them are begun.
use mathlib.Core.Path.{◌≡◌, refl, sym, ap, ap₂, ◌∙◌}
use mathlib.Core.Bool.{Bool, true, false, cond, true≢false}
use mathlib.Core.List.{List, ◌∷◌, map}
use Prim.Native.Nat.{ℕ, zero, suc, ◌+◌, ◌-◌, ◌*◌, ◌≤◌, ◌<◌}
use native.Mathlib.Nat.{zero-add}
use native.Mathlib.Omega.{arith}
use lib.ListN.{length}
use Rattle.jumbled.specs.Match.{select}
use Rattle.jumbled.specs.Refusals.{total}
use Rattle.charge_form.specs.Runs.{stretch, Run, runs}
use Rattle.charge_form.specs.Charge.{sixes_begun}
use Rattle.charge_form.proofs.Stretches.{stretch-on, stretch-off, marked-before, begins-by, runs-from, run-begins, none-begins}

-- What is added from the hour s on, where `left` hours are left and a run that is not over yet has grown to the `grown` hours right before s
unfoldable pub tally : (ℕ → ℕ) → (ℕ → Bool) → ℕ → ℕ → ℕ → ℕ
tally adds marks grown s zero = adds grown
tally adds marks grown s (suc left) = cond (marks s) (tally adds marks (suc grown) (suc s) left) (adds grown + tally adds marks 0 (suc s) left)

-- What runs add
abbrev pub added : (ℕ → ℕ) → List Run → ℕ
added adds rs = total (map (λ r. adds r.hours) rs)

module _ (adds : ℕ → ℕ) (marks : ℕ → Bool) where
  -- at the same numbers, however they are written
  pub tally-at : {grown grown' s s' left left' : ℕ} → grown ≡ grown' → s ≡ s' → left ≡ left' → tally adds marks grown s left ≡ tally adds marks grown' s' left'
  tally-at same-run same-hour same_left = cc

  tally-marked : (grown s left : ℕ) → marks s ≡ true → tally adds marks grown s (suc left) ≡ tally adds marks (suc grown) (suc s) left
  unfolding tally
  tally-marked grown s left e = rw e refl

  tally-unmarked : (grown s left : ℕ) → marks s ≡ false → tally adds marks grown s (suc left) ≡ adds grown + tally adds marks 0 (suc s) left
  unfolding tally
  tally-unmarked grown s left e = rw e refl

  -- ---- a stretch of hours that are all marked, or all not

  pub over-marked : (grown s d left : ℕ) → ((h : ℕ) → s ≤ h → h < s + d → marks h ≡ true)
      → tally adds marks grown s (d + left) ≡ tally adds marks (grown + d) (s + d) left
  over-marked grown s zero left all = tally-at (omega arith) (omega arith) (omega arith)
  over-marked grown s (suc d) left all =
      tally-at refl refl (omega arith) ∙ tally-marked grown s (d + left) (all s (omega arith) (omega arith))
      ∙ over-marked (suc grown) (suc s) d left (λ h from to. all h (omega arith) (omega arith))
      ∙ tally-at (omega arith) (omega arith) refl

  module _ (nothing : adds 0 ≡ 0) where
    over_none : (s d left : ℕ) → ((h : ℕ) → s ≤ h → h < s + d → marks h ≡ false) → tally adds marks 0 s (d + left) ≡ tally adds marks 0 (s + d) left
    over_none s zero left all = tally-at refl (omega arith) (omega arith)
    over_none s (suc d) left all =
        tally-at refl refl (omega arith) ∙ tally-unmarked 0 s (d + left) (all s (omega arith) (omega arith))
        ∙ ap (λ (x : ℕ). x + tally adds marks 0 (suc s) (d + left)) nothing ∙ zero-add _
        ∙ over_none (suc s) d left (λ h from to. all h (omega arith) (omega arith))
        ∙ tally-at refl (omega arith) refl

    -- the run is over
    pub over-unmarked : (grown s d left : ℕ) → 0 < d → ((h : ℕ) → s ≤ h → h < s + d → marks h ≡ false)
        → tally adds marks grown s (d + left) ≡ adds grown + tally adds marks 0 (s + d) left
    over-unmarked grown s zero left some all = absurd (omega arith)
    over-unmarked grown s (suc d) left some all =
        tally-at refl refl (omega arith) ∙ tally-unmarked grown s (d + left) (all s (omega arith) (omega arith))
        ∙ ap (λ (x : ℕ). adds grown + x)
        (over_none (suc s) d left (λ h from to. all h (omega arith) (omega arith)) ∙ tally-at refl (omega arith) refl)

    -- and none comes after it
    pub over_last : (grown s d : ℕ) → ((h : ℕ) → s ≤ h → h < s + d → marks h ≡ false) → tally adds marks grown s d ≡ adds grown
    unfolding tally
    over_last grown s zero all = refl
    over_last grown s (suc d) all =
        let rest = over_last 0 (suc s) d (λ h from to. all h (omega arith) (omega arith)) in
        tally-unmarked grown s d (all s (omega arith) (omega arith)) ∙ omega (arith, nothing, rest)

    -- ---- the runs

    -- a run that has grown before s goes on with the stretch there; the others begin from s on
    abbrev to-come : ℕ → ℕ → ℕ → ℕ → Bool → ℕ
    to-come n grown s left t = cond t (adds (grown + stretch marks s left)) 0 + added adds (runs-from marks n s left)

    at-the-end : (n grown s : ℕ) (t : Bool) → (t ≡ false → grown ≡ 0) → tally adds marks grown s 0 ≡ to-come n grown s 0 t
    unfolding tally stretch select total
    at-the-end n grown s true none = let same : grown ≡ grown + 0 = omega arith in ap adds same ∙ omega arith
    at-the-end n grown s false none = ap adds (none refl) ∙ nothing

    -- one hour, with what is known of those after it
    hour : (n grown s left : ℕ) → s + suc left ≡ n → (m : Bool) → marks s ≡ m → (t : Bool) → marked-before marks s ≡ t → (t ≡ false → grown ≡ 0)
        → ((longer : ℕ) → (m ≡ false → longer ≡ 0) → tally adds marks longer (suc s) left ≡ to-come n longer (suc s) left m)
        → tally adds marks grown s (suc left) ≡ to-come n grown s (suc left) t
    unfolding total
    hour n grown s left at true e true f none rest =
        tally-marked grown s left e ∙ rest (suc grown) (λ q. absurd (true≢false q))
        ∙ ap₂ (λ (a b : ℕ). adds a + b)
        (omega (arith, stretch-on marks s left e))
        (ap (added adds) (sym (none-begins marks n s left (begins-by marks s ∙ rw (e, f) refl))))
    hour n grown s left at true e false f none rest =
        tally-marked grown s left e ∙ rest (suc grown) (λ q. absurd (true≢false q))
        ∙ ap (λ (a : ℕ). adds a + added adds (runs-from marks n (suc s) left))
        (omega (arith, none refl, stretch-on marks s left e, ap (stretch marks s) (let more : n - s ≡ suc left = omega arith in more)))
        ∙ ap (added adds) (sym (run-begins marks n s left (begins-by marks s ∙ rw (e, f) refl))) ∙ sym (zero-add _)
    hour n grown s left at false e t f none rest =
        tally-unmarked grown s left e
        ∙ ap₂ ◌+◌ (over t none) (rest 0 (λ q. refl) ∙ zero-add _ ∙ ap (added adds) (sym (none-begins marks n s left (begins-by marks s ∙ rw e refl))))
      where
        over : (t : Bool) → (t ≡ false → grown ≡ 0) → adds grown ≡ cond t (adds (grown + stretch marks s (suc left))) 0
        over true none = ap adds (omega (arith, stretch-off marks s left e))
        over false none = ap adds (none refl) ∙ nothing

    hour-by-hour : (n grown s left : ℕ) → s + left ≡ n → (marked-before marks s ≡ false → grown ≡ 0)
        → tally adds marks grown s left ≡ to-come n grown s left (marked-before marks s)
    unfolding marked-before
    hour-by-hour n grown s zero at none = at-the-end n grown s (marked-before marks s) none
    hour-by-hour n grown s (suc left) at none =
        hour n grown s left at (marks s) refl (marked-before marks s) refl none (λ longer q. hour-by-hour n longer (suc s) left (omega arith) q)

    -- all runs
    pub runs-tally : (n : ℕ) → added adds (runs marks n) ≡ tally adds marks 0 0 n
    unfolding runs marked-before
    runs-tally n = sym (hour-by-hour n 0 0 n (zero-add n) (λ q. refl) ∙ zero-add _)

-- ---- how much that is

-- the hours of all runs are the marked hours
tally-hours : (marks : ℕ → Bool) (grown s left : ℕ) → tally (λ hours. hours) marks grown s left ≡ grown + length (select marks s left)
unfolding tally select
tally-hours marks grown s zero = omega arith
tally-hours marks grown s (suc left) = case (marks s) (tally-hours marks (suc grown) (suc s) left) (tally-hours marks 0 (suc s) left)
  where
    case : (m : Bool) → tally (λ hours. hours) marks (suc grown) (suc s) left ≡ suc grown + length (select marks (suc s) left)
        → tally (λ hours. hours) marks 0 (suc s) left ≡ 0 + length (select marks (suc s) left)
        → cond m (tally (λ hours. hours) marks (suc grown) (suc s) left) (grown + tally (λ hours. hours) marks 0 (suc s) left)
        ≡ grown + length (cond m (s ∷ select marks (suc s) left) (select marks (suc s) left))
    case true longer over = omega arith
    case false longer over = omega arith

pub hours-add-up : (marks : ℕ → Bool) (n : ℕ) → added (λ hours. hours) (runs marks n) ≡ length (select marks 0 n)
hours-add-up marks n = runs-tally (λ hours. hours) marks refl n ∙ tally-hours marks 0 0 n ∙ zero-add _

-- every run but the last is followed by an hour that is not marked, so that no more sixes are begun than every second hour has a run
tally-sixes : (marks : ℕ → Bool) (grown s left : ℕ) → 2 * tally sixes_begun marks grown s left ≤ grown + left + 1
unfolding tally
tally-sixes marks grown s zero = omega arith
tally-sixes marks grown s (suc left) = case (marks s) (tally-sixes marks (suc grown) (suc s) left) (tally-sixes marks 0 (suc s) left)
  where
    case : (m : Bool) → 2 * tally sixes_begun marks (suc grown) (suc s) left ≤ suc grown + left + 1 → 2 * tally sixes_begun marks 0 (suc s) left ≤ 0 + left + 1
        → 2 * cond m (tally sixes_begun marks (suc grown) (suc s) left) (sixes_begun grown + tally sixes_begun marks 0 (suc s) left) ≤ grown + suc left + 1
    case true longer over = omega arith
    case false longer over = omega arith

pub sixes-few : (marks : ℕ → Bool) (n : ℕ) → 2 * added sixes_begun (runs marks n) ≤ n + 1
sixes-few marks n = omega (arith, runs-tally sixes_begun marks refl n, tally-sixes marks 0 0 n)
