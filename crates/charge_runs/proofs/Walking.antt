-- A walk over the positions of windows: what is known of their hours after some of the windows, when a run is over, and when a window makes it longer.
use mathlib.Core.Path.{◌≡◌, refl, sym, ap, ◌∙◌}
use mathlib.Core.Bool.{true, false, and-false}
use mathlib.Core.List.{List}
use mathlib.Core.Logic.{⊎_elim}
use Prim.Native.Nat.{ℕ, ◌+◌, ◌-◌, ◌≤◌, ◌<◌}
use native.Mathlib.Nat.{zero-add}
use native.Mathlib.Omega.{arith}
use lib.Dec.{leb}
use lib.ListN.{length, get_or}
use borrow.Author.Tests.{le-leb, lt-leb, lt-ltb, le-ltb}
use Rattle.jumbled.proofs.Sums.{below_or_not}
use Rattle.jumbled.proofs.Selections.{any_at, any_none}
use Rattle.charge_form.specs.Runs.{in_window, marked_by, runs}
use Rattle.charge_form.specs.Charge.{sixes_begun}
use Rattle.charge_form.proofs.Tally.{tally, added, tally-at, over-marked, over-unmarked, over_last, runs-tally, hours-add-up}
use Rattle.charge_runs.specs.Covering.{Coverable, Within, Covers}

module _ (m : ℕ) (listed : List ℕ) where
  -- what all runs of the n hours add: so much is added already, and the `run` hours right before `end` are a run that may go on there
  abbrev pub Adds : (ℕ → ℕ) → (sum run end : ℕ) → Type 0
  Adds adds sum run end = (n : ℕ) → Within m n listed → added adds (runs (marked_by m listed) n) ≡ sum + tally adds (marked_by m listed) run end (n - end)

  -- The first i windows are behind
  pub record Walked (hours sixes run end i : ℕ) : Type 0 where
    pub counted : i ≤ length listed
    pub behind : (j : ℕ) → j < i → get_or listed j 0 + m ≤ end
    pub ahead : (j : ℕ) → i ≤ j → j < length listed → end ≤ get_or listed j 0 + m
    pub hours-few : hours + run ≤ end
    pub sixes-few : sixes + run ≤ end
    pub all-hours : Adds (λ h. h) hours run end
    pub all-sixes : Adds sixes_begun sixes run end

  -- before the first window
  pub walk-starts : Walked 0 0 0 0 0
  walk-starts =
      record {
        counted = omega arith;
        behind = λ j l. absurd (omega arith);
        ahead = λ j l below. omega arith;
        hours-few = omega arith;
        sixes-few = omega arith;
        all-hours = nothing_yet (λ h. h) refl;
        all-sixes = nothing_yet sixes_begun refl;
      }
    where
      nothing_yet : (adds : ℕ → ℕ) → adds 0 ≡ 0 → Adds adds 0 0 0
      nothing_yet adds nothing n within =
          runs-tally adds (marked_by m listed) nothing n ∙ tally-at adds (marked_by m listed) refl refl (omega arith) ∙ sym (zero-add _)

  -- ---- which hours are marked

  held : (i h : ℕ) → i < length listed → get_or listed i 0 ≤ h → h < get_or listed i 0 + m → marked_by m listed h ≡ true
  unfolding marked_by
  held i h below from to =
      any_at (in_window m h) listed i below (rw (le-leb (get_or listed i 0) h from, lt-ltb h (get_or listed i 0 + m) to) refl)

  -- an hour past the windows behind and before those ahead
  between : {i : ℕ} (h : ℕ) → ((j : ℕ) → j < i → get_or listed j 0 + m ≤ h) → ((j : ℕ) → i ≤ j → j < length listed → h < get_or listed j 0) → marked_by m listed h ≡ false
  unfolding marked_by
  between {i} h past before =
      any_none (in_window m h) listed
      (λ j below.
      ⊎_elim (λ (l : j < i). rw (le-ltb h (get_or listed j 0 + m) (past j l)) (and-false (leb (get_or listed j 0) h)))
      (λ (l : i ≤ j). rw (lt-leb (get_or listed j 0) h (before j l below)) refl)
      (below_or_not j i))

  -- ---- the walk

  module _ (coverable : Coverable m listed) where
    not-before : (i j : ℕ) → i ≤ j → j < length listed → get_or listed i 0 ≤ get_or listed j 0
    not-before i j least below =
        ⊎_elim (λ (l : i < j). omega (arith, coverable.ascending i j l below)) (λ (l : j ≤ i). let same : i ≡ j = omega arith in omega (arith, ap (λ (x : ℕ). get_or listed x 0) same))
        (below_or_not i j)

    -- an hour lies between: the run is over
    pub run-over : {hours sixes run end i : ℕ} → Walked hours sixes run end i → i < length listed → end < get_or listed i 0
        → Walked (hours + run) (sixes + sixes_begun run) 0 (get_or listed i 0) i
    run-over {hours} {sixes} {run} {end} {i} w below gap =
        let hours-few = w.hours-few in
        let sixes-few = w.sixes-few in
        record {
          counted = w.counted;
          behind = λ j l. omega (arith, w.behind j l);
          ahead = λ j least inside. omega (arith, not-before i j least inside);
          hours-few = omega arith;
          sixes-few = omega arith;
          all-hours = over (λ h. h) hours refl w.all-hours;
          all-sixes = over sixes_begun sixes refl w.all-sixes;
        }
      where
        unmarked : (h : ℕ) → end ≤ h → h < end + (get_or listed i 0 - end) → marked_by m listed h ≡ false
        unmarked h from to =
            between {i = i} h (λ j l. omega (arith, w.behind j l)) (λ j least inside. omega (arith, not-before i j least inside))

        over : (adds : ℕ → ℕ) (sum : ℕ) → adds 0 ≡ 0 → Adds adds sum run end → Adds adds (sum + adds run) 0 (get_or listed i 0)
        over adds sum nothing so_far n within =
            let room = within i below in
            let hours-left : n - end ≡ get_or listed i 0 - end + (n - get_or listed i 0) = omega arith in
            let next-hour : end + (get_or listed i 0 - end) ≡ get_or listed i 0 = omega arith in
            so_far n within
            ∙ ap (λ (x : ℕ). sum + x)
            (tally-at adds (marked_by m listed) refl refl hours-left
            ∙ over-unmarked adds (marked_by m listed) nothing run end (get_or listed i 0 - end) (n - get_or listed i 0) (omega arith) unmarked
            ∙ ap (λ (x : ℕ). adds run + x) (tally-at adds (marked_by m listed) refl next-hour refl))
            ∙ omega arith

    -- a window that begins in the run, or right after it
    pub run-longer : {hours sixes run end i : ℕ} → Walked hours sixes run end i → i < length listed → get_or listed i 0 ≤ end
        → Walked hours sixes (run + (get_or listed i 0 + m - end)) (get_or listed i 0 + m) (i + 1)
    run-longer {hours} {sixes} {run} {end} {i} w below joins =
        let hours-few = w.hours-few in
        let sixes-few = w.sixes-few in
        let further = w.ahead i (omega arith) below in
        record {
          counted = omega arith;
          behind = λ j l. omega (arith, not-before j i (omega arith) below);
          ahead = λ j least inside. omega (arith, not-before i j (omega arith) inside);
          hours-few = omega arith;
          sixes-few = omega arith;
          all-hours = longer (λ h. h) hours further w.all-hours;
          all-sixes = longer sixes_begun sixes further w.all-sixes;
        }
      where
        longer : (adds : ℕ → ℕ) (sum : ℕ) → end ≤ get_or listed i 0 + m → Adds adds sum run end
            → Adds adds sum (run + (get_or listed i 0 + m - end)) (get_or listed i 0 + m)
        longer adds sum further so_far n within =
            let room = within i below in
            let hours-left : n - end ≡ get_or listed i 0 + m - end + (n - (get_or listed i 0 + m)) = omega arith in
            let next-hour : end + (get_or listed i 0 + m - end) ≡ get_or listed i 0 + m = omega arith in
            so_far n within
            ∙ ap (λ (x : ℕ). sum + x)
            (tally-at adds (marked_by m listed) refl refl hours-left
            ∙ over-marked adds (marked_by m listed) run end (get_or listed i 0 + m - end) (n - (get_or listed i 0 + m)) (λ h from to. held i h below (omega arith) (omega arith))
            ∙ tally-at adds (marked_by m listed) refl next-hour refl)

    -- after the last window
    pub walk_ends : {hours sixes run end i : ℕ} → Walked hours sixes run end i → length listed ≤ i
        → Covers m listed (record { hours = hours + run; sixes = sixes + sixes_begun run })
    walk_ends {hours} {sixes} {run} {end} {i} w all =
        record {
          hours = λ n within. sym (sym (hours-add-up (marked_by m listed) n) ∙ ended (λ h. h) hours refl w.all-hours n within);
          sixes = λ n within. sym (ended sixes_begun sixes refl w.all-sixes n within);
        }
      where
        ended : (adds : ℕ → ℕ) (sum : ℕ) → adds 0 ≡ 0 → Adds adds sum run end → (n : ℕ) → Within m n listed → added adds (runs (marked_by m listed) n) ≡ sum + adds run
        ended adds sum nothing so_far n within =
            so_far n within
            ∙ ap (λ (x : ℕ). sum + x)
            (over_last adds (marked_by m listed) nothing run end (n - end)
            (λ h from to. between {i = i} h (λ j l. omega (arith, w.behind j l)) (λ j least inside. absurd (omega arith))))
