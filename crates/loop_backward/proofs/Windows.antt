-- The loop over window starts, whatever scans a window: what holds where a window is begun, and how a scanned window takes it on.
use mathlib.Core.Path.{◌≡◌, refl, ap, ◌∙◌}
use mathlib.Core.Bool.{true, false}
use mathlib.Core.List.{List, ◌∷◌, ◌++◌}
use mathlib.Core.Logic.{◌⊎◌, ⊎_elim}
use Prim.Native.Nat.{ℕ, suc, ◌+◌, ◌-◌, ◌*◌, ◌≤◌, ◌<◌, min}
use native.Mathlib.Omega.{arith}
use lib.ListN.{length, set, length-set}
use Rattle.jumbled.specs.Match.{window}
use Rattle.jumbled.specs.Scan.{Result, Scanned, backward, standing}
use Rattle.jumbled.proofs.Sums.{below_or_not}
use Rattle.jumbled.proofs.Cuts.{◌then◌, backward-cut, backward-at, backward-within, standing-cut, standing-at}
use Rattle.lent.specs.declared.Range.{Range}
use Rattle.lent.specs.Loops.{passed, Listed}
use Rattle.lent.proofs.Listing.{share, listed-none, listed-skip, listed_more, passed_none, passed-room, passed-all, passed-last}
use Rattle.loop_backward.specs.Ranges.{gone, RangeScanned}
use Rattle.loop_backward.specs.declared.Reached.{Reached}

module _ (scanned : List ℕ → Scanned) (m : ℕ) (T : List ℕ) (range : Range) where
  -- What the windows before s yield. A window start past the end is one that the last stop leads to.
  abbrev sofar : ℕ → Result
  sofar s = backward scanned m T range.first (min s range.end - range.first) 0

  -- the positions of all of them
  abbrev all : List ℕ
  all = (backward scanned m T range.first (range.end - range.first) 0).occurrences

  module _ (before : List ℕ) where
    -- The windows before s were scanned or passed over, and where the list is full, the last of them took its last place
    pub record Going (s at inspections : ℕ) (after : List ℕ) : Type 0 where
      pub listed : Listed (sofar s) range before after at inspections
      pub stands : standing scanned m T range.first (min s range.end - range.first) 0 ≡ s - range.end
      pub same_length : length after ≡ length before
      pub full : length before ≤ at → (s ≤ range.end) × (passed range before all ≡ s - range.first)
      pub ordered : range.first ≤ range.end
      pub begun : range.first ≤ s
      pub counted : inspections ≤ 128 * (s - range.first)

    pub going-first : range.first ≤ range.end → Going range.first range.at 0 before
    unfolding backward standing
    going-first ordered =
        let none : min range.first range.end - range.first ≡ 0 = omega arith in
        record {
          listed = rw none (listed-none range before);
          stands = rw none (omega arith);
          same_length = refl;
          full = λ full. (ordered, passed_none range before all full ∙ omega arith);
          ordered = ordered;
          begun = omega arith;
          counted = omega arith;
        }

module _ {scanned : List ℕ → Scanned} {m : ℕ} {T : List ℕ} {range : Range} {before : List ℕ} {s at inspections : ℕ} {after : List ℕ}
    (g : Going scanned m T range before s at inspections after) where
  -- a window is begun, and the list has a place for it
  module _ (inside : s < range.end) (place : at < length after) where
    least : min s range.end ≡ s
    least = omega arith

    here : range.first + (s - range.first) ≡ s
    here = omega (arith, g.begun)

    stood : standing scanned m T range.first (s - range.first) 0 ≡ 0
    stood = rw least at g.stands ∙ omega arith

    -- the windows before s, and then those from s on
    cut : (more : ℕ) → backward scanned m T range.first (s - range.first + more) 0 ≡ sofar scanned m T range s then backward scanned m T s more 0
    cut more = backward-cut scanned m T range.first (s - range.first) more 0 ∙ rw (here, stood, least) refl

    -- the scan w of the window at s leads to next-s
    module _ (w : Scanned) (e : scanned (window m T s) ≡ w) (next-s : ℕ) (to : next-s ≡ suc s + w.offset) where
      -- how many window starts it passes over before the end
      over : ℕ
      over = min next-s range.end - suc s

      over-to : min next-s range.end - range.first ≡ s - range.first + suc over
      unfolding over
      over-to = omega (arith, g.begun)

      over-all : over - w.offset ≡ 0
      unfolding over
      over-all = omega arith

      past_end : w.offset - over ≡ next-s - range.end
      unfolding over
      past_end = omega arith

      next : sofar scanned m T range next-s ≡ sofar scanned m T range s then share w.listed s w.inspections
      unfolding backward
      next =
          rw (over-to, cut (suc over))
          (ap (λ (r : Result). sofar scanned m T range s then r) (backward-at scanned m T s over ∙ rw (e, over-all) refl))

      next-stands : standing scanned m T range.first (min next-s range.end - range.first) 0 ≡ next-s - range.end
      unfolding standing
      next-stands =
          rw (over-to, standing-cut scanned m T range.first (s - range.first) (suc over) 0, here, stood)
          (standing-at scanned m T s over ∙ rw (e, over-all) past_end)

    -- a stop at the byte that stands d places after s
    pub going-stop : (d window_inspections : ℕ) → window_inspections ≤ 128 → scanned (window m T s) ≡ record { listed = false; offset = d; inspections = window_inspections }
        → Going scanned m T range before (s + d + 1) at (inspections + window_inspections) after
    going-stop d window_inspections few e =
        let w : Scanned = record { listed = false; offset = d; inspections = window_inspections } in
        record {
          listed = rw (next w e (s + d + 1) (omega arith)) (listed-skip range before (sofar scanned m T range s) g.listed s window_inspections);
          stands = next-stands w e (s + d + 1) (omega arith);
          same_length = g.same_length;
          full = λ full. absurd (omega (arith, g.same_length));
          ordered = g.ordered;
          begun = omega (arith, g.begun);
          counted = omega (arith, g.begun, g.counted);
        }

    -- a match at s
    pub going-match : (window_inspections : ℕ) → window_inspections ≤ 128 → scanned (window m T s) ≡ record { listed = true; offset = 0; inspections = window_inspections }
        → Going scanned m T range before (s + 1) (at + 1) (inspections + window_inspections) (set after at (range.base + s))
    going-match window_inspections few e =
        let w : Scanned = record { listed = true; offset = 0; inspections = window_inspections } in
        record {
          listed =
              rw (next w e (s + 1) (omega arith))
              (listed_more range before (sofar scanned m T range s) g.listed s window_inspections (omega (arith, g.same_length, g.listed.next_place)));
          stands = next-stands w e (s + 1) (omega arith);
          same_length = length-set after at (range.base + s) ∙ g.same_length;
          full = λ full. (omega arith, last full);
          ordered = g.ordered;
          begun = omega (arith, g.begun);
          counted = omega (arith, g.begun, g.counted);
        }
      where
        rest : Result
        rest = backward scanned m T (suc s + 0) (range.end - suc s - 0) 0

        split : all scanned m T range ≡ (sofar scanned m T range s).occurrences ++ (s ∷ rest.occurrences)
        split =
            let more : range.end - range.first ≡ s - range.first + suc (range.end - suc s) = omega (arith, g.begun) in
            ap (λ (n : ℕ). (backward scanned m T range.first n 0).occurrences) more
            ∙ ap (λ (r : Result). r.occurrences) (cut (suc (range.end - suc s)))
            ∙ ap (λ (r : Result). (sofar scanned m T range s).occurrences ++ r.occurrences) (backward-at scanned m T s (range.end - suc s))
            ∙ rw e refl

        -- the list's last place is taken
        last : length before ≤ at + 1 → passed range before (all scanned m T range) ≡ s + 1 - range.first
        last full =
            passed-last range before (all scanned m T range) g.listed s rest.occurrences split (omega (arith, g.same_length)) full ∙ omega arith

  -- no window start is left, or no place
  pub going_end : (range.end ≤ s) ⊎ (length after ≤ at) → RangeScanned scanned m T range before after (record { next = s; at = at; inspections = inspections })
  going_end done =
      ⊎_elim
      (λ (free : at < length before).
      let past : range.end ≤ s = ⊎_elim (λ (p : range.end ≤ s). p) (λ (full : length after ≤ at). absurd (omega (arith, g.same_length))) done in
      let least : min s range.end ≡ range.end = omega arith in
      ended (passed-all range before (all scanned m T range) g.listed free (rw least refl)) least (omega arith))
      (λ (full : length before ≤ at).
      let ends = g.full full in
      let least : min s range.end ≡ s = omega (arith, ends.0) in
      ended ends.1 least (omega (arith, ends.0))) (below_or_not at (length before))
    where
      ended : {e : ℕ} → gone scanned m T range before ≡ e - range.first → min s range.end ≡ e → s ≡ e + (s - range.end)
          → RangeScanned scanned m T range before after (record { next = s; at = at; inspections = inspections })
      ended {e} through least over =
          record {
            listed = rw (through, ← least) g.listed;
            stands = rw (through, ← least, g.stands) (omega (arith, g.begun, g.ordered));
          }

-- A loop whose list has a place for every window start has gone through all of them
pub record SearchedAll (scanned : List ℕ → Scanned) (m : ℕ) (T : List ℕ) (range : Range) (before after : List ℕ) (r : Reached) : Type 0 where
  pub listed : Listed (backward scanned m T range.first (range.end - range.first) 0) range before after r.at r.inspections
  pub stands : r.next ≡ range.end + standing scanned m T range.first (range.end - range.first) 0

pub searched-all : {scanned : List ℕ → Scanned} {m : ℕ} {T : List ℕ} {range : Range} {before after : List ℕ} {r : Reached} → RangeScanned scanned m T range before after r
    → range.first ≤ range.end → range.at + (range.end - range.first) ≤ length before → SearchedAll scanned m T range before after r
searched-all {scanned} {m} {T} {range} {before} searched ordered room =
    let through : gone scanned m T range before ≡ range.end - range.first
    = passed-room range before (all scanned m T range) (backward-within scanned m T range.first (range.end - range.first) 0) room in
    record { listed = rw through at searched.listed; stands = rw through at searched.stands ∙ omega arith }
