-- A driver may be cut at any window start, and depends on its windows' bytes alone: what a search that goes on from chunk to chunk rests on.
use mathlib.Core.Path.{◌≡◌, refl, sym, ap, ap₂, ◌∙◌}
use mathlib.Core.Bool.{Bool, true, false, cond}
use mathlib.Core.List.{List, [], ◌∷◌, ◌++◌, map}
use mathlib.Core.Logic.{⊎_elim}
use Prim.Native.Nat.{ℕ, zero, suc, ◌+◌, ◌-◌, ◌*◌, ◌≤◌, ◌<◌, min, suc-le-suc}
use native.Mathlib.Nat.{mul-suc, le_step, add-zero, add-suc, suc-add, add_assoc, zero-add, suc-sub-suc, zero-sub, sub-zero}
use native.Mathlib.Omega.{arith}
use lib.Dec.{ltb}
use lib.ListN.{length, get_or, drop, length-take, length-append, length-map, get_or-append}
use lib.Seq.{get_or_at, get_or-append-add}
use borrow.Author.Tests.{lt-ltb, le-ltb}
use Rattle.jumbled.specs.Match.{window}
use Rattle.jumbled.specs.Scan.{Result, nothing, note, Scanned, backward, standing, Judged, forward, Way, scans, judges, neither, driven, through}
use Rattle.jumbled.proofs.Sums.{below_or_not}

infixl 20 ◌then◌
-- what two ranges of window starts yield together
abbrev pub ◌then◌ : Result → Result → Result
a then b = record { occurrences = a.occurrences ++ b.occurrences; inspections = a.inspections + b.inspections }

-- positions with a number added to each
abbrev pub moved : ℕ → Result → Result
moved d r = record { occurrences = map (λ p. d + p) r.occurrences; inspections = r.inspections }

-- moved by 0, a result is as it was
pub moved-zero : (r : Result) → moved 0 r ≡ r
moved-zero r = ap (λ (l : List ℕ). record { occurrences = l; inspections = r.inspections }) (same r.occurrences)
  where
    same : (l : List ℕ) → map (λ p. 0 + p) l ≡ l
    same [] = refl
    same (p ∷ l) = ap₂ (λ (q : ℕ) (t : List ℕ). q ∷ t) (zero-add p) (same l)

note-then : (t : Bool) (s taken : ℕ) (a b : Result) → note t s taken (a then b) ≡ note t s taken a then b
note-then true s taken a b = ap (λ (n : ℕ). record { occurrences = s ∷ (a.occurrences ++ b.occurrences); inspections = n }) (sym (add_assoc taken a.inspections b.inspections))
note-then false s taken a b = ap (λ (n : ℕ). record { occurrences = a.occurrences ++ b.occurrences; inspections = n }) (sym (add_assoc taken a.inspections b.inspections))

nothing_then : (r : Result) → nothing then r ≡ r
nothing_then r = ap (λ (n : ℕ). record { occurrences = r.occurrences; inspections = n }) (zero-add r.inspections)

module _ (scanned : List ℕ → Scanned) (m : ℕ) (T : List ℕ) where
  pub standing-cut : (s a b skip : ℕ) → standing scanned m T s (a + b) skip ≡ standing scanned m T (s + a) b (standing scanned m T s a skip)
  unfolding standing
  standing-cut s zero b skip = rw (zero-add b, add-zero s) refl
  standing-cut s (suc a) b (suc skip) = rw (suc-add a b, add-suc s a, ← suc-add s a) (standing-cut (suc s) a b skip)
  standing-cut s (suc a) b zero = rw (suc-add a b, add-suc s a, ← suc-add s a) (standing-cut (suc s) a b (scanned (window m T s)).offset)

  pub backward-cut : (s a b skip : ℕ)
      → backward scanned m T s (a + b) skip ≡ backward scanned m T s a skip then backward scanned m T (s + a) b (standing scanned m T s a skip)
  unfolding backward standing
  backward-cut s zero b skip = rw (zero-add b, add-zero s) (sym (nothing_then (backward scanned m T s b skip)))
  backward-cut s (suc a) b (suc skip) = rw (suc-add a b, add-suc s a, ← suc-add s a) (backward-cut (suc s) a b skip)
  backward-cut s (suc a) b zero =
      let w : Scanned = scanned (window m T s) in
      rw (suc-add a b, add-suc s a, ← suc-add s a)
      (ap (note w.listed s w.inspections) (backward-cut (suc s) a b w.offset)
      ∙ note-then w.listed s w.inspections (backward scanned m T (suc s) a w.offset) (backward scanned m T (suc s + a) b (standing scanned m T (suc s) a w.offset)))

  -- window starts that are passed over
  pub backward-skip : (s left skip : ℕ) → backward scanned m T s left skip ≡ backward scanned m T (s + skip) (left - skip) 0
  unfolding backward
  backward-skip s zero skip = rw (zero-sub skip) refl
  backward-skip s (suc left) zero = rw (add-zero s, sub-zero (suc left)) refl
  backward-skip s (suc left) (suc skip) = rw (suc-sub-suc left skip, add-suc s skip, ← suc-add s skip) (backward-skip (suc s) left skip)

  standing-skip : (s left skip : ℕ) → standing scanned m T s left skip ≡ standing scanned m T (s + skip) (left - skip) (skip - left)
  unfolding standing
  standing-skip s zero skip = rw (zero-sub skip, sub-zero skip) refl
  standing-skip s (suc left) zero = rw (add-zero s, sub-zero (suc left), zero-sub (suc left)) refl
  standing-skip s (suc left) (suc skip) =
      rw (suc-sub-suc left skip, suc-sub-suc skip left, add-suc s skip, ← suc-add s skip) (standing-skip (suc s) left skip)

  -- the scan at a window start, and then the search from where it goes on
  pub backward-at : (s left : ℕ)
      → backward scanned m T s (suc left) 0
      ≡ note (scanned (window m T s)).listed s (scanned (window m T s)).inspections
      (backward scanned m T (suc s + (scanned (window m T s)).offset) (left - (scanned (window m T s)).offset) 0)
  unfolding backward
  backward-at s left =
      let w : Scanned = scanned (window m T s) in
      ap (note w.listed s w.inspections) (backward-skip (suc s) left w.offset)

  pub standing-at : (s left : ℕ)
      → standing scanned m T s (suc left) 0
      ≡ standing scanned m T (suc s + (scanned (window m T s)).offset) (left - (scanned (window m T s)).offset)
      ((scanned (window m T s)).offset - left)
  unfolding standing
  standing-at s left = standing-skip (suc s) left (scanned (window m T s)).offset

-- ---- at most one position a window start

-- Ascending numbers from s on, all of them below s + left
pub data Within : ℕ → ℕ → List ℕ → Type 0 where
  none : {s left : ℕ} → Within s left []
  here : {s left : ℕ} {more : List ℕ} → Within (suc s) left more → Within s (suc left) (s ∷ more)
  later : {s left : ℕ} {more : List ℕ} → Within (suc s) left more → Within s (suc left) more

note-within : (t : Bool) {s left : ℕ} (taken : ℕ) (r : Result) → Within (suc s) left r.occurrences → Within s (suc left) (note t s taken r).occurrences
note-within true taken r h = here h
note-within false taken r h = later h

pub backward-within : (scanned : List ℕ → Scanned) (m : ℕ) (T : List ℕ) (s left skip : ℕ) → Within s left (backward scanned m T s left skip).occurrences
unfolding backward
backward-within scanned m T s zero skip = none
backward-within scanned m T s (suc left) (suc skip) = later (backward-within scanned m T (suc s) left skip)
backward-within scanned m T s (suc left) zero =
    let w : Scanned = scanned (window m T s) in
    note-within w.listed w.inspections (backward scanned m T (suc s) left w.offset) (backward-within scanned m T (suc s) left w.offset)

pub forward-within : (judged : List ℕ → Judged) (m : ℕ) (T : List ℕ) (s left cost : ℕ) → Within s left (forward judged m T s left cost).occurrences
unfolding forward
forward-within judged m T s zero cost = none
forward-within judged m T s (suc left) cost =
    let w : Judged = judged (window m T s) in
    note-within w.listed (cost + w.verification) (forward judged m T (suc s) left 1) (forward-within judged m T (suc s) left 1)

pub driven-within : (w : Way) (m : ℕ) (T : List ℕ) (s left : ℕ) → Within s left (driven w m T s left).occurrences
driven-within (scans scanned) m T s left = backward-within scanned m T s left 0
driven-within (judges judged) m T s left = forward-within judged m T s left m
driven-within neither m T s left = none

-- no window start, no position and no inspection
pub driven-none : (w : Way) (m : ℕ) (T : List ℕ) (s left : ℕ) → left ≡ 0 → driven w m T s left ≡ nothing
unfolding backward forward
driven-none (scans scanned) m T s left e = rw e refl
driven-none (judges judged) m T s left e = rw e refl
driven-none neither m T s left e = refl

pub within_count : {s left : ℕ} {l : List ℕ} → Within s left l → length l ≤ left
within_count none = omega arith
within_count (here h) = suc-le-suc (within_count h)
within_count (later h) = le_step (within_count h)

pub backward-count : (scanned : List ℕ → Scanned) (m : ℕ) (T : List ℕ) (s left skip : ℕ) → length (backward scanned m T s left skip).occurrences ≤ left
backward-count scanned m T s left skip = within_count (backward-within scanned m T s left skip)

pub forward-count : (judged : List ℕ → Judged) (m : ℕ) (T : List ℕ) (s left cost : ℕ) → length (forward judged m T s left cost).occurrences ≤ left
forward-count judged m T s left cost = within_count (forward-within judged m T s left cost)

-- ---- a search that ends where its places are full

-- the number at a place is at least as far from s as the place, and below the end
within-least : {s left : ℕ} {l : List ℕ} → Within s left l → (i : ℕ) → i < length l → (s + i ≤ get_or l i 0) × (get_or l i 0 < s + left)
within-least none i h = absurd (omega arith)
within-least (here h) zero l = (omega arith, omega arith)
within-least (here h) (suc i) l = let later = within-least h i (omega arith) in (omega (arith, later.0), omega (arith, later.1))
within-least (later h) i l = let later = within-least h i l in (omega (arith, later.0), omega (arith, later.1))

-- a place stays free
pub through-free : (places s left : ℕ) (l : List ℕ) → length l < places → through places s left l ≡ left
unfolding through
through-free zero s left l h = absurd (omega arith)
through-free (suc places) s left l h = rw (le-ltb places (length l) (omega arith)) refl

-- it goes through all of the window starts or at least as many as it has places, and no further than the last
pub through-between : {s left : ℕ} {l : List ℕ} → Within s left l → (places : ℕ)
    → (min places left ≤ through places s left l) × (through places s left l ≤ left)
unfolding through
through-between h zero = (omega arith, omega arith)
through-between {s} {left} {l} h (suc places) =
    ⊎_elim
    (λ (full : places < length l).
    let last = within-least h places full in
    rw (lt-ltb places (length l) full) (omega (arith, last.0), omega (arith, last.1)))
    (λ (free : length l ≤ places). rw (le-ltb places (length l) free) (omega arith, omega arith)) (below_or_not places (length l))

-- there is a place for every window start
pub through-room : {s left : ℕ} {l : List ℕ} → Within s left l → (places : ℕ) → left ≤ places → through places s left l ≡ left
through-room h places room = omega (arith, through-between h places)

-- the window at p takes the last place
pub through-last : (before : List ℕ) (p : ℕ) (after l : List ℕ) (s left places : ℕ) → l ≡ before ++ (p ∷ after) → places ≡ suc (length before)
    → through places s left l ≡ suc p - s
unfolding through
through-last before p after l s left places e q =
    rw (q, e, lt-ltb (length before) (length (before ++ (p ∷ after))) (omega (arith, length-append before (p ∷ after))), get_or_at before p after 0 (length before) refl) refl

-- the window at s is not listed
pub through-later : {s left : ℕ} {l : List ℕ} → Within (suc s) left l → (places : ℕ)
    → through (suc places) s (suc left) l ≡ suc (through (suc places) (suc s) left l)
unfolding through
through-later {s} {left} {l} h places =
    ⊎_elim (λ (full : places < length l). let last = within-least h places full in rw (lt-ltb places (length l) full) (omega (arith, last.0)))
    (λ (free : length l ≤ places). rw (le-ltb places (length l) free) refl) (below_or_not places (length l))

-- the same positions further on
pub through-moved : (d places s left : ℕ) (l : List ℕ) → through places (d + s) left (map (λ p. d + p) l) ≡ through places s left l
unfolding through
through-moved d zero s left l = refl
through-moved d (suc places) s left l =
    rw (length-map l (λ (p : ℕ). d + p))
    (⊎_elim
    (λ (full : places < length l). rw (lt-ltb places (length l) full, get_d_moved l places full) (omega arith))
    (λ (free : length l ≤ places). rw (le-ltb places (length l) free) refl) (below_or_not places (length l)))
  where
    get_d_moved : (l : List ℕ) (i : ℕ) → i < length l → get_or (map (λ p. d + p) l) i 0 ≡ d + get_or l i 0
    get_d_moved [] i h = absurd (omega arith)
    get_d_moved (p ∷ l) zero h = refl
    get_d_moved (p ∷ l) (suc i) h = get_d_moved l i (omega arith)

-- two ranges, with a place for each window start of the first one
pub through-cut : {s a b : ℕ} {A B : List ℕ} → Within s a A → Within (s + a) b B → (places : ℕ) → a ≤ places
    → through places s (a + b) (A ++ B) ≡ a + through (places - length A) (s + a) b B
unfolding through
through-cut {s} {a} {b} {A} {B} one two zero room =
    let none : a ≡ 0 = omega arith in
    rw (zero-sub (length A)) (omega arith)
through-cut {s} {a} {b} {A} {B} one two (suc places) room =
    ⊎_elim first (λ (past : length A ≤ places). ⊎_elim (second past) (neither-full past) (below_or_not places (length (A ++ B)))) (below_or_not places (length A))
  where
    both : length (A ++ B) ≡ length A + length B
    both = length-append A B

    -- every window of the first range is listed, and takes the last place
    first : places < length A → cond (ltb places (length (A ++ B))) (suc (get_or (A ++ B) places 0) - s) (a + b) ≡ a + through (suc places - length A) (s + a) b B
    first full =
        let few = within_count one in
        let all : suc places - length A ≡ 0 = omega arith in
        let last = within-least one places full in
        rw (all, lt-ltb places (length (A ++ B)) (omega (arith, both)), get_or-append A B 0 places full) (omega (arith, last.0, last.1))

    left_over : length A ≤ places → suc places - length A ≡ suc (places - length A)
    left_over past = omega arith

    second : length A ≤ places → places < length (A ++ B)
        → cond (ltb places (length (A ++ B))) (suc (get_or (A ++ B) places 0) - s) (a + b) ≡ a + through (suc places - length A) (s + a) b B
    second past full =
        let inside : places - length A < length B = omega (arith, both) in
        let last = within-least two (places - length A) inside in
        let place : get_or (A ++ B) places 0 ≡ get_or B (places - length A) 0 =
        ap (λ (n : ℕ). get_or (A ++ B) n 0) (omega arith) ∙ get_or-append-add A B (places - length A) 0
        in
        rw (left_over past, lt-ltb places (length (A ++ B)) full, lt-ltb (places - length A) (length B) inside, place) (omega (arith, last.0))

    neither-full : length A ≤ places → length (A ++ B) ≤ places
        → cond (ltb places (length (A ++ B))) (suc (get_or (A ++ B) places 0) - s) (a + b) ≡ a + through (suc places - length A) (s + a) b B
    neither-full past free =
        rw (left_over past, le-ltb places (length (A ++ B)) free, le-ltb (places - length A) (length B) (omega (arith, both))) refl

-- the first window starts are passed over
pub through-passed : (places s left d : ℕ) (l : List ℕ) → through places s left l - d ≡ through places (s + d) (left - d) l
unfolding through
through-passed zero s left d l = zero-sub d
through-passed (suc places) s left d l =
    ⊎_elim (λ (full : places < length l). rw (lt-ltb places (length l) full) (omega arith))
    (λ (free : length l ≤ places). rw (le-ltb places (length l) free) refl) (below_or_not places (length l))

-- ---- bounds on the inspections

note-most : (t : Bool) (s taken most left : ℕ) (r : Result) → taken ≤ most → r.inspections ≤ most * left → (note t s taken r).inspections ≤ most * suc left
note-most t s taken most left r h g = rw (mul-suc most left) (omega arith)

-- no window's scan makes more than `most`
pub backward-most : (scanned : List ℕ → Scanned) (m : ℕ) (T : List ℕ) (most : ℕ) → ((W : List ℕ) → length W ≤ m → (scanned W).inspections ≤ most)
    → (s left skip : ℕ) → (backward scanned m T s left skip).inspections ≤ most * left
unfolding backward
backward-most scanned m T most h s zero skip = omega arith
backward-most scanned m T most h s (suc left) (suc skip) =
    rw (mul-suc most left) (omega (arith, backward-most scanned m T most h (suc s) left skip))
backward-most scanned m T most h s (suc left) zero =
    let w : Scanned = scanned (window m T s) in
    note-most w.listed s w.inspections most left (backward scanned m T (suc s) left w.offset)
    (h (window m T s) (omega (arith, length-take m (drop s T)))) (backward-most scanned m T most h (suc s) left w.offset)

-- no window's verification adds more than `most`
pub forward-most : (judged : List ℕ → Judged) (m : ℕ) (T : List ℕ) (most : ℕ) → ((W : List ℕ) → (judged W).verification ≤ most)
    → (s left : ℕ) → (forward judged m T s left 1).inspections ≤ (1 + most) * left
unfolding forward
forward-most judged m T most h s zero = omega arith
forward-most judged m T most h s (suc left) =
    let w : Judged = judged (window m T s) in
    note-most w.listed s (1 + w.verification) (1 + most) left (forward judged m T (suc s) left 1) (omega (arith, h (window m T s)))
    (forward-most judged m T most h (suc s) left)

-- ---- two texts whose windows agree, those of one d places further on

pub within-moved : (d : ℕ) {s left : ℕ} {l : List ℕ} → Within s left l → Within (d + s) left (map (λ p. d + p) l)
within-moved d none = none
within-moved d {s} (here h) = here (rw (add-suc d s) at (within-moved d h))
within-moved d {s} (later h) = later (rw (add-suc d s) at (within-moved d h))

moved-note : (d : ℕ) (t : Bool) (s taken : ℕ) (r : Result) → note t (d + s) taken (moved d r) ≡ moved d (note t s taken r)
moved-note d true s taken r = refl
moved-note d false s taken r = refl

abbrev pub Agree : ℕ → List ℕ → ℕ → List ℕ → ℕ → ℕ → Type 0
Agree m T d U s left = (i : ℕ) → i < left → window m T (d + (s + i)) ≡ window m U (s + i)

agree-here : (m : ℕ) (T : List ℕ) (d : ℕ) (U : List ℕ) (s left : ℕ) → Agree m T d U s (suc left) → window m T (d + s) ≡ window m U s
agree-here m T d U s left h = rw (add-zero s) at (h 0 (omega arith))

agree-later : (m : ℕ) (T : List ℕ) (d : ℕ) (U : List ℕ) (s left : ℕ) → Agree m T d U s (suc left) → Agree m T d U (suc s) left
agree-later m T d U s left h i l = rw (suc-add s i, ← add-suc s i) (h (suc i) (omega arith))

module _ (scanned : List ℕ → Scanned) (m : ℕ) (T : List ℕ) (d : ℕ) (U : List ℕ) where
  pub backward-agree : (s left skip : ℕ) → Agree m T d U s left
      → backward scanned m T (d + s) left skip ≡ moved d (backward scanned m U s left skip)
  unfolding backward
  backward-agree s zero skip h = refl
  backward-agree s (suc left) (suc skip) h =
      rw (← add-suc d s) (backward-agree (suc s) left skip (agree-later m T d U s left h))
  backward-agree s (suc left) zero h =
      let w : Scanned = scanned (window m U s) in
      rw (agree-here m T d U s left h, ← add-suc d s)
      (ap (note w.listed (d + s) w.inspections) (backward-agree (suc s) left w.offset (agree-later m T d U s left h))
      ∙ moved-note d w.listed s w.inspections (backward scanned m U (suc s) left w.offset))

  pub standing-agree : (s left skip : ℕ) → Agree m T d U s left → standing scanned m T (d + s) left skip ≡ standing scanned m U s left skip
  unfolding standing
  standing-agree s zero skip h = refl
  standing-agree s (suc left) (suc skip) h =
      rw (← add-suc d s) (standing-agree (suc s) left skip (agree-later m T d U s left h))
  standing-agree s (suc left) zero h =
      rw (agree-here m T d U s left h, ← add-suc d s)
      (standing-agree (suc s) left (scanned (window m U s)).offset (agree-later m T d U s left h))

-- ---- forward

module _ (judged : List ℕ → Judged) (m : ℕ) (T : List ℕ) where
  pub forward-cut : (s a b : ℕ) → forward judged m T s (a + b) 1 ≡ forward judged m T s a 1 then forward judged m T (s + a) b 1
  unfolding forward
  forward-cut s zero b = rw (zero-add b, add-zero s) (sym (nothing_then (forward judged m T s b 1)))
  forward-cut s (suc a) b =
      let w : Judged = judged (window m T s) in
      rw (suc-add a b, add-suc s a, ← suc-add s a)
      (ap (note w.listed s (1 + w.verification)) (forward-cut (suc s) a b)
      ∙ note-then w.listed s (1 + w.verification) (forward judged m T (suc s) a 1) (forward judged m T (suc s + a) b 1))

  -- the first window's inspections but the last may be made before
  pub forward-primed : (s left cost : ℕ) → 0 < left
      → forward judged m T s left (cost + 1) ≡ record { occurrences = []; inspections = cost } then forward judged m T s left 1
  unfolding forward
  forward-primed s zero cost h = elim h [ ]
  forward-primed s (suc left) cost h =
      let w : Judged = judged (window m T s) in
      let rest : Result = forward judged m T (suc s) left 1 in
      let same : cost + 1 + w.verification + rest.inspections ≡ cost + (1 + w.verification + rest.inspections) = omega arith in
      rw same refl

module _ (judged : List ℕ → Judged) (m : ℕ) (T : List ℕ) (d : ℕ) (U : List ℕ) where
  pub forward-agree : (s left cost : ℕ) → Agree m T d U s left
      → forward judged m T (d + s) left cost ≡ moved d (forward judged m U s left cost)
  unfolding forward
  forward-agree s zero cost h = refl
  forward-agree s (suc left) cost h =
      let w : Judged = judged (window m U s) in
      rw (agree-here m T d U s left h, ← add-suc d s)
      (ap (note w.listed (d + s) (cost + w.verification)) (forward-agree (suc s) left 1 (agree-later m T d U s left h))
      ∙ moved-note d w.listed s (cost + w.verification) (forward judged m U (suc s) left 1))

-- ---- either way

pub driven-agree : (w : Way) (m : ℕ) (T : List ℕ) (d : ℕ) (U : List ℕ) (s left : ℕ) → Agree m T d U s left
    → driven w m T (d + s) left ≡ moved d (driven w m U s left)
driven-agree (scans scanned) m T d U s left h = backward-agree scanned m T d U s left 0 h
driven-agree (judges judged) m T d U s left h = forward-agree judged m T d U s left m h
driven-agree neither m T d U s left h = refl
