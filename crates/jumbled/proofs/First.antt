-- The first match at or after a given position: document 02, T-08. Steps that end with the first window listed go as those that go on, up to that
-- window; what they find is the first match, and what is found from a on is found in the text from a on.
use mathlib.Core.Path.{◌≡◌, refl, sym, ap, ◌∙◌}
use mathlib.Core.Bool.{Bool, true, false, cond, false≢true}
use mathlib.Core.List.{List, [], ◌∷◌, Option-to_list}
use mathlib.Core.Option.{Option, none, some, none-ne-some, some-injective}
use mathlib.Core.Logic.{⊎_elim}
use Prim.Native.Nat.{ℕ, zero, suc, ◌+◌, ◌-◌, ◌*◌, ◌≤◌, ◌<◌}
use native.Mathlib.Nat.{le_refl, add-zero, zero-add}
use native.Mathlib.Omega.{arith}
use lib.ListN.{length, take, drop, length-take, length-drop}
use lib.Seq.{drop-drop}
use Rattle.jumbled.specs.Match.{Bytes, matches, window, starts, select, earliest, first_match}
use Rattle.jumbled.specs.Scan.{Result, nothing, note, Scanned, backward, Judged, forward, Way, scans, judges, neither, driven, note_first, backward_first, forward_first, driven_first, through}
use Rattle.jumbled.specs.Steps.{count_judged, verified, hcam_judged, way_of, steps, steps_from, steps_into}
use Rattle.jumbled.specs.Refusals.{given, pattern_tests}
use Rattle.jumbled.proofs.Cuts.{moved, moved-zero, Agree, Within, here, later, backward-within, forward-within, driven-within, driven-none, driven-agree, through-later, through-moved, through-between, through-last}
use Rattle.jumbled.proofs.Sums.{below_or_not}
use Rattle.jumbled.proofs.Windows.{window-known}
use Rattle.jumbled.proofs.Drivers.{matches_at}
use Rattle.jumbled.proofs.Positions.{forward-inspections, hcam-verification}
use Rattle.jumbled.proofs.Methods.{range_listed}

-- ---- ended with the first window that is listed

-- no window start is left
through-none : (s : ℕ) → through 1 s 0 [] ≡ 0
unfolding through
through-none s = refl

-- the first window is listed
through-first : (s left : ℕ) (l : List ℕ) → through 1 s left (s ∷ l) ≡ 1
through-first s left l = omega (arith, through-last [] s l (s ∷ l) s left 1 refl refl)

-- One place is taken by the window at s where it is listed, and is free for the windows after it where it is not. f and g say what n windows from
-- s + 1 and from s on yield.
one_more : (t : Bool) (s taken left : ℕ) (f g : ℕ → Result) → f 0 ≡ nothing → ((n : ℕ) → g (suc n) ≡ note t s taken (f n))
    → Within (suc s) left (f left).occurrences → (ended : Result) → ended ≡ f (through 1 (suc s) left (f left).occurrences)
    → note_first t s taken ended ≡ g (through 1 s (suc left) (note t s taken (f left)).occurrences)
one_more true s taken left f g empty more within ended e = rw (through-first s (suc left) (f left).occurrences, more 0, empty) refl
one_more false s taken left f g empty more within ended e =
    rw (through-later within 0, more (through 1 (suc s) left (f left).occurrences), e) refl

module _ (scanned : List ℕ → Scanned) (m : ℕ) (T : List ℕ) where
  backward-first : (s left skip : ℕ)
      → backward_first scanned m T s left skip ≡ backward scanned m T s (through 1 s left (backward scanned m T s left skip).occurrences) skip
  unfolding backward backward_first
  backward-first s zero skip = rw (through-none s) refl
  backward-first s (suc left) (suc skip) = rw (through-later (backward-within scanned m T (suc s) left skip) 0) (backward-first (suc s) left skip)
  backward-first s (suc left) zero =
      let w : Scanned = scanned (window m T s) in
      one_more w.listed s w.inspections left (λ n. backward scanned m T (suc s) n w.offset) (λ n. backward scanned m T s n 0) refl (λ n. refl)
      (backward-within scanned m T (suc s) left w.offset) (backward_first scanned m T (suc s) left w.offset) (backward-first (suc s) left w.offset)

module _ (judged : List ℕ → Judged) (m : ℕ) (T : List ℕ) where
  forward-first : (s left cost : ℕ)
      → forward_first judged m T s left cost ≡ forward judged m T s (through 1 s left (forward judged m T s left cost).occurrences) cost
  unfolding forward forward_first
  forward-first s zero cost = rw (through-none s) refl
  forward-first s (suc left) cost =
      let w : Judged = judged (window m T s) in
      one_more w.listed s (cost + w.verification) left (λ n. forward judged m T (suc s) n 1) (λ n. forward judged m T s n cost) refl (λ n. refl)
      (forward-within judged m T (suc s) left 1) (forward_first judged m T (suc s) left 1) (forward-first (suc s) left 1)

-- The driver that ends with the first window listed is the one that goes on, over the window starts up to that one, or all where none is listed
pub driven-first : (w : Way) (m : ℕ) (T : List ℕ) (s left : ℕ)
    → driven_first w m T s left ≡ driven w m T s (through 1 s left (driven w m T s left).occurrences)
driven-first (scans scanned) m T s left = backward-first scanned m T s left 0
driven-first (judges judged) m T s left = forward-first judged m T s left m
driven-first neither m T s left = refl

-- ---- what they find

select-within : (test : ℕ → Bool) (s count : ℕ) → Within s count (select test s count)
unfolding select
select-within test s zero = Within.none
select-within test s (suc count) = case (test s) (select-within test (suc s) count)
  where
    case : (t : Bool) → Within (suc s) count (select test (suc s) count) → Within s (suc count) (cond t (s ∷ select test (suc s) count) (select test (suc s) count))
    case true h = here h
    case false h = later h

select-first : (test : ℕ → Bool) (s left : ℕ) → select test s (through 1 s left (select test s left)) ≡ Option-to_list (earliest test s left)
unfolding select earliest Option-to_list
select-first test s zero = rw (through-none s) refl
select-first test s (suc left) = case (test s) refl (select-first test (suc s) left)
  where
    case : (t : Bool) → test s ≡ t
        → select test (suc s) (through 1 (suc s) left (select test (suc s) left)) ≡ Option-to_list (earliest test (suc s) left)
        → select test s (through 1 s (suc left) (cond t (s ∷ select test (suc s) left) (select test (suc s) left)))
        ≡ Option-to_list (cond t (some s) (earliest test (suc s) left))
    case true e more = rw (through-first s (suc left) (select test (suc s) left), e) refl
    case false e more = rw (through-later (select-within test (suc s) left) 0, e) more

-- a way that lists the window starts which pass a test finds the first of them
first_passes : (w : Way) (m : ℕ) (T : List ℕ) (test : ℕ → Bool) (s left : ℕ) → ((n : ℕ) → n ≤ left → (driven w m T s n).occurrences ≡ select test s n)
    → (driven_first w m T s left).occurrences ≡ Option-to_list (earliest test s left)
first_passes w m T test s left lists =
    ap (λ (r : Result). r.occurrences) (driven-first w m T s left)
    ∙ lists (through 1 s left (driven w m T s left).occurrences) (through-between (driven-within w m T s left) 1).1
    ∙ ap (λ (l : List ℕ). select test s (through 1 s left l)) (lists left (le_refl left)) ∙ select-first test s left

-- Whatever the tests of open do not refuse: the steps from a on list the first match at or after a, or nothing where there is none
pub first-listed : (P : List ℕ) (k method : ℕ) (T : List ℕ) (a : ℕ) → Bytes P → Bytes T → given (pattern_tests P k method) ≡ 0
    → (steps_from P k method T a).occurrences ≡ Option-to_list (first_match P k T a)
unfolding steps_from first_match select
first-listed P k method T a hP hT accepted = first_passes (way_of P k method) (length P) T (matches_at P k T) a (starts (length P) T - a) lists
  where
    lists : (n : ℕ) → n ≤ starts (length P) T - a → (driven (way_of P k method) (length P) T a n).occurrences ≡ select (matches_at P k T) a n
    lists zero h = ap (λ (r : Result). r.occurrences) (driven-none (way_of P k method) (length P) T a 0 refl)
    lists (suc n) h = range_listed P k method T hP hT accepted a (suc n) (omega arith)

-- ---- what the first match is

-- The number is the first in the range that passes the test, or there is none
pub data Earliest (test : ℕ → Bool) (s count : ℕ) : Option ℕ → Type 0 where
  nowhere : ((i : ℕ) → s ≤ i → i < s + count → test i ≡ false) → Earliest test s count none
  found : (p : ℕ) → s ≤ p → p < s + count → test p ≡ true → ((i : ℕ) → s ≤ i → i < p → test i ≡ false) → Earliest test s count (some p)

pub is-earliest : (test : ℕ → Bool) (s count : ℕ) → Earliest test s count (earliest test s count)
unfolding earliest
is-earliest test s zero = nowhere (λ i l h. absurd (omega arith))
is-earliest test s (suc count) = case (test s) refl (is-earliest test (suc s) count)
  where
    past : (n : ℕ) → test s ≡ false → ((i : ℕ) → suc s ≤ i → i < n → test i ≡ false) → (i : ℕ) → s ≤ i → i < n → test i ≡ false
    past n e rest i l h =
        ⊎_elim (λ (further : s < i). rest i further h) (λ (not-further : i ≤ s). let same : i ≡ s = omega arith in ap test same ∙ e) (below_or_not s i)

    rest-of : {o : Option ℕ} → test s ≡ false → Earliest test (suc s) count o → Earliest test s (suc count) o
    rest-of e (nowhere rest) = nowhere (λ i l h. past (suc s + count) e rest i l (omega arith))
    rest-of e (found p l h passes rest) = found p (omega arith) (omega arith) passes (past p e rest)

    case : (t : Bool) → test s ≡ t → Earliest test (suc s) count (earliest test (suc s) count)
        → Earliest test s (suc count) (cond t (some s) (earliest test (suc s) count))
    case true e more = found s (le_refl s) (omega arith) e (λ i l h. absurd (omega arith))
    case false e more = rest-of e more

-- ---- how many windows they go through, and the inspections of the forward methods

-- From a on, where `left` windows are left: all of them, or those up to the one that is found
abbrev pub windows_up_to : (a left : ℕ) → Option ℕ → ℕ
windows_up_to a left none = left
windows_up_to a left (some p) = suc p - a

gone-through : (test : ℕ → Bool) (s left : ℕ) → through 1 s left (select test s left) ≡ windows_up_to s left (earliest test s left)
unfolding select earliest
gone-through test s zero = through-none s
gone-through test s (suc left) = case (test s) (gone-through test (suc s) left) (is-earliest test (suc s) left)
  where
    further : {o : Option ℕ} → Earliest test (suc s) left o → suc (windows_up_to (suc s) left o) ≡ windows_up_to s (suc left) o
    further (nowhere rest) = refl
    further (found p l h passes rest) = omega arith

    case : (t : Bool) → through 1 (suc s) left (select test (suc s) left) ≡ windows_up_to (suc s) left (earliest test (suc s) left)
        → Earliest test (suc s) left (earliest test (suc s) left)
        → through 1 s (suc left) (cond t (s ∷ select test (suc s) left) (select test (suc s) left))
        ≡ windows_up_to s (suc left) (cond t (some s) (earliest test (suc s) left))
    case true more view = through-first s (suc left) (select test (suc s) left) ∙ omega arith
    case false more view = through-later (select-within test (suc s) left) 0 ∙ ap suc more ∙ further view

-- the steps over these windows
windows-driven : (P : List ℕ) (k method : ℕ) (T : List ℕ) (a : ℕ) → Bytes P → Bytes T → given (pattern_tests P k method) ≡ 0 → a < starts (length P) T
    → steps_from P k method T a ≡ driven (way_of P k method) (length P) T a (windows_up_to a (starts (length P) T - a) (first_match P k T a))
unfolding steps_from first_match
windows-driven P k method T a hP hT accepted h =
    driven-first (way_of P k method) (length P) T a (starts (length P) T - a)
    ∙ ap (driven (way_of P k method) (length P) T a)
    (ap (through 1 a (starts (length P) T - a)) (range_listed P k method T hP hT accepted a (starts (length P) T - a) (omega arith))
    ∙ gone-through (matches_at P k T) a (starts (length P) T - a))

-- there is one at least
pub some-window : (P : List ℕ) (k : ℕ) (T : List ℕ) (a : ℕ) → a < starts (length P) T → 0 < windows_up_to a (starts (length P) T - a) (first_match P k T a)
unfolding first_match
some-window P k T a h = case (is-earliest (matches_at P k T) a (starts (length P) T - a))
  where
    case : {o : Option ℕ} → Earliest (matches_at P k T) a (starts (length P) T - a) o → 0 < windows_up_to a (starts (length P) T - a) o
    case (nowhere rest) = omega arith
    case (found p l below passes rest) = omega arith

-- where something is found, there is a window to begin with
found_inside : (P : List ℕ) (k : ℕ) (T : List ℕ) (a : ℕ) {p : ℕ} → first_match P k T a ≡ some p → a < starts (length P) T
unfolding first_match
found_inside P k T a {p} e = by (is-earliest (matches_at P k T) a (starts (length P) T - a)) e
  where
    by : {o : Option ℕ} → Earliest (matches_at P k T) a (starts (length P) T - a) o → o ≡ some p → a < starts (length P) T
    by (nowhere rest) q = absurd (none-ne-some p q)
    by (found p' least below passes rest) q = omega arith

module _ (P : List ℕ) (k : ℕ) (T : List ℕ) (a : ℕ) (hP : Bytes P) (hT : Bytes T) (h : a < starts (length P) T) where
  gone : ℕ
  gone = windows_up_to a (starts (length P) T - a) (first_match P k T a)

  forward-from : (judged : List ℕ → Judged) (test : List ℕ → Bool) (c : ℕ) → ((W : List ℕ) → (judged W).verification ≡ cond (test W) c 0)
      → (forward judged (length P) T a gone (length P)).inspections ≡ length P + (gone - 1) + c * length (select (λ s. test (window (length P) T s)) a gone)
  unfolding gone
  forward-from judged test c by-test =
      let windows : gone ≡ suc (gone - 1) = omega (arith, some-window P k T a h) in
      ap (λ (n : ℕ). (forward judged (length P) T a n (length P)).inspections) windows
      ∙ forward-inspections judged test c by-test (length P) T a (gone - 1) (length P)
      ∙ ap (λ (n : ℕ). length P + (gone - 1) + c * length (select (λ s. test (window (length P) T s)) a n)) (sym windows)

  -- Method 1 takes all m bytes of the window at a and the last one of each window after it
  pub count-from : given (pattern_tests P k 1) ≡ 0 → (steps_from P k 1 T a).inspections ≡ length P + (windows_up_to a (starts (length P) T - a) (first_match P k T a) - 1)
  unfolding way_of count_judged gone
  count-from accepted =
      ap (λ (r : Result). r.inspections) (windows-driven P k 1 T a hP hT accepted h) ∙ forward-from (count_judged P k) (λ W. false) 0 (λ W. refl) ∙ omega arith

  -- Method 5 does so too, and adds m for each of these windows that it verifies
  pub hcam-from : given (pattern_tests P k 5) ≡ 0
      → (steps_from P k 5 T a).inspections
      ≡ length P + (windows_up_to a (starts (length P) T - a) (first_match P k T a) - 1)
      + length P * length (select (λ s. verified P (window (length P) T s)) a (windows_up_to a (starts (length P) T - a) (first_match P k T a)))
  unfolding way_of gone
  hcam-from accepted =
      ap (λ (r : Result). r.inspections) (windows-driven P k 5 T a hP hT accepted h) ∙ forward-from (hcam_judged P) (verified P) (length P) (hcam-verification P)

-- ---- what comes after the window that is found

module _ (P : List ℕ) (k : ℕ) (T U : List ℕ) (a p : ℕ) (alike : take (p + length P) T ≡ take (p + length P) U) where
  windows-alike : (s : ℕ) → s ≤ p → window (length P) T s ≡ window (length P) U s
  windows-alike s h =
      window-known (length P) (p + length P) s T (omega arith) ∙ ap (λ (l : List ℕ). window (length P) l s) alike
      ∙ sym (window-known (length P) (p + length P) s U (omega arith))

  matches-alike : (s : ℕ) → s ≤ p → matches_at P k T s ≡ matches_at P k U s
  matches-alike s h = ap (matches P k) (windows-alike s h)

  -- the same first match
  pub first_alike : first_match P k T a ≡ some p → first_match P k U a ≡ some p
  unfolding first_match
  first_alike e = by (is-earliest (matches_at P k T) a (starts (length P) T - a)) e (is-earliest (matches_at P k U) a (starts (length P) U - a))
    where
      by : {o o' : Option ℕ} → Earliest (matches_at P k T) a (starts (length P) T - a) o → o ≡ some p → Earliest (matches_at P k U) a (starts (length P) U - a) o' → o' ≡ some p
      by (nowhere rest) q view = absurd (none-ne-some p q)
      by (found p' l h passes rest) q (nowhere rest') =
          let same = some-injective p' p q in
          let long = length-take (p + length P) T in
          let long' = length-take (p + length P) U in
          let there : p < a + (starts (length P) U - a) = omega (arith, ap length alike) in
          absurd (false≢true (sym (rest' p (omega arith) there) ∙ sym (matches-alike p (le_refl p)) ∙ ap (matches_at P k T) (sym same) ∙ passes))
      by (found p' l h passes rest) q (found q' l' h' passes' rest') =
          let same = some-injective p' p q in
          ap some
          (⊎_elim
          (λ (before : q' < p). absurd (false≢true (sym (rest q' l' (omega arith)) ∙ matches-alike q' (omega arith) ∙ passes')))
          (λ (least : p ≤ q').
          ⊎_elim
          (λ (after : p < q'). absurd (false≢true (sym (rest' p (omega arith) after) ∙ sym (matches-alike p (le_refl p)) ∙ ap (matches_at P k T) (sym same) ∙ passes)))
          (λ (most : q' ≤ p). omega arith) (below_or_not p q')) (below_or_not q' p))

  -- Texts that are alike up to the end of the window found have the same steps: nothing after it is looked at
  pub nothing-after : (method : ℕ) → Bytes P → Bytes T → Bytes U → given (pattern_tests P k method) ≡ 0 → first_match P k T a ≡ some p
      → steps_from P k method T a ≡ steps_from P k method U a
  nothing-after method hP hT hU accepted e =
      let there = found_inside P k T a e in
      let there' = found_inside P k U a (first_alike e) in
      windows-driven P k method T a hP hT accepted there
      ∙ rw (e, first_alike e)
      (ap (λ (s : ℕ). driven (way_of P k method) (length P) T s (suc p - a)) (sym (zero-add a))
      ∙ driven-agree (way_of P k method) (length P) T 0 U a (suc p - a) (λ i l. rw (zero-add (a + i)) (windows-alike (a + i) (omega arith)))
      ∙ moved-zero (driven (way_of P k method) (length P) U a (suc p - a)))
      ∙ sym (windows-driven P k method U a hP hU accepted there')

-- With fewer than m bytes from a on there is no position and no inspection
pub first_short : (P : List ℕ) (k method : ℕ) (T : List ℕ) (a : ℕ) → length T < a + length P
    → (steps_from P k method T a ≡ nothing) × (first_match P k T a ≡ none)
unfolding steps_from first_match earliest
first_short P k method T a h =
    let empty : starts (length P) T - a ≡ 0 = omega arith in (
      driven-first (way_of P k method) (length P) T a (starts (length P) T - a)
          ∙ driven-none (way_of P k method) (length P) T a _ (omega (arith, (through-between (driven-within (way_of P k method) (length P) T a (starts (length P) T - a)) 1).1)),
      rw empty refl,
    )

-- ---- from a on, in the text from a on

starts_from : (m : ℕ) (T : List ℕ) (a : ℕ) → 1 ≤ m → starts m T - a ≡ starts m (drop a T)
starts_from m T a least = omega (arith, length-drop a T)

driven-from : (w : Way) (m : ℕ) (T : List ℕ) (a left : ℕ) → driven w m T a left ≡ moved a (driven w m (drop a T) 0 left)
driven-from w m T a left =
    ap (λ (s : ℕ). driven w m T s left) (sym (add-zero a)) ∙ driven-agree w m T a (drop a T) 0 left agree
  where
    agree : Agree m T a (drop a T) 0 left
    agree i l = ap (take m) (sym (drop-drop (0 + i) a T))

first-from : (w : Way) (m : ℕ) (T : List ℕ) (a left : ℕ)
    → driven_first w m T a left ≡ moved a (driven w m (drop a T) 0 (through 1 0 left (driven w m (drop a T) 0 left).occurrences))
first-from w m T a left =
    let part : Result = driven w m (drop a T) 0 left in
    driven-first w m T a left
    ∙ ap (λ (r : Result). driven w m T a (through 1 a left r.occurrences)) (driven-from w m T a left)
    ∙ ap (driven w m T a) (ap (λ (s : ℕ). through 1 s left (moved a part).occurrences) (sym (add-zero a)) ∙ through-moved a 1 0 left part.occurrences)
    ∙ driven-from w m T a (through 1 0 left part.occurrences)

-- The steps from a on are those of a search of the text from a on that has one place; its positions are a less
pub steps-from : (P : List ℕ) (k method : ℕ) (T : List ℕ) (a : ℕ) → 1 ≤ length P → steps_from P k method T a ≡ moved a (steps_into 1 P k method (drop a T))
unfolding steps_from steps_into steps
steps-from P k method T a least = rw (starts_from (length P) T a least) (first-from (way_of P k method) (length P) T a (starts (length P) (drop a T)))
