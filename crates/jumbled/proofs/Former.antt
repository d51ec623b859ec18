-- A pattern that methods 2 and 3 took before document 02, T-03, is taken still, and their steps are what they were: a scan does not depend on the
-- widths of fields that are wide enough.
use mathlib.Core.Path.{◌≡◌, refl, ap, ◌∙◌}
use mathlib.Core.Bool.{Bool, true, false, cond}
use mathlib.Core.List.{List, [], ◌∷◌, ◌++◌, reverse}
use Prim.Native.Nat.{ℕ, zero, suc, ◌+◌, ◌-◌, ◌^◌, ◌≤◌, ◌<◌}
use native.Mathlib.Nat.{le_refl}
use native.Mathlib.Omega.{arith}
use lib.Dec.{ltb, eqb}
use lib.ListN.{length}
use borrow.Author.Tests.{le-ltb, ltb-false, ne_eqb}
use Rattle.jumbled.specs.Match.{Bytes, cc, starts}
use Rattle.jumbled.specs.Scan.{Result, singles, pairs}
use Rattle.jumbled.specs.Fields.{lg, Layout, field_count, bam_layout, bam2_layout, layout_of, width_of, bits}
use Rattle.jumbled.specs.Steps.{bam_scan, bam2_scan, way_of, steps}
use Rattle.jumbled.specs.Refusals.{Test, test, given, length_tests, lost_tests, tolerance_tests, known_tests, exact_tests, width_tests, method_tests, pattern_tests}
use Rattle.jumbled.specs.Former.{former_layout, former_layout_of, packed_steps, former_steps, former_method_tests, former_pattern_tests}
use Rattle.jumbled.proofs.Sums.{sum_mono}
use Rattle.jumbled.proofs.Counts.{bytes-nil, excess-nil}
use Rattle.jumbled.proofs.Lg.{LetterWidths, bam-letters, bam2-letters}
use Rattle.jumbled.proofs.Drivers.{backward-alike}
use Rattle.jumbled.proofs.Scans.{Groups, scan-alike, by-singles, by-pairs}
use Rattle.jumbled.proofs.Overflow.{Roomy, overflows-exact, letters-roomy, bam-roomy, bam2-roomy, doubled-lg}

-- ---- positions and inspections

-- The steps are the same with any two layouts that are wide enough for them
pub widths-free : (P : List ℕ) (q : ℕ) (layout layout' : Layout) → Bytes P → Roomy 0 q layout → Roomy 0 q layout'
    → (grouped : List ℕ → List (List ℕ)) → ((W : List ℕ) → Groups q W (grouped (reverse W)))
    → (T : List ℕ) → Bytes T → packed_steps layout grouped P T ≡ packed_steps layout' grouped P T
unfolding packed_steps
widths-free P q layout layout' hP roomy roomy' grouped groups T hT =
    backward-alike (length P) T hT
    (λ W hW.
    scan-alike P 0 q (overflows-exact P q layout hP roomy) (overflows-exact P q layout' hP roomy') (length P) [] W (grouped (reverse W)) (groups W) hW
    bytes-nil (rw (excess-nil P) (le_refl 0)))
    0 (starts (length P) T) 0

-- a count of v stayed below the top bit of a field of lg(v) + 2 bits
former-below : (v : ℕ) → v < 2 ^ (lg v + 2 - 1)
former-below v = omega (arith, doubled-lg v)

former-roomy : (q : ℕ) → q ≤ 2 → 0 < q → q ≤ 2 ^ (q - 1) → Roomy 0 q (former_layout q)
former-roomy q few some holds = letters-roomy (former_layout q) q few former-below some holds

pub steps-as-before : (P : List ℕ) (k method : ℕ) (T : List ℕ) → Bytes P → Bytes T → steps P k method T ≡ former_steps P k method T
unfolding steps way_of former_steps former_layout_of packed_steps bam_scan bam2_scan
steps-as-before P k zero T hP hT = refl
steps-as-before P k (suc zero) T hP hT = refl
steps-as-before P k (suc (suc zero)) T hP hT =
    widths-free P 1 bam_layout (former_layout 1) hP bam-roomy (former-roomy 1 (omega arith) (omega arith) (omega arith)) singles by-singles T hT
steps-as-before P k (suc (suc (suc zero))) T hP hT =
    widths-free P 2 bam2_layout (former_layout 2) hP bam2-roomy (former-roomy 2 (omega arith) (omega arith) (omega arith)) pairs by-pairs T hT
steps-as-before P k (suc (suc (suc (suc n)))) T hP hT = let m = suc (suc (suc (suc n))) in rw (ne_eqb m 2 (λ e. omega arith), ne_eqb m 3 (λ e. omega arith)) refl

-- ---- refusals

-- no field of the one layout has more bits than the other's
record Narrower (layout wide : Layout) : Type 0 where
  own : (v : ℕ) → layout.own v ≤ wide.own v
  common : layout.common ≤ wide.common

narrower-bits : (P : List ℕ) (layout wide : Layout) → Narrower layout wide → bits P layout ≤ bits P wide
unfolding bits width_of
narrower-bits P layout wide narrower =
    sum_mono field_count (width_of P layout) (width_of P wide)
    (λ f l. either (eqb f 256) narrower.common (either (eqb (cc P f) 0) (le_refl 0) (narrower.own (cc P f))))
  where
    either : {a b c d : ℕ} (t : Bool) → a ≤ c → b ≤ d → cond t a b ≤ cond t c d
    either true h g = h
    either false h g = g

narrower-same : (layout : Layout) → Narrower layout layout
narrower-same layout = record { own = λ v. le_refl (layout.own v); common = le_refl layout.common }

narrower-letters : {own : ℕ → ℕ} → LetterWidths own → (common : ℕ) → Narrower (record { own = own; common = common }) (former_layout common)
narrower-letters letters common =
    record { own = λ v. letters.least v (lg v + 2) (omega arith) (former-below v); common = le_refl common }

narrower-than-before : (k method : ℕ) → Narrower (layout_of k method) (former_layout_of k method)
unfolding layout_of former_layout_of
narrower-than-before k zero = narrower-same (layout_of k zero)
narrower-than-before k (suc zero) = narrower-same (layout_of k (suc zero))
narrower-than-before k (suc (suc zero)) = narrower-letters bam-letters 1
narrower-than-before k (suc (suc (suc zero))) = narrower-letters bam2-letters 2
narrower-than-before k (suc (suc (suc (suc n)))) =
    let m = suc (suc (suc (suc n))) in
    rw (ne_eqb m 2 (λ e. omega arith), ne_eqb m 3 (λ e. omega arith)) (narrower-same _)

pub fewer-bits : (P : List ℕ) (k method : ℕ) → bits P (layout_of k method) ≤ bits P (former_layout_of k method)
fewer-bits P k method = narrower-bits P (layout_of k method) (former_layout_of k method) (narrower-than-before k method)

-- Tests in the place of former ones, the same but for some of 5, which apply less often than they did
pub data Amended : (former ts : List Test) → Type 0 where
  none : Amended [] []
  same : {t : Test} {former ts : List Test} → Amended former ts → Amended (t ∷ former) (t ∷ ts)
  fewer : {was is : Bool} {former ts : List Test} → (was ≡ false → is ≡ false) → Amended former ts → Amended (test 5 was ∷ former) (test 5 is ∷ ts)

-- They give the number that the former ones gave, unless that was 5
pub amended-number : {former ts : List Test} → Amended former ts → (given former ≡ 5 → ⊥) → given ts ≡ given former
unfolding given
amended-number none not5 = refl
amended-number (same {t = t} {former = former} {ts = ts} more) not5 = by t.applies (λ later. amended-number more later) not5
  where
    by : (b : Bool) → ((given former ≡ 5 → ⊥) → given ts ≡ given former) → (cond b t.number (given former) ≡ 5 → ⊥)
        → cond b t.number (given ts) ≡ cond b t.number (given former)
    by true later not5 = refl
    by false later not5 = later not5
amended-number (fewer {was = true} less more) not5 = absurd (not5 refl)
amended-number (fewer {was = false} less more) not5 = rw (less refl) (amended-number more not5)

pub amended-same : (ts : List Test) → Amended ts ts
amended-same [] = none
amended-same (t ∷ ts) = same (amended-same ts)

pub amended-append : {former ts former' ts' : List Test} → Amended former ts → Amended former' ts' → Amended (former ++ former') (ts ++ ts')
amended-append none later = later
amended-append (same more) later = same (amended-append more later)
amended-append (fewer less more) later = fewer less (amended-append more later)

pub amended-after : (before : List Test) {former ts : List Test} → Amended former ts → Amended (before ++ former) (before ++ ts)
amended-after before amended = amended-append (amended-same before) amended

pub amended-before : {former ts : List Test} → Amended former ts → (after : List Test) → Amended (former ++ after) (ts ++ after)
amended-before amended after = amended-append amended (amended-same after)

pub method-amended : (P : List ℕ) (k method : ℕ) → Amended (former_method_tests P k method) (method_tests P k method)
unfolding method_tests former_method_tests width_tests
method-amended P k method = amended-after (known_tests method) (amended-after (exact_tests k method) (fewer less none))
  where
    less : ltb 64 (bits P (former_layout_of k method)) ≡ false → ltb 64 (bits P (layout_of k method)) ≡ false
    less fitted =
        le-ltb 64 (bits P (layout_of k method)) (omega (arith, ltb-false 64 (bits P (former_layout_of k method)) fitted, fewer-bits P k method))

pub pattern-amended : (P : List ℕ) (k method : ℕ) → Amended (former_pattern_tests P k method) (pattern_tests P k method)
unfolding pattern_tests former_pattern_tests
pattern-amended P k method =
    amended-after (length_tests (length P)) (amended-after (lost_tests P) (amended-after (tolerance_tests (length P) k) (method-amended P k method)))

pub number-as-before : (P : List ℕ) (k method : ℕ) → (given (former_pattern_tests P k method) ≡ 5 → ⊥)
    → given (pattern_tests P k method) ≡ given (former_pattern_tests P k method)
number-as-before P k method = amended-number (pattern-amended P k method)

-- ---- the theorem

-- What T-03 promises of a pattern that was accepted: it still is, and the steps list the same positions with the same inspections
pub record AsBefore (P : List ℕ) (k method : ℕ) (T : List ℕ) : Type 0 where
  pub accepted : given (pattern_tests P k method) ≡ 0
  pub occurrences : (steps P k method T).occurrences ≡ (former_steps P k method T).occurrences
  pub inspections : (steps P k method T).inspections ≡ (former_steps P k method T).inspections

pub as_before : (P : List ℕ) (k method : ℕ) (T : List ℕ) → Bytes P → Bytes T → given (former_pattern_tests P k method) ≡ 0 → AsBefore P k method T
as_before P k method T hP hT was =
    record {
      accepted = number-as-before P k method (λ five. omega arith) ∙ was;
      occurrences = ap (λ (r : Result). r.occurrences) (steps-as-before P k method T hP hT);
      inspections = ap (λ (r : Result). r.inspections) (steps-as-before P k method T hP hT);
    }
