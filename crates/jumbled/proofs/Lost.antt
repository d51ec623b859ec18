-- What document 02, T-07, says of lost hours, sentence by sentence, from the definitions. That every method lists the positions of the amended
-- definition is `methods-list`; that the excess never shrinks to the left is `excess-left`.
use mathlib.Core.Path.{◌≡◌, refl, sym, ap, ◌∙◌}
use mathlib.Core.Bool.{Bool, true, false, cond, not, ◌&&◌}
use mathlib.Core.List.{List, [], ◌∷◌, ◌++◌, reverse}
use mathlib.Core.Logic.{◌↔◌, ◌⊎◌, inl, inr}
use Prim.Native.Nat.{ℕ, ◌-◌}
use native.Mathlib.Omega.{arith}
use lib.Dec.{ltb}
use lib.ListN.{length}
use borrow.Author.Tests.{eqb-true}
use Rattle.jumbled.specs.Match.{cc, occurs, lost_hour, lost, evidence, beyond, excess, matches}
use Rattle.jumbled.specs.Scan.{unverified, singles, pairs}
use Rattle.jumbled.specs.Fields.{Layout, bam_layout, bam2_layout, abam_layout, value_of, overflows, errors}
use Rattle.jumbled.specs.Heap.{exact}
use Rattle.jumbled.specs.Steps.{bam_scan, bam2_scan, abam_scan, candidate, verified, hcam_judged, passes}
use Rattle.jumbled.specs.Refusals.{Test, given, bad_length, length_tests, lost_tests, tolerance_tests, known_tests, exact_tests, width_tests, method_tests, pattern_tests}
use Rattle.jumbled.proofs.Counts.{lacked, cc-evidence-le, cc-kept, evidence-lost, evidence-append, beyond-ext}
use Rattle.jumbled.proofs.Scans.{scan-whole, by-singles, by-pairs}
use Rattle.jumbled.proofs.Admission.{given-later, given-refused, length-numbered, lost-numbered}
use Rattle.jumbled.proofs.Never.{Never, never-given, never-append, other}

-- ---- what a match is

-- wherever a window has a lost hour, its excess is what it is without it
pub lost-no-excess : (P A R : List ℕ) → excess P (A ++ (lost_hour ∷ R)) ≡ excess P (A ++ R)
unfolding excess
lost-no-excess P A R =
    ap (beyond (cc P)) (evidence-append A (lost_hour ∷ R) ∙ ap (λ (l : List ℕ). evidence A ++ l) (evidence-lost lost_hour R refl) ∙ sym (evidence-append A R))

-- and of a window that has none the definition stands as it was
pub as_it_was : (P W : List ℕ) → occurs W lost_hour ≡ false → excess P W ≡ beyond (cc P) W
unfolding excess
as_it_was P W none = beyond-ext (cc P) (cc P) (evidence W) W (λ c l. ap (λ (n : ℕ). n - cc P c) (case c (lost c) refl))
  where
    case : (c : ℕ) (t : Bool) → lost c ≡ t → cc (evidence W) c ≡ cc W c
    case c true e =
        let no : cc W c ≡ 0 = ap (cc W) (sym (eqb-true lost_hour c e)) ∙ lacked W lost_hour none in
        omega (arith, cc-evidence-le W c)
    case c false e = cc-kept W c e

-- ---- methods 2, 3 and 4: nothing is added, and no error counted, whatever the top bit

pub lost-adds-nothing : (P : List ℕ) (layout : Layout) (R : List ℕ) (f : ℕ) → value_of P layout (lost_hour ∷ R) f ≡ value_of P layout R f
unfolding value_of
lost-adds-nothing P layout R f = rw (evidence-lost lost_hour R refl) refl

pub lost-no-error : (P : List ℕ) (layout : Layout) (R : List ℕ) → errors P layout (lost_hour ∷ R) ≡ errors P layout R
unfolding errors
lost-no-error P layout R = omega arith

-- but each is inspected: a window that is listed took an inspection for every reading, lost or not
pub bam-inspects : (P W : List ℕ) → (bam_scan P W).listed ≡ true → (bam_scan P W).inspections ≡ length W
unfolding bam_scan
bam-inspects P W listed =
    omega (arith, scan-whole (overflows P bam_layout) (length P) 1 [] W (singles (reverse W)) (by-singles W) listed)

pub bam2-inspects : (P W : List ℕ) → (bam2_scan P W).listed ≡ true → (bam2_scan P W).inspections ≡ length W
unfolding bam2_scan
bam2-inspects P W listed =
    omega (arith, scan-whole (overflows P bam2_layout) (length P) 2 [] W (pairs (reverse W)) (by-pairs W) listed)

pub abam-inspects : (P : List ℕ) (k : ℕ) (W : List ℕ) → (abam_scan P k W).listed ≡ true → (abam_scan P k W).inspections ≡ length W
unfolding abam_scan
abam-inspects P k W listed =
    omega (arith, scan-whole (λ R. ltb k (errors P (abam_layout k) R)) (length P) 1 [] W (singles (reverse W)) (by-singles W) listed)

-- ---- method 5

-- a window that holds one is verified, equal sum or not
pub hcam-lost : (P W : List ℕ) → occurs W lost_hour ≡ true → hcam_judged P W ≡ record { listed = matches P 0 W; verification = length P }
unfolding hcam_judged verified
hcam-lost P W some = rw some refl

-- and every other window as it was: a candidate matches where the values are exact, and is verified otherwise
pub hcam-others : (P W : List ℕ) → occurs W lost_hour ≡ false
    → hcam_judged P W
    ≡ cond (candidate P W) (cond (exact P) (unverified true) (record { listed = matches P 0 W; verification = length P })) (unverified false)
unfolding hcam_judged verified
hcam-others P W none = rw none (case (candidate P W) (exact P))
  where
    case : (t x : Bool)
        → cond (t && not x) (record { listed = matches P 0 W; verification = length P }) (unverified t)
        ≡ cond t (cond x (unverified true) (record { listed = matches P 0 W; verification = length P })) (unverified false)
    case true true = refl
    case true false = refl
    case false x = refl

-- ---- method 6

-- a lost hour is read on past as a letter of P is, and for every other byte it is as it was
pub lost-passes : (P : List ℕ) → passes P lost_hour ≡ true
unfolding passes
lost-passes P = refl

pub others-pass : (P : List ℕ) (b : ℕ) → lost b ≡ false → passes P b ≡ occurs P b
unfolding passes
others-pass P b e = rw e refl

-- ---- 13

terms-not-13 : (P : List ℕ) (k method : ℕ) → Never 13 (tolerance_tests (length P) k ++ method_tests P k method)
unfolding tolerance_tests method_tests known_tests exact_tests width_tests
terms-not-13 P k method =
    never-append (other (λ e. omega arith)) (never-append (other (λ e. omega arith)) (never-append (other (λ e. omega arith)) (other (λ e. omega arith))))

pub lost-given : (P : List ℕ) → occurs P lost_hour ≡ true → given (lost_tests P) ≡ 13
unfolding lost_tests given
lost-given P e = rw e refl

none-given : (P : List ℕ) → occurs P lost_hour ≡ false → given (lost_tests P) ≡ 0
unfolding lost_tests given
none-given P e = rw e refl

length-number : (m : ℕ) → (given (length_tests m) ≡ 0) ⊎ (given (length_tests m) ≡ 1)
unfolding length_tests given
length-number m = by (bad_length m)
  where
    by : (t : Bool) → (cond {A = ℕ} t 1 0 ≡ 0) ⊎ (cond {A = ℕ} t 1 0 ≡ 1)
    by true = inr refl
    by false = inl refl

-- it is given exactly where 1 is not and the pattern holds a lost hour, whatever k and the method are
pub thirteen : (P : List ℕ) (k method : ℕ)
    → (given (pattern_tests P k method) ≡ 13) ↔ ((given (length_tests (length P)) ≡ 0) × (occurs P lost_hour ≡ true))
unfolding pattern_tests
thirteen P k method = (from, to)
  where
    rest : List Test
    rest = tolerance_tests (length P) k ++ method_tests P k method

    to : (given (length_tests (length P)) ≡ 0) × (occurs P lost_hour ≡ true) → given (length_tests (length P) ++ (lost_tests P ++ rest)) ≡ 13
    to h =
        given-later (length_tests (length P)) _ (length-numbered (length P)) h.0
        ∙ given-refused (lost_tests P) rest (lost-numbered P) (lost-given P h.1)

    holds : (t : Bool) → occurs P lost_hour ≡ t → given (lost_tests P ++ rest) ≡ 13 → t ≡ true
    holds true e n = refl
    holds false e n = absurd (never-given (terms-not-13 P k method) (sym (given-later (lost_tests P) rest (lost-numbered P) (none-given P e)) ∙ n))

    from : given (length_tests (length P) ++ (lost_tests P ++ rest)) ≡ 13 → (given (length_tests (length P)) ≡ 0) × (occurs P lost_hour ≡ true)
    from n = by (length-number (length P))
      where
        by : (given (length_tests (length P)) ≡ 0) ⊎ (given (length_tests (length P)) ≡ 1) → (given (length_tests (length P)) ≡ 0) × (occurs P lost_hour ≡ true)
        by (inl right) =
            (right, holds (occurs P lost_hour) refl (sym (given-later (length_tests (length P)) _ (length-numbered (length P)) right) ∙ n))
        by (inr wrong) =
            absurd (let one : given (length_tests (length P) ++ (lost_tests P ++ rest)) ≡ 1 = given-refused (length_tests (length P)) _ (length-numbered (length P)) wrong in omega arith)
