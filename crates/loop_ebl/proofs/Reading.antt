-- A window while method 6 reads it: every byte so far occurs in the pattern, or is a lost hour. It ends at one that is neither, or is verified.
use mathlib.Core.Path.{◌≡◌, refl, sym, ap, ◌∙◌}
use mathlib.Core.Bool.{Bool, true, false}
use mathlib.Core.List.{List, ◌∷◌, ◌++◌}
use Prim.Native.Nat.{ℕ, ◌+◌, ◌-◌, ◌≤◌, ◌<◌}
use native.Mathlib.Omega.{arith}
use lib.ListN.{length, get_or, set, take, length-drop, take-append-drop}
use Rattle.jumbled.specs.Match.{matches, window}
use Rattle.jumbled.specs.Scan.{stopped}
use Rattle.jumbled.specs.Steps.{passes, ebl_scan}
use Rattle.jumbled.proofs.Windows.{window-whole}
use Rattle.jumbled.proofs.Ebl.{Occur, none, next, ebl-stops, ebl-verifies}
use Rattle.table_parikh.specs.Letters.{Occurring}
use Rattle.lent.specs.declared.Range.{Range}
use Rattle.lent.specs.Loops.{Fitting}
use Rattle.loop_backward.proofs.Leftward.{read_from, read_none, read_more}
use Rattle.loop_backward.proofs.Windows.{Going, going-match, going-stop}

-- what the table says of a byte
pub told : {P : List ℕ} {table : List Bool} → Occurring P table → {b : ℕ} → b < 256 → {t : Bool} → get_or table b false ≡ t → passes P b ≡ t
told o {b} byte e = sym (o.tells b byte) ∙ e

-- The windows before s₀ are done, and the one at s₀ is to be scanned, for which the list has a place
pub record Window (P T : List ℕ) (range : Range) (before : List ℕ) (s₀ at inspections₀ : ℕ) (after : List ℕ) : Type 0 where
  pub fitting : Fitting T (length P) range
  pub going : Going (ebl_scan P) (length P) T range before s₀ at inspections₀ after
  pub inside : s₀ < range.end
  pub place : at < length after

-- What holds where the test of the leftward loop is reached: the window at s₀ is read down to p, and each byte read is an inspection
pub record Inner (P T : List ℕ) (s₀ inspections₀ s inspections p : ℕ) : Type 0 where
  pub same : s ≡ s₀
  pub here : s₀ ≤ p
  pub upto : p ≤ s₀ + length P
  pub occur : Occur P (read_from (length P) T s₀ p)
  pub inspected : inspections + p ≡ inspections₀ + (s₀ + length P)

module _ {P T : List ℕ} {range : Range} {before : List ℕ} {s₀ at inspections₀ : ℕ} {after : List ℕ} (w : Window P T range before s₀ at inspections₀ after) where
  pub window-upto : s₀ + length P ≤ length T
  window-upto = w.fitting.whole s₀ w.inside

  pub inner_first : Inner P T s₀ inspections₀ s₀ inspections₀ (s₀ + length P)
  inner_first =
      record {
        same = refl;
        here = omega arith;
        upto = omega arith;
        occur = rw (read_none (length P) T s₀ window-upto) none;
        inspected = refl;
      }

  module _ {s inspections p : ℕ} (inner : Inner P T s₀ inspections₀ s inspections p) where
    -- the byte before p is read
    module _ (more : s < p) where
      read : read_from (length P) T s₀ (p - 1) ≡ get_or T (p - 1) 0 ∷ read_from (length P) T s₀ p
      read = read_more (length P) T s₀ window-upto p (omega (arith, inner.same)) inner.upto

      -- and is read on past
      pub inner-on : passes P (get_or T (p - 1) 0) ≡ true → Inner P T s₀ inspections₀ s (inspections + 1) (p - 1)
      inner-on there =
          record {
            same = inner.same;
            here = omega (arith, inner.same);
            upto = omega (arith, inner.upto);
            occur = rw read (next there inner.occur);
            inspected = omega (arith, inner.inspected);
          }

      -- or is not: the search goes on after it
      pub inner-stop : passes P (get_or T (p - 1) 0) ≡ false → Going (ebl_scan P) (length P) T range before (p - 1 + 1) at (inspections + 1) after
      inner-stop lacking =
          let next_start : s₀ + (p - 1 - s₀) + 1 ≡ p - 1 + 1 = omega (arith, inner.same) in
          let counted : inspections₀ + (length P - (p - 1 - s₀)) ≡ inspections + 1 = omega (arith, inner.inspected, inner.same, inner.upto) in
          rw (next_start, counted) at
          (going-stop w.going w.inside w.place (p - 1 - s₀) (length P - (p - 1 - s₀)) (omega (arith, w.fitting.short)) (rw (taken, offset) at scan-is))
        where
          left : List ℕ
          left = take (p - 1 - s₀) (window (length P) T s₀)

          split : window (length P) T s₀ ≡ left ++ (get_or T (p - 1) 0 ∷ read_from (length P) T s₀ p)
          split = sym (take-append-drop (p - 1 - s₀) (window (length P) T s₀)) ∙ ap (λ (l : List ℕ). left ++ l) read

          scan-is : ebl_scan P (window (length P) T s₀) ≡ stopped (length P) (get_or T (p - 1) 0 ∷ read_from (length P) T s₀ p)
          scan-is = ap (ebl_scan P) split ∙ ebl-stops P left (get_or T (p - 1) 0) (read_from (length P) T s₀ p) lacking inner.occur

          taken : length (get_or T (p - 1) 0 ∷ read_from (length P) T s₀ p) ≡ length P - (p - 1 - s₀)
          taken =
              ap length (sym read) ∙ length-drop (p - 1 - s₀) (window (length P) T s₀)
              ∙ ap (λ (n : ℕ). n - (p - 1 - s₀)) (window-whole (length P) T s₀ window-upto)

          offset : length P - (length P - (p - 1 - s₀)) ≡ p - 1 - s₀
          offset = omega (arith, inner.upto)

    -- all of the window is read
    module _ (done : p ≤ s) where
      all-occur : Occur P (window (length P) T s₀)
      all-occur = let none_left : p - s₀ ≡ 0 = omega (arith, inner.same) in rw none_left at inner.occur

      scan-is : {t : Bool} → matches P 0 (window (length P) T s₀) ≡ t
          → ebl_scan P (window (length P) T s₀) ≡ record { listed = t; offset = 0; inspections = length P + length P }
      scan-is e = rw (e, window-whole (length P) T s₀ window-upto) at (ebl-verifies P (window (length P) T s₀) all-occur)

      counted : inspections₀ + (length P + length P) ≡ inspections + length P
      counted = omega (arith, inner.inspected, inner.same, inner.here)

      -- it matches,
      pub inner-listed : matches P 0 (window (length P) T s₀) ≡ true → Going (ebl_scan P) (length P) T range before (s + 1) (at + 1) (inspections + length P) (set after at (range.base + s))
      inner-listed e = rw (inner.same, ← counted) (going-match w.going w.inside w.place (length P + length P) (omega (arith, w.fitting.short)) (scan-is e))

      -- or does not: the search goes on at the next window start all the same
      pub inner-passed : matches P 0 (window (length P) T s₀) ≡ false → Going (ebl_scan P) (length P) T range before (s + 1) at (inspections + length P) after
      inner-passed e =
          let here : s₀ + 0 + 1 ≡ s + 1 = omega (arith, inner.same) in
          rw (here, counted) at (going-stop w.going w.inside w.place 0 (length P + length P) (omega (arith, w.fitting.short)) (scan-is e))
