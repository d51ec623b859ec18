-- Laws of the pages as they are written: the part of the list that a page has, and the room for it.
use mathlib.Core.Path.{◌≡◌, sym, ap, ◌∙◌}
use mathlib.Core.List.{List, [], ◌∷◌, ◌++◌}
use mathlib.Core.Logic.{⊎_elim}
use Prim.Native.Nat.{ℕ, zero, suc, ◌+◌, ◌-◌, ◌*◌, ◌≤◌, ◌<◌, min}
use native.Mathlib.Omega.{arith}
use lib.ListN.{length, take, drop, length-drop}
use lib.Seq.{take_all, take-nil}
use Rattle.jumbled.proofs.Sums.{below_or_not}
use Rattle.sheet_form.specs.Sheet.{on_page, page, page_count, sheet}
use Rattle.sheet_form.proofs.Lengths.{on-page, standing, standing-more, standing-shorter}
use Rattle.sheet_write.specs.Writing.{WindowsInside, break_before}

-- fifty positions from the page's first on, or up to the list's end
pub page-part : (listed : List ℕ) (i : ℕ) → take (min (50 * i + 50) (length listed) - 50 * i) (drop (50 * i) listed) ≡ on_page listed i
page-part listed i =
    ⊎_elim (λ (full : 50 * i + 50 < length listed).
    let fifty : min (50 * i + 50) (length listed) - 50 * i ≡ 50 = omega arith in
    ap (λ (n : ℕ). take n (drop (50 * i) listed)) fifty)
    (λ (last : length listed ≤ 50 * i + 50).
    take_all (min (50 * i + 50) (length listed) - 50 * i) (drop (50 * i) listed) (omega (arith, length-drop (50 * i) listed))
    ∙ sym (take_all 50 (drop (50 * i) listed) (omega (arith, length-drop (50 * i) listed)))) (below_or_not (50 * i + 50) (length listed))

pub page-inside : {m : ℕ} {T listed : List ℕ} → WindowsInside m T listed → (i : ℕ) → WindowsInside m T (on_page listed i)
page-inside {m} {T} {listed} windows i =
    record {
      short = windows.short;
      numbered = windows.numbered;
      inside = λ j on. rw (on-page listed i j on).0 (windows.inside (50 * i + j) (on-page listed i j on).1);
    }

-- what has room for the sheet has room for a page after those before it
pub page-room : (m : ℕ) (T listed : List ℕ) (i : ℕ) {n : ℕ} → i < page_count (length listed) → length (sheet m T listed) ≤ n
    → 0 + length (standing m T listed i ++ (break_before i ++ page m T listed i)) ≤ n
unfolding sheet
page-room m T listed i l room =
    omega (arith, standing-shorter m T listed (suc i) (page_count (length listed)) (omega arith), ap length (standing-more m T listed i))

-- one byte parts a page from the one before it
pub break-later : (i : ℕ) → 0 < i → break_before i ≡ 12 ∷ []
break-later zero later = absurd (omega arith)
break-later (suc before) later = ap (λ (U : List ℕ). 12 ∷ U) (take-nil before)
