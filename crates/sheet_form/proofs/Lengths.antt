-- How long a line, a page and a sheet are.
use mathlib.Core.Path.{◌≡◌, refl, ap, ◌∙◌}
use mathlib.Core.List.{List, [], ◌∷◌, ◌++◌, map, flat_map}
use mathlib.Core.Logic.{⊎_elim}
use Prim.Native.Nat.{ℕ, zero, suc, ◌+◌, ◌-◌, ◌*◌, ◌^◌, ◌≤◌, ◌<◌}
use native.Mathlib.Nat.{mul-suc}
use native.Mathlib.Omega.{arith}
use lib.ListN.{length, get_or, take, drop, replicate, length-append, length-take, length-drop, length-map, length-replicate, get_or-eq_default}
use lib.Seq.{take_all, take-add, get_or-take, get_or-drop}
use Rattle.jumbled.proofs.Sums.{below_or_not}
use Rattle.jumbled.specs.Match.{window}
use Rattle.ascii.specs.Codes.{space}
use Rattle.ascii.specs.Decimal.{decimal}
use Rattle.ascii.proofs.Decimals.{length-decimal}
use Rattle.sheet_form.proofs.Joining.{between-length, joined-more}
use Rattle.sheet_form.specs.Sheet.{shown, right_aligned, left_aligned, line, line_at, on_page, page, page_count, first_pages, joined, sheet, sheet_bytes}

-- ---- columns

pub length-right : (width : ℕ) (U : List ℕ) → length U ≤ width → length (right_aligned width U) ≡ width
unfolding right_aligned
length-right width U fits = omega (arith, length-append (replicate (width - length U) space) U, length-replicate (width - length U) space)

pub length-left : (width : ℕ) (U : List ℕ) → length U ≤ width → length (left_aligned width U) ≡ width
unfolding left_aligned
length-left width U fits = omega (arith, length-append U (replicate (width - length U) space), length-replicate (width - length U) space)

-- Every number has room in the first column of a line
pub record InColumn (listed : List ℕ) : Type 0 where
  pub below : (i : ℕ) → get_or listed i 0 < 10 ^ 10

pub length-position : (s : ℕ) → s < 10 ^ 10 → length (decimal s) ≤ 10
length-position s fits = length-decimal 9 s fits

pub line-length : (s : ℕ) (W : List ℕ) → s < 10 ^ 10 → length W ≤ 64 → length (line s W) ≡ 76
unfolding line
line-length s W fits short =
    simp length-append
    (omega (arith, length-right 10 (decimal s) (length-position s fits), length-left 64 (map shown W) (omega (arith, length-map W shown))))

-- ---- lines

module _ (m : ℕ) (T : List ℕ) (short : m ≤ 64) where
  pub lines-length : (listed : List ℕ) → InColumn listed → length (flat_map (line_at m T) listed) ≡ 76 * length listed
  unfolding flat_map
  lines-length [] fit = refl
  lines-length (s ∷ listed) fit =
      omega (
        arith,
        length-append (line_at m T s) (flat_map (line_at m T) listed),
        line-length s (window m T s) (fit.below 0) (omega (arith, length-take m (drop s T))),
        lines-length listed (record { below = λ i. fit.below (suc i) }),
      )

-- ---- pages

-- the j-th position on page i
pub on-page : (listed : List ℕ) (i j : ℕ) → j < length (on_page listed i)
    → (get_or (on_page listed i) j 0 ≡ get_or listed (50 * i + j) 0) × (50 * i + j < length listed)
on-page listed i j on =
    let most = length-take 50 (drop (50 * i) listed) in
    let rest = length-drop (50 * i) listed in
    (get_or-take 50 (drop (50 * i) listed) j 0 (omega arith) ∙ get_or-drop (50 * i) listed j 0, omega arith)

pub column-page : (listed : List ℕ) (i : ℕ) → InColumn listed → InColumn (on_page listed i)
column-page listed i fit =
    record {
      below = λ j.
          ⊎_elim (λ (on : j < length (on_page listed i)). rw (on-page listed i j on).0 (fit.below (50 * i + j)))
          (λ (past : length (on_page listed i) ≤ j). omega (arith, get_or-eq_default (on_page listed i) 0 past)) (below_or_not j (length (on_page listed i)));
    }

-- the positions on one page more
pub pages-cover : (listed : List ℕ) (pages : ℕ) → take (50 * suc pages) listed ≡ take (50 * pages) listed ++ on_page listed pages
pages-cover listed pages = ap (λ (n : ℕ). take n listed) (mul-suc 50 pages) ∙ take-add (50 * pages) 50 listed

-- all pages have all positions
pub pages-all : (listed : List ℕ) → take (50 * page_count (length listed)) listed ≡ listed
pages-all listed = take_all (50 * page_count (length listed)) listed (omega arith)

-- ---- the sheet

module _ (m : ℕ) (T listed : List ℕ) where
  -- the next page comes last
  pub pages-more : (pages : ℕ) → first_pages m T listed (suc pages) ≡ first_pages m T listed pages ++ (page m T listed pages ∷ [])
  unfolding first_pages
  pages-more pages = refl

  pub pages-length : (pages : ℕ) → length (first_pages m T listed pages) ≡ pages
  unfolding first_pages
  pages-length zero = refl
  pages-length (suc pages) = omega (arith, length-append (first_pages m T listed pages) (page m T listed pages ∷ []), pages-length pages)

  -- the first pages as they stand on the sheet, and one page more
  abbrev pub standing : ℕ → List ℕ
  standing pages = joined 12 (first_pages m T listed pages)

  pub standing-more : (pages : ℕ) → standing (suc pages) ≡ standing pages ++ (take pages (12 ∷ []) ++ page m T listed pages)
  standing-more pages =
      ap (joined 12) (pages-more pages)
      ∙ joined-more 12 (first_pages m T listed pages) (page m T listed pages)
      ∙ ap (λ (n : ℕ). standing pages ++ (take n (12 ∷ []) ++ page m T listed pages)) (pages-length pages)

  -- fewer pages are no longer
  pub standing-shorter : (i j : ℕ) → i ≤ j → length (standing i) ≤ length (standing j)
  standing-shorter i zero h = let same : i ≡ 0 = omega arith in rw same (omega arith)
  standing-shorter i (suc j) h =
      ⊎_elim (λ (below : i < suc j).
      omega (arith, ap length (standing-more j), length-append (standing j) (take j (12 ∷ []) ++ page m T listed j), standing-shorter i j (omega arith)))
      (λ (above : suc j ≤ i). let same : i ≡ suc j = omega arith in rw same (omega arith)) (below_or_not i (suc j))

  module _ (short : m ≤ 64) (fit : InColumn listed) where
    page-length : (i : ℕ) → length (page m T listed i) ≡ 76 * length (on_page listed i)
    unfolding page
    page-length i = lines-length m T short (on_page listed i) (column-page listed i fit)

    -- 76 for each position, and 1 for each page but the first
    standing-length : (pages : ℕ) → length (standing pages) ≡ 76 * length (take (50 * pages) listed) + (pages - 1)
    unfolding first_pages joined
    standing-length zero = refl
    standing-length (suc pages) =
        omega (
          arith,
          ap length (standing-more pages),
          length-append (standing pages) (take pages (12 ∷ []) ++ page m T listed pages),
          length-append (take pages (12 ∷ [])) (page m T listed pages),
          standing-length pages,
          page-length pages,
          between-length 12 pages,
          ap length (pages-cover listed pages),
          length-append (take (50 * pages) listed) (on_page listed pages),
        )

    pub sheet-length : length (sheet m T listed) ≡ sheet_bytes (length listed)
    unfolding sheet
    sheet-length =
        standing-length (page_count (length listed)) ∙ ap (λ (l : List ℕ). 76 * length l + (page_count (length listed) - 1)) (pages-all listed)

-- nothing at all for no positions
pub sheet-none : (m : ℕ) (T : List ℕ) → sheet m T [] ≡ []
unfolding sheet first_pages joined
sheet-none m T = refl
