-- The theorem that the positions can be read back from the paper: from every page by itself, and from the whole sheet (document 02, T-02).
use mathlib.Core.Path.{◌≡◌, refl, sym, ap, ap₂, ◌∙◌}
use mathlib.Core.List.{List, [], ◌∷◌, ◌++◌, append_assoc, append-nil, map, flat_map}
use mathlib.Core.Logic.{⊎_elim}
use Prim.Native.Nat.{ℕ, zero, suc, ◌*◌, ◌≤◌, ◌<◌}
use native.Mathlib.Omega.{arith}
use lib.ListN.{length, get_or, take, get_or-append}
use lib.Seq.{get_or_at}
use Rattle.jumbled.specs.Match.{window}
use Rattle.jumbled.proofs.Sums.{below_or_not}
use Rattle.sheet_form.specs.Sheet.{line_at, on_page, page, page_count, first_pages, joined, sheet}
use Rattle.sheet_form.specs.Reading.{parts_by, but_last, pages_on, lines_on, read_line, read_page, read_pages, read_sheet}
use Rattle.sheet_form.proofs.Lengths.{InColumn, column-page, pages-cover, pages-all, pages-more, pages-length}
use Rattle.sheet_form.proofs.Parts.{Without, none, without-append, without-one, parts-some, parts_first, parts-joined, but_last-more}
use Rattle.sheet_form.proofs.Lines.{printed, line-printed, printed-without, read-printed}

-- ---- a page

module _ (m : ℕ) (T : List ℕ) where
  line_first : (s : ℕ) (later : List ℕ) → line_at m T s ++ later ≡ printed s (window m T s) ++ (10 ∷ later)
  line_first s later = ap (λ (U : List ℕ). U ++ later) (line-printed s (window m T s)) ∙ append_assoc (printed s (window m T s)) (10 ∷ []) later

  -- the lines of some positions give them back
  read-lines : (listed : List ℕ) → InColumn listed → read_page (flat_map (line_at m T) listed) ≡ listed
  unfolding read_page lines_on parts_by but_last flat_map
  read-lines [] fit = refl
  read-lines (s ∷ listed) fit =
      ap (λ (parts : List (List ℕ)). map read_line (but_last parts))
      (ap (parts_by 10) (line_first s (flat_map (line_at m T) listed)) ∙ parts_first 10 (printed-without (omega arith) s (window m T s)) (flat_map (line_at m T) listed))
      ∙ ap (map read_line) (but_last-more (printed s (window m T s)) (parts_by 10 (flat_map (line_at m T) listed)) (parts-some 10 (flat_map (line_at m T) listed)))
      ∙ ap₂ (λ (x : ℕ) (xs : List ℕ). x ∷ xs) (read-printed s (window m T s) (fit.below 0)) (read-lines listed (record { below = λ i. fit.below (suc i) }))

  -- and none of them has the byte 12
  lines-without : (listed : List ℕ) → Without 12 (flat_map (line_at m T) listed)
  unfolding flat_map
  lines-without [] = none
  lines-without (s ∷ listed) =
      rw (line-printed s (window m T s))
      (without-append (without-append (printed-without (omega arith) s (window m T s)) (without-one (λ e. omega arith))) (lines-without listed))

  module _ (listed : List ℕ) where
    page-without : (i : ℕ) → Without 12 (page m T listed i)
    unfolding page
    page-without i = lines-without (on_page listed i)

    pub read-page : InColumn listed → (i : ℕ) → read_page (page m T listed i) ≡ on_page listed i
    unfolding page
    read-page fit i = read-lines (on_page listed i) (column-page listed i fit)

-- ---- the pages of a sheet

module _ (m : ℕ) (T listed : List ℕ) where
  page-among : (pages i : ℕ) → i < pages → get_or (first_pages m T listed pages) i [] ≡ page m T listed i
  page-among zero i l = elim l [ ]
  page-among (suc pages) i l =
      ap (λ (all : List (List ℕ)). get_or all i []) (pages-more m T listed pages)
      ∙ ⊎_elim (λ (earlier : i < pages).
      get_or-append (first_pages m T listed pages) (page m T listed pages ∷ []) [] i (omega (arith, pages-length m T listed pages))
      ∙ page-among pages i earlier)
      (λ (last : pages ≤ i).
      let same : i ≡ pages = omega arith in
      ap (λ (j : ℕ). get_or (first_pages m T listed pages ++ (page m T listed pages ∷ [])) j []) same
      ∙ get_or_at (first_pages m T listed pages) (page m T listed pages) [] [] pages (pages-length m T listed pages)
      ∙ ap (page m T listed) (sym same)) (below_or_not i pages)

  -- its pages, where it has any: the byte 12 parts them, since no page has it
  sheet-pages : 0 < length listed → pages_on (sheet m T listed) ≡ first_pages m T listed (page_count (length listed))
  unfolding sheet pages_on
  sheet-pages some =
      let count = pages-length m T listed (page_count (length listed)) in
      parts-joined 12 (first_pages m T listed (page_count (length listed))) (omega (arith, count))
      (λ i l. rw (page-among (page_count (length listed)) i (omega (arith, count))) (page-without m T listed i))

  -- page i is the part i of the sheet
  pub page-on-sheet : (i : ℕ) → i < page_count (length listed) → get_or (pages_on (sheet m T listed)) i [] ≡ page m T listed i
  page-on-sheet i l =
      ap (λ (pages : List (List ℕ)). get_or pages i []) (sheet-pages (omega arith)) ∙ page-among (page_count (length listed)) i l

  pub pages-on-sheet : 0 < length listed → length (pages_on (sheet m T listed)) ≡ page_count (length listed)
  pages-on-sheet some = ap length (sheet-pages some) ∙ pages-length m T listed (page_count (length listed))

-- ---- the sheet

read_more : (pages : List (List ℕ)) (U : List ℕ) → read_pages (pages ++ (U ∷ [])) ≡ read_pages pages ++ read_page U
unfolding read_pages
read_more [] U = append-nil (read_page U)
read_more (W ∷ pages) U = ap (λ (l : List ℕ). read_page W ++ l) (read_more pages U) ∙ sym (append_assoc (read_page W) (read_pages pages) (read_page U))

sheet-read : (m : ℕ) (T listed : List ℕ) → 0 < length listed → read_sheet (sheet m T listed) ≡ read_pages (first_pages m T listed (page_count (length listed)))
unfolding read_sheet
sheet-read m T listed some = ap read_pages (sheet-pages m T listed some)

-- the empty sheet
read_sheet-nothing : (m : ℕ) (T : List ℕ) → read_sheet (sheet m T []) ≡ []
unfolding read_sheet sheet first_pages joined pages_on parts_by read_pages read_page lines_on but_last
read_sheet-nothing m T = refl

module _ (m : ℕ) (T : List ℕ) where
  read_first : (listed : List ℕ) → InColumn listed → (pages : ℕ) → read_pages (first_pages m T listed pages) ≡ take (50 * pages) listed
  unfolding first_pages read_pages
  read_first listed fit zero = refl
  read_first listed fit (suc pages) =
      ap read_pages (pages-more m T listed pages)
      ∙ read_more (first_pages m T listed pages) (page m T listed pages)
      ∙ ap₂ (λ (U W : List ℕ). U ++ W) (read_first listed fit pages) (read-page m T listed fit pages)
      ∙ sym (pages-cover listed pages)

  pub read-sheet : (listed : List ℕ) → InColumn listed → read_sheet (sheet m T listed) ≡ listed
  read-sheet [] fit = read_sheet-nothing m T
  read-sheet (s ∷ listed) fit =
      sheet-read m T (s ∷ listed) (omega arith) ∙ read_first (s ∷ listed) fit (page_count (length (s ∷ listed))) ∙ pages-all (s ∷ listed)
