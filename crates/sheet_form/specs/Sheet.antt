-- What stands on the marked sheet: document 02, T-02.
use Rattle.std.specs.Prelude.{ℕ, zero, suc, ◌+◌, ◌-◌, ◌*◌, ◌/◌, cond, ◌&&◌, leb, length, take, drop, replicate}
use mathlib.Core.List.{List, [], ◌∷◌, ◌++◌, map, flat_map}
use Rattle.jumbled.specs.Match.{window, positions}
use Rattle.ascii.specs.Codes.{newline, space}
use Rattle.ascii.specs.Decimal.{decimal}

-- ---- a line

-- The full stop's ASCII code
abbrev pub full_stop : ℕ
full_stop = 46

-- How a reading is printed: as itself where its code is one of 33 to 126, and as a full stop where it isn't
unfoldable pub shown : ℕ → ℕ
shown reading = cond (leb 33 reading && leb reading 126) reading full_stop

-- In a column of `width` bytes, blanks make up what is missing: to the left
unfoldable pub right_aligned : (width : ℕ) → List ℕ → List ℕ
right_aligned width U = replicate (width - length U) space ++ U

-- or to the right
unfoldable pub left_aligned : (width : ℕ) → List ℕ → List ℕ
left_aligned width U = U ++ replicate (width - length U) space

-- The line of a position and its window: the position, a blank, the readings, and the newline that ends the line
unfoldable pub line : ℕ → List ℕ → List ℕ
line s W = right_aligned 10 (decimal s) ++ (space ∷ []) ++ left_aligned 64 (map shown W) ++ (newline ∷ [])

-- of the window of m readings of T at s
abbrev pub line_at : (m : ℕ) → List ℕ → ℕ → List ℕ
line_at m T s = line s (window m T s)

-- ---- pages, counted from 0

-- Of the listed positions those on page i: fifty, and on the last page what is left
abbrev pub on_page : List ℕ → (i : ℕ) → List ℕ
on_page listed i = take 50 (drop (50 * i) listed)

-- Its lines
unfoldable pub page : (m : ℕ) → (T listed : List ℕ) → (i : ℕ) → List ℕ
page m T listed i = flat_map (line_at m T) (on_page listed i)

-- How many pages so many lines take: none for no line, and a page for every fifty begun
abbrev pub page_count : ℕ → ℕ
page_count lines = (lines + 49) / 50

-- The first so many pages
unfoldable pub first_pages : (m : ℕ) → (T listed : List ℕ) → (pages : ℕ) → List (List ℕ)
first_pages m T listed zero = []
first_pages m T listed (suc pages) = first_pages m T listed pages ++ (page m T listed pages ∷ [])

-- ---- the sheet

-- The byte between two pages
abbrev pub page_break : ℕ
page_break = 12

-- Parts joined, with the byte c between each two of them
unfoldable pub joined : ℕ → List (List ℕ) → List ℕ
joined c [] = []
joined c (U ∷ []) = U
joined c (U ∷ W ∷ parts) = U ++ (c ∷ joined c (W ∷ parts))

-- The sheet of the listed positions, for windows of m readings of the text T: all pages
unfoldable pub sheet : (m : ℕ) → (T listed : List ℕ) → List ℕ
sheet m T listed = joined page_break (first_pages m T listed (page_count (length listed)))

-- The sheet of a search
abbrev pub sheet_of : List ℕ → ℕ → List ℕ → List ℕ
sheet_of P k T = sheet (length P) T (positions P k T)

-- How many bytes it has: 76 for each line, and 1 for each page but the first
abbrev pub sheet_bytes : (lines : ℕ) → ℕ
sheet_bytes lines = 76 * lines + (page_count lines - 1)
