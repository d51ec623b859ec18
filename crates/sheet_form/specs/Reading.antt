-- How the positions are read back from the paper (document 02, T-02). Here nothing is known but the printed bytes.
use Rattle.std.specs.Prelude.{ℕ, cond, List, [], ◌∷◌, ◌++◌, map, eqb, take}
use Rattle.ascii.specs.Codes.{newline, space}
use Rattle.ascii.specs.Decimal.{decimal_value}
use Rattle.sheet_form.specs.Sheet.{page_break}

-- ---- bytes cut into parts

-- A byte more, in front of the first part
unfoldable pub in_front : ℕ → List (List ℕ) → List (List ℕ)
in_front b [] = (b ∷ []) ∷ []
in_front b (U ∷ parts) = (b ∷ U) ∷ parts

-- The parts of U that the bytes c leave: one more than there are c
unfoldable pub parts_by : ℕ → List ℕ → List (List ℕ)
parts_by c [] = [] ∷ []
parts_by c (b ∷ U) = cond (eqb b c) ([] ∷ parts_by c U) (in_front b (parts_by c U))

-- All parts but the last
unfoldable pub but_last : List (List ℕ) → List (List ℕ)
but_last [] = []
but_last (U ∷ []) = []
but_last (U ∷ W ∷ parts) = U ∷ but_last (W ∷ parts)

-- ---- from the sheet to the numbers

-- A sheet's pages are parted by byte 12
unfoldable pub pages_on : List ℕ → List (List ℕ)
pages_on bytes = parts_by page_break bytes

-- A page's lines each end with a newline; what follows the last newline is no line
unfoldable pub lines_on : List ℕ → List (List ℕ)
lines_on bytes = but_last (parts_by newline bytes)

-- What follows the blanks at the beginning
unfoldable pub after_blanks : List ℕ → List ℕ
after_blanks [] = []
after_blanks (b ∷ U) = cond (eqb b space) (after_blanks U) (b ∷ U)

-- The number in a line's first ten bytes
unfoldable pub read_line : List ℕ → ℕ
read_line bytes = decimal_value 0 (after_blanks (take 10 bytes))

-- The numbers on a page, in the order of its lines
unfoldable pub read_page : List ℕ → List ℕ
read_page bytes = map read_line (lines_on bytes)

-- and on pages, in their order
unfoldable pub read_pages : List (List ℕ) → List ℕ
read_pages [] = []
read_pages (U ∷ pages) = read_page U ++ read_pages pages

-- The numbers on a sheet
unfoldable pub read_sheet : List ℕ → List ℕ
read_sheet bytes = read_pages (pages_on bytes)
