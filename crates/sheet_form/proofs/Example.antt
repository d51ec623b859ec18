-- What the definitions come to, worked out (document 02, T-02): the guide's sheet of two lines and what is read from it, how the readings at the
-- edges are printed, and how many pages and bytes the counts at the edges take.
use mathlib.Core.Path.{◌≡◌, refl}
use mathlib.Core.List.{List, [], ◌∷◌, map, flat_map}
use Prim.Native.Nat.{ℕ}
use lib.ListN.{replicate, get_or}
use Rattle.jumbled.specs.Match.{cc, sum, evidence, beyond, excess, matches, select, positions}
use Rattle.ascii.specs.Codes.{ascii}
use Rattle.ascii.specs.Decimal.{digits, decimal, decimal_value}
use Rattle.sheet_form.specs.Sheet.{shown, right_aligned, left_aligned, line, page, first_pages, joined, sheet, sheet_of, page_count, sheet_bytes}
use Rattle.sheet_form.specs.Reading.{in_front, parts_by, but_last, pages_on, lines_on, after_blanks, read_line, read_page, read_pages, read_sheet}

-- ---- `ab` in `a b`, one wrong reading allowed: both windows match, and the blank that was read is printed as a full stop

abbrev two_lines : List ℕ
two_lines =
    ascii "         0 a.                                                              \n         1 .b                                                              \n"

pub two-lines : (sheet_of (ascii "ab") 1 (ascii "a b") ≡ two_lines) × (read_sheet two_lines ≡ 0 ∷ 1 ∷ [])
unfolding ascii cc sum evidence beyond excess matches select positions flat_map digits decimal decimal_value shown right_aligned left_aligned line page first_pages joined sheet in_front parts_by but_last pages_on lines_on after_blanks read_line read_page read_pages read_sheet
two-lines = (refl, refl)

-- ---- at the edges

-- readings
pub shown-edges : map shown (0 ∷ 10 ∷ 12 ∷ 32 ∷ 33 ∷ 45 ∷ 46 ∷ 126 ∷ 127 ∷ 255 ∷ []) ≡ 46 ∷ 46 ∷ 46 ∷ 46 ∷ 33 ∷ 45 ∷ 46 ∷ 126 ∷ 46 ∷ 46 ∷ []
unfolding shown
shown-edges = refl

-- the pages, and the bytes, of so many lines
pub page-edges : map page_count (0 ∷ 1 ∷ 49 ∷ 50 ∷ 51 ∷ 100 ∷ 101 ∷ 65536 ∷ []) ≡ 0 ∷ 1 ∷ 1 ∷ 1 ∷ 2 ∷ 2 ∷ 3 ∷ 1311 ∷ []
page-edges = refl

pub byte-edges : map sheet_bytes (0 ∷ 1 ∷ 49 ∷ 50 ∷ 51 ∷ 100 ∷ 101 ∷ 65536 ∷ []) ≡ 0 ∷ 76 ∷ 3724 ∷ 3800 ∷ 3877 ∷ 7601 ∷ 7678 ∷ 4982046 ∷ []
byte-edges = refl

-- the second of two pages, by itself
abbrev fifty_one : List ℕ
fifty_one = sheet_of (ascii "a") 0 (replicate 51 97)

pub second-page : read_page (get_or (pages_on fifty_one) 1 []) ≡ 50 ∷ []
unfolding ascii cc sum evidence beyond excess matches select positions flat_map digits decimal decimal_value shown right_aligned left_aligned line page first_pages joined sheet in_front parts_by but_last pages_on lines_on after_blanks read_line read_page
second-page = refl
