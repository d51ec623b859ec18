-- The number for each row of what a caller can hand in, worked out (document 02, T-02).
use mathlib.Core.Path.{◌≡◌, refl}
use mathlib.Core.List.{List, [], ◌∷◌, map, flat_map}
use Prim.Native.Nat.{ℕ}
use lib.ListN.{replicate}
use Rattle.jumbled.specs.Match.{cc, occurs, sum, evidence, beyond, excess, matches, select, positions}
use Rattle.jumbled.specs.Fields.{first, lg, field_of, layout_of, width_of, bits}
use Rattle.jumbled.specs.Refusals.{given, is_method, exact_only, length_tests, lost_tests, tolerance_tests, known_tests, exact_tests, width_tests, text_tests, place_tests, buffer_tests, method_tests, pattern_tests, size_tests, whole_tests, sheet_tests}
use Rattle.ascii.specs.Codes.{ascii}
use Rattle.ascii.specs.Decimal.{digits, decimal}
use Rattle.sheet_form.specs.Sheet.{shown, right_aligned, left_aligned, line, page, first_pages, joined, sheet}
use Rattle.sheet.specs.Whole.{whole_sheet_number}

-- ---- what is handed in for `ab` and method 1: k, and how many readings, places, bytes of the buffer and bytes of the sheet there are

record Row : Type 0 where
  k : ℕ
  readings : ℕ
  places : ℕ
  buffer : ℕ
  bytes : ℕ

abbrev row : (k readings places buffer bytes : ℕ) → Row
row k readings places buffer bytes = record { k = k; readings = readings; places = places; buffer = buffer; bytes = bytes }

abbrev rows : List Row
rows =
    -- two lines: room for them, a byte less, and none at all
    row 1 3 3 152 152
    ∷ row 1 3 3 151 152
    ∷ row 1 3 3 0 152
    -- no line in no buffer
    ∷ row 1 3 3 0 0
    -- 2, 6 and 7 before 10
    ∷ row 2 3 3 151 152
    ∷ row 1 65537 65537 151 152
    ∷ row 1 3 2 151 152
    ∷ []

pub rows-given : map (λ r. given (sheet_tests (ascii "ab") r.k 1 r.readings r.places r.buffer r.bytes)) rows ≡ 0 ∷ 10 ∷ 10 ∷ 0 ∷ 2 ∷ 6 ∷ 7 ∷ []
unfolding occurs ascii given is_method exact_only length_tests lost_tests tolerance_tests known_tests exact_tests width_tests text_tests place_tests buffer_tests method_tests pattern_tests size_tests whole_tests sheet_tests cc sum first lg field_of layout_of width_of bits
rows-given = refl

-- The call's own number goes by this order, and by the sheet itself: for `ab` in `a b` with k = 1 and no buffer, two places get 7 and three get 10
pub order-given : (whole_sheet_number (ascii "ab") 1 1 (ascii "a b") (replicate 2 0) [] ≡ 7) × (whole_sheet_number (ascii "ab") 1 1 (ascii "a b") (replicate 3 0) [] ≡ 10)
unfolding occurs whole_sheet_number ascii given is_method exact_only length_tests lost_tests tolerance_tests known_tests exact_tests width_tests text_tests place_tests buffer_tests method_tests pattern_tests size_tests whole_tests sheet_tests cc sum evidence beyond excess matches select positions first lg field_of layout_of width_of bits flat_map digits decimal shown right_aligned left_aligned line page first_pages joined sheet
order-given = (refl, refl)
