-- What the definitions come to, worked out: two patterns in a short text (the guide's example), and the number for each row of what a caller can
-- hand in (document 02, T-01).
use mathlib.Core.Path.{◌≡◌, refl}
use mathlib.Core.List.{List, [], ◌∷◌, map}
use Prim.Native.Nat.{ℕ}
use lib.ListN.{replicate}
use Rattle.jumbled.specs.Match.{cc, occurs, sum, evidence, beyond, used_up, excess, matches, select}
use Rattle.jumbled.specs.Refusals.{given, any_of, total, each_length_tests, set_tests, lost_tests, tolerance_tests, text_tests, pair_place_tests, several_pattern_tests, several_size_tests, several_tests}
use Rattle.several_form.specs.Finds.{Find, beside, collect, matching, finds}
use Rattle.several.specs.Whole.{several_number}
use Rattle.several_form.specs.Mcount.{start_field, acceptable, all_entered, reached, pass, mcount}

-- ---- `aab` and `abb` in `aabba`

abbrev a : ℕ
a = 97

abbrev b : ℕ
b = 98

abbrev patterns : List (List ℕ)
patterns = (a ∷ a ∷ b ∷ []) ∷ (a ∷ b ∷ b ∷ []) ∷ []

abbrev text : List ℕ
text = a ∷ a ∷ b ∷ b ∷ a ∷ []

abbrev at : ℕ → ℕ → Find
at s number = record { position = s; number = number }

abbrev exactly : List Find
exactly = at 0 1 ∷ at 1 2 ∷ at 2 2 ∷ []

abbrev nearly : List Find
nearly = at 0 1 ∷ at 0 2 ∷ at 1 1 ∷ at 1 2 ∷ at 2 1 ∷ at 2 2 ∷ []

-- by the definition, and by the steps with five inspections
pub found-exactly : (finds patterns 0 text ≡ exactly) × (mcount patterns 0 text ≡ record { finds = exactly; inspections = 5 })
unfolding cc sum evidence beyond used_up excess matches select beside collect matching finds start_field acceptable all_entered reached pass mcount
found-exactly = (refl, refl)

-- with one wrong byte allowed, every window matches both
pub found-nearly : (finds patterns 1 text ≡ nearly) × (mcount patterns 1 text ≡ record { finds = nearly; inspections = 5 })
unfolding cc sum evidence beyond used_up excess matches select beside collect matching finds start_field acceptable all_entered reached pass mcount
found-nearly = (refl, refl)

-- with a lost hour both patterns are found in the windows that hold it, and the inspections are as many
abbrev text_with_lost : List ℕ
text_with_lost = a ∷ 45 ∷ b ∷ b ∷ []

pub found-with-lost :
    (finds patterns 0 text_with_lost ≡ at 0 1 ∷ at 0 2 ∷ at 1 2 ∷ []) × (mcount patterns 0 text_with_lost ≡ record { finds = at 0 1 ∷ at 0 2 ∷ at 1 2 ∷ []; inspections = 4 })
unfolding cc sum evidence beyond used_up excess matches select beside collect matching finds start_field acceptable all_entered reached pass mcount
found-with-lost = (refl, refl)

-- ---- what is handed in: the patterns' lengths, the bytes that there are for them, k, the text's length, and the places of both lists

record Row : Type 0 where
  lengths : List ℕ
  bytes : List ℕ
  k : ℕ
  text-length : ℕ
  positions : ℕ
  numbers : ℕ

abbrev row : (lengths bytes : List ℕ) (k text-length positions numbers : ℕ) → Row
row lengths bytes k text-length positions numbers =
    record { lengths = lengths; bytes = bytes; k = k; text-length = text-length; positions = positions; numbers = numbers }

abbrev rows : List Row
rows =
    -- no pattern; nine; nine of which one is empty; lengths 3 and 4; one of 65 bytes
    row [] [] 0 0 0 0
    ∷ row (replicate 9 1) (replicate 9 a) 0 0 0 0
    ∷ row (0 ∷ replicate 8 1) (replicate 8 a) 0 0 0 0
    ∷ row (3 ∷ 4 ∷ []) (replicate 7 a) 0 0 0 0
    ∷ row (65 ∷ []) (replicate 65 a) 0 0 0 0
    -- a byte too few, a byte too many
    ∷ row (3 ∷ 3 ∷ []) (replicate 5 a) 0 0 0 0
    ∷ row (3 ∷ 3 ∷ []) (replicate 7 a) 0 0 0 0
    -- 1 before 12, 12 before 2, 2 before 6, 6 before 7
    ∷ row (0 ∷ 3 ∷ []) (replicate 3 a) 0 0 0 0
    ∷ row (3 ∷ 4 ∷ []) (replicate 7 a) 9 0 0 0
    ∷ row (3 ∷ 3 ∷ []) (replicate 6 a) 3 65537 0 0
    ∷ row (3 ∷ 3 ∷ []) (replicate 6 a) 2 65537 0 0
    -- ten bytes for two patterns: places for both, one too few in either list, and no more than the text has bytes
    ∷ row (3 ∷ 3 ∷ []) (replicate 6 a) 2 10 20 20
    ∷ row (3 ∷ 3 ∷ []) (replicate 6 a) 2 10 19 20
    ∷ row (3 ∷ 3 ∷ []) (replicate 6 a) 2 10 20 19
    ∷ row (3 ∷ 3 ∷ []) (replicate 6 a) 2 10 10 10
    -- a lost hour in the first pattern, and in the last one; 12 before 13, 13 before 2
    ∷ row (2 ∷ 2 ∷ []) (45 ∷ a ∷ a ∷ a ∷ []) 0 0 0 0
    ∷ row (2 ∷ 2 ∷ []) (a ∷ a ∷ a ∷ 45 ∷ []) 0 0 0 0
    ∷ row (2 ∷ 2 ∷ []) (45 ∷ a ∷ a ∷ []) 0 0 0 0
    ∷ row (2 ∷ 2 ∷ []) (a ∷ 45 ∷ a ∷ a ∷ []) 2 0 0 0
    ∷ []

pub rows-given : map (λ r. given (several_tests r.lengths r.bytes r.k r.text-length r.positions r.numbers)) rows
    ≡ 12 ∷ 12 ∷ 1 ∷ 12 ∷ 1 ∷ 12 ∷ 12 ∷ 1 ∷ 12 ∷ 2 ∷ 6 ∷ 0 ∷ 7 ∷ 7 ∷ 7 ∷ 13 ∷ 13 ∷ 12 ∷ 13 ∷ []
unfolding cc occurs given any_of total each_length_tests set_tests lost_tests tolerance_tests text_tests pair_place_tests several_pattern_tests several_size_tests several_tests
rows-given = refl

-- The call's own number goes by this order: nine patterns of which one is empty get 1, and lengths 3 and 4 get 12 whatever k is
pub order-given : (several_number (replicate 8 a) (0 ∷ replicate 8 1) 0 [] [] [] ≡ 1) × (several_number (replicate 7 a) (3 ∷ 4 ∷ []) 9 [] [] [] ≡ 12)
unfolding cc occurs several_number given any_of total each_length_tests set_tests lost_tests tolerance_tests text_tests pair_place_tests several_pattern_tests several_size_tests several_tests
order-given = (refl, refl)
