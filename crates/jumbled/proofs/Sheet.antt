-- The starred rows of document 01, "Sheet of small records", all of them, as one theorem about the definitions.
use mathlib.Core.Path.{◌≡◌, refl}
use mathlib.Core.List.{List, [], ◌∷◌, map, Option-to_list}
use mathlib.Core.Option as Option
use Prim.Native.Nat.{ℕ}
use Prim.Native.Char.{code}
use Prim.Native.String as Text
use Rattle.jumbled.specs.Match.{cc, occurs, sum, evidence, beyond, excess, matches, select, positions, earliest, first_match}
use Rattle.jumbled.specs.Scan.{Result, scan, singles, pairs, backward, forward, backward_first, forward_first}
use Rattle.jumbled.specs.Fields.{first, lg, letter_width, field_of, width_of, start_value, value_of, top_set, some, overflows, own_top_set, errors}
use Rattle.jumbled.specs.Heap.{rank, heap_value, heap_sum, exact}
use Rattle.jumbled.specs.Steps.{count_judged, bam_scan, bam2_scan, abam_scan, candidate, verified, hcam_judged, passes, lacks, ebl_scan, way_of, steps, steps_from}

-- A text's letters as their ASCII codes
ascii : Text.String → List ℕ
ascii Text.[] = []
ascii (Text.◌∷◌ ch more) = code ch ∷ ascii more

-- A row: the pattern, k, the record, the positions, and each method whose inspections the row gives, with their number
pub record Row : Type 0 where
  pub pattern : Text.String
  pub k : ℕ
  pub text : Text.String
  pub listed : List ℕ
  pub inspections : List (ℕ × ℕ)

row : Text.String → ℕ → Text.String → List ℕ → List (ℕ × ℕ) → Row
row P k T listed inspections = record { pattern = P; k = k; text = T; listed = listed; inspections = inspections }

rows : List Row
rows =
    row "ab" 0 "aab" (1 ∷ []) ((1, 3) ∷ (5, 3) ∷ (2, 4) ∷ (3, 4) ∷ (4, 4) ∷ [])
    ∷ row "abc" 0 "abcxxxabc" (0 ∷ 6 ∷ []) ((1, 9) ∷ (2, 9) ∷ (3, 13) ∷ [])
    ∷ row "aabb" 1 "axbb" (0 ∷ []) ((4, 4) ∷ [])
    ∷ row "aabb" 1 "xxbb" [] ((4, 4) ∷ [])
    ∷ row "a" 0 "aba" (0 ∷ 2 ∷ []) ((3, 3) ∷ [])
    ∷ row "ab" 0 "a" [] ((1, 0) ∷ (2, 0) ∷ (3, 0) ∷ (4, 0) ∷ (5, 0) ∷ [])
    ∷ row "ab" 0 "xb" [] ((5, 2) ∷ [])
    ∷ row "accgta" 0 "ccgatacgcattgac" (0 ∷ 1 ∷ 3 ∷ 4 ∷ 5 ∷ []) ((1, 15) ∷ [])
    ∷ []

-- Of a row: the listed positions are those of the row, and the steps of each method that it names list them with the inspections that it gives
abbrev Right : Row → Type 0
Right r =
    (positions (ascii r.pattern) r.k (ascii r.text) ≡ r.listed)
    × (map (λ (l : ℕ × ℕ). steps (ascii r.pattern) r.k l.0 (ascii r.text)) r.inspections
    ≡ map {B = Result} (λ (l : ℕ × ℕ). record { occurrences = r.listed; inspections = l.1 }) r.inspections)

abbrev Every : List Row → Type 0
Every [] = Unit {0}
Every (r ∷ rs) = Right r × Every rs

sheet : Every rows
unfolding rows row ascii positions cc sum evidence beyond excess matches select scan singles pairs backward forward first lg letter_width field_of width_of start_value value_of top_set some overflows own_top_set errors occurs rank heap_value heap_sum exact count_judged bam_scan bam2_scan abam_scan candidate verified hcam_judged steps way_of
sheet = ((refl, refl), ((refl, refl), ((refl, refl), ((refl, refl), ((refl, refl), ((refl, refl), ((refl, refl), ((refl, refl), tt))))))))

-- ---- method 6 (document 02, T-04)

-- The sheet's records with k = 0 by its steps, and a record with a window that is verified and does not match, a stop, and a match
ebl_rows : List Row
ebl_rows =
    row "ab" 0 "aab" (1 ∷ []) ((6, 8) ∷ [])
    ∷ row "abc" 0 "abcxxxabc" (0 ∷ 6 ∷ []) ((6, 15) ∷ [])
    ∷ row "a" 0 "aba" (0 ∷ 2 ∷ []) ((6, 5) ∷ [])
    ∷ row "ab" 0 "a" [] ((6, 0) ∷ [])
    ∷ row "ab" 0 "xb" [] ((6, 2) ∷ [])
    ∷ row "accgta" 0 "ccgatacgcattgac" (0 ∷ 1 ∷ 3 ∷ 4 ∷ 5 ∷ []) ((6, 120) ∷ [])
    ∷ row "aab" 0 "abbxaba" (4 ∷ []) ((6, 13) ∷ [])
    ∷ []

sheet-by-ebl : Every ebl_rows
unfolding ebl_rows row ascii positions cc occurs sum evidence beyond excess matches select scan singles backward passes lacks ebl_scan steps way_of
sheet-by-ebl = ((refl, refl), ((refl, refl), ((refl, refl), ((refl, refl), ((refl, refl), ((refl, refl), ((refl, refl), tt)))))))

-- ---- lost hours (document 02, T-07)

-- A lost hour in the middle, at either end, and all readings lost; a strange letter beside one; method 4 with the shared field's top bit set before
-- one is read, and a second strange letter after it; a window that was verified for its lost hour, and one that holds none any more
lost_rows : List Row
lost_rows =
    row "abc" 0 "a-c" (0 ∷ []) ((1, 3) ∷ (2, 3) ∷ (3, 3) ∷ (4, 3) ∷ (5, 6) ∷ (6, 6) ∷ [])
    ∷ row "abc" 0 "-bc" (0 ∷ []) ((1, 3) ∷ (2, 3) ∷ (3, 3) ∷ (4, 3) ∷ (5, 6) ∷ (6, 6) ∷ [])
    ∷ row "abc" 0 "---" (0 ∷ []) ((1, 3) ∷ (2, 3) ∷ (3, 3) ∷ (4, 3) ∷ (5, 6) ∷ (6, 6) ∷ [])
    ∷ row "abc" 0 "x-b" [] ((1, 3) ∷ (2, 3) ∷ (3, 3) ∷ (4, 3) ∷ (5, 6) ∷ (6, 3) ∷ [])
    ∷ row "abc" 0 "a-a" [] ((1, 3) ∷ (2, 3) ∷ (3, 3) ∷ (4, 3) ∷ (5, 6) ∷ (6, 6) ∷ [])
    ∷ row "abcd" 1 "-xcd" (0 ∷ []) ((1, 4) ∷ (4, 4) ∷ [])
    ∷ row "abcd" 1 "y-xcd" (1 ∷ []) ((1, 5) ∷ (4, 8) ∷ [])
    ∷ row "ab" 0 "-ba" (0 ∷ 1 ∷ []) ((1, 3) ∷ (2, 4) ∷ (3, 4) ∷ (4, 4) ∷ (5, 5) ∷ (6, 8) ∷ [])
    ∷ row "ab" 0 "-xb" [] ((1, 3) ∷ (2, 1) ∷ (3, 4) ∷ (4, 1) ∷ (5, 5) ∷ (6, 1) ∷ [])
    ∷ []

sheet-lost : Every lost_rows
unfolding lost_rows row ascii positions cc sum evidence beyond excess matches select scan singles pairs backward forward first lg letter_width field_of width_of start_value value_of top_set some overflows own_top_set errors occurs rank heap_value heap_sum exact count_judged bam_scan bam2_scan abam_scan candidate verified hcam_judged passes lacks ebl_scan steps way_of
sheet-lost = ((refl, refl), ((refl, refl), ((refl, refl), ((refl, refl), ((refl, refl), ((refl, refl), ((refl, refl), ((refl, refl), ((refl, refl), tt)))))))))

-- ---- from a given position on (document 02, T-08)

-- A row: the pattern, k, the record, where the search begins, the first match or none, and each method with its inspections
pub record FirstRow : Type 0 where
  pub pattern : Text.String
  pub k : ℕ
  pub text : Text.String
  pub from : ℕ
  pub first-match : Option.Option ℕ
  pub inspections : List (ℕ × ℕ)

first_row : Text.String → ℕ → Text.String → ℕ → Option.Option ℕ → List (ℕ × ℕ) → FirstRow
first_row P k T from o inspections = record { pattern = P; k = k; text = T; from = from; first-match = o; inspections = inspections }

-- From a match, from the place after it, from the last match, and from past the last window; a tolerance; a window that is found for its lost hour,
-- one that is verified for it and does not match, and one that is found after it
first_rows : List FirstRow
first_rows =
    first_row "abc" 0 "abcxxxabc" 0 (Option.some 0) ((1, 3) ∷ (2, 3) ∷ (3, 3) ∷ (4, 3) ∷ (5, 3) ∷ (6, 6) ∷ [])
    ∷ first_row "abc" 0 "abcxxxabc" 1 (Option.some 6) ((1, 8) ∷ (2, 6) ∷ (3, 10) ∷ (4, 6) ∷ (5, 8) ∷ (6, 9) ∷ [])
    ∷ first_row "abc" 0 "abcxxxabc" 6 (Option.some 6) ((1, 3) ∷ (2, 3) ∷ (3, 3) ∷ (4, 3) ∷ (5, 3) ∷ (6, 6) ∷ [])
    ∷ first_row "abc" 0 "abcxxxabc" 7 Option.none ((1, 0) ∷ (2, 0) ∷ (3, 0) ∷ (4, 0) ∷ (5, 0) ∷ (6, 0) ∷ [])
    ∷ first_row "aabb" 1 "axbbxxabab" 1 (Option.some 5) ((1, 8) ∷ (4, 10) ∷ [])
    ∷ first_row "abc" 0 "xca-bxcab" 0 (Option.some 1) ((1, 4) ∷ (2, 6) ∷ (3, 6) ∷ (4, 6) ∷ (5, 7) ∷ (6, 9) ∷ [])
    ∷ first_row "abc" 0 "xca-bxcab" 3 (Option.some 6) ((1, 6) ∷ (2, 4) ∷ (3, 8) ∷ (4, 4) ∷ (5, 9) ∷ (6, 7) ∷ [])
    ∷ []

-- Of a row: the first match is the row's, and the steps of each method that it names find it with the inspections that it gives
abbrev RightFirst : FirstRow → Type 0
RightFirst r =
    (first_match (ascii r.pattern) r.k (ascii r.text) r.from ≡ r.first-match)
    × (map (λ (l : ℕ × ℕ). steps_from (ascii r.pattern) r.k l.0 (ascii r.text) r.from) r.inspections
    ≡ map {B = Result} (λ (l : ℕ × ℕ). record { occurrences = Option-to_list r.first-match; inspections = l.1 }) r.inspections)

abbrev EveryFirst : List FirstRow → Type 0
EveryFirst [] = Unit {0}
EveryFirst (r ∷ rs) = RightFirst r × EveryFirst rs

sheet-first : EveryFirst first_rows
unfolding first_rows first_row ascii earliest first_match Option-to_list cc sum evidence beyond excess matches scan singles pairs backward_first forward_first first lg letter_width field_of width_of start_value value_of top_set some overflows own_top_set errors occurs rank heap_value heap_sum exact count_judged bam_scan bam2_scan abam_scan candidate verified hcam_judged passes lacks ebl_scan steps_from way_of
sheet-first = ((refl, refl), ((refl, refl), ((refl, refl), ((refl, refl), ((refl, refl), ((refl, refl), ((refl, refl), tt)))))))
