-- When a call says no: document 01, the section of that name; document 02's numbers, from 12 on, join its table. 0 says that nothing is refused.
-- Each condition stands once, and each call's tests are put together from them, in its order.
use Rattle.std.specs.Prelude.{ℕ, ◌+◌, ◌-◌, ◌*◌, min, Bool, false, cond, not, ◌&&◌, ◌||◌, List, [], ◌∷◌, ◌++◌, leb, ltb, eqb, length, get_or}
use Rattle.jumbled.specs.Match.{occurs, lost_hour}
use Rattle.jumbled.specs.Fields.{Layout, layout_of, bits}

-- A row of the table: its number, and whether its condition holds
pub record Test : Type 0 where
  pub number : ℕ
  pub applies : Bool

abbrev pub test : ℕ → Bool → Test
test n b = record { number = n; applies = b }

-- The number of the first test that applies; 0 where none does
unfoldable pub given : List Test → ℕ
given [] = 0
given (t ∷ ts) = cond t.applies t.number (given ts)

-- ---- the methods by their numbers

-- A method: 1 to 6 (document 02, T-04)
unfoldable pub is_method : ℕ → Bool
is_method method = leb 1 method && leb method 6

-- A method that takes no tolerance but 0: 2, 3, 5 and 6 (document 02, T-04)
unfoldable pub exact_only : ℕ → Bool
exact_only method = eqb method 2 || eqb method 3 || eqb method 5 || eqb method 6

-- ---- of several numbers

-- Some of them passes the test
unfoldable pub any_of : (ℕ → Bool) → List ℕ → Bool
any_of passes [] = false
any_of passes (x ∷ xs) = passes x || any_of passes xs

-- Their sum
unfoldable pub total : List ℕ → ℕ
total [] = 0
total (x ∷ xs) = x + total xs

-- ---- the conditions, each in a list of one test

-- A pattern can't have m bytes
abbrev pub bad_length : ℕ → Bool
bad_length m = eqb m 0 || ltb 64 m

-- 1, of a pattern of m bytes
unfoldable pub length_tests : ℕ → List Test
length_tests m = test 1 (bad_length m) ∷ []

-- 1, of several patterns of these lengths (document 02, T-01): of any of them
unfoldable pub each_length_tests : List ℕ → List Test
each_length_tests lengths = test 1 (any_of bad_length lengths) ∷ []

-- Patterns of these lengths in so many bytes can't be searched together: there is none, or more than eight, or one whose length is not the first
-- one's, or the lengths don't add up to the bytes
abbrev pub bad_set : (lengths : List ℕ) (bytes : ℕ) → Bool
bad_set lengths bytes =
    eqb (length lengths) 0 || ltb 8 (length lengths) || any_of (λ m. not (eqb m (get_or lengths 0 0))) lengths || not (eqb (total lengths) bytes)

-- 12, of several patterns (document 02, T-01)
unfoldable pub set_tests : (lengths : List ℕ) (bytes : ℕ) → List Test
set_tests lengths bytes = test 12 (bad_set lengths bytes) ∷ []

-- 13, of the bytes of a pattern, or of several one after the other: one of them is a lost hour (document 02, T-07)
unfoldable pub lost_tests : List ℕ → List Test
lost_tests P = test 13 (occurs P lost_hour) ∷ []

-- 2, of k for a pattern of m bytes
unfoldable pub tolerance_tests : ℕ → ℕ → List Test
tolerance_tests m k = test 2 (leb m k) ∷ []

-- 3, of a method's number
unfoldable pub known_tests : ℕ → List Test
known_tests method = test 3 (not (is_method method)) ∷ []

-- 4, of k for a method
unfoldable pub exact_tests : ℕ → ℕ → List Test
exact_tests k method = test 4 (ltb 0 k && exact_only method) ∷ []

-- 5, of a pattern's fields of these widths
abbrev pub field_tests : List ℕ → Layout → List Test
field_tests P layout = test 5 (ltb 64 (bits P layout)) ∷ []

-- and of those of a method, for k
unfoldable pub width_tests : List ℕ → ℕ → ℕ → List Test
width_tests P k method = field_tests P (layout_of k method)

-- 6, of so many bytes, where `longest` are the most
abbrev pub long_tests : (longest bytes : ℕ) → List Test
long_tests longest bytes = test 6 (ltb longest bytes) ∷ []

-- of a text or a chunk
unfoldable pub text_tests : ℕ → List Test
text_tests bytes = long_tests 65536 bytes

-- and of a program's input
unfoldable pub input_tests : ℕ → List Test
input_tests bytes = long_tests 16384 bytes

-- 7, of a text or a chunk of so many bytes and a list of so many places
unfoldable pub place_tests : (bytes places : ℕ) → List Test
place_tests bytes places = test 7 (ltb places bytes) ∷ []

-- 7, of a text of so many bytes, so many patterns, and two lists (document 02, T-01)
unfoldable pub pair_place_tests : (bytes patterns positions numbers : ℕ) → List Test
pair_place_tests bytes patterns positions numbers = test 7 (ltb positions (bytes * patterns) || ltb numbers (bytes * patterns)) ∷ []

-- 8, of a chunk of so many bytes after n
unfoldable pub total_tests : (n bytes : ℕ) → List Test
total_tests n bytes = test 8 (ltb 4294967295 (n + bytes)) ∷ []

-- The length of the tail after n bytes, for a pattern of m: all n of them, up to m - 1
abbrev pub tail_length : ℕ → ℕ → ℕ
tail_length m n = min n (m - 1)

-- 9, of a tail of t bytes after n, for a pattern of m
unfoldable pub tail_tests : (m n t : ℕ) → List Test
tail_tests m n t = test 9 (not (eqb t (tail_length m n))) ∷ []

-- 9, of an image; the definitions of images say when its form is bad
unfoldable pub form_tests : (bad_form : Bool) → List Test
form_tests bad_form = test 9 bad_form ∷ []

-- 10, of a buffer of so many places and of so many bytes to be written into it: an image's, or a sheet's (document 02, T-02)
unfoldable pub buffer_tests : (places bytes : ℕ) → List Test
buffer_tests places bytes = test 10 (ltb places bytes) ∷ []

-- 11, of a program's input; the definitions of the program say when its first line is bad
unfoldable pub line_tests : (bad_line : Bool) → List Test
line_tests bad_line = test 11 bad_line ∷ []

-- ---- the order of the tests of each call

-- 3, 4 and 5, of a method for a pattern and k
unfoldable pub method_tests : List ℕ → ℕ → ℕ → List Test
method_tests P k method = known_tests method ++ (exact_tests k method ++ width_tests P k method)

-- Open: 1, 13, then 2 to 5
unfoldable pub pattern_tests : List ℕ → ℕ → ℕ → List Test
pattern_tests P k method = length_tests (length P) ++ (lost_tests P ++ (tolerance_tests (length P) k ++ method_tests P k method))

-- 6 and 7
unfoldable pub size_tests : (bytes places : ℕ) → List Test
size_tests bytes places = text_tests bytes ++ place_tests bytes places

-- Whole search: those of open, then 6 and 7
unfoldable pub whole_tests : List ℕ → ℕ → ℕ → (bytes places : ℕ) → List Test
whole_tests P k method bytes places = pattern_tests P k method ++ size_tests bytes places

-- The first match at or after a given position (document 02, T-08), which has no list: those of open, then 6
unfoldable pub first_tests : List ℕ → ℕ → ℕ → (bytes : ℕ) → List Test
first_tests P k method bytes = pattern_tests P k method ++ text_tests bytes

-- A whole search and its sheet of so many bytes, for a buffer of so many places (document 02, T-02): those of whole search, then 10
unfoldable pub sheet_tests : List ℕ → ℕ → ℕ → (bytes places buffer_places bytes_on_paper : ℕ) → List Test
sheet_tests P k method bytes places buffer_places bytes_on_paper = whole_tests P k method bytes places ++ buffer_tests buffer_places bytes_on_paper

-- Several patterns of these lengths, one after the other, and k (document 02, T-01): 1 for every pattern, 12, 13 for every pattern, 2
unfoldable pub several_pattern_tests : (lengths patterns : List ℕ) (k : ℕ) → List Test
several_pattern_tests lengths patterns k =
    each_length_tests lengths ++ (set_tests lengths (length patterns) ++ (lost_tests patterns ++ tolerance_tests (get_or lengths 0 0) k))

-- and a text for two lists: 6, 7
unfoldable pub several_size_tests : (bytes patterns positions numbers : ℕ) → List Test
several_size_tests bytes patterns positions numbers = text_tests bytes ++ pair_place_tests bytes patterns positions numbers

-- Several patterns in one pass (document 02, T-01): 1, 12, 13, 2, 6, 7
unfoldable pub several_tests : (lengths patterns : List ℕ) (k bytes positions numbers : ℕ) → List Test
several_tests lengths patterns k bytes positions numbers =
    several_pattern_tests lengths patterns k ++ several_size_tests bytes (length lengths) positions numbers

-- Of a search's parts, with a tail of t bytes after n: those of open, then 9 for the tail
unfoldable pub search_tests : List ℕ → ℕ → ℕ → (n t : ℕ) → List Test
search_tests P k method n t = pattern_tests P k method ++ tail_tests (length P) n t

-- A chunk after n bytes: 6, 7, 8
unfoldable pub chunk_tests : (n bytes places : ℕ) → List Test
chunk_tests n bytes places = size_tests bytes places ++ total_tests n bytes

-- The next three calls begin with the tests of their search, which `handed` has. Feed: then 6, 7, 8
unfoldable pub feed_tests : (handed : List Test) (n bytes places : ℕ) → List Test
feed_tests handed n bytes places = handed ++ chunk_tests n bytes places

-- Set method: then 3, 4, 5 of the new method
unfoldable pub set_method_tests : (handed : List Test) → List ℕ → ℕ → ℕ → List Test
set_method_tests handed P k new_method = handed ++ method_tests P k new_method

-- Save: then 10
unfoldable pub save_tests : (handed : List Test) (places bytes : ℕ) → List Test
save_tests handed places bytes = handed ++ buffer_tests places bytes

-- Load: 9 for the image's form, then the tests of the parts that it holds
unfoldable pub load_tests : (bad_form : Bool) (held : List Test) → List Test
load_tests bad_form held = form_tests bad_form ++ held

-- The program's input: 6 before 11
unfoldable pub request_tests : (bytes : ℕ) (bad_line : Bool) → List Test
request_tests bytes bad_line = input_tests bytes ++ line_tests bad_line

-- The program: then those of open
unfoldable pub program_tests : (bytes : ℕ) (bad_line : Bool) → List ℕ → ℕ → ℕ → List Test
program_tests bytes bad_line P k method = request_tests bytes bad_line ++ pattern_tests P k method
