-- What the tests of a text that is searched for several patterns go by: document 02, T-01; document 01, "When a call says no", 6.
use Rattle.std.specs.Prelude.{List, ◌++◌, ℕ}
use Rattle.jumbled.specs.Refusals.{Test, long_tests, pair_place_tests}

-- 6 and 7, of a text of so many bytes, where `longest` bytes are the most that it may have. By the constant of whole search these are the tests of
-- the documents (`document-several-limits`).
unfoldable pub several_limit_tests : (longest bytes patterns positions numbers : ℕ) → List Test
several_limit_tests longest bytes patterns positions numbers = long_tests longest bytes ++ pair_place_tests bytes patterns positions numbers
