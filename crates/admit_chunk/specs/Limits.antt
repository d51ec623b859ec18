-- What the tests of a chunk's length go by: document 01, "When a call says no", 6 to 8.
use Rattle.std.specs.Prelude.{List, ◌++◌, ℕ}
use Rattle.jumbled.specs.Refusals.{Test, long_tests, place_tests, total_tests}

-- 6, 7 and 8, of a chunk of so many bytes after n, where `longest` bytes are the most that a chunk may have. By the constants of whole search and of
-- `Search` these are the tests of document 01 (`document-limits`).
unfoldable pub limit_tests : (longest n bytes places : ℕ) → List Test
limit_tests longest n bytes places = long_tests longest bytes ++ (place_tests bytes places ++ total_tests n bytes)
