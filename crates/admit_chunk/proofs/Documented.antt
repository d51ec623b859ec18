-- The limits of a chunk are those of document 01 where the longest has 65,536 bytes.
use mathlib.Core.Path.{◌≡◌, refl}
use Prim.Native.Nat.{ℕ}
use Rattle.jumbled.specs.Refusals.{given, text_tests, place_tests, total_tests, size_tests, chunk_tests}
use Rattle.admit_chunk.specs.Limits.{limit_tests}

pub document-limits : (n bytes places : ℕ) → given (limit_tests 65536 n bytes places) ≡ given (chunk_tests n bytes places)
unfolding given text_tests place_tests total_tests size_tests chunk_tests limit_tests
document-limits n bytes places = refl
