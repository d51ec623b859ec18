-- The limits of a text that is searched for several patterns are those of the documents where the longest has 65,536 bytes.
use mathlib.Core.Path.{◌≡◌, refl}
use Prim.Native.Nat.{ℕ}
use Rattle.jumbled.specs.Refusals.{given, text_tests, pair_place_tests, several_size_tests}
use Rattle.admit_several.specs.Limits.{several_limit_tests}

pub document-several-limits : (bytes patterns positions numbers : ℕ)
    → given (several_limit_tests 65536 bytes patterns positions numbers) ≡ given (several_size_tests bytes patterns positions numbers)
unfolding given text_tests pair_place_tests several_size_tests several_limit_tests
document-several-limits bytes patterns positions numbers = refl
