-- Which patterns fit 64 bits, at both sides of it, computed from the definitions: document 02, T-03; document 01, "Sheet of small records", the
-- widths below it, for method 4.
use mathlib.Core.Path.{◌≡◌, refl}
use mathlib.Core.List.{List, [], ◌∷◌}
use Prim.Native.Nat.{ℕ, zero, suc, ◌+◌}
use Rattle.jumbled.specs.Match.{cc, occurs, sum}
use Rattle.jumbled.specs.Fields.{first, lg, letter_width, layout_of, width_of, bits}
use Rattle.jumbled.specs.Refusals.{given, is_method, exact_only, length_tests, lost_tests, tolerance_tests, known_tests, exact_tests, width_tests, method_tests, pattern_tests}
use Rattle.jumbled.specs.Former.{former_layout_of, former_method_tests, former_pattern_tests}

-- The bytes of `a` and of the n - 1 letters after it, the last first, once each
once : (n : ℕ) → List ℕ
once zero = []
once (suc n) = (97 + n) ∷ once n

-- and three times each, and then these bytes
thrice : (n : ℕ) → List ℕ → List ℕ
thrice zero more = more
thrice (suc n) more = (97 + n) ∷ (97 + n) ∷ (97 + n) ∷ thrice n more

-- The bits that a pattern's fields need, and the number that the tests of open give, by k and the method
measured : (P : List ℕ) (k method : ℕ) → ℕ × ℕ
measured P k method = (bits P (layout_of k method), given (pattern_tests P k method))

-- and before the request
measured_before : (P : List ℕ) (k method : ℕ) → ℕ × ℕ
measured_before P k method = (bits P (former_layout_of k method), given (former_pattern_tests P k method))

-- 21 letters thrice each fill the word in method 2, and are one bit too many for method 3
record Thrice : Type 0 where
  fits-2 : measured (thrice 21 []) 0 2 ≡ (64, 0)
  passes-3 : measured (thrice 21 []) 0 3 ≡ (65, 5)
  -- 20 letters thrice each and `X` once fill the word in method 3; with `Y` once they are one bit too many for method 2
  fits-3 : measured (thrice 20 (88 ∷ [])) 0 3 ≡ (64, 0)
  passes-2 : measured (thrice 20 (88 ∷ 89 ∷ [])) 0 2 ≡ (65, 5)

-- none of them was taken before
record ThriceBefore : Type 0 where
  passed-2 : measured_before (thrice 21 []) 0 2 ≡ (85, 5)
  passed-3 : measured_before (thrice 21 []) 0 3 ≡ (86, 5)
  passed-3-less : measured_before (thrice 20 (88 ∷ [])) 0 3 ≡ (84, 5)
  passed-2-more : measured_before (thrice 20 (88 ∷ 89 ∷ [])) 0 2 ≡ (85, 5)

-- Method 4 has the widths that it had: 21 letters thrice each are too many, and 15 letters once each fit with k = 3, 16 do not
record Approximate : Type 0 where
  passes-4 : measured (thrice 21 []) 0 4 ≡ (86, 5)
  fits-4 : measured (once 15) 3 4 ≡ (64, 0)
  passes-4-more : measured (once 16) 3 4 ≡ (68, 5)

edges : Thrice × ThriceBefore × Approximate
unfolding once thrice measured measured_before cc occurs sum first lg letter_width layout_of width_of bits given is_method exact_only length_tests lost_tests tolerance_tests known_tests exact_tests width_tests method_tests pattern_tests former_layout_of former_method_tests former_pattern_tests
edges = (
  record { fits-2 = refl; passes-3 = refl; fits-3 = refl; passes-2 = refl },
  record { passed-2 = refl; passed-3 = refl; passed-3-less = refl; passed-2-more = refl },
  record { passes-4 = refl; fits-4 = refl; passes-4-more = refl },
)
