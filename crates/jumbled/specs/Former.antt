-- Methods 2 and 3 as they were before document 02, T-03: document 01, "The five methods", 2 and 3, and "When a call says no", 5. No call uses any
-- of this; what T-03 says of patterns that were accepted already is measured by it.
use Rattle.std.specs.Prelude.{ℕ, ◌+◌, cond, List, ◌++◌, eqb, length}
use Rattle.jumbled.specs.Match.{starts}
use Rattle.jumbled.specs.Fields.{lg, Layout, layout_of}
use Rattle.jumbled.specs.Scan.{Result, singles, pairs, backward}
use Rattle.jumbled.specs.Steps.{packed_scan, steps}
use Rattle.jumbled.specs.Refusals.{Test, length_tests, lost_tests, tolerance_tests, known_tests, exact_tests, field_tests, tail_tests, size_tests}

-- The field of a letter that P has v times had 2 bits more than lg(v); so many bits were shared
abbrev pub former_layout : (common : ℕ) → Layout
former_layout common = record { own = λ v. lg v + 2; common = common }

-- by the method's number: 1 bit was shared in method 2, and 2 in method 3. T-03 does not touch the other methods' fields.
unfoldable pub former_layout_of : ℕ → ℕ → Layout
former_layout_of k method = cond (eqb method 2) (former_layout 1) (cond (eqb method 3) (former_layout 2) (layout_of k method))

-- The steps of method 2 or 3 with fields of these widths
unfoldable pub packed_steps : Layout → (grouped : List ℕ → List (List ℕ)) → List ℕ → List ℕ → Result
packed_steps layout grouped P T = backward (packed_scan layout grouped P) (length P) T 0 (starts (length P) T) 0

-- The steps of methods 2 and 3 as they were; T-03 does not touch the others
unfoldable pub former_steps : List ℕ → ℕ → ℕ → List ℕ → Result
former_steps P k method T =
    cond (eqb method 2) (packed_steps (former_layout_of k method) singles P T)
    (cond (eqb method 3) (packed_steps (former_layout_of k method) pairs P T) (steps P k method T))

-- 3, 4 and 5 as they were
unfoldable pub former_method_tests : List ℕ → ℕ → ℕ → List Test
former_method_tests P k method = known_tests method ++ (exact_tests k method ++ field_tests P (former_layout_of k method))

-- Those of open, with 13, which T-03 does not touch
unfoldable pub former_pattern_tests : List ℕ → ℕ → ℕ → List Test
former_pattern_tests P k method = length_tests (length P) ++ (lost_tests P ++ (tolerance_tests (length P) k ++ former_method_tests P k method))

-- of a whole search
unfoldable pub former_whole_tests : List ℕ → ℕ → ℕ → (bytes places : ℕ) → List Test
former_whole_tests P k method bytes places = former_pattern_tests P k method ++ size_tests bytes places

-- and those of a search's parts
unfoldable pub former_search_tests : List ℕ → ℕ → ℕ → (n t : ℕ) → List Test
former_search_tests P k method n t = former_pattern_tests P k method ++ tail_tests (length P) n t
