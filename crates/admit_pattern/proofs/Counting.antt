-- Counting takes every pattern and every tolerance that pass 1, 13 and 2: 3, 4 and 5 never come from it.
use mathlib.Core.Path.{◌≡◌, refl}
use mathlib.Core.Bool.{false, and-false}
use mathlib.Core.List.{List}
use Prim.Native.Nat.{ℕ, ◌≤◌, ◌<◌}
use native.Mathlib.Omega.{arith}
use lib.Dec.{ltb}
use lib.ListN.{length}
use borrow.Author.Tests.{ne_eqb, le-ltb, lt-leb}
use Rattle.jumbled.specs.Match.{occurs, lost_hour}
use Rattle.jumbled.specs.Fields.{layout_of}
use Rattle.jumbled.specs.Refusals.{given, is_method, exact_only, length_tests, lost_tests, tolerance_tests, known_tests, exact_tests, width_tests, method_tests, pattern_tests}
use Rattle.table_widths.proofs.Widths.{layout-none, bits_none}

module _ (P : List ℕ) (k : ℕ) (some : 1 ≤ length P) (short : length P ≤ 64) (none-lost : occurs P lost_hour ≡ false) (within : k < length P) where
  pub counting-taken : given (pattern_tests P k 1) ≡ 0
  unfolding given pattern_tests length_tests lost_tests tolerance_tests method_tests known_tests exact_tests width_tests is_method exact_only
  counting-taken =
      rw (
        ne_eqb (length P) 0 (λ e. omega arith),
        le-ltb 64 (length P) short,
        none-lost,
        lt-leb (length P) k within,
        and-false (ltb 0 k),
        bits_none P (layout_of k 1) (layout-none k 1 (λ e. omega arith) (λ e. omega arith) (λ e. omega arith)),
      ) refl
