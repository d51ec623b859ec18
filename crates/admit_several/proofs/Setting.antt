-- The number that the tests of a set of patterns give: 1 where a length is wrong, else 12 where the set is.
use Rattle.std.proofs.Common.{◌≡◌, refl, ◌≢◌, ℕ, ◌*◌, ◌<◌, ◌≤◌, Bool, true, false, not, cond, List, ◌++◌, length, get_or, eqb, arith}
use native.Mathlib.Nat.{mul-le-mul}
use borrow.Author.Tests.{eq-eqb, ne_eqb, lt-ltb, le-ltb, ltb-false}
use Rattle.jumbled.specs.Refusals.{given, any_of, bad_length, bad_set, each_length_tests, set_tests}
use Rattle.jumbled.proofs.Admission.{or-false}
use Rattle.jumbled.proofs.Selections.{total-alike, none-at}

module _ (lengths : List ℕ) (bytes : ℕ) where
  abbrev m : ℕ
  m = get_or lengths 0 0

  pub length-wrong : any_of bad_length lengths ≡ true → 1 ≡ given (each_length_tests lengths ++ set_tests lengths bytes)
  unfolding given each_length_tests
  length-wrong wrong = rw wrong refl

  module _ (right : any_of bad_length lengths ≡ false) where
    set-number : (bad : Bool) → bad_set lengths bytes ≡ bad → cond bad 12 0 ≡ given (each_length_tests lengths ++ set_tests lengths bytes)
    unfolding given each_length_tests set_tests
    set-number bad e = rw (right, e) refl

    pub no-pattern : length lengths ≡ 0 → 12 ≡ given (each_length_tests lengths ++ set_tests lengths bytes)
    no-pattern none = set-number true (rw (eq-eqb (length lengths) 0 none) refl)

    module _ (some : length lengths ≢ 0) where
      pub many-patterns : 8 < length lengths → 12 ≡ given (each_length_tests lengths ++ set_tests lengths bytes)
      many-patterns many = set-number true (rw (ne_eqb (length lengths) 0 some, lt-ltb 8 (length lengths) many) refl)

      pub first-short : m ≤ 64
      first-short = ltb-false 64 m (or-false (eqb m 0) _ (none-at bad_length lengths right 0 (omega arith))).1

      module _ (few : length lengths ≤ 8) where
        -- so the product fits
        pub product-small : length lengths * m ≤ 512
        product-small = mul-le-mul few first-short

        pub unlike : any_of (λ x. not (eqb x m)) lengths ≡ true → 12 ≡ given (each_length_tests lengths ++ set_tests lengths bytes)
        unlike differ = set-number true (rw (ne_eqb (length lengths) 0 some, le-ltb 8 (length lengths) few, differ) refl)

        module _ (alike : any_of (λ x. not (eqb x m)) lengths ≡ false) where
          by-product : (right : Bool) → eqb (length lengths * m) bytes ≡ right → bad_set lengths bytes ≡ not right
          by-product right e =
              rw (ne_eqb (length lengths) 0 some, le-ltb 8 (length lengths) few, alike, total-alike m lengths alike, e) refl

          pub other-bytes : length lengths * m ≢ bytes → 12 ≡ given (each_length_tests lengths ++ set_tests lengths bytes)
          other-bytes differ = set-number true (by-product false (ne_eqb (length lengths * m) bytes differ))

          pub all-bytes : length lengths * m ≡ bytes → 0 ≡ given (each_length_tests lengths ++ set_tests lengths bytes)
          all-bytes same = set-number false (by-product true (eq-eqb (length lengths * m) bytes same))
