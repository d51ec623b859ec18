-- Numbers that some tests never give: that method 6 is never refused with 5 (document 02, T-04), and a search without a list never with 7 (T-08).
use mathlib.Core.Path.{◌≡◌, refl, sym, ◌∙◌}
use mathlib.Core.Bool.{Bool, true, false, cond, ◌&&◌, true≢false}
use mathlib.Core.List.{List, [], ◌∷◌, ◌++◌}
use Prim.Native.Nat.{ℕ, suc, ◌≤◌}
use native.Mathlib.Omega.{arith}
use lib.Dec.{ltb, eqb}
use lib.ListN.{length}
use borrow.Author.Tests.{le-ltb}
use Rattle.jumbled.specs.Match.{cc}
use Rattle.jumbled.specs.Fields.{shared, field_count, no_layout, layout_of, width_of, bits}
use Rattle.jumbled.specs.Refusals.{Test, test, given, is_method, exact_only, length_tests, lost_tests, tolerance_tests, known_tests, exact_tests, width_tests, text_tests, input_tests, place_tests, total_tests, tail_tests, form_tests, buffer_tests, line_tests, method_tests, pattern_tests, size_tests, whole_tests, first_tests, sheet_tests, search_tests, chunk_tests, request_tests, program_tests}
use Rattle.jumbled.proofs.Sums.{sum_zeros}

-- None of the tests with the number n applies
pub data Never (n : ℕ) : List Test → Type 0 where
  none : Never n []
  next : {t : Test} {ts : List Test} → (t.number ≡ n → t.applies ≡ false) → Never n ts → Never n (t ∷ ts)

pub never-given : {n : ℕ} {ts : List Test} → Never (suc n) ts → given ts ≡ suc n → ⊥
unfolding given
never-given none e = omega arith
never-given {n} (next {t = t} {ts = ts} off more) e = by t.applies refl (never-given more) e
  where
    by : (b : Bool) → t.applies ≡ b → (given ts ≡ suc n → ⊥) → cond b t.number (given ts) ≡ suc n → ⊥
    by true h later e = true≢false (sym h ∙ off e)
    by false h later e = later e

pub never-append : {n : ℕ} {ts us : List Test} → Never n ts → Never n us → Never n (ts ++ us)
never-append none later = later
never-append (next off more) later = next off (never-append more later)

-- one test that has another number
pub other : {n m : ℕ} {b : Bool} → (m ≡ n → ⊥) → Never n (test m b ∷ [])
other differs = next (λ e. absurd (differs e)) none

-- ---- 5: only the tests of fields have this number

pub length-not-5 : (m : ℕ) → Never 5 (length_tests m)
unfolding length_tests
length-not-5 m = other (λ e. omega arith)

lost-not-5 : (P : List ℕ) → Never 5 (lost_tests P)
unfolding lost_tests
lost-not-5 P = other (λ e. omega arith)

tolerance-not-5 : (m k : ℕ) → Never 5 (tolerance_tests m k)
unfolding tolerance_tests
tolerance-not-5 m k = other (λ e. omega arith)

known-not-5 : (method : ℕ) → Never 5 (known_tests method)
unfolding known_tests
known-not-5 method = other (λ e. omega arith)

exact-not-5 : (k method : ℕ) → Never 5 (exact_tests k method)
unfolding exact_tests
exact-not-5 k method = other (λ e. omega arith)

pub size-not-5 : (bytes places : ℕ) → Never 5 (size_tests bytes places)
unfolding size_tests text_tests place_tests
size-not-5 bytes places = never-append (other (λ e. omega arith)) (other (λ e. omega arith))

pub chunk-not-5 : (n bytes places : ℕ) → Never 5 (chunk_tests n bytes places)
unfolding chunk_tests total_tests
chunk-not-5 n bytes places = never-append (size-not-5 bytes places) (other (λ e. omega arith))

pub buffer-not-5 : (places bytes : ℕ) → Never 5 (buffer_tests places bytes)
unfolding buffer_tests
buffer-not-5 places bytes = other (λ e. omega arith)

pub form-not-5 : (bad_form : Bool) → Never 5 (form_tests bad_form)
unfolding form_tests
form-not-5 bad_form = other (λ e. omega arith)

-- ---- method 6 has no fields

no_bits : (P : List ℕ) → bits P no_layout ≡ 0
unfolding bits width_of
no_bits P = sum_zeros field_count (width_of P no_layout) (λ f. either (eqb f shared) (either (eqb (cc P f) 0) refl))
  where
    either : {n : ℕ} (t : Bool) → n ≡ 0 → cond t 0 n ≡ 0
    either true e = refl
    either false e = e

no_more : (P : List ℕ) → bits P no_layout ≤ 64
no_more P = omega (arith, no_bits P)

width-not-5 : (P : List ℕ) (k : ℕ) → Never 5 (width_tests P k 6)
unfolding width_tests layout_of
width-not-5 P k = next (λ e. le-ltb 64 (bits P no_layout) (no_more P)) none

pub method-not-5 : (P : List ℕ) (k : ℕ) → Never 5 (method_tests P k 6)
unfolding method_tests
method-not-5 P k = never-append (known-not-5 6) (never-append (exact-not-5 k 6) (width-not-5 P k))

-- so 3 to 5 are 4 for every other k than 0, and nothing for that
pub ebl-number : (P : List ℕ) (k : ℕ) → given (method_tests P k 6) ≡ cond (ltb 0 k) 4 0
unfolding method_tests known_tests exact_tests width_tests layout_of is_method exact_only given
ebl-number P k = rw (le-ltb 64 (bits P no_layout) (no_more P)) (case (ltb 0 k))
  where
    case : (t : Bool) → cond {A = ℕ} (t && true) 4 0 ≡ cond t 4 0
    case true = refl
    case false = refl

module _ (P : List ℕ) (k : ℕ) where
  pub pattern-not-5 : Never 5 (pattern_tests P k 6)
  unfolding pattern_tests
  pattern-not-5 =
      never-append (length-not-5 (length P)) (never-append (lost-not-5 P) (never-append (tolerance-not-5 (length P) k) (method-not-5 P k)))

  pub whole-not-5 : (bytes places : ℕ) → Never 5 (whole_tests P k 6 bytes places)
  unfolding whole_tests
  whole-not-5 bytes places = never-append pattern-not-5 (size-not-5 bytes places)

  pub sheet-not-5 : (bytes places buffer_places bytes_on_paper : ℕ) → Never 5 (sheet_tests P k 6 bytes places buffer_places bytes_on_paper)
  unfolding sheet_tests
  sheet-not-5 bytes places buffer_places bytes_on_paper = never-append (whole-not-5 bytes places) (buffer-not-5 buffer_places bytes_on_paper)

  pub search-not-5 : (n t : ℕ) → Never 5 (search_tests P k 6 n t)
  unfolding search_tests tail_tests
  search-not-5 n t = never-append pattern-not-5 (other (λ e. omega arith))

  pub program-not-5 : (bytes : ℕ) (bad_line : Bool) → Never 5 (program_tests bytes bad_line P k 6)
  unfolding program_tests request_tests input_tests line_tests
  program-not-5 bytes bad_line = never-append (never-append (other (λ e. omega arith)) (other (λ e. omega arith))) pattern-not-5

-- ---- 7: only the tests of a list have this number

pub first-not-7 : (P : List ℕ) (k method bytes : ℕ) → Never 7 (first_tests P k method bytes)
unfolding first_tests pattern_tests length_tests lost_tests tolerance_tests method_tests known_tests exact_tests width_tests text_tests
first-not-7 P k method bytes =
    never-append
    (never-append (other (λ e. omega arith))
    (never-append (other (λ e. omega arith))
    (never-append (other (λ e. omega arith))
    (never-append (other (λ e. omega arith)) (never-append (other (λ e. omega arith)) (other (λ e. omega arith)))))))
    (other (λ e. omega arith))
