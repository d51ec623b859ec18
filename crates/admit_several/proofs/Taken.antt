-- What it says that none of the tests of several patterns, of a text and of two lists is given, and which numbers they give.
use mathlib.Core.Path.{◌≡◌, refl, sym, ap, ap₂, ◌∙◌}
use mathlib.Core.Bool.{Bool, false, cond, not, ◌||◌}
use mathlib.Core.List.{List, ◌++◌, append_assoc}
use Prim.Native.Nat.{ℕ, ◌*◌, ◌≤◌, ◌<◌}
use native.Mathlib.Omega.{arith}
use lib.Dec.{eqb, leb, ltb}
use lib.ListN.{length, get_or}
use borrow.Author.Tests.{eqb-true, eqb-false, ltb-false, not-false}
use Rattle.jumbled.specs.Match.{occurs, lost_hour}
use Rattle.jumbled.specs.Refusals.{Test, given, any_of, total, bad_length, each_length_tests, set_tests, lost_tests, tolerance_tests, text_tests, pair_place_tests, several_pattern_tests, several_size_tests}
use Rattle.jumbled.proofs.Admission.{or-false, Numbered, none, next, given-one, given-append, given-append-none, numbered-append, lost-numbered, lost-taken, tolerance-numbered, tolerance-taken, text-numbered, text-taken}
use Rattle.jumbled.proofs.Selections.{none-at, Alike, total-alike}
use Rattle.answers.specs.Numbers.{unless_refused}
use Rattle.answers.proofs.Refused.{tested-later}

-- ---- 1 and 12

each-numbered : (lengths : List ℕ) → Numbered (each_length_tests lengths)
unfolding each_length_tests
each-numbered lengths = next refl none

set-numbered : (lengths : List ℕ) (bytes : ℕ) → Numbered (set_tests lengths bytes)
unfolding set_tests
set-numbered lengths bytes = next refl none

pub admit-set-numbered : (lengths : List ℕ) (bytes : ℕ) → Numbered (each_length_tests lengths ++ set_tests lengths bytes)
admit-set-numbered lengths bytes = numbered-append (each_length_tests lengths) (set_tests lengths bytes) (each-numbered lengths) (set-numbered lengths bytes)

-- what it says that neither of them applies
pub record SetTaken (lengths : List ℕ) (bytes : ℕ) : Type 0 where
  pub some_pattern : 1 ≤ length lengths
  pub few : length lengths ≤ 8
  pub alike : Alike (get_or lengths 0 0) lengths
  pub all : length lengths * get_or lengths 0 0 ≡ bytes
  pub some : 1 ≤ get_or lengths 0 0
  pub short : get_or lengths 0 0 ≤ 64

module _ (lengths : List ℕ) (bytes : ℕ) where
  abbrev m : ℕ
  m = get_or lengths 0 0

  abbrev unlike : Bool
  unlike = any_of (λ x. not (eqb x m)) lengths

  pub set-taken : given (each_length_tests lengths ++ set_tests lengths bytes) ≡ 0 → SetTaken lengths bytes
  unfolding each_length_tests set_tests
  set-taken e =
      let parts = given-append-none (each_length_tests lengths) (set_tests lengths bytes) (each-numbered lengths) e in
      let sums = or-false (eqb (length lengths) 0 || ltb 8 (length lengths) || unlike) (not (eqb (total lengths) bytes)) (given-one (set-numbered lengths bytes) parts.1) in
      let lengths-alike = or-false (eqb (length lengths) 0 || ltb 8 (length lengths)) unlike sums.0 in
      let counts = or-false (eqb (length lengths) 0) (ltb 8 (length lengths)) lengths-alike.0 in
      let some_pattern : 1 ≤ length lengths = positive (length lengths) (eqb-false (length lengths) 0 counts.0) in
      let first = or-false (eqb m 0) (ltb 64 m) (none-at bad_length lengths (given-one (each-numbered lengths) parts.0) 0 some_pattern) in
      record {
        some_pattern = some_pattern;
        few = ltb-false 8 (length lengths) counts.1;
        alike = lengths-alike.1;
        all = sym (total-alike m lengths lengths-alike.1) ∙ eqb-true (total lengths) bytes (not-false (eqb (total lengths) bytes) sums.1);
        some = positive m (eqb-false m 0 first.0);
        short = ltb-false 64 m first.1;
      }
    where
      positive : (n : ℕ) → (n ≡ 0 → ⊥) → 1 ≤ n
      positive n h = omega arith

-- ---- then 13 and 2

module _ (lengths patterns : List ℕ) (k : ℕ) where
  -- the tests of the set, and then those of the bytes and of k
  abbrev set_part : List Test
  set_part = each_length_tests lengths ++ set_tests lengths (length patterns)

  abbrev rest : List Test
  rest = lost_tests patterns ++ tolerance_tests (get_or lengths 0 0) k

  several-pattern-tests : several_pattern_tests lengths patterns k ≡ set_part ++ rest
  unfolding several_pattern_tests
  several-pattern-tests = sym (append_assoc (each_length_tests lengths) (set_tests lengths (length patterns)) rest)

  rest-numbered : Numbered rest
  rest-numbered = numbered-append (lost_tests patterns) _ (lost-numbered patterns) (tolerance-numbered (get_or lengths 0 0) k)

  pub several-pattern-numbered : Numbered (several_pattern_tests lengths patterns k)
  several-pattern-numbered = rw several-pattern-tests (numbered-append set_part rest (admit-set-numbered lengths (length patterns)) rest-numbered)

  pub several-pattern-number : given (several_pattern_tests lengths patterns k) ≡ unless_refused (given set_part) (given rest) (given set_part)
  several-pattern-number = ap given several-pattern-tests ∙ given-append set_part rest (admit-set-numbered lengths (length patterns))

  -- 13 or 2 where the set is taken
  pub rest-number : given set_part ≡ 0 → (some large : Bool) → occurs patterns lost_hour ≡ some → leb (get_or lengths 0 0) k ≡ large
      → cond some 13 (cond large 2 0) ≡ given (several_pattern_tests lengths patterns k)
  unfolding given lost_tests tolerance_tests
  rest-number set-right some large e f =
      ap₂ (λ (t u : Bool). cond t 13 (cond {A = ℕ} u 2 0)) (sym e) (sym f) ∙ tested-later _ (given rest) set-right ∙ sym several-pattern-number

  -- what it says that none of them applies
  pub record SeveralTaken : Type 0 where
    pub set : SetTaken lengths (length patterns)
    pub none-lost : occurs patterns lost_hour ≡ false
    pub within : k < get_or lengths 0 0

  pub several-taken : given (several_pattern_tests lengths patterns k) ≡ 0 → SeveralTaken
  several-taken e =
      let parts = given-append-none set_part rest (admit-set-numbered lengths (length patterns)) (ap given (sym several-pattern-tests) ∙ e) in
      let last = given-append-none (lost_tests patterns) (tolerance_tests (get_or lengths 0 0) k) (lost-numbered patterns) parts.1 in
      record {
        set = set-taken lengths (length patterns) parts.0;
        none-lost = lost-taken patterns last.0;
        within = tolerance-taken (get_or lengths 0 0) k last.1;
      }

-- ---- 6 and 7

pair-numbered : (bytes patterns positions numbers : ℕ) → Numbered (pair_place_tests bytes patterns positions numbers)
unfolding pair_place_tests
pair-numbered bytes patterns positions numbers = next refl none

-- what it says that neither of them applies
pub record PairTaken (bytes patterns positions numbers : ℕ) : Type 0 where
  pub not-long : bytes ≤ 65536
  pub positions-room : bytes * patterns ≤ positions
  pub numbers-room : bytes * patterns ≤ numbers

pub pair-taken : (bytes patterns positions numbers : ℕ) → given (several_size_tests bytes patterns positions numbers) ≡ 0 → PairTaken bytes patterns positions numbers
unfolding several_size_tests pair_place_tests
pair-taken bytes patterns positions numbers e =
    let parts = given-append-none (text_tests bytes) (pair_place_tests bytes patterns positions numbers) (text-numbered bytes) e in
    let rooms = or-false (ltb positions (bytes * patterns)) (ltb numbers (bytes * patterns)) (given-one (pair-numbered bytes patterns positions numbers) parts.1) in
    record {
      not-long = text-taken bytes parts.0;
      positions-room = ltb-false positions (bytes * patterns) rooms.0;
      numbers-room = ltb-false numbers (bytes * patterns) rooms.1;
    }
