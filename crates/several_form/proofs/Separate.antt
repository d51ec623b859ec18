-- What is found for several patterns is what is found for each of them, put together: document 02, T-01.
use mathlib.Core.Path.{◌≡◌, refl, sym, ap, ap₂, ◌∙◌}
use mathlib.Core.Bool.{Bool, true, false, cond}
use mathlib.Core.List.{List, [], ◌∷◌, ◌++◌, append-nil, append_assoc}
use mathlib.Core.Logic.{◌⊎◌, inl, inr, ⊎_elim}
use Prim.Native.Nat.{ℕ, zero, suc, ◌+◌, ◌*◌, ◌≤◌, ◌<◌}
use native.Mathlib.Nat.{add-zero, suc-add, le_refl, le_trans, lt_trans, suc-mul}
use native.Mathlib.Numerals.{add-one}
use native.Mathlib.Omega.{arith}
use lib.Dec.{eqb}
use lib.ListN.{length, length-append}
use borrow.Author.Tests.{eq-eqb, ne_eqb}
use Rattle.jumbled.specs.Match.{bit, sum, matches, window, starts, select, positions}
use Rattle.jumbled.proofs.Sums.{below_or_not, sum_zeros, sum-ext, sum-add}
use Rattle.jumbled.proofs.Selections.{select-cut}
use Rattle.several_form.specs.Finds.{Find, numbered, common_length, beside, collect, matching, finds, part_in, positions_in, numbers_in, side_by_side, positions_of}

-- as many as there are numbers
pub length-beside : (s : ℕ) (numbers : List ℕ) → length (beside s numbers) ≡ length numbers
unfolding beside
length-beside s [] = refl
length-beside s (n ∷ numbers) = ap suc (length-beside s numbers)

-- Two lists that hold the positions and the numbers hold the finds
pub read_back : (F : List Find) → side_by_side (positions_in F) (numbers_in F) ≡ F
unfolding side_by_side part_in
read_back [] = refl
read_back (f ∷ F) = ap (λ (G : List Find). f ∷ G) (read_back F)

-- One part of the finds: as many as these, and put one after the other with them
module _ (part : Find → ℕ) where
  pub part-append : (F G : List Find) → part_in part (F ++ G) ≡ part_in part F ++ part_in part G
  unfolding part_in
  part-append [] G = refl
  part-append (f ∷ F) G = ap (λ (l : List ℕ). part f ∷ l) (part-append F G)

  pub length_part : (F : List Find) → length (part_in part F) ≡ length F
  unfolding part_in
  length_part [] = refl
  length_part (f ∷ F) = ap suc (length_part F)

-- ---- one window start more

pub collect-more : (at : ℕ → List ℕ) (s n : ℕ) → collect at s (n + 1) ≡ collect at s n ++ beside (s + n) (at (s + n))
unfolding collect
collect-more at s zero = rw (add-zero s) (append-nil (beside s (at s)))
collect-more at s (suc n) =
    ap (collect at s) (suc-add n 1)
    ∙ ap (λ (F : List Find). beside s (at s) ++ F) (collect-more at (suc s) n)
    ∙ sym (append_assoc (beside s (at s)) (collect at (suc s) n) (beside (suc s + n) (at (suc s + n))))
    ∙ ap (λ (i : ℕ). (beside s (at s) ++ collect at (suc s) n) ++ beside i (at i)) (same s n)
  where
    same : (s n : ℕ) → suc s + n ≡ s + suc n
    same s n = omega arith

-- no more than so many for each
pub collect-few : (at : ℕ → List ℕ) (most : ℕ) → ((i : ℕ) → length (at i) ≤ most) → (s n : ℕ) → length (collect at s n) ≤ n * most
unfolding collect
collect-few at most few s zero = omega arith
collect-few at most few s (suc n) =
    omega (
      arith,
      length-append (beside s (at s)) (collect at (suc s) n),
      length-beside s (at s),
      few s,
      collect-few at most few (suc s) n,
      suc-mul n most,
    )

-- ---- the positions of one number

positions_of-append : (number : ℕ) (F G : List Find) → positions_of number (F ++ G) ≡ positions_of number F ++ positions_of number G
unfolding positions_of
positions_of-append number [] G = refl
positions_of-append number (f ∷ F) G = case (eqb f.number number) (positions_of-append number F G)
  where
    case : (t : Bool) → positions_of number (F ++ G) ≡ positions_of number F ++ positions_of number G
        → cond t (f.position ∷ positions_of number (F ++ G)) (positions_of number (F ++ G))
        ≡ cond t (f.position ∷ positions_of number F) (positions_of number F) ++ positions_of number G
    case true e = ap (λ (l : List ℕ). f.position ∷ l) e
    case false e = e

module _ (number s : ℕ) (test : ℕ → Bool) where
  -- numbers from beyond it on
  beyond : (from count : ℕ) → number < from → positions_of number (beside s (select test from count)) ≡ []
  unfolding positions_of beside select
  beyond from zero l = refl
  beyond from (suc count) l = case (test from) (beyond (suc from) count (omega arith))
    where
      case : (t : Bool) → positions_of number (beside s (select test (suc from) count)) ≡ []
          → positions_of number (beside s (cond t (from ∷ select test (suc from) count) (select test (suc from) count))) ≡ []
      case true e = rw (ne_eqb from number (λ same. omega arith)) e
      case false e = e

  -- it is among them
  among : (from count : ℕ) → from ≤ number → number < from + count
      → positions_of number (beside s (select test from count)) ≡ cond (test number) (s ∷ []) []
  unfolding positions_of beside select
  among from zero l h = absurd (omega arith)
  among from (suc count) l h =
      ⊎_elim
      (λ (before : from < number). later before (test from) (among (suc from) count (omega arith) (omega arith)))
      (λ (not-before : number ≤ from). let same : from ≡ number = omega arith in here same (test from) (ap test same) (beyond (suc from) count (omega arith)))
      (below_or_not from number)
    where
      rest : List ℕ
      rest = select test (suc from) count

      later : from < number → (t : Bool) → positions_of number (beside s rest) ≡ cond (test number) (s ∷ []) []
          → positions_of number (beside s (cond t (from ∷ rest) rest)) ≡ cond (test number) (s ∷ []) []
      later before true e = rw (ne_eqb from number (λ same. omega arith)) e
      later before false e = e

      here : from ≡ number → (t : Bool) → t ≡ test number → positions_of number (beside s rest) ≡ []
          → positions_of number (beside s (cond t (from ∷ rest) rest)) ≡ cond (test number) (s ∷ []) []
      here same true e none = rw (← e, eq-eqb from number same, none) refl
      here same false e none = rw (← e) none

module _ (test : ℕ → ℕ → Bool) (count : ℕ) where
  -- what is collected where the test of a number and a start says so
  abbrev collected : ℕ → ℕ → List Find
  collected s left = collect (λ i. select (λ number. test number i) 1 count) s left

  collected-separate : (number : ℕ) → 1 ≤ number → number < 1 + count → (s left : ℕ) → positions_of number (collected s left) ≡ select (test number) s left
  unfolding collect select positions_of
  collected-separate number from to s zero = refl
  collected-separate number from to s (suc left) =
      positions_of-append number (beside s (select (λ n. test n s) 1 count)) (collected (suc s) left)
      ∙ ap₂ ◌++◌ (among number s (λ n. test n s) 1 count from to) (collected-separate number from to (suc s) left)
      ∙ case (test number s)
    where
      case : (t : Bool) → cond t (s ∷ []) [] ++ select (test number) (suc s) left ≡ cond t (s ∷ select (test number) (suc s) left) (select (test number) (suc s) left)
      case true = refl
      case false = refl

  -- ---- how many

  one_more : (pass : ℕ → Bool) (from n : ℕ) → length (select pass from (suc n)) ≡ bit (pass from) + length (select pass (suc from) n)
  unfolding select
  one_more pass from n = case (pass from)
    where
      case : (t : Bool) → length (cond t (from ∷ select pass (suc from) n) (select pass (suc from) n)) ≡ bit t + length (select pass (suc from) n)
      case true = omega arith
      case false = omega arith

  length-select : (pass : ℕ → Bool) (from n : ℕ) → length (select pass from n) ≡ sum n (λ j. bit (pass (from + j)))
  unfolding select sum
  length-select pass from zero = refl
  length-select pass from (suc n) =
      ap (λ (c : ℕ). length (select pass from c)) (sym (add-one n))
      ∙ ap length (select-cut pass from n 1)
      ∙ length-append (select pass from n) (select pass (from + n) 1)
      ∙ ap₂ ◌+◌ (length-select pass from n) (one_more pass (from + n) 0 ∙ add-zero (bit (pass (from + n))))

  sum-zero : (f : ℕ → ℕ) → sum 0 f ≡ 0
  unfolding sum
  sum-zero f = refl

  length-collected : (s left : ℕ) → length (collected s left) ≡ sum count (λ j. length (select (test (suc j)) s left))
  unfolding collect
  length-collected s zero = sym (sum_zeros count (λ j. length (select (test (suc j)) s 0)) (λ j. length-select (test (suc j)) s 0 ∙ sum-zero _))
  length-collected s (suc left) =
      length-append (beside s (select (λ n. test n s) 1 count)) (collected (suc s) left)
      ∙ ap₂ ◌+◌ (length-beside s (select (λ n. test n s) 1 count) ∙ length-select (λ n. test n s) 1 count) (length-collected (suc s) left)
      ∙ sym (sum-add count (λ j. bit (test (1 + j) s)) (λ j. length (select (test (suc j)) (suc s) left)))
      ∙ sum-ext count (λ j. bit (test (1 + j) s) + length (select (test (suc j)) (suc s) left)) (λ j. length (select (test (suc j)) s (suc left)))
      (λ j l. ap (λ (n : ℕ). bit (test n s) + length (select (test (suc j)) (suc s) left)) (one-plus j) ∙ sym (one_more (test (suc j)) s left))
    where
      one-plus : (j : ℕ) → 1 + j ≡ suc j
      one-plus j = omega arith

-- ---- the order

-- A find at the position p with the number q or a higher one, or at a later position
abbrev pub NotBefore : ℕ → ℕ → Find → Type 0
NotBefore p q f = (p < f.position) ⊎ ((p ≡ f.position) × (q ≤ f.number))

-- The finds go strictly up, by position and at one position by number, none is before position p and number q, and every number is 1 to `most`
pub data Ordered (most : ℕ) : ℕ → ℕ → List Find → Type 0 where
  none : {p q : ℕ} → Ordered most p q []
  next : {p q : ℕ} {f : Find} {more : List Find} → NotBefore p q f → 1 ≤ f.number → f.number ≤ most → Ordered most f.position (suc f.number) more
      → Ordered most p q (f ∷ more)

-- an earlier position, whatever the number
earlier : {most p q : ℕ} {F : List Find} (p' q' : ℕ) → p' < p → Ordered most p q F → Ordered most p' q' F
earlier p' q' l none = none
earlier {p = p} {q = q} p' q' l (next {f = f} at least most more) =
    next {f = f} (inl (⊎_elim (λ (h : p < f.position). lt_trans l h) (λ (h : (p ≡ f.position) × (q ≤ f.number)). rw h.0 at l) at)) least most more

-- at the same position no higher a number
lower : {most p q : ℕ} {F : List Find} (q' : ℕ) → q' ≤ q → Ordered most p q F → Ordered most p q' F
lower q' l none = none
lower {p = p} {q = q} q' l (next {f = f} at least most more) =
    next {f = f} (⊎_elim (λ h. inl h) (λ (h : (p ≡ f.position) × (q ≤ f.number)). inr (h.0, le_trans l h.1)) at) least most more

ordered-beside : (most s : ℕ) (test : ℕ → Bool) (from count : ℕ) → 1 ≤ from → from + count ≤ 1 + most → (rest : List Find) → Ordered most (suc s) 0 rest
    → Ordered most s from (beside s (select test from count) ++ rest)
unfolding beside select
ordered-beside most s test from zero least below rest after = earlier s from (omega arith) after
ordered-beside most s test from (suc count) least below rest after =
    case (test from) (ordered-beside most s test (suc from) count (omega arith) (omega arith) rest after)
  where
    case : (t : Bool) → Ordered most s (suc from) (beside s (select test (suc from) count) ++ rest)
        → Ordered most s from (beside s (cond t (from ∷ select test (suc from) count) (select test (suc from) count)) ++ rest)
    case true more = next (inr (refl, le_refl from)) least (omega arith) more
    case false more = lower from (omega arith) more

ordered-collect : (test : ℕ → ℕ → Bool) (count s left : ℕ) → Ordered count s 0 (collect (λ i. select (λ n. test n i) 1 count) s left)
unfolding collect
ordered-collect test count s zero = none
ordered-collect test count s (suc left) =
    lower 0 (omega arith) (ordered-beside count s (λ n. test n s) 1 count (omega arith) (omega arith) _ (ordered-collect test count (suc s) left))

-- ---- several patterns

module _ (Ps : List (List ℕ)) (k : ℕ) (T : List ℕ) where
  abbrev test : ℕ → ℕ → Bool
  test number s = matches (numbered Ps number) k (window (common_length Ps) T s)

  by_number : (number : ℕ) → length (numbered Ps number) ≡ common_length Ps → select (test number) 0 (starts (common_length Ps) T) ≡ positions (numbered Ps number) k T
  unfolding positions
  by_number number same = rw same refl

  -- Beside each number stand the positions that its pattern alone has, in their order;
  pub separate : (number : ℕ) → 1 ≤ number → number < 1 + length Ps → length (numbered Ps number) ≡ common_length Ps
      → positions_of number (finds Ps k T) ≡ positions (numbered Ps number) k T
  unfolding finds matching
  separate number from to same = collected-separate test (length Ps) number from to 0 (starts (common_length Ps) T) ∙ by_number number same

  -- there are as many as these positions together;
  pub found-together : ((number : ℕ) → 1 ≤ number → number < 1 + length Ps → length (numbered Ps number) ≡ common_length Ps)
      → length (finds Ps k T) ≡ sum (length Ps) (λ j. length (positions (numbered Ps (suc j)) k T))
  unfolding finds matching
  found-together same =
      length-collected test (length Ps) 0 (starts (common_length Ps) T)
      ∙ sum-ext (length Ps) _ _ (λ j l. ap length (by_number (suc j) (same (suc j) (omega arith) (omega arith))))

  -- and they ascend, with no number but the patterns'.
  pub finds-ascend : Ordered (length Ps) 0 0 (finds Ps k T)
  unfolding finds matching
  finds-ascend = ordered-collect test (length Ps) 0 (starts (common_length Ps) T)
