-- Laws of what stands in a line's columns.
use mathlib.Core.Path.{◌≡◌, refl, sym, ap, ap₂, ◌∙◌}
use mathlib.Core.List.{List, [], ◌∷◌, ◌++◌, append_assoc, append-nil, map, map-append}
use Prim.Native.Nat.{ℕ, suc, ◌+◌, ◌-◌, ◌/◌, ◌%◌, ◌≤◌, ◌<◌}
use native.Mathlib.Omega.{arith}
use native.Mathlib.Numerals.{add-one}
use lib.ListN.{length, get_or, take, set, replicate, length-append, length-map, length-replicate, length-take}
use lib.Seq.{take-suc, take_all}
use Rattle.std.proofs.lemmas.List.{set_at, replicate-append-replicate}
use borrow.Author.Tests.{le-leb, lt-leb}
use Rattle.ascii.specs.Codes.{space}
use Rattle.ascii.specs.Decimal.{decimal}
use Rattle.ascii.proofs.Decimals.{decimal-small, decimal-large, by_digits, length-decimal-small, length-decimal-large}
use Rattle.sheet_form.specs.Sheet.{shown, right_aligned, left_aligned, line}

-- ---- a reading as it is printed, and several

pub shown-low : (reading : ℕ) → reading < 33 → 46 ≡ shown reading
unfolding shown
shown-low reading low = rw (lt-leb 33 reading low) refl

pub shown-high : (reading : ℕ) → 126 < reading → 46 ≡ shown reading
unfolding shown
shown-high reading high = rw (le-leb 33 reading (omega arith), lt-leb reading 126 high) refl

pub shown-itself : (reading : ℕ) → 33 ≤ reading → reading ≤ 126 → reading ≡ shown reading
unfolding shown
shown-itself reading least most = rw (le-leb 33 reading least, le-leb reading 126 most) refl

pub shown-more : (U : List ℕ) (i : ℕ) → i < length U → map shown (take (i + 1) U) ≡ map shown (take i U) ++ (shown (get_or U i 0) ∷ [])
shown-more U i l = ap (λ (n : ℕ). map shown (take n U)) (add-one i) ∙ ap (map shown) (take-suc U i 0 l) ∙ map-append shown (take i U) (get_or U i 0 ∷ [])

-- ---- a window's column, filled from the left

-- The first i readings of the window stand at the column's left end, and blanks after them
abbrev pub Filled : (window : List ℕ) → (i : ℕ) → (column : List ℕ) → Type 0
Filled window i column = column ≡ map shown (take i window) ++ replicate (64 - i) space

pub none-shown : (window : List ℕ) → Filled window 0 (replicate 64 space)
none-shown window = refl

module _ (window : List ℕ) (i : ℕ) {column : List ℕ} (so_far : Filled window i column) where
  -- the next reading, in its place
  pub shown-filled : i < length window → length window ≤ 64 → (place : ℕ) → place ≡ i
      → Filled window (i + 1) (set column place (shown (get_or window i 0)))
  shown-filled more fits place is =
      ap₂ (λ (l : List ℕ) (n : ℕ). set l n reading) (so_far ∙ ap (λ (n : ℕ). map shown (take i window) ++ replicate n space) blank_first) is
      ∙ set_at (map shown (take i window)) space blanks reading i (omega (arith, length-map (take i window) shown, length-take i window))
      ∙ sym (append_assoc (map shown (take i window)) (reading ∷ []) blanks)
      ∙ ap (λ (l : List ℕ). l ++ blanks) (sym (shown-more window i more))
    where
      reading : ℕ
      reading = shown (get_or window i 0)

      blanks : List ℕ
      blanks = replicate (64 - (i + 1)) space

      blank_first : 64 - i ≡ suc (64 - (i + 1))
      blank_first = omega arith

  pub all-shown : i ≡ length window → column ≡ left_aligned 64 (map shown window)
  unfolding left_aligned
  all-shown all =
      so_far ∙ ap₂ (λ (U : List ℕ) (n : ℕ). map shown U ++ replicate (64 - n) space) (take_all i window (omega arith)) (all ∙ sym (length-map window shown))

-- ---- a position's column, filled from the right

-- every number has a digit
digit-some : (n : ℕ) → 1 ≤ length (decimal n)
digit-some =
    by_digits (λ n. 1 ≤ length (decimal n)) (λ n l. omega (arith, length-decimal-small n l))
    (λ n l front. omega (arith, length-decimal-large n l))

-- a digit in the last of the column's blank places
digit-set : (i : ℕ) (d : ℕ) (done : List ℕ) → 1 ≤ i → set (replicate i space ++ done) (i - 1) d ≡ replicate (i - 1) space ++ (d ∷ done)
digit-set i d done some =
    ap (λ (l : List ℕ). set l (i - 1) d)
    (ap (λ (l : List ℕ). l ++ done) last ∙ append_assoc (replicate (i - 1) space) (space ∷ []) done)
    ∙ set_at (replicate (i - 1) space) space done d (i - 1) (length-replicate (i - 1) space)
  where
    last : replicate i space ≡ replicate (i - 1) space ++ (space ∷ [])
    last = ap (λ (n : ℕ). replicate n space) (omega arith) ∙ sym (replicate-append-replicate (i - 1) 1 space)

-- The digits of the position behind those of the rest stand at the right end of the column, from its place i on, and blanks before them
pub record Spelling (position rest i : ℕ) (column : List ℕ) : Type 0 where
  pub done : List ℕ
  pub spelled : decimal position ≡ decimal rest ++ done
  pub places : i + length done ≡ 10
  pub filled : column ≡ replicate i space ++ done

pub none-spelled : (position : ℕ) → Spelling position position 10 (replicate 10 space)
none-spelled position = record { done = []; spelled = sym (append-nil (decimal position)); places = refl; filled = sym (append-nil _) }

module _ {position rest i : ℕ} {column : List ℕ} (fits : length (decimal position) ≤ 10) (so_far : Spelling position rest i column) where
  -- the rest has room to the left
  rest-room : length (decimal rest) ≤ i
  rest-room = omega (arith, ap length so_far.spelled, length-append (decimal rest) so_far.done, so_far.places)

  pub place-left : 1 ≤ i
  place-left = omega (arith, rest-room, digit-some rest)

  digit-filled : (d : ℕ) → set column (i - 1) d ≡ replicate (i - 1) space ++ (d ∷ so_far.done)
  digit-filled d = ap (λ (l : List ℕ). set l (i - 1) d) so_far.filled ∙ digit-set i d so_far.done place-left

  -- the last digit of a rest of several
  pub digit-spelled : 10 ≤ rest → Spelling position (rest / 10) (i - 1) (set column (i - 1) (48 + rest % 10))
  digit-spelled l =
      record {
        done = (48 + rest % 10) ∷ so_far.done;
        spelled =
            so_far.spelled ∙ ap (λ (D : List ℕ). D ++ so_far.done) (decimal-large rest l)
            ∙ append_assoc (decimal (rest / 10)) ((48 + rest % 10) ∷ []) so_far.done;
        places = omega (arith, so_far.places, place-left);
        filled = digit-filled (48 + rest % 10);
      }

  -- the only digit of the rest completes the column
  pub column-filled : rest < 10 → set column (i - 1) (48 + rest) ≡ right_aligned 10 (decimal position)
  unfolding right_aligned
  column-filled small =
      digit-filled (48 + rest) ∙ ap₂ (λ (n : ℕ) (D : List ℕ). replicate n space ++ D) blanks-count (sym all_digits)
    where
      all_digits : decimal position ≡ (48 + rest) ∷ so_far.done
      all_digits = so_far.spelled ∙ ap (λ (D : List ℕ). D ++ so_far.done) (decimal-small rest small)

      blanks-count : i - 1 ≡ 10 - length (decimal position)
      blanks-count = omega (arith, ap length all_digits, so_far.places)

-- ---- a line, as it is written

pub line-parts : (s : ℕ) (W : List ℕ) → line s W ≡ right_aligned 10 (decimal s) ++ ((32 ∷ []) ++ (left_aligned 64 (map shown W) ++ (10 ∷ [])))
unfolding line
line-parts s W = simp append_assoc
