-- A line is read back: it has one newline, at its end, no byte 12, and its first ten bytes spell the position.
use mathlib.Core.Path.{◌≡◌, refl, ap, ◌∙◌}
use mathlib.Core.Bool.{Bool, true, false, cond, ◌&&◌}
use mathlib.Core.List.{List, [], ◌∷◌, ◌++◌, append_assoc, map}
use Prim.Native.Nat.{ℕ, zero, suc, ◌-◌, ◌^◌, ◌≤◌, ◌<◌}
use native.Mathlib.Omega.{arith}
use lib.Dec.{leb}
use lib.ListN.{length, replicate}
use lib.Seq.{take_at}
use borrow.Author.Tests.{leb-true, ne_eqb}
use Rattle.ascii.specs.Decimal.{decimal, decimal_value}
use Rattle.ascii.proofs.Decimals.{decimal-small, decimal-large, by_digits}
use Rattle.ascii.proofs.Spelled.{value-decimal}
use Rattle.sheet_form.specs.Sheet.{shown, right_aligned, left_aligned, line}
use Rattle.sheet_form.specs.Reading.{after_blanks, read_line}
use Rattle.sheet_form.proofs.Lengths.{length-right, length-position}
use Rattle.sheet_form.proofs.Parts.{Without, none, more, without-append, without-one, without-replicate}

-- ---- what a line is made of

-- digits are 48 and above
without-decimal : {c : ℕ} → c < 48 → (n : ℕ) → Without c (decimal n)
without-decimal {c} low =
    by_digits (λ n. Without c (decimal n)) (λ n l. rw (decimal-small n l) (without-one (λ e. omega arith)))
    (λ n l front. rw (decimal-large n l) (without-append front (without-one (λ e. omega arith))))

-- what is shown is 33 and above
pub shown-least : (reading : ℕ) → 33 ≤ shown reading
unfolding shown
shown-least reading = by (leb 33 reading) (leb reading 126) refl
  where
    by : (t u : Bool) → leb 33 reading ≡ t → 33 ≤ cond (t && u) reading 46
    by true true e = leb-true 33 reading e
    by true false e = omega arith
    by false u e = omega arith

without-shown : {c : ℕ} → c < 33 → (U : List ℕ) → Without c (map shown U)
without-shown low [] = none
without-shown {c} low (b ∷ U) = more (λ (e : shown b ≡ c). omega (arith, e, shown-least b)) (without-shown low U)

-- A line without its newline
unfoldable pub printed : ℕ → List ℕ → List ℕ
printed s W = right_aligned 10 (decimal s) ++ (32 ∷ left_aligned 64 (map shown W))

pub line-printed : (s : ℕ) (W : List ℕ) → line s W ≡ printed s W ++ (10 ∷ [])
unfolding line printed
line-printed s W = simp append_assoc

-- it has no byte below the blank
pub printed-without : {c : ℕ} → c < 32 → (s : ℕ) (W : List ℕ) → Without c (printed s W)
unfolding printed right_aligned left_aligned
printed-without low s W =
    without-append (without-append (without-replicate (10 - length (decimal s)) 32 (λ e. omega arith)) (without-decimal (omega arith) s))
    (more (λ e. omega arith) (without-append (without-shown (omega arith) W) (without-replicate (64 - length (map shown W)) 32 (λ e. omega arith))))

-- ---- reading it

after-blanks : (n : ℕ) (U : List ℕ) → after_blanks (replicate n 32 ++ U) ≡ after_blanks U
unfolding after_blanks
after-blanks zero U = refl
after-blanks (suc n) U = after-blanks n U

no-blanks : {U : List ℕ} → Without 32 U → after_blanks U ≡ U
unfolding after_blanks
no-blanks none = refl
no-blanks (more {b} other u) = rw (ne_eqb b 32 other) refl

-- the position's column
blanks-left : (s : ℕ) → after_blanks (right_aligned 10 (decimal s)) ≡ decimal s
unfolding right_aligned
blanks-left s = after-blanks (10 - length (decimal s)) (decimal s) ∙ no-blanks (without-decimal (omega arith) s)

pub read-printed : (s : ℕ) (W : List ℕ) → s < 10 ^ 10 → read_line (printed s W) ≡ s
unfolding read_line printed
read-printed s W fits =
    ap (λ (U : List ℕ). decimal_value 0 (after_blanks U))
    (take_at (right_aligned 10 (decimal s)) (32 ∷ left_aligned 64 (map shown W)) 10 (length-right 10 (decimal s) (length-position s fits)))
    ∙ ap (decimal_value 0) (blanks-left s)
    ∙ value-decimal s
