-- Laws of the fields of the first line: their forms by their length, and the numbers that they spell.
use mathlib.Core.Path.{◌≡◌, refl, sym, ap, ap₂, ◌∙◌}
use mathlib.Core.Bool.{Bool, true, false, not, ◌&&◌, true≢false}
use mathlib.Core.List.{List, [], ◌∷◌}
use Prim.Native.Nat.{ℕ, ◌+◌, ◌*◌, ◌-◌, ◌≤◌}
use native.Mathlib.Omega.{arith}
use lib.Dec.{eqb, leb}
use lib.ListN.{length, get_or}
use borrow.Author.Tests.{leb-true, ne_eqb}
use Rattle.std.specs.Prelude.{Option, Some, None}
use Rattle.std.specs.Char.{is_ascii_digit}
use Rattle.ascii.specs.Decimal.{decimal_value}
use Rattle.program_request.specs.Line.{digit, method_form, tolerance_form}
use Rattle.program_request.specs.Reading.{Spelled}

-- ---- a digit

-- the library's test is the same
digit-tested : (b : ℕ) → is_ascii_digit b ≡ digit b
unfolding digit
digit-tested b = refl

and_left : (a b : Bool) → (a && b) ≡ true → a ≡ true
and_left true b e = refl
and_left false b e = absurd (true≢false (sym e))

and_right : (a b : Bool) → (a && b) ≡ true → b ≡ true
and_right true b e = e
and_right false b e = absurd (true≢false (sym e))

pub digit-least : (b : ℕ) → digit b ≡ true → 48 ≤ b
unfolding digit
digit-least b e = leb-true 48 b (and_left (leb 48 b) (leb b 57) e)

pub digit-most : (b : ℕ) → digit b ≡ true → b ≤ 57
unfolding digit
digit-most b e = leb-true b 57 (and_right (leb 48 b) (leb b 57) e)

-- ---- the forms, by the field's length

pub method-one : (F : List ℕ) → length F ≡ 1 → method_form F ≡ digit (get_or F 0 0)
unfolding method_form
method-one [] h = absurd (omega arith)
method-one (a ∷ []) h = refl
method-one (a ∷ b ∷ F) h = absurd (omega arith)

pub method-other : (F : List ℕ) → (length F ≡ 1 → ⊥) → method_form F ≡ false
unfolding method_form
method-other [] h = refl
method-other (a ∷ []) h = absurd (h refl)
method-other (a ∷ b ∷ F) h = refl

tolerance-two : (F : List ℕ) → length F ≡ 2
    → tolerance_form F ≡ (digit (get_or F 0 0) && not (eqb (get_or F 0 0) 48) && digit (get_or F 1 0))
unfolding tolerance_form
tolerance-two [] h = absurd (omega arith)
tolerance-two (a ∷ []) h = absurd (omega arith)
tolerance-two (a ∷ b ∷ []) h = refl
tolerance-two (a ∷ b ∷ d ∷ F) h = absurd (omega arith)

pub tolerance-zero : (F : List ℕ) → length F ≡ 2 → get_or F 0 0 ≡ 48 → tolerance_form F ≡ false
unfolding digit
tolerance-zero F h e = tolerance-two F h ∙ ap (λ (a : ℕ). digit a && not (eqb a 48) && digit (get_or F 1 0)) e

pub tolerance-second : (F : List ℕ) → length F ≡ 2 → (get_or F 0 0 ≡ 48 → ⊥) → digit (get_or F 0 0) ≡ true
    → tolerance_form F ≡ digit (get_or F 1 0)
tolerance-second F h n e =
    tolerance-two F h
    ∙ ap₂ (λ (t z : Bool). t && not z && digit (get_or F 1 0)) e (ne_eqb (get_or F 0 0) 48 n)

pub tolerance-other : (F : List ℕ) → (length F ≡ 2 → ⊥) → tolerance_form F ≡ method_form F
unfolding tolerance_form method_form
tolerance-other [] h = refl
tolerance-other (a ∷ []) h = refl
tolerance-other (a ∷ b ∷ []) h = absurd (h refl)
tolerance-other (a ∷ b ∷ d ∷ F) h = refl

-- a field of either form is one or two digits
pub record Digits (F : List ℕ) : Type 0 where
  pub some : 1 ≤ length F
  pub few : length F ≤ 2
  pub first : digit (get_or F 0 0) ≡ true
  pub second : (length F ≡ 1 → ⊥) → digit (get_or F 1 0) ≡ true

pub tolerance-digits : (F : List ℕ) → tolerance_form F ≡ true → Digits F
unfolding tolerance_form
tolerance-digits [] e = absurd (true≢false (sym e))
tolerance-digits (a ∷ []) e = record { some = omega arith; few = omega arith; first = e; second = λ h. absurd (h refl) }
tolerance-digits (a ∷ b ∷ []) e =
    record {
      some = omega arith;
      few = omega arith;
      first = and_left (digit a) (not (eqb a 48)) (and_left (digit a && not (eqb a 48)) (digit b) e);
      second = λ h. and_right (digit a && not (eqb a 48)) (digit b) e;
    }
tolerance-digits (a ∷ b ∷ d ∷ F) e = absurd (true≢false (sym e))

pub method-tolerance : (F : List ℕ) → method_form F ≡ true → tolerance_form F ≡ true
unfolding method_form tolerance_form
method-tolerance [] e = e
method-tolerance (a ∷ []) e = e
method-tolerance (a ∷ b ∷ F) e = absurd (true≢false (sym e))

-- ---- the numbers

pub spelled-one : (F : List ℕ) → length F ≡ 1 → decimal_value 0 F ≡ get_or F 0 0 - 48
unfolding decimal_value
spelled-one [] h = omega arith
spelled-one (a ∷ []) h = omega arith
spelled-one (a ∷ b ∷ F) h = omega arith

pub spelled-two : (F : List ℕ) → length F ≡ 2 → decimal_value 0 F ≡ (get_or F 0 0 - 48) * 10 + (get_or F 1 0 - 48)
unfolding decimal_value
spelled-two [] h = omega arith
spelled-two (a ∷ []) h = omega arith
spelled-two (a ∷ b ∷ []) h = omega arith
spelled-two (a ∷ b ∷ d ∷ F) h = omega arith

-- ---- what the code reads in a field

pub method-read : (F : List ℕ) → length F ≡ 1 → {t u : Bool} → t ≡ is_ascii_digit (get_or F 0 0) → t ≡ u → method_form F ≡ u
method-read F h tested is = method-one F h ∙ sym (digit-tested (get_or F 0 0)) ∙ sym tested ∙ is

pub tolerance-read : (F : List ℕ) → length F ≡ 2 → (get_or F 0 0 ≡ 48 → ⊥) → {t u v : Bool} → t ≡ is_ascii_digit (get_or F 0 0) → t ≡ true
    → u ≡ is_ascii_digit (get_or F 1 0) → u ≡ v → tolerance_form F ≡ v
tolerance-read F h some tens is ones last =
    tolerance-second F h some (sym (digit-tested (get_or F 0 0)) ∙ sym tens ∙ is)
    ∙ sym (digit-tested (get_or F 1 0)) ∙ sym ones ∙ last

pub tolerance-no-digit : (F : List ℕ) → length F ≡ 2 → {t : Bool} → t ≡ is_ascii_digit (get_or F 0 0) → t ≡ false → tolerance_form F ≡ false
tolerance-no-digit F h tested is =
    tolerance-two F h
    ∙ ap (λ (t : Bool). t && not (eqb (get_or F 0 0) 48) && digit (get_or F 1 0)) (sym (digit-tested (get_or F 0 0)) ∙ sym tested ∙ is)

-- one byte is read as the method's field is
pub spelled-one-byte : (F : List ℕ) → length F ≡ 1 → (answer : Option ℕ) → Spelled method_form F answer → Spelled tolerance_form F answer
spelled-one-byte F one None s = tolerance-other F (λ (two : length F ≡ 2). omega arith) ∙ s
spelled-one-byte F one (Some number) s = (tolerance-other F (λ (two : length F ≡ 2). omega arith) ∙ s.0, s.1)

pub tolerance-none : (F : List ℕ) → (length F ≡ 1 → ⊥) → (length F ≡ 2 → ⊥) → tolerance_form F ≡ false
tolerance-none F one two = tolerance-other F two ∙ method-other F one
