-- The header has the request's fields as they stood: a field that has its form is the decimal of its number.
use mathlib.Core.Path.{◌≡◌, refl, sym, ap, ap₂, ◌∙◌}
use mathlib.Core.Bool.{true, true≢false}
use mathlib.Core.List.{List, [], ◌∷◌}
use Prim.Native.Nat.{ℕ, ◌+◌, ◌*◌, ◌-◌, ◌/◌, ◌%◌, ◌≤◌, ◌<◌}
use native.Mathlib.Omega.{arith}
use Rattle.program_request.specs.Line.{tolerance_form, method_field, tolerance_field, good_line}
use Rattle.program_request.proofs.Fields.{digit-least, digit-most, tolerance-zero, tolerance-digits, method-tolerance, spelled-one, spelled-two}
use Rattle.program_request.proofs.Splits.{good-forms}
use Rattle.ascii.specs.Decimal.{decimal, decimal_value}
use Rattle.ascii.proofs.Decimals.{decimal-small, decimal-large}

-- the two digits of a number of two
two_digits : (x y : ℕ) → 1 ≤ x → x < 10 → y < 10 → decimal (x * 10 + y) ≡ (48 + x) ∷ (48 + y) ∷ []
two_digits x y some l m =
    let first : (x * 10 + y) / 10 ≡ x = omega arith in
    let second : (x * 10 + y) % 10 ≡ y = omega arith in
    decimal-large (x * 10 + y) (omega arith) ∙ rw (first, second, decimal-small x l) refl

back : (a : ℕ) → 48 ≤ a → 48 + (a - 48) ≡ a
back a h = omega arith

decimal-spelled : (F : List ℕ) → tolerance_form F ≡ true → decimal (decimal_value 0 F) ≡ F
unfolding tolerance_form
decimal-spelled [] e = absurd (true≢false (sym e))
decimal-spelled (a ∷ []) e =
    let least = digit-least a e in
    let most = digit-most a e in
    ap decimal (spelled-one (a ∷ []) refl) ∙ decimal-small (a - 48) (omega arith) ∙ ap (λ (x : ℕ). x ∷ []) (back a least)
decimal-spelled (a ∷ b ∷ []) e =
    let d = tolerance-digits (a ∷ b ∷ []) e in
    let least = digit-least a d.first in
    let most = digit-most a d.first in
    let least₂ = digit-least b (d.second (λ h. omega arith)) in
    let most₂ = digit-most b (d.second (λ h. omega arith)) in
    let other : a ≡ 48 → ⊥ = λ h. true≢false (sym e ∙ tolerance-zero (a ∷ b ∷ []) refl h) in
    ap decimal (spelled-two (a ∷ b ∷ []) refl)
    ∙ two_digits (a - 48) (b - 48) (omega arith) (omega arith) (omega arith)
    ∙ ap₂ (λ (x y : ℕ). x ∷ y ∷ []) (back a least) (back b least₂)
decimal-spelled (a ∷ b ∷ c ∷ F) e = absurd (true≢false (sym e))

-- both fields
pub fields-repeated : (line : List ℕ) → good_line line ≡ true
    → (decimal (decimal_value 0 (method_field line)) ≡ method_field line) × (decimal (decimal_value 0 (tolerance_field line)) ≡ tolerance_field line)
fields-repeated line e =
    let forms = good-forms line e in
    (decimal-spelled (method_field line) (method-tolerance (method_field line) forms.0), decimal-spelled (tolerance_field line) forms.1)
