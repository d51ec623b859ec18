-- What is written of a number is read as that number.
use mathlib.Core.Path.{◌≡◌, refl, ap, ◌∙◌}
use mathlib.Core.List.{List, [], ◌∷◌, ◌++◌}
use Prim.Native.Nat.{ℕ, ◌+◌, ◌-◌, ◌*◌, ◌/◌, ◌%◌}
use native.Mathlib.Omega.{arith}
use Rattle.ascii.specs.Decimal.{decimal, decimal_value}
use Rattle.ascii.proofs.Decimals.{decimal-small, decimal-large, by_digits}

-- digits read after others go on from their number
value-append : (n : ℕ) (F G : List ℕ) → decimal_value n (F ++ G) ≡ decimal_value (decimal_value n F) G
unfolding decimal_value
value-append n [] G = refl
value-append n (b ∷ F) G = value-append (10 * n + (b - 48)) F G

value-one : (n d : ℕ) → decimal_value n ((48 + d) ∷ []) ≡ 10 * n + d
unfolding decimal_value
value-one n d = omega arith

pub value-decimal : (n : ℕ) → decimal_value 0 (decimal n) ≡ n
value-decimal =
    by_digits (λ n. decimal_value 0 (decimal n) ≡ n) (λ n l. rw (decimal-small n l) (value-one 0 n ∙ omega arith))
    (λ n l front.
    rw (decimal-large n l)
    (value-append 0 (decimal (n / 10)) ((48 + n % 10) ∷ [])
    ∙ ap (λ (v : ℕ). decimal_value v ((48 + n % 10) ∷ [])) front
    ∙ value-one (n / 10) (n % 10)
    ∙ omega arith))
