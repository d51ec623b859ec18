-- Numbers in base ten, as bytes: document 01, "The program"; document 02, T-02.
use Rattle.std.specs.Prelude.{ℕ, zero, suc, ◌+◌, ◌-◌, ◌*◌, ◌/◌, ◌%◌, cond, List, [], ◌∷◌, ◌++◌, ltb}
use Rattle.ascii.specs.Codes.{zero_digit}

-- ---- written

-- The digits of n, the most significant first, as far as 1 + `more` places go
unfoldable pub digits : ℕ → ℕ → List ℕ
digits zero n = (zero_digit + n % 10) ∷ []
digits (suc more) n = cond (ltb n 10) ((zero_digit + n) ∷ []) (digits more (n / 10) ++ ((zero_digit + n % 10) ∷ []))

-- The digits of n without a leading zero; `0` for 0. A number has no more than 1 + n digits.
unfoldable pub decimal : ℕ → List ℕ
decimal n = digits n n

-- ---- read

-- The number that the digits of F spell, after digits that spell n. Of a list that is not of digits it is some number without meaning.
unfoldable pub decimal_value : ℕ → List ℕ → ℕ
decimal_value n [] = n
decimal_value n (b ∷ F) = decimal_value (10 * n + (b - zero_digit)) F
