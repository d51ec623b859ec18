-- A packed word: numbered fields side by side in one number.
use Rattle.std.specs.Prelude.{ℕ, zero, suc, ◌+◌, ◌*◌, ◌/◌, ◌^◌, cond, eqb}
use Rattle.jumbled.specs.Match.{sum}

-- The first n fields in one number. The field f has w(f) bits, holds v(f), and starts at bit w(0) + ... + w(f - 1).
unfoldable pub pack : (ℕ → ℕ) → (ℕ → ℕ) → ℕ → ℕ
pack w v zero = 0
pack w v (suc n) = pack w v n + v n * 2 ^ sum n w

-- Of a field of g bits its top bit alone; 0 for a field of 0 bits
unfoldable pub top_bit : ℕ → ℕ
top_bit g = 2 ^ g / 2

-- x in the field f, and 0 in each other
unfoldable pub only : ℕ → ℕ → ℕ → ℕ
only f x g = cond (eqb f g) x 0
