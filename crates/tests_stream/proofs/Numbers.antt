-- A number of up to 8 bytes, low byte first, is that of 8 bytes with zeros after them.
use mathlib.Core.Path.{◌≡◌}
use mathlib.Core.List.{List, [], ◌∷◌, ◌++◌}
use Prim.Native.Nat.{ℕ, ◌≤◌}
use native.Mathlib.Omega.{arith}
use lib.ListN.{length, drop, replicate}
use Rattle.std.specs.Int.{w64, from_le_bytes}
use Rattle.image_form.specs.Decode.{from_low_first}

pub number-padded : (bytes : List ℕ) → length bytes ≤ 8 → from_le_bytes w64 (bytes ++ drop (length bytes) (replicate 8 0)) ≡ from_low_first bytes
unfolding from_low_first
number-padded [] few = omega arith
number-padded (a ∷ []) few = omega arith
number-padded (a ∷ b ∷ []) few = omega arith
number-padded (a ∷ b ∷ c ∷ []) few = omega arith
number-padded (a ∷ b ∷ c ∷ d ∷ []) few = omega arith
number-padded (a ∷ b ∷ c ∷ d ∷ e ∷ []) few = omega arith
number-padded (a ∷ b ∷ c ∷ d ∷ e ∷ f ∷ []) few = omega arith
number-padded (a ∷ b ∷ c ∷ d ∷ e ∷ f ∷ g ∷ []) few = omega arith
number-padded (a ∷ b ∷ c ∷ d ∷ e ∷ f ∷ g ∷ h ∷ []) few = omega arith
number-padded (a ∷ b ∷ c ∷ d ∷ e ∷ f ∷ g ∷ h ∷ i ∷ bytes) few = absurd (omega arith)
