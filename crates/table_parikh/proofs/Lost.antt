-- How the lost hours among some bytes are counted as bytes come and go.
use mathlib.Core.Path.{◌≡◌, refl, ◌∙◌}
use mathlib.Core.Bool.{Bool, true, false, cond}
use mathlib.Core.List.{List, [], ◌∷◌, ◌++◌}
use Prim.Native.Nat.{ℕ, ◌+◌, ◌≤◌}
use native.Mathlib.Nat.{add_comm, zero-add}
use native.Mathlib.Omega.{arith}
use lib.Dec.{eqb}
use Rattle.std.specs.List.{count_by}
use Rattle.std.proofs.lemmas.List.Recursion.{is_count_by}
use mir.Val.{bool_byte}
use Rattle.jumbled.specs.Match.{bit, cc, lost_hour}
use Rattle.jumbled.proofs.Counts.{cc-nil, cc-cons}
use Rattle.table_parikh.proofs.Parikh.{cc-snoc}

-- a truth value as a number
pub byte-bit : (t : Bool) → bool_byte t ≡ bit t
byte-bit true = refl
byte-bit false = refl

pub byte_le : (t : Bool) → bool_byte t ≤ 1
byte_le true = omega arith
byte_le false = omega arith

-- a byte more at either end
pub lost-snoc : (U : List ℕ) (b : ℕ) → cc (U ++ (b ∷ [])) lost_hour ≡ cc U lost_hour + bool_byte (eqb b lost_hour)
lost-snoc U b = rw (byte-bit (eqb b lost_hour)) (cc-snoc U b lost_hour)

pub lost-cons : (b : ℕ) (U : List ℕ) → cc (b ∷ U) lost_hour ≡ cc U lost_hour + bool_byte (eqb b lost_hour)
lost-cons b U = rw (byte-bit (eqb b lost_hour)) (cc-cons b U lost_hour ∙ add_comm (bit (eqb b lost_hour)) (cc U lost_hour))

-- as a filter counts them
pub lost-counted : (U : List ℕ) → cc U lost_hour ≡ count_by (λ b. eqb b lost_hour) U
lost-counted = is_count_by (λ U. cc U lost_hour) (λ b. eqb b lost_hour) (cc-nil lost_hour) (λ b U. cc-cons b U lost_hour ∙ at (eqb b lost_hour) (cc U lost_hour))
  where
    at : (t : Bool) (n : ℕ) → bit t + n ≡ cond t (1 + n) n
    at true n = refl
    at false n = zero-add n
