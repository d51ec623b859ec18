-- A pattern's field is known by the bytes that were taken, whatever their order: it lacks m - k of the top bit's value, less what is acceptable.
use mathlib.Core.Path.{◌≡◌, refl}
use mathlib.Core.Bool.{Bool, true, false, not}
use mathlib.Core.List.{List, [], ◌∷◌, ◌++◌}
use Prim.Native.Nat.{ℕ, ◌+◌, ◌-◌, ◌≤◌, ◌<◌}
use native.Mathlib.Omega.{arith}
use lib.Dec.{leb}
use lib.ListN.{length, length-append}
use borrow.Author.Tests.{le-leb, lt-leb, leb-true, leb-false}
use Rattle.jumbled.specs.Match.{Bytes, bit, used_up, excess, matches}
use Rattle.jumbled.proofs.Counts.{excess-nil, excess-cons, excess-snoc, excess-length}
use Rattle.several_form.specs.Mcount.{top_value, start_field, acceptable, field_after}

-- a byte is acceptable or in excess
acceptable-or : (P U : List ℕ) (c : ℕ) → acceptable P U c + bit (used_up P U c) ≡ 1
unfolding acceptable
acceptable-or P U c = case (used_up P U c)
  where
    case : (t : Bool) → bit (not t) + bit t ≡ 1
    case true = refl
    case false = refl

module _ (P : List ℕ) (k : ℕ) (short : length P ≤ 64) where
  pub field-start : k ≤ length P → field_after P k [] ≡ start_field P k
  unfolding start_field
  field-start h = omega (arith, excess-nil P)

  module _ (U : List ℕ) (b : ℕ) (byte : b < 256) (bytes : Bytes U) where
    -- a byte enters,
    pub field-entered : field_after P k U + acceptable P U b ≡ field_after P k (U ++ (b ∷ []))
    field-entered = omega (arith, excess-snoc P U b byte, acceptable-or P U b, length-append U (b ∷ []), excess-length P U bytes)

    -- and the first one is given back
    pub field-given-back : field_after P k (b ∷ U) - acceptable P U b ≡ field_after P k U
    field-given-back = omega (arith, excess-cons P b U byte, acceptable-or P U b, excess-length P U bytes)

  -- A window's field has reached its top bit exactly where the window matches
  pub field-reached : (W : List ℕ) → length W ≡ length P → Bytes W → leb top_value (field_after P k W) ≡ matches P k W
  unfolding matches
  field-reached W same bytes = case (leb (excess P W) k) refl
    where
      case : (t : Bool) → leb (excess P W) k ≡ t → leb top_value (field_after P k W) ≡ t
      case true e = le-leb top_value (field_after P k W) (omega (arith, leb-true (excess P W) k e, excess-length P W bytes))
      case false e = lt-leb top_value (field_after P k W) (omega (arith, leb-false (excess P W) k e, excess-length P W bytes))
