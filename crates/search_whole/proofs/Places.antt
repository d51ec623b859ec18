-- The positions of a search that is not refused have room in its list, and stand in its first places once it is made.
use mathlib.Core.Path.{◌≡◌, ap, ◌∙◌}
use mathlib.Core.List.{List}
use Prim.Native.Nat.{ℕ, ◌≤◌}
use native.Mathlib.Omega.{arith}
use lib.ListN.{length, take}
use Rattle.jumbled.specs.Match.{positions}
use Rattle.jumbled.proofs.Admission.{Admitted, admitted, WholeTaken, whole-taken}
use Rattle.jumbled.proofs.Positions.{positions-few}
use Rattle.lent.specs.Placed.{placed}
use Rattle.lent.proofs.Placing.{length-placed, take-placed-first}
use Rattle.search_whole.specs.Whole.{whole_number}

module _ (P : List ℕ) (k method : ℕ) (T list : List ℕ) (accepted : whole_number P k method T list ≡ 0) where
  pub terms-taken : WholeTaken P k method (length T) (length list)
  unfolding whole_number
  terms-taken = whole-taken P k method (length T) (length list) accepted

  pub pattern-admitted : Admitted P k method
  pattern-admitted = admitted P k method terms-taken.pattern-right

  -- no more positions than readings, and so than places
  pub positions-room : (length (positions P k T) ≤ length T) × (length (positions P k T) ≤ length list)
  positions-room =
      let few = positions-few P k T in
      let some = pattern-admitted.some in
      let room = terms-taken.size.room in
      (omega arith, omega arith)

  module _ {after : List ℕ} (filled : after ≡ placed list 0 (positions P k T)) where
    pub places-enough : length (positions P k T) ≤ length after
    places-enough = omega (arith, positions-room.1, ap length filled, length-placed list 0 (positions P k T) (omega (arith, positions-room.1)))

    pub places-first : take (length (positions P k T)) after ≡ positions P k T
    places-first = ap (take (length (positions P k T))) filled ∙ take-placed-first list (positions P k T)
