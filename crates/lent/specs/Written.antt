-- Bytes put into a lent buffer.
use Rattle.std.specs.Prelude.{◌≡◌, List, ℕ, ◌+◌, length}
use Rattle.lent.specs.Placed.{placed}

-- A writer put U at the place `at`, changed no other place, and hands back the place after it
pub record Written (before : List ℕ) (at : ℕ) (U after : List ℕ) (next : ℕ) : Type 0 where
  pub filled : after ≡ placed before at U
  pub place : next ≡ at + length U
