-- What a writer of a lent buffer appends, and the room that it needs.
use Rattle.std.specs.Prelude.{◌≡◌, List, ℕ, ◌+◌, ◌≤◌, length}
use Rattle.lent.specs.declared.writer.Writer.{Writer}
use Rattle.lent.specs.Written.{Written}

-- The buffer has room for U after what was written
pub record RoomFor (writer : Writer) (U : List ℕ) : Type 0 where
  pub fits : writer.at + length U ≤ length writer.buffer.now

-- U had room after what was written, and was put there; no other place of the same buffer changed
pub record Appended (before : Writer) (U : List ℕ) (after : Writer) : Type 0 where
  pub room : RoomFor before U
  pub same_reference : after.buffer.ghost_name ≡ before.buffer.ghost_name
  pub written : Written before.buffer.now before.at U after.buffer.now after.at
