-- Laws of what a writer appends: nothing, two pieces in a row, the room for each, and what it comes to for the buffer.
use mathlib.Core.Path.{◌≡◌, refl, ap, ap₂, ◌∙◌}
use mathlib.Core.List.{List, [], ◌++◌}
use Prim.Native.Nat.{ℕ, ◌+◌, ◌≤◌}
use native.Mathlib.Omega.{arith}
use lib.ListN.{length, length-append}
use Rattle.lent.specs.declared.writer.Writer.{Writer}
use Rattle.lent.specs.Placed.{placed}
use Rattle.lent.specs.Written.{Written}
use Rattle.lent.specs.Appended.{RoomFor, Appended}
use Rattle.lent.proofs.Writing.{written_none, written_then, written-length, first_fits, second_fits}

-- where there is room for two pieces, there is for the first
pub room_first : {writer : Writer} {U : List ℕ} (W : List ℕ) → RoomFor writer (U ++ W) → RoomFor writer U
room_first {writer} {U} W room = record { fits = first_fits writer.at U W room.fits }

-- and for what is no longer than what there is room for
pub room_shorter : {writer : Writer} {U W : List ℕ} → RoomFor writer W → length U ≤ length W → RoomFor writer U
room_shorter room shorter = record { fits = omega (arith, room.fits) }

-- and for what fits a buffer from the place that the writer began at
pub room_from : {writer : Writer} {buffer U : List ℕ} {at : ℕ} → writer.buffer.now ≡ buffer → writer.at ≡ at → at + length U ≤ length buffer → RoomFor writer U
room_from same from inside = record { fits = omega (arith, ap length same, from) }

pub appended_none : (writer : Writer) → writer.at ≤ length writer.buffer.now → Appended writer [] writer
appended_none writer inside = record { room = record { fits = omega arith }; same_reference = refl; written = written_none _ _ }

module _ {before middle : Writer} {U : List ℕ} (first : Appended before U middle) where
  -- and for the second once the first is written
  pub room_then : {W : List ℕ} → RoomFor before (U ++ W) → RoomFor middle W
  room_then {W} room = record { fits = second_fits W first.written room.fits }

  pub appended_then : {W : List ℕ} {after : Writer} → Appended middle W after → Appended before (U ++ W) after
  appended_then {W} {after} second =
      record {
        room = record { fits = omega (arith, length-append U W, first.written.place, second.room.fits, written-length first.written first.room.fits) };
        same_reference = second.same_reference ∙ first.same_reference;
        written = written_then first.written second.written first.room.fits;
      }

  -- a writer that began with a buffer at a place, and what the buffer is at the end
  pub appended_to : {buffer end : List ℕ} {at : ℕ} → before.buffer.now ≡ buffer → before.at ≡ at → end ≡ middle.buffer.now → Written buffer at U end middle.at
  appended_to same from last =
      record {
        filled = last ∙ first.written.filled ∙ ap₂ (λ (b : List ℕ) (n : ℕ). placed b n U) same from;
        place = first.written.place ∙ ap (λ (n : ℕ). n + length U) from;
      }
