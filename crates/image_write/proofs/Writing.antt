-- Laws of what is written into the buffer: a number in four bytes, and the room for each part of an image after those before it.
use mathlib.Core.Path.{◌≡◌, refl}
use mathlib.Core.List.{List, [], ◌∷◌, ◌++◌}
use Prim.Native.Nat.{ℕ, ◌+◌, ◌/◌, ◌≤◌}
use native.Mathlib.Omega.{arith}
use lib.ListN.{length}
use mir.Syntax.{w32}
use Rattle.std.specs.Int.{to_le_bytes}
use Rattle.lent.specs.declared.writer.Writer.{Writer}
use Rattle.lent.specs.Appended.{RoomFor}
use Rattle.lent.proofs.Appending.{room_from, room_first}
use Rattle.image_form.specs.Image.{Parts, low_first, contents, image}
use Rattle.image_form.proofs.Images.{length-image}

pub four-bytes : (n : ℕ) → to_le_bytes w32 n ≡ low_first 4 n
unfolding low_first
four-bytes n =
    let third : n / 65536 ≡ n / 256 / 256 = omega arith in
    let fourth : n / 16777216 ≡ n / 256 / 256 / 256 = omega arith in
    rw (third, fourth) refl

-- the first part of an image, and its third
abbrev head : Parts → List ℕ
head parts = contents (length parts.pattern) (length parts.tail)

abbrev settings : Parts → List ℕ
settings parts = parts.k ∷ parts.method ∷ []

-- where the buffer has room for the image, a writer that begins at its start has room for the whole of it, and for its first parts
module _ (parts : Parts) {writer : Writer} {buffer : List ℕ} (same : writer.buffer.now ≡ buffer) (start : writer.at ≡ 0)
    (fits : 13 + 6 + length parts.pattern + length parts.tail ≤ length buffer) where
  pub room-tail : RoomFor writer (head parts ++ parts.pattern ++ settings parts ++ low_first 4 parts.total ++ parts.tail)
  unfolding image
  room-tail = let whole : 0 + length (image parts) ≤ length buffer = omega (arith, length-image parts) in room_from same start whole

  pub room-number : RoomFor writer (head parts ++ parts.pattern ++ settings parts ++ low_first 4 parts.total)
  room-number = room_first parts.tail room-tail

  pub room-settings : RoomFor writer (head parts ++ parts.pattern ++ settings parts)
  room-settings = room_first (low_first 4 parts.total) room-number

  pub room-pattern : RoomFor writer (head parts ++ parts.pattern)
  room-pattern = room_first (settings parts) room-settings

  pub room-head : RoomFor writer (head parts)
  room-head = room_first parts.pattern room-pattern
