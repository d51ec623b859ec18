-- What the code that writes an image asks of the buffer, and puts into it: document 01, "The saved image".
use Rattle.std.specs.Prelude.{List, ℕ, ◌+◌, ◌≤◌, length}
use Rattle.image_form.specs.Image.{Parts, image}
use Rattle.lent.specs.Written.{Written}

-- The pattern and the tail are short, and there is room for their image
pub record Encodable (pattern tail buffer : List ℕ) : Type 0 where
  pub pattern-short : length pattern ≤ 64
  pub tail-short : length tail ≤ 64
  pub room : 13 + 6 + length pattern + length tail ≤ length buffer

-- The image of a search's parts was put at the buffer's start
abbrev pub ImageWritten : Parts → (before after : List ℕ) → ℕ → Type 0
ImageWritten parts before after len = Written before 0 (image parts) after len
