-- What lent places hold before a call, and the texts that a few letters stand for (tools/vectors_stream.py).
use Rattle.std.specs.Prelude.{◌≡◌, Bool, cond, List, ℕ, zero, suc, ◌+◌, ◌*◌, ◌/◌, ◌%◌, ◌^◌, ◌≤◌, eqb, length, get_or, take}
use Rattle.table_parikh.specs.Table.{tabulate}
use Rattle.lent.specs.Written.{Written}

-- A part of the first n places can be lent: they are there, and the part has that length
abbrev pub IsPrefixLen : ℕ → List ℕ → Type 0
IsPrefixLen n xs = (n ≤ length xs) × (n ≡ length (take n xs))

-- The first n places hold what f says of each, and every other is as it was. That there are so many is said so that a part of this length can be
-- lent.
pub record Filled (f : ℕ → ℕ) (n : ℕ) (before after : List ℕ) : Type 0 where
  pub within : IsPrefixLen n after
  pub written : Written before 0 (tabulate n f) after n

-- A list's places, and a buffer's bytes
abbrev pub known_place : ℕ → ℕ
known_place i = (i * 2654435761 + 12345) % 2 ^ 32

abbrev pub known_byte : ℕ → ℕ
known_byte i = (i * 37 + 11) % 256

-- The numbers drawn from a seed, the first of them being number 0
unfoldable pub drawn : ℕ → ℕ → ℕ
drawn seed zero = seed % 2 ^ 31
drawn seed (suc i) = (drawn seed i * 1103515245 + 12345) % 2 ^ 31

-- Byte i of a text that is made of a few letters: they are picked by the numbers drawn, or repeated
abbrev pub letter_index : Bool → ℕ → ℕ → ℕ
letter_index picked x i = cond picked (x / 65536) i

abbrev pub letter_at : List ℕ → Bool → ℕ → ℕ → ℕ
letter_at letters picked seed i = get_or letters (letter_index picked (drawn seed (suc i)) i % length letters) 0

-- The length of a text that is to have `len` bytes: without letters there are none
unfoldable pub made_length : List ℕ → ℕ → ℕ
made_length letters len = cond (eqb (length letters) 0) 0 len
