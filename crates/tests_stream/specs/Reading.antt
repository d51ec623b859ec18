-- What stands at a place of the stream of stored cases (tools/vectors_stream.py), and what the functions that read it leave their callers to rely
-- on.
use Rattle.std.specs.Prelude.{cond, List, ℕ, ◌+◌, ◌-◌, ◌≤◌, ltb, length, take, drop}
use Rattle.image_form.specs.Decode.{from_low_first}
use Rattle.tests_stream.specs.declared.Number.{Number}
use Rattle.tests_stream.specs.declared.Part.{Part}

-- A part of at most `count` bytes, from `start` up to `end`, of a stream of so many
pub record PartWithin (stream count start end : ℕ) : Type 0 where
  pub ordered : start ≤ end
  pub inside : end ≤ stream
  pub few : end ≤ start + count

-- The place past the end of every stream to which an item leads that can't be read
abbrev pub nowhere : ℕ
nowhere = 18446744073709551615

-- A part with the place after it, and a number likewise
abbrev pub part_with : ℕ → ℕ → ℕ → Part
part_with start end next = record { start = start; end = end; next = next }

abbrev pub number_with : ℕ → ℕ → Number
number_with value next = record { value = value; next = next }

-- The part of the next `count` bytes; where the stream has fewer, there are none, and what follows stands nowhere
unfoldable pub part_at : List ℕ → ℕ → ℕ → Part
part_at stream at count =
    cond (ltb (length stream) (at + count)) (part_with 0 0 nowhere) (part_with at (at + count) (at + count))

-- The bytes of a part
abbrev pub bytes_in : List ℕ → Part → List ℕ
bytes_in stream part = take (part.end - part.start) (drop part.start stream)

-- The next `count` bytes, and the place after them
abbrev pub bytes_at : List ℕ → ℕ → ℕ → List ℕ
bytes_at stream at count = bytes_in stream (part_at stream at count)

abbrev pub next_at : List ℕ → ℕ → ℕ → ℕ
next_at stream at count = (part_at stream at count).next

-- The number that `width` bytes write, with the place after them; one above `most` can't be read
unfoldable pub number_at : List ℕ → ℕ → ℕ → ℕ → Number
number_at stream at width most =
    let value = from_low_first (bytes_at stream at width) in
    cond (ltb most value) (number_with 0 nowhere) (number_with value (next_at stream at width))
