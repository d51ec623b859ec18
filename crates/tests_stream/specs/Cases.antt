-- What the functions that read a case leave their callers to rely on.
use Rattle.std.specs.Prelude.{cond, List, ℕ, ◌+◌, ◌≤◌, ltb, length, take, drop, replicate}
use Rattle.tests_stream.specs.Fillings.{IsPrefixLen}
use Rattle.tests_stream.specs.Reading.{number_at}
use Rattle.tests_stream.specs.declared.cases.Fields.{Fields}
use Rattle.tests_stream.specs.declared.cases.Shape.{Shape}

-- A kind's arguments: they fit the lent buffers and lists, and its numbers 8 bytes
pub record Readable (shape : Shape) : Type 0 where
  pub pattern : shape.pattern ≤ 1024
  pub text : shape.text ≤ 65537
  pub k : shape.k ≤ 8
  pub method : shape.method ≤ 8
  pub places : shape.places ≤ 8
  pub most : shape.most ≤ 65537

-- A case's pattern and text stand in the first bytes of the buffers, and a list of so many places can be lent
pub record Lendable (m : ℕ) (pattern_buffer : List ℕ) (n : ℕ) (text_buffer : List ℕ) (places : ℕ) : Type 0 where
  pub pattern : IsPrefixLen m pattern_buffer
  pub text : IsPrefixLen n text_buffer
  pub list : places ≤ 65537

-- The n bytes at a place; where they aren't all there, n times 0
unfoldable pub array_at : List ℕ → ℕ → ℕ → List ℕ
array_at bytes at n = cond (ltb (length bytes) (at + n)) (replicate n 0) (take n (drop at bytes))

-- The fields that the bytes of a search write: "64 bytes of pattern, u64 length, u8 k, u8 method, u32 total, 63 bytes of tail, u64 length"
-- (tools/vectors_stream.py). A number that can't be read is 0.
unfoldable pub fields_of : List ℕ → Fields
fields_of bytes =
    record {
      pattern = array_at bytes 0 64;
      pattern_len = (number_at bytes 64 8 18446744073709551615).value;
      k = (number_at bytes 72 1 255).value;
      method = (number_at bytes 73 1 255).value;
      total = (number_at bytes 74 4 4294967295).value;
      tail = array_at bytes 78 63;
      tail_len = (number_at bytes 141 8 18446744073709551615).value;
    }
