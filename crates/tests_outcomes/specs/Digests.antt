-- The digest of a sequence of bytes, and the bytes that lists and the fields of searches are digested as (tools/vectors_stream.py).
use Rattle.std.specs.Prelude.{List, [], ◌∷◌, ◌++◌, ℕ, ◌+◌, ◌*◌, ◌%◌}
use Rattle.image_form.specs.Image.{low_first}

-- A byte more
abbrev pub digest_step : ℕ → ℕ → ℕ
digest_step h byte = (h * 251 + byte + 1) % 72057594037927931

-- The digest of bytes, after bytes whose digest is h
unfoldable pub digest : ℕ → List ℕ → ℕ
digest h [] = h
digest h (byte ∷ bytes) = digest (digest_step h byte) bytes

-- "a list goes in as 4 bytes a place"
unfoldable pub list_bytes : List ℕ → List ℕ
list_bytes [] = []
list_bytes (n ∷ list) = low_first 4 n ++ list_bytes list

-- "64 bytes of pattern, u64 length, u8 k, u8 method, u32 total, 63 bytes of tail, u64 length"
abbrev pub field_bytes : List ℕ → ℕ → ℕ → ℕ → ℕ → List ℕ → ℕ → List ℕ
field_bytes pattern m k method total tail t =
    pattern
    ++ low_first 8 m
    ++ (k ∷ method ∷ [])
    ++ low_first 4 total
    ++ tail
    ++ low_first 8 t
