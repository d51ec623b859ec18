-- What save writes: document 01, "The saved image", in the order of document 02, T-06.
use Rattle.std.specs.Prelude.{List, [], ◌∷◌, ◌++◌, ℕ, zero, suc, ◌/◌, ◌%◌, ◌^◌, ◌<◌, length}

-- What a search is saved as: the five parts by which document 01, "A search and its calls", compares searches
pub record Parts : Type 0 where
  pub pattern : List ℕ
  pub k : ℕ
  pub method : ℕ
  pub total : ℕ
  pub tail : List ℕ

-- the five parts, one by one
abbrev pub parts_with : List ℕ → ℕ → ℕ → ℕ → List ℕ → Parts
parts_with P k method n tail = record { pattern = P; k = k; method = method; total = n; tail = tail }

-- n in `count` bytes, the lowest first
unfoldable pub low_first : ℕ → ℕ → List ℕ
low_first zero n = []
low_first (suc count) n = n % 256 ∷ low_first count (n / 256)

-- An entry: a byte for the kind, and the length of its body in two, the lower first
abbrev pub entry : ℕ → ℕ → List ℕ
entry kind len = kind ∷ low_first 2 len

-- The contents, for a pattern and a tail of some lengths: the byte 04, then an entry for each of the kinds 1, 2, 3 and 4
unfoldable pub contents : ℕ → ℕ → List ℕ
contents pattern_len tail_len = (4 ∷ []) ++ entry 1 pattern_len ++ entry 2 2 ++ entry 3 4 ++ entry 4 tail_len

-- The image: after the contents the bodies, in the same order. Kind 1 is the pattern, kind 2 a byte of k and a byte of the method, kind 3 n in four
-- bytes, kind 4 the tail.
unfoldable pub image : Parts → List ℕ
image parts =
    contents (length parts.pattern) (length parts.tail)
    ++ parts.pattern
    ++ (parts.k ∷ parts.method ∷ [])
    ++ low_first 4 parts.total
    ++ parts.tail

-- Parts that an image has room to say: lengths of 16 bits, n of 32
pub record Sized (parts : Parts) : Type 0 where
  pub pattern-short : length parts.pattern < 2 ^ 16
  pub tail-short : length parts.tail < 2 ^ 16
  pub total-fits : parts.total < 2 ^ 32
