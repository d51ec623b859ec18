-- The heap values of method 5: document 01, "The five methods", 5, after document 001.
use Rattle.std.specs.Prelude.{ℕ, ◌+◌, ◌%◌, ◌^◌, Bool, cond, List, [], ◌∷◌, leb, length}
use Rattle.jumbled.specs.Match.{bit, occurs, sum}

-- How many distinct letters of P are below c. Of a letter of P it is the i of c_i; of 256 it is q.
unfoldable pub rank : List ℕ → ℕ → ℕ
rank P c = sum c (λ d. bit (occurs P d))

-- m + 1
abbrev pub radix : List ℕ → ℕ
radix P = length P + 1

-- A letter of P is worth a power of m + 1, modulo 2^64, by its rank; every other letter is worth nothing
unfoldable pub heap_value : List ℕ → ℕ → ℕ
heap_value P c = cond (occurs P c) (radix P ^ rank P c % 2 ^ 64) 0

-- The sum of a window's values, modulo 2^64
unfoldable pub heap_sum : List ℕ → List ℕ → ℕ
heap_sum P [] = 0
heap_sum P (b ∷ W) = (heap_value P b + heap_sum P W) % 2 ^ 64

-- (m + 1)^q ≤ 2^64: a candidate matches, and is not verified
unfoldable pub exact : List ℕ → Bool
exact P = leb (radix P ^ rank P 256) (2 ^ 64)
