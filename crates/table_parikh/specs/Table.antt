-- An array as a function of its index.
use Rattle.std.specs.Prelude.{◌≡◌, ℕ, zero, suc, Bool, cond, List, [], ◌∷◌, ◌++◌, leb, get_or}
use Rattle.jumbled.specs.Match.{cc, lost, beyond}

-- f(0), f(1), ..., f(n - 1)
unfoldable pub tabulate : ℕ → (ℕ → ℕ) → List ℕ
tabulate zero f = []
tabulate (suc n) f = tabulate n f ++ (f n ∷ [])

-- The Parikh vector of U over all 256 bytes: cc(U, c) at each c (document 000, section 1)
unfoldable pub parikh : List ℕ → List ℕ
parikh U = tabulate 256 (cc U)

-- How often a window of up to 64 bytes may have each byte without an excess over P: as often as P has it, and a lost hour 255 times
-- (document 02, T-07), which is more often than the window has bytes
unfoldable pub allowances : List ℕ → List ℕ
allowances P = tabulate 256 (λ c. cond (lost c) 255 (cc P c))

-- A table of them, where these are the counts of P
abbrev pub AllowedBy : List ℕ → List ℕ → Type 0
AllowedBy counts r = (P : List ℕ) → counts ≡ parikh P → r ≡ allowances P

-- No byte occurs in W more often than a table of 256 numbers allows. By the allowances of P this is a match of W with k = 0 (`within-matches`).
unfoldable pub within_counts : List ℕ → List ℕ → Bool
within_counts allowed W = leb (beyond (λ c. get_or allowed c 0) W) 0
