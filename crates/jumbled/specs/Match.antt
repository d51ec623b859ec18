-- What a match is: document 01, "What a match is", as document 02, T-07, amends it; document 000, section 1. Of all matches the first from a given
-- position on: document 02, T-08.
-- A text, a pattern and a window are lists of bytes. Document 01 calls a byte a reading or a letter, and a text a record.
use Rattle.std.specs.Prelude.{ℕ, zero, suc, ◌+◌, ◌-◌, ◌<◌, Bool, false, cond, not, List, [], ◌∷◌, leb, eqb, length, get_or, take, drop}
use Rattle.std.proofs.Math.Option.{Option, none, some}

-- Every element is a byte: below 256
pub record Bytes (U : List ℕ) : Type 0 where
  pub below : (i : ℕ) → get_or U i 0 < 256

-- 1 where a test holds, else 0
abbrev pub bit : Bool → ℕ
bit b = cond b 1 0

-- cc(U, c): the number of occurrences of c in U
unfoldable pub cc : List ℕ → ℕ → ℕ
cc [] c = 0
cc (b ∷ U) c = bit (eqb b c) + cc U c

-- The letter c occurs in U
unfoldable pub occurs : List ℕ → ℕ → Bool
occurs U c = not (eqb (cc U c) 0)

-- f(0) + f(1) + ... + f(n - 1)
unfoldable pub sum : ℕ → (ℕ → ℕ) → ℕ
sum zero f = 0
sum (suc n) f = sum n f + f n

-- The byte of an hour with no reading is `-` (document 02, T-07)
abbrev pub lost_hour : ℕ
lost_hour = 45

abbrev pub lost : ℕ → Bool
lost b = eqb lost_hour b

-- The evidence of a text: its bytes, but for the lost hours (document 02, T-07)
unfoldable pub evidence : List ℕ → List ℕ
evidence [] = []
evidence (b ∷ U) = cond (lost b) (evidence U) (b ∷ evidence U)

-- What U has beyond a limit for each byte: the sum over all bytes c of max(cc(U, c) - limit(c), 0).
-- A difference of naturals stops at 0, so it is that maximum.
unfoldable pub beyond : (ℕ → ℕ) → List ℕ → ℕ
beyond limit U = sum 256 (λ c. cc U c - limit c)

-- The excess of the window W over the pattern P: what the window's evidence has beyond the pattern's own counts
unfoldable pub excess : List ℕ → List ℕ → ℕ
excess P W = beyond (cc P) (evidence W)

-- The bytes U use up what P allows of c: one c more is in excess. A lost hour never is.
unfoldable pub used_up : List ℕ → List ℕ → ℕ → Bool
used_up P U c = cond (lost c) false (leb (cc P c) (cc U c))

-- W, of the pattern's length, is a k-approximate permutation of P
unfoldable pub matches : List ℕ → ℕ → List ℕ → Bool
matches P k W = leb (excess P W) k

-- The m bytes of T from position s on
abbrev pub window : ℕ → List ℕ → ℕ → List ℕ
window m T s = take m (drop s T)

-- and these but the last one
abbrev pub window_prefix : ℕ → List ℕ → ℕ → List ℕ
window_prefix m T s = take (m - 1) (drop s T)

-- How many window starts a text has: the s with s + m ≤ n are those below n + 1 - m
abbrev pub starts : ℕ → List ℕ → ℕ
starts m T = suc (length T) - m

-- Of the numbers s, s + 1, ..., s + count - 1 those that pass the test, ascending
unfoldable pub select : (ℕ → Bool) → ℕ → ℕ → List ℕ
select test s zero = []
select test s (suc count) = cond (test s) (s ∷ select test (suc s) count) (select test (suc s) count)

-- The positions to be listed: of the text's window starts those with a matching window
unfoldable pub positions : List ℕ → ℕ → List ℕ → List ℕ
positions P k T = select (λ s. matches P k (window (length P) T s)) 0 (starts (length P) T)

-- The first of the numbers s, s + 1, ..., s + count - 1 that passes the test, or none
unfoldable pub earliest : (ℕ → Bool) → ℕ → ℕ → Option ℕ
earliest test s zero = none
earliest test s (suc count) = cond (test s) (some s) (earliest test (suc s) count)

-- The first match at or after a: of the text's window starts from a on the first with a matching window (document 02, T-08)
unfoldable pub first_match : List ℕ → ℕ → List ℕ → ℕ → Option ℕ
first_match P k T a = earliest (λ s. matches P k (window (length P) T s)) a (starts (length P) T - a)
