-- Which bytes a pattern can have.
use Rattle.std.specs.Prelude.{◌≡◌, Bool, false, List, [], ◌∷◌, ℕ, suc, ◌≤◌, ◌<◌, min, max, length, get_or}
use Rattle.jumbled.specs.Match.{cc}
use Rattle.jumbled.specs.Steps.{passes}
use Rattle.table_parikh.specs.declared.Span.{Span}

-- The smallest byte of P, 256 where P has none
unfoldable pub lowest : List ℕ → ℕ
lowest [] = 256
lowest (b ∷ P) = min b (lowest P)

-- One more than the largest byte of P, 0 where P has none
unfoldable pub past_highest : List ℕ → ℕ
past_highest [] = 0
past_highest (b ∷ P) = max (suc b) (past_highest P)

-- The span goes from the smallest byte of P to the largest, so P has no byte outside it
pub record Spanned (P : List ℕ) (r : Span) : Type 0 where
  pub low-is : r.low ≡ lowest P
  pub past_is : r.past ≡ past_highest P
  pub bytes : r.past ≤ 256
  pub below : (c : ℕ) → c < r.low → cc P c ≡ 0
  pub above : (c : ℕ) → r.past ≤ c → cc P c ≡ 0

-- A table of 256 truth values that says of each byte whether P has it, or it is a lost hour
pub record Occurring (P : List ℕ) (table : List Bool) : Type 0 where
  pub sized : length table ≡ 256
  pub tells : (c : ℕ) → c < 256 → get_or table c false ≡ passes P c
