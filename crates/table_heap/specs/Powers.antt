-- A power of a base in 64 bits: document 01, "The five methods", 5.
use Rattle.std.specs.Prelude.{◌≡◌, ℕ, ◌+◌, ◌%◌, ◌^◌, ◌<◌, ◌≤◌, MatchOption}
use Rattle.table_heap.specs.declared.Power.{Power}

-- p is the power base^i. Its value wraps at 2^64; `largest` is base^i - 1 where base^i ≤ 2^64, and there is none where it is more.
pub record IsPower (base i : ℕ) (p : Power) : Type 0 where
  pub value : p.value ≡ base ^ i % 2 ^ 64
  pub largest : MatchOption p.largest (2 ^ 64 < base ^ i) (λ largest. (largest + 1 ≡ base ^ i) × (base ^ i ≤ 2 ^ 64))
