-- Laws of `rank`, `heap_value` and `exact`, byte by byte.
use mathlib.Core.Path.{◌≡◌, refl, sym, ap, ◌∙◌}
use mathlib.Core.Bool.{Bool}
use mathlib.Core.List.{List}
use Prim.Native.Nat.{ℕ, zero, suc, ◌+◌, ◌-◌, ◌%◌, ◌^◌, ◌≤◌, ◌<◌}
use native.Mathlib.Nat.{add-zero, add-suc}
use native.Mathlib.Numerals.{add-one}
use native.Mathlib.Omega.{arith}
use lib.Dec.{leb}
use Rattle.jumbled.specs.Match.{bit, cc, occurs, sum}
use Rattle.jumbled.specs.Heap.{rank, radix, heap_value, exact}
use Rattle.jumbled.proofs.Sums.{sum-zero, sum-suc}
use Rattle.jumbled.proofs.Counts.{occurs-some, occurs-none}

rank-zero : (P : List ℕ) → rank P 0 ≡ 0
unfolding rank
rank-zero P = sum-zero (λ d. bit (occurs P d))

-- one byte further
pub rank-next : (P : List ℕ) (c : ℕ) → rank P (c + 1) ≡ rank P c + bit (occurs P c)
unfolding rank
rank-next P c = ap (λ (n : ℕ). sum n (λ d. bit (occurs P d))) (add-one c) ∙ sum-suc c (λ d. bit (occurs P d))

pub rank-some : (P : List ℕ) (c : ℕ) → 0 < cc P c → rank P (c + 1) ≡ rank P c + 1
rank-some P c h = rank-next P c ∙ ap (λ (t : Bool). rank P c + bit t) (occurs-some P c h)

pub rank-none : (P : List ℕ) (c : ℕ) → cc P c ≡ 0 → rank P (c + 1) ≡ rank P c
rank-none P c h = rank-next P c ∙ ap (λ (t : Bool). rank P c + bit t) (occurs-none P c h) ∙ add-zero (rank P c)

-- no byte of P is below c, and none is from `past` on
pub rank_below : (P : List ℕ) (c : ℕ) → ((d : ℕ) → d < c → cc P d ≡ 0) → rank P c ≡ 0
rank_below P zero h = rank-zero P
rank_below P (suc c) h = rw (← add-one c) (rank-none P c (h c (omega arith)) ∙ rank_below P c (λ d l. h d (omega arith)))

pub rank-above : (P : List ℕ) (past : ℕ) → ((d : ℕ) → past ≤ d → cc P d ≡ 0) → (c : ℕ) → past ≤ c → rank P c ≡ rank P past
rank-above P past h c l = ap (rank P) {x = c} (omega arith) ∙ after (c - past)
  where
    after : (more : ℕ) → rank P (past + more) ≡ rank P past
    after zero = ap (rank P) (add-zero past)
    after (suc more) =
        ap (rank P) (add-suc past more ∙ sym (add-one (past + more))) ∙ rank-none P (past + more) (h (past + more) (omega arith)) ∙ after more

pub heap_value-some : (P : List ℕ) (c : ℕ) → 0 < cc P c → heap_value P c ≡ radix P ^ rank P c % 2 ^ 64
unfolding heap_value
heap_value-some P c h = rw (occurs-some P c h) refl

pub heap_value-none : (P : List ℕ) (c : ℕ) → cc P c ≡ 0 → heap_value P c ≡ 0
unfolding heap_value
heap_value-none P c h = rw (occurs-none P c h) refl

pub exact-rank : (P : List ℕ) → exact P ≡ leb (radix P ^ rank P 256) (2 ^ 64)
unfolding exact
exact-rank P = refl
