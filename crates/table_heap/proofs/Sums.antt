-- How a sum of values follows the bytes that enter and leave: by any function, by a table, and by the heap values of a pattern.
use Rattle.std.proofs.Common.{◌≡◌, ℕ, ◌+◌, ◌%◌, ◌^◌, ◌<◌, List, [], ◌∷◌, ◌++◌, get_or, sym, refl, ap, ◌∙◌, mod-lt, arith, lit<}
use Rattle.jumbled.specs.Match.{Bytes}
use Rattle.jumbled.specs.Heap.{heap_value, heap_sum}
use Rattle.jumbled.proofs.Counts.{bytes-head, bytes-tail}
use Rattle.table_parikh.specs.Table.{tabulate}
use Rattle.table_parikh.proofs.Tables.{tabulated}
use Rattle.table_heap.specs.Table.{wrapped_sum, table_sum}

module _ (value : ℕ → ℕ) where
  pub sum-nil : wrapped_sum value [] ≡ 0
  unfolding wrapped_sum
  sum-nil = refl

  sum-cons : (b : ℕ) (U : List ℕ) → wrapped_sum value (b ∷ U) ≡ (value b + wrapped_sum value U) % 2 ^ 64
  unfolding wrapped_sum
  sum-cons b U = refl

  sum_below : (U : List ℕ) → wrapped_sum value U < 2 ^ 64
  sum_below [] = rw sum-nil (lit< tt)
  sum_below (b ∷ U) = rw (sum-cons b U) (mod-lt (value b + wrapped_sum value U) (lit< tt))

  -- a byte enters
  pub sum-snoc : (U : List ℕ) (b : ℕ) → wrapped_sum value (U ++ (b ∷ [])) ≡ (wrapped_sum value U + value b) % 2 ^ 64
  sum-snoc [] b = omega (arith, sum-cons b [], sum-nil)
  sum-snoc (a ∷ U) b = omega (arith, sum-cons a (U ++ (b ∷ [])), sum-cons a U, sum-snoc U b)

  -- the first byte leaves
  sum-rest : (U : List ℕ) (b r : ℕ) → r < 2 ^ 64 → (r + value b) % 2 ^ 64 ≡ wrapped_sum value (b ∷ U) → r ≡ wrapped_sum value U
  sum-rest U b r h e = omega (arith, sum-cons b U, sum_below U)

-- the sum by the heap values of a pattern
heap-sum : (P U : List ℕ) → wrapped_sum (heap_value P) U ≡ heap_sum P U
unfolding wrapped_sum heap_sum
heap-sum P [] = refl
heap-sum P (b ∷ U) = ap (λ (n : ℕ). (heap_value P b + n) % 2 ^ 64) (heap-sum P U)

module _ (P : List ℕ) {values : List ℕ} (known : values ≡ tabulate 256 (heap_value P)) where
  value-at : {b : ℕ} → b < 256 → get_or values b 0 ≡ heap_value P b
  value-at {b} byte = tabulated 256 (heap_value P) known b byte

  -- the same by their table
  pub table-sum : (U : List ℕ) → Bytes U → table_sum values U ≡ heap_sum P U
  unfolding wrapped_sum heap_sum
  table-sum [] bytes = refl
  table-sum (b ∷ U) bytes = rw (value-at (bytes-head bytes), table-sum U (bytes-tail bytes)) refl

  module _ (U : List ℕ) {b : ℕ} (byte : b < 256) where
    pub sum_more : {sum summed : ℕ} → sum ≡ heap_sum P U → summed ≡ (sum + get_or values b 0) % 2 ^ 64 → summed ≡ heap_sum P (U ++ (b ∷ []))
    sum_more state added =
        rw (state ∙ sym (heap-sum P U), value-at byte) at added ∙ sym (sum-snoc (heap_value P) U b) ∙ heap-sum P (U ++ (b ∷ []))

    pub sum_less : {sum rest : ℕ} → sum ≡ heap_sum P (b ∷ U) → rest < 2 ^ 64 → (rest + get_or values b 0) % 2 ^ 64 ≡ sum → rest ≡ heap_sum P U
    sum_less {rest = rest} state fits taken =
        sum-rest (heap_value P) U b rest fits (rw (value-at byte) at (taken ∙ state) ∙ sym (heap-sum P (b ∷ U))) ∙ heap-sum P U
