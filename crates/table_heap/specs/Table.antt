-- The heap values of a pattern as a table: document 01, "The five methods", 5.
use Rattle.std.specs.Prelude.{◌≡◌, ℕ, ◌+◌, ◌%◌, ◌^◌, List, [], ◌∷◌, replicate, slice_index}
use Rattle.jumbled.specs.Heap as Heap
use Rattle.table_parikh.specs.Table.{tabulate, parikh}
use Rattle.table_heap.specs.declared.Target.{Target}

-- The sum of some bytes' values, which wraps at 2^64, where a function gives each byte its value
unfoldable pub wrapped_sum : (ℕ → ℕ) → List ℕ → ℕ
wrapped_sum value [] = 0
wrapped_sum value (b ∷ U) = (value b + wrapped_sum value U) % 2 ^ 64

-- and where any table does. By the table of a pattern's values it is the pattern's `heap_sum` (`table-sum`).
abbrev pub table_sum : List ℕ → List ℕ → ℕ
table_sum values U = wrapped_sum (λ b. slice_index values b) U

-- The pattern's counts, and a table with nothing in it yet
pub record Fillable (P counts values : List ℕ) : Type 0 where
  pub pattern-counts : counts ≡ parikh P
  pub empty : values ≡ replicate 256 0

-- The table has the value of each byte, and r the pattern's own sum, and says whether a candidate matches unverified
pub record HeapTabled (P values : List ℕ) (r : Target) : Type 0 where
  pub entries : values ≡ tabulate 256 (Heap.heap_value P)
  pub own-sum : r.sum ≡ Heap.heap_sum P P
  pub exact : r.exact ≡ Heap.exact P
