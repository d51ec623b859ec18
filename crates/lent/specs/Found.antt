-- What a search says it did: document 01, "A search and its calls", Feed.
use Rattle.std.specs.Prelude.{◌≡◌, List, ℕ, length}
use Rattle.jumbled.specs.Scan.{Result}
use Rattle.lent.specs.declared.SearchCounts.{SearchCounts}
use Rattle.lent.specs.Placed.{placed, shifted}

-- The result's positions, with the base added, stand in the list's first places, and every other place is as it was
pub record Found (result : Result) (base : ℕ) (before after : List ℕ) (r : SearchCounts) : Type 0 where
  pub filled : after ≡ placed before 0 (shifted base result.occurrences)
  pub found : r.found ≡ length result.occurrences
  pub inspections : r.inspections ≡ result.inspections
