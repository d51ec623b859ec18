-- Where a forward loop ends.
use Rattle.std.specs.Prelude.{◌≡◌, ℕ, ◌+◌, ◌-◌, List}
use Rattle.jumbled.specs.Scan.{Judged, forward}
use Rattle.lent.specs.declared.Range.{Range}
use Rattle.lent.specs.Loops.{passed, Listed}

-- How many of the range's windows a forward loop judges that has this list
abbrev pub covered : (List ℕ → Judged) → ℕ → List ℕ → Range → List ℕ → ℕ
covered judged m T range list = passed range list (forward judged m T range.first (range.end - range.first) 1).occurrences

-- A forward loop that started with the list `before` has ended: what these windows yield is listed, and it would go on at the next one
pub record Ended (judged : List ℕ → Judged) (m : ℕ) (T : List ℕ) (range : Range) (before after : List ℕ) (next at inspections : ℕ) : Type 0 where
  pub listed : Listed (forward judged m T range.first (covered judged m T range before) 1) range before after at inspections
  pub goes_on : next ≡ range.first + covered judged m T range before
