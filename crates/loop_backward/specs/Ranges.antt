-- What the loops of the backward methods ask of their tables, and what they say they did.
use Rattle.std.specs.Prelude.{◌≡◌, List, ℕ, ◌+◌, ◌-◌, ◌≤◌}
use Rattle.jumbled.specs.Match.{Bytes}
use Rattle.jumbled.specs.Scan.{Scanned, backward, standing}
use Rattle.jumbled.specs.Fields.{Layout, bits}
use Rattle.table_packed.specs.Word.{Packed}
use Rattle.table_packed.specs.declared.Word.{Word}
use Rattle.lent.specs.Loops.{passed, Listed}
use Rattle.lent.specs.declared.Range.{Range}
use Rattle.loop_backward.specs.declared.Reached.{Reached}

-- Methods 2, 3 and 4: the word and the units are those of the pattern P, whose fields need 64 bits at most
pub record Scannable (P : List ℕ) (layout : Layout) (word : Word) (units : List ℕ) : Type 0 where
  pub bytes : Bytes P
  pub packed : Packed P layout word units
  pub fits : bits P layout ≤ 64

-- How many of the range's window starts a loop goes through that scans each window by `scanned`: it ends where the list is full
abbrev pub gone : (List ℕ → Scanned) → ℕ → List ℕ → Range → List ℕ → ℕ
gone scanned m T range list = passed range list (backward scanned m T range.first (range.end - range.first) 0).occurrences

-- Such a loop has gone through them: the list holds the positions of the backward driver, which made the inspections, and the next window
-- start is where the driver stands after them
pub record RangeScanned (scanned : List ℕ → Scanned) (m : ℕ) (T : List ℕ) (range : Range) (before after : List ℕ) (r : Reached) : Type 0 where
  pub listed : Listed (backward scanned m T range.first (gone scanned m T range before) 0) range before after r.at r.inspections
  pub stands :
      r.next
      ≡ range.first + gone scanned m T range before + standing scanned m T range.first (gone scanned m T range before) 0
