-- Method 1 over a tail followed by a chunk.
use Rattle.std.specs.Prelude.{List, ℕ, length}
use Rattle.jumbled.specs.Scan.{judges, driven_into}
use Rattle.jumbled.specs.Steps.{count_judged}
use Rattle.lent.specs.declared.SearchCounts.{SearchCounts}
use Rattle.lent.specs.Found.{Found}
use Rattle.chunk_seam.specs.declared.Joined.{Joined}
use Rattle.chunk_seam.specs.Joined.{text_of}

-- The search over the tail and the chunk, up to where the list is full
abbrev pub CountFound : List ℕ → ℕ → Joined → List ℕ → List ℕ → SearchCounts → Type 0
CountFound P k j before after r = Found (driven_into (length before) (judges (count_judged P k)) (length P) (text_of j)) j.split.over_tail.base before after r
