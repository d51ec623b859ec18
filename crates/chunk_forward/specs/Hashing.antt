-- Method 5 over a tail followed by a chunk.
use Rattle.std.specs.Prelude.{List, ℕ, length}
use Rattle.jumbled.specs.Scan.{judges, driven_into}
use Rattle.jumbled.specs.Steps.{hcam_judged}
use Rattle.lent.specs.declared.SearchCounts.{SearchCounts}
use Rattle.lent.specs.Found.{Found}
use Rattle.chunk_seam.specs.declared.Joined.{Joined}
use Rattle.chunk_seam.specs.Joined.{text_of}

-- The search over the tail and the chunk, up to where the list is full
abbrev pub HcamFound : List ℕ → Joined → List ℕ → List ℕ → SearchCounts → Type 0
HcamFound P j before after r = Found (driven_into (length before) (judges (hcam_judged P)) (length P) (text_of j)) j.split.over_tail.base before after r
