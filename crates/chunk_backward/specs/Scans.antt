-- The scan of a backward method, by its number, and what it finds: document 01, "The five methods", 2 to 4. Method 6,
-- which goes by other tables, has its scan by name.
use Rattle.std.specs.Prelude.{cond, List, ℕ, ◌-◌, min, eqb, length}
use Rattle.jumbled.specs.Scan.{Scanned, scans, driven_into}
use Rattle.jumbled.specs.Steps.{bam_scan, bam2_scan, abam_scan}
use Rattle.lent.specs.Found.{Found}
use Rattle.lent.specs.declared.SearchCounts.{SearchCounts}
use Rattle.lent.specs.declared.Range.{Range}
use Rattle.loop_backward.specs.declared.Reached.{Reached}
use Rattle.chunk_seam.specs.Joined.{text_of}
use Rattle.chunk_seam.specs.declared.Split.{Split}
use Rattle.chunk_seam.specs.declared.Joined.{Joined}

unfoldable pub scan_of : List ℕ → ℕ → ℕ → List ℕ → Scanned
scan_of P k method = cond (eqb method 2) (bam_scan P) (cond (eqb method 3) (bam2_scan P) (abam_scan P k))

-- The chunk's window starts that are left where the search of the tail's has come so far
abbrev pub rest_of : Split → Reached → Range
rest_of split searched =
    record {
      first = min (searched.next - split.over_tail.end) split.over_chunk.end;
      «end» = split.over_chunk.end;
      base = split.over_chunk.base;
      at = searched.at;
    }

-- The windows of the tail, which the seam begins with, and of the chunk after it were searched by a scan of windows of m bytes, up to where the list is
-- full
abbrev pub FoundBy : (List ℕ → Scanned) → ℕ → Joined → (before after : List ℕ) → SearchCounts → Type 0
FoundBy scanned m j before after r = Found (driven_into (length before) (scans scanned) m (text_of j)) j.split.over_tail.base before after r

-- and for P by the method
abbrev pub FoundFor : List ℕ → (k method : ℕ) → Joined → (before after : List ℕ) → SearchCounts → Type 0
FoundFor P k method j before after r = FoundBy (scan_of P k method) (length P) j before after r
