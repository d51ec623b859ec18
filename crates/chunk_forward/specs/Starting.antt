-- What a forward method asks of a tail followed by a chunk, and what it asks and yields where it starts, in the seam.
use Rattle.std.specs.Prelude.{◌≡◌, List, ℕ, ◌+◌, ◌-◌, ◌≤◌, length}
use Rattle.jumbled.specs.Match.{window_prefix}
use Rattle.jumbled.specs.Scan.{Result, Judged, forward}
use Rattle.table_parikh.specs.Table.{parikh}
use Rattle.lent.specs.declared.Range.{Range}
use Rattle.lent.specs.Loops.{Fitting, Listed}
use Rattle.chunk_seam.specs.declared.Joined.{Joined}
use Rattle.chunk_seam.specs.Joined.{PreparedIn}
use Rattle.loop_forward.specs.declared.Slid.{Slid}

-- The pattern's counts, and the tail and the chunk made ready for its search
pub record ForwardReady (P counts : List ℕ) (j : Joined) (list : List ℕ) : Type 0 where
  pub pattern-counts : counts ≡ parikh P
  pub prepared : PreparedIn (length P) j list

-- ---- the forward methods' windows in the seam

-- The inspections made before the first window's last byte, and then what a range yields
abbrev pub primed : ℕ → Result → Result
primed before r = record { occurrences = r.occurrences; inspections = before + r.inspections }

-- The range begins at the first window of the text T, whose bytes but the last are there, and the list has a place for each window
pub record Startable (m : ℕ) (T : List ℕ) (range : Range) (list : List ℕ) : Type 0 where
  pub fitting : Fitting T m range
  pub from_first : range.first ≡ 0
  pub enough : m - 1 ≤ length T
  pub places : range.at + (range.end - range.first) ≤ length list

-- The windows of a range from the first one on, m - 1 inspections made before
pub record SeamSlid {S : Type 0} (keeps : List ℕ → S → Type 0) (judged : List ℕ → Judged) (m : ℕ) (T : List ℕ) (range : Range) (before after : List ℕ) (r : Slid S) : Type 0 where
  pub listed : Listed (primed (m - 1) (forward judged m T 0 range.«end» 1)) range before after r.at r.inspections
  pub kept : keeps (window_prefix m T range.«end») r.state
