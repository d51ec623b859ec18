-- A backward method over a tail followed by a chunk: the windows of the seam, and then those of the chunk that its last scan did not pass over.
use mathlib.Core.Path.{◌≡◌, sym, ap, ap₂, ◌∙◌}
use mathlib.Core.List.{List}
use Prim.Native.Nat.{ℕ, ◌+◌, ◌-◌, ◌^◌, ◌≤◌, ◌<◌, min}
use native.Mathlib.Omega.{arith}
use lib.ListN.{length, take}
use Rattle.jumbled.specs.Scan.{Result, Scanned, backward, standing, scans, driven_into, through}
use Rattle.jumbled.proofs.Cuts.{◌then◌, moved, backward-within, backward-count, backward-most, through-between}
use Rattle.lent.specs.Loops.{Listed}
use Rattle.lent.specs.Found.{Found}
use Rattle.loop_backward.specs.declared.Reached.{Reached}
use Rattle.loop_backward.specs.Ranges.{RangeScanned}
use Rattle.loop_backward.proofs.Windows.{SearchedAll, searched-all}
use Rattle.chunk_seam.specs.declared.Split.{Split}
use Rattle.chunk_seam.specs.Joined.{Prepared, joined}
use Rattle.chunk_seam.proofs.Joins.{from_zero}
use Rattle.chunk_seam.proofs.Prepared.{all-starts, inside, full, tail-fitting, tail-room, tail-places, some-place, places-left, found-two, inspections-fit}
use Rattle.chunk_seam.proofs.Full.{into-joined}
use Rattle.chunk_backward.specs.Scans.{rest_of}
use Rattle.chunk_backward.proofs.Joins.{backward-joined, backward-rest}

-- the seam's windows were searched, for which the list has places, and then the rest of the chunk's
module _ {m : ℕ} {seam chunk : List ℕ} {split : Split} {list : List ℕ} (ready : Prepared m seam chunk split list) {scanned : List ℕ → Scanned}
    {middle : List ℕ} {r : Reached} (searched : RangeScanned scanned m seam split.over_tail list middle r) where
  over-tail : SearchedAll scanned m seam split.over_tail list middle r
  over-tail = searched-all searched (tail-fitting ready).ordered (tail-places ready)

  pub past-tail : split.over_tail.end ≤ r.next
  past-tail = omega (arith, over-tail.stands)

  first : ℕ
  first = (rest_of split r).first

  ordered : first ≤ split.over_chunk.end
  unfolding first
  ordered = omega arith

  one : Result
  one = backward scanned m seam split.over_tail.first (split.over_tail.end - split.over_tail.first) 0

  few : length one.occurrences ≤ split.over_tail.end
  unfolding one
  few = omega (arith, backward-count scanned m seam split.over_tail.first (split.over_tail.end - split.over_tail.first) 0)

  -- how many windows of the chunk are searched: the list may be full before its last one
  gone : ℕ
  gone = through (length middle - r.at) first (split.over_chunk.end - first) (backward scanned m chunk first (split.over_chunk.end - first) 0).occurrences

  whole : driven_into (length list) (scans scanned) m (joined split seam chunk) ≡ one then moved (length (take split.tail seam)) (backward scanned m chunk first gone 0)
  unfolding one first gone
  whole =
      into-joined (scans scanned) m (joined split seam chunk) (backward scanned m seam 0 a 0) (λ n. backward scanned m chunk 0 n skip) (length (take split.tail seam)) a b
      (all-starts ready) (full ready)
      (λ n h some. backward-joined scanned m (take split.tail seam) chunk seam ready.reaching a n (inside ready) (λ more. full ready (omega arith)))
      (backward-within scanned m seam 0 a 0) (backward-within scanned m chunk 0 b skip) (length list) (some-place ready) ready.any (tail-room ready)
      ∙ ap₂ (λ (x y : Result). x then moved (length (take split.tail seam)) y) (sym from_first)
      (backward-rest scanned m chunk (length list - length (backward scanned m seam 0 a 0).occurrences) skip b
      ∙ ap₂ (λ (places s : ℕ). backward scanned m chunk s (through places s (b - s) (backward scanned m chunk s (b - s) 0).occurrences) 0) places stands)
    where
      a : ℕ
      a = split.over_tail.end

      b : ℕ
      b = split.over_chunk.end

      skip : ℕ
      skip = standing scanned m seam 0 split.over_tail.end 0

      from_first : backward scanned m seam split.over_tail.first (split.over_tail.end - split.over_tail.first) 0 ≡ backward scanned m seam 0 split.over_tail.end 0
      from_first = from_zero (λ (s left : ℕ). backward scanned m seam s left 0) ready.parted.tail-starts.from_first

      places : length list - length (backward scanned m seam 0 split.over_tail.end 0).occurrences ≡ length middle - r.at
      places = ap (λ (x : Result). length list - length x.occurrences) (sym from_first) ∙ sym (places-left ready one few over-tail.listed)

      stands : min (standing scanned m seam 0 split.over_tail.end 0) split.over_chunk.end ≡ (rest_of split r).first
      stands =
          let same = from_zero (λ (s left : ℕ). standing scanned m seam s left 0) {count = split.over_tail.end} ready.parted.tail-starts.from_first in
          omega (arith, over-tail.stands)

  module _ {after : List ℕ} {r' : Reached} (searched' : RangeScanned scanned m chunk (rest_of split r) middle after r') where
    over-chunk : Listed (backward scanned m chunk first gone 0) (rest_of split r) middle after r'.at r'.inspections
    unfolding first gone
    over-chunk = searched'.listed

    -- both together are one search of the tail followed by the chunk, by whatever scan
    pub both_found : Found (driven_into (length list) (scans scanned) m (joined split seam chunk)) split.over_tail.base list after (record { found = r'.at; inspections = r.inspections + r'.inspections })
    unfolding one first gone
    both_found =
        found-two ready one few over-tail.listed (backward scanned m chunk first gone 0) over-chunk
        (driven_into (length list) (scans scanned) m (joined split seam chunk)) whole

    pub both-inspections : ((W : List ℕ) → length W ≤ m → (scanned W).inspections ≤ 128) → r.inspections + r'.inspections < 2 ^ 64
    unfolding one first gone
    both-inspections inspections =
        let less = (through-between (backward-within scanned m chunk first (split.over_chunk.end - first) 0) (length middle - r.at)).1 in
        inspections-fit ready one few over-tail.listed (backward scanned m chunk first gone 0) over-chunk
        (omega (arith, backward-most scanned m seam 128 inspections split.over_tail.first (split.over_tail.end - split.over_tail.first) 0))
        (omega (arith, less, backward-most scanned m chunk 128 inspections first gone 0))
