-- What a search of a tail followed by a chunk asks of its arguments, and how the two are made ready for it: document 01, "A search and its calls", Feed.
use Rattle.std.specs.Prelude.{◌≡◌, List, ◌++◌, ℕ, suc, ◌+◌, ◌-◌, ◌^◌, ◌≤◌, ◌<◌, min, length, take}
use Rattle.lent.specs.declared.Range.{Range}
use Rattle.chunk_seam.specs.declared.Split.{Split}
use Rattle.chunk_seam.specs.declared.Joined.{Joined}

-- The tail is shorter than a window, every position fits 32 bits, and the list has a place for each window that starts in the tail and for the first
-- one in the chunk
pub record Joinable (m : ℕ) (tail chunk : List ℕ) (base : ℕ) (list : List ℕ) : Type 0 where
  pub short : m ≤ 64
  pub tail-short : length tail < m
  pub numbered : base + (length tail + length chunk) ≤ 2 ^ 32
  pub room : (s : ℕ) → s ≤ length tail → s + m ≤ length tail + length chunk → s < length list

-- ---- the tail and the chunk made ready for the search

-- The first `count` window starts of a text, with `base` added to each position, for a list with nothing in it yet
pub record FirstStarts (count base : ℕ) (range : Range) : Type 0 where
  pub from_first : range.first ≡ 0
  pub counted : range.end ≡ count
  pub based : range.base ≡ base
  pub unlisted : range.at ≡ 0

-- The windows of m bytes of a tail of t bytes and a chunk of c: those that start in the tail, and those that start in the chunk
pub record Parted (m t c base : ℕ) (r : Split) : Type 0 where
  pub tail-length : r.tail ≡ t
  pub tail-starts : FirstStarts (min t (suc (t + c) - m)) base r.over_tail
  pub chunk-starts : FirstStarts (suc (t + c) - m - t) (base + t) r.over_chunk

-- The tail, which the seam begins with, followed by the chunk
abbrev pub joined : Split → List ℕ → List ℕ → List ℕ
joined split seam chunk = take split.tail seam ++ chunk

-- The seam is the tail and as much of the chunk as a window that starts in the tail can reach, and there is a window
pub record Prepared (m : ℕ) (seam chunk : List ℕ) (split : Split) (list : List ℕ) : Type 0 where
  pub joinable : Joinable m (take split.tail seam) chunk split.over_tail.base list
  pub parted : Parted m (length (take split.tail seam)) (length chunk) split.over_tail.base split
  pub reaching : seam ≡ take split.tail seam ++ take (m - 1) chunk
  pub any : 0 < split.over_tail.end + split.over_chunk.end

-- ---- of a seam, a chunk and their windows, kept together

abbrev pub PreparedIn : ℕ → Joined → List ℕ → Type 0
PreparedIn m j list = Prepared m j.seam.now j.chunk.now j.split list

-- The text that they are of
abbrev pub text_of : Joined → List ℕ
text_of j = joined j.split j.seam.now j.chunk.now
