-- A tail and a chunk made ready for the search: their ranges fit, and what is listed of the seam and then of the chunk is what was to be found.
use mathlib.Core.Path.{◌≡◌, sym, ap, ap₂, ◌∙◌}
use mathlib.Core.List.{List, ◌++◌}
use mathlib.Core.Logic.{⊎_elim}
use Prim.Native.Nat.{ℕ, ◌+◌, ◌-◌, ◌*◌, ◌^◌, ◌≤◌, ◌<◌, min}
use native.Mathlib.Nat.{zero-add}
use native.Mathlib.Omega.{arith}
use lib.ListN.{length, take, length-append, length-take}
use Rattle.jumbled.specs.Match.{starts}
use Rattle.jumbled.specs.Scan.{Result}
use Rattle.jumbled.proofs.Sums.{below_or_not}
use Rattle.jumbled.proofs.Cuts.{◌then◌, moved}
use Rattle.lent.specs.declared.Range.{Range}
use Rattle.lent.specs.Found.{Found}
use Rattle.lent.specs.Loops.{Fitting, Listed}
use Rattle.lent.specs.Placed.{placed, shifted}
use Rattle.lent.proofs.Listing.{listed-length}
use Rattle.lent.proofs.Placing.{placed-placed, length-shifted, shifted-append, shifted-shifted}
use Rattle.chunk_seam.specs.declared.Split.{Split}
use Rattle.chunk_seam.specs.Joined.{Parted, Prepared, joined}

-- the range over the chunk from `first` on, with the list's next place
abbrev pub onward : Split → ℕ → ℕ → Range
onward split first at = record { first = first; «end» = split.over_chunk.end; base = split.over_chunk.base; at = at }

-- every window starts in the tail or in the chunk
pub parted-starts : {m base : ℕ} (tail chunk : List ℕ) {split : Split} → Parted m (length tail) (length chunk) base split
    → split.over_tail.end + split.over_chunk.end ≡ starts m (tail ++ chunk)
parted-starts tail chunk parted = omega (arith, length-append tail chunk)

-- ---- how they are searched

module _ {m : ℕ} {seam chunk : List ℕ} {split : Split} {list : List ℕ} (ready : Prepared m seam chunk split list) where
  pub all-starts : split.over_tail.end + split.over_chunk.end ≡ starts m (joined split seam chunk)
  all-starts = parted-starts (take split.tail seam) chunk ready.parted

  pub inside : split.over_tail.end ≤ length (take split.tail seam)
  inside = omega arith

  pub full : 0 < split.over_chunk.end → split.over_tail.end ≡ length (take split.tail seam)
  full h = omega arith

  pub seam-length : length seam ≡ length (take split.tail seam) + min (m - 1) (length chunk)
  seam-length =
      ap length ready.reaching ∙ length-append (take split.tail seam) (take (m - 1) chunk)
      ∙ ap (λ (n : ℕ). length (take split.tail seam) + n) (length-take (m - 1) chunk)

  -- the windows that start in the tail
  pub tail-fitting : Fitting seam m split.over_tail
  tail-fitting =
      record {
        some = omega arith;
        short = ready.joinable.short;
        ordered = omega arith;
        whole = λ s h. omega (arith, seam-length);
        numbered = omega arith;
      }

  -- the list has a place for each,
  pub tail-room : split.over_tail.end ≤ length list
  tail-room =
      ⊎_elim (λ (some : 0 < split.over_tail.end). let last = ready.joinable.room (split.over_tail.end - 1) (omega arith) (omega arith) in omega (arith, last))
      (λ (none : split.over_tail.end ≤ 0). omega arith) (below_or_not 0 split.over_tail.end)

  pub tail-places : split.over_tail.at + (split.over_tail.end - split.over_tail.first) ≤ length list
  tail-places = omega (arith, tail-room)

  -- and one at least
  pub some-place : 0 < length list
  some-place = ready.joinable.room 0 (omega arith) (omega (arith, ready.any))

  -- they were searched, and yield what `one` holds, at most one position each
  module _ (one : Result) (few : length one.occurrences ≤ split.over_tail.end) {middle : List ℕ} {at inspections : ℕ}
      (listed : Listed one split.over_tail list middle at inspections) where
    -- there is a place for each
    one-room : length one.occurrences ≤ length list
    one-room = omega (arith, tail-room)

    -- the windows that start in the chunk, from one of them on
    pub chunk-fitting : (first : ℕ) → first ≤ split.over_chunk.end → Fitting chunk m (onward split first at)
    chunk-fitting first f =
        record {
          some = omega arith;
          short = ready.joinable.short;
          ordered = f;
          whole = λ s h. omega arith;
          numbered = omega arith;
        }

    -- for which the list has these places left
    pub places-left : length middle - at ≡ length list - length one.occurrences
    places-left =
        let same : length middle ≡ length list = listed-length split.over_tail list one listed (omega (arith, one-room)) in
        omega arith

    -- nothing is left to search
    pub found-one : (result : Result) → result ≡ one → Found result split.over_tail.base list middle (record { found = at; inspections = inspections })
    found-one result e =
        rw e
        (record {
          filled = rw ready.parted.tail-starts.unlisted at listed.filled;
          found = listed.next_place ∙ ap (λ (n : ℕ). n + length one.occurrences) ready.parted.tail-starts.unlisted ∙ zero-add (length one.occurrences);
          inspections = listed.inspected;
        })

    -- the chunk's windows were searched too
    module _ (two : Result) {first : ℕ} {after : List ℕ} {at' inspections' : ℕ} (listed' : Listed two (onward split first at) middle after at' inspections') where
      pub found-two : (result : Result) → result ≡ one then moved (length (take split.tail seam)) two
          → Found result split.over_tail.base list after (record { found = at'; inspections = inspections + inspections' })
      unfolding shifted
      found-two result e =
          rw e
          (record {
            filled =
                listed'.filled
                ∙ ap₂ (λ (l : List ℕ) (n : ℕ). placed l n (shifted split.over_chunk.base two.occurrences)) first-filled place
                ∙ ap (λ (b : ℕ). placed (placed list 0 (shifted base one.occurrences)) (0 + length (shifted base one.occurrences)) (shifted b two.occurrences)) ready.parted.chunk-starts.based
                ∙ placed-placed list 0 (shifted base one.occurrences) (omega (arith, one-room, length-shifted base one.occurrences)) (shifted (base + tail) two.occurrences)
                ∙ ap (placed list 0) together;
            found = omega (arith, length-append one.occurrences (shifted tail two.occurrences), length-shifted tail two.occurrences);
            inspections = omega arith;
          })
        where
          base : ℕ
          base = split.over_tail.base

          tail : ℕ
          tail = length (take split.tail seam)

          first-filled : middle ≡ placed list 0 (shifted base one.occurrences)
          first-filled = rw ready.parted.tail-starts.unlisted at listed.filled

          place : at ≡ 0 + length (shifted base one.occurrences)
          place = omega (arith, length-shifted base one.occurrences)

          together : shifted base one.occurrences ++ shifted (base + tail) two.occurrences ≡ shifted base (one.occurrences ++ shifted tail two.occurrences)
          together =
              ap (λ (l : List ℕ). shifted base one.occurrences ++ l) (sym (shifted-shifted base tail two.occurrences))
              ∙ sym (shifted-append base one.occurrences (shifted tail two.occurrences))

      -- and the inspections fit
      pub inspections-fit : one.inspections ≤ 64 + 128 * split.over_tail.end → two.inspections ≤ 128 * split.over_chunk.end → inspections + inspections' < 2 ^ 64
      inspections-fit most most' = omega arith
