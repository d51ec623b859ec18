-- A forward method over a tail followed by a chunk: the windows of the seam, its first bytes taken before, and then those of the chunk.
use mathlib.Core.Path.{◌≡◌, sym, ap, ◌∙◌}
use mathlib.Core.List.{List}
use Prim.Native.Nat.{ℕ, ◌+◌, ◌-◌, ◌^◌, ◌≤◌, ◌<◌}
use native.Mathlib.Nat.{le_refl}
use native.Mathlib.Omega.{arith}
use lib.ListN.{length, take, drop}
use lib.Seq.{drop-append_seam, take-take}
use Rattle.jumbled.specs.Match.{window_prefix}
use Rattle.jumbled.specs.Scan.{Result, Judged, forward, judges, driven_into, through}
use Rattle.jumbled.proofs.Cuts.{◌then◌, moved, forward-within, forward-count, forward-most, through-between}
use Rattle.lent.specs.Found.{Found}
use Rattle.lent.specs.Loops.{Fitting, Listed}
use Rattle.lent.proofs.Listing.{then-nothing}
use Rattle.chunk_seam.specs.declared.Split.{Split}
use Rattle.chunk_seam.specs.Joined.{Prepared, joined}
use Rattle.chunk_seam.proofs.Joins.{from_zero}
use Rattle.chunk_seam.proofs.Prepared.{onward, all-starts, inside, full, seam-length, tail-fitting, tail-room, tail-places, some-place, chunk-fitting, places-left, found-one, found-two, inspections-fit}
use Rattle.chunk_seam.proofs.Full.{into-joined}
use Rattle.loop_forward.specs.Windows.{covered, Ended}
use Rattle.chunk_forward.specs.Starting.{Startable, primed}
use Rattle.chunk_forward.proofs.Joins.{forward-joined, forward-none}

-- what the windows that start in the tail yield
abbrev pub seamed : (List ℕ → Judged) → ℕ → List ℕ → Split → Result
seamed judged m seam split = primed (m - 1) (forward judged m seam 0 split.over_tail.end 1)

module _ {m : ℕ} {seam chunk : List ℕ} {split : Split} {list : List ℕ} (ready : Prepared m seam chunk split list) where
  pub startable : Startable m seam split.over_tail list
  startable =
      record {
        fitting = tail-fitting ready;
        from_first = ready.parted.tail-starts.from_first;
        enough = omega (arith, seam-length ready);
        places = tail-places ready;
      }

  -- after the tail the state is that of the chunk's first bytes
  pub prefix-on : (split.over_chunk.end ≡ 0 → ⊥)
      → window_prefix m seam split.over_tail.end ≡ window_prefix m chunk split.over_chunk.first
  prefix-on some =
      ap (λ (n : ℕ). take (m - 1) (drop n seam)) (full ready (omega (arith, some)))
      ∙ ap (λ (l : List ℕ). take (m - 1) (drop (length tail) l)) ready.reaching
      ∙ ap (take (m - 1)) (drop-append_seam tail (take (m - 1) chunk))
      ∙ take-take (m - 1) (m - 1) chunk (le_refl (m - 1))
      ∙ ap (λ (n : ℕ). take (m - 1) (drop n chunk)) first
    where
      tail : List ℕ
      tail = take split.tail seam

      first : 0 ≡ split.over_chunk.first
      first = omega arith

  module _ (judged : List ℕ → Judged) where
    few : length (seamed judged m seam split).occurrences ≤ split.over_tail.end
    few = forward-count judged m seam 0 split.over_tail.end 1

    whole : driven_into (length list) (judges judged) m (joined split seam chunk)
        ≡ seamed judged m seam split
        then moved (length (take split.tail seam))
        (forward judged m chunk 0
        (through (length list - length (seamed judged m seam split).occurrences) 0 split.over_chunk.end (forward judged m chunk 0 split.over_chunk.end 1).occurrences) 1)
    whole =
        into-joined (judges judged) m (joined split seam chunk) (seamed judged m seam split) (λ n. forward judged m chunk 0 n 1) (length (take split.tail seam))
        split.over_tail.end split.over_chunk.end (all-starts ready) (full ready)
        (λ n h some.
        forward-joined judged m (take split.tail seam) chunk seam ready.reaching split.over_tail.end n (omega arith) some (inside ready)
        (λ more. full ready (omega arith)))
        (forward-within judged m seam 0 split.over_tail.end 1) (forward-within judged m chunk 0 split.over_chunk.end 1) (length list) (some-place ready) ready.any
        (tail-room ready)

    -- the seam's windows were searched
    module _ {middle : List ℕ} {at inspections : ℕ} (listed : Listed (seamed judged m seam split) split.over_tail list middle at inspections) where
      -- no window starts in the chunk
      pub forward-one : split.over_chunk.end ≡ 0
          → Found (driven_into (length list) (judges judged) m (joined split seam chunk)) split.over_tail.base list middle (record { found = at; inspections = inspections })
      forward-one none =
          let left = length list - length (seamed judged m seam split).occurrences in
          let gone = (through-between (forward-within judged m chunk 0 split.over_chunk.end 1) left).1 in
          found-one ready (seamed judged m seam split) few listed (driven_into (length list) (judges judged) m (joined split seam chunk))
          (whole
          ∙ ap (λ (r : Result). seamed judged m seam split then moved (length (take split.tail seam)) r) (forward-none judged m chunk 0 _ 1 (omega (arith, gone)))
          ∙ then-nothing (seamed judged m seam split))

      -- the search goes on in the chunk
      pub forward-fitting : Fitting chunk m (onward split split.over_chunk.first at)
      forward-fitting = chunk-fitting ready (seamed judged m seam split) few listed split.over_chunk.first (omega arith)

      module _ {after : List ℕ} {next at' inspections' : ℕ}
          (ended : Ended judged m chunk (onward split split.over_chunk.first at) middle after next at' inspections') where
        -- the chunk's windows that were searched, since the list may be full before the last of them
        gone : ℕ
        gone = covered judged m chunk (onward split split.over_chunk.first at) middle

        from_first : (n : ℕ) → forward judged m chunk split.over_chunk.first n 1 ≡ forward judged m chunk 0 n 1
        from_first n = ap (λ (s : ℕ). forward judged m chunk s n 1) ready.parted.chunk-starts.from_first

        gone-places : through (length list - length (seamed judged m seam split).occurrences) 0 split.over_chunk.end (forward judged m chunk 0 split.over_chunk.end 1).occurrences
            ≡ gone
        unfolding gone
        gone-places =
            ap (λ (n : ℕ). through n 0 split.over_chunk.end (forward judged m chunk 0 split.over_chunk.end 1).occurrences)
            (sym (places-left ready (seamed judged m seam split) few listed))
            ∙ sym (from_zero (λ (s left : ℕ). through (length middle - at) s left (forward judged m chunk s left 1).occurrences) ready.parted.chunk-starts.from_first)

        pub forward-two : Found (driven_into (length list) (judges judged) m (joined split seam chunk)) split.over_tail.base list after
            (record { found = at'; inspections = inspections + inspections' })
        unfolding gone
        forward-two =
            found-two ready (seamed judged m seam split) few listed _ ended.listed (driven_into (length list) (judges judged) m (joined split seam chunk))
            (whole ∙ ap (λ (r : Result). seamed judged m seam split then moved (length (take split.tail seam)) r)
            (ap (λ (n : ℕ). forward judged m chunk 0 n 1) gone-places ∙ sym (from_first gone)))

        pub forward-inspections : ((W : List ℕ) → (judged W).verification ≤ 64) → inspections + inspections' < 2 ^ 64
        unfolding gone
        forward-inspections verification =
            let less = (through-between (forward-within judged m chunk 0 split.over_chunk.end 1) (length list - length (seamed judged m seam split).occurrences)).1 in
            inspections-fit ready (seamed judged m seam split) few listed _ ended.listed
            (omega (arith, ready.joinable.short, forward-most judged m seam 64 verification 0 split.over_tail.end))
            (omega (arith, less, gone-places, forward-most judged m chunk 64 verification split.over_chunk.first gone))
