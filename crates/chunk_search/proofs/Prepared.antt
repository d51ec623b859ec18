-- A tail and a chunk are made ready for the search. What it finds of them is found in the two joined, and without a window it is nothing.
use mathlib.Core.Path.{◌≡◌, refl, sym, subst⁻¹, ap, ◌∙◌}
use mathlib.Core.List.{List, ◌++◌}
use Prim.Native.Nat.{ℕ, ◌+◌, ◌-◌, ◌<◌}
use lib.ListN.{length, take}
use lib.Seq.{take_at}
use Rattle.jumbled.specs.Scan.{Result, nothing}
use Rattle.lent.specs.declared.SearchCounts.{SearchCounts}
use Rattle.lent.specs.Found.{Found}
use Rattle.lent.specs.Placed.{shifted}
use Rattle.lent.proofs.Placing.{placed-nil}
use Rattle.chunk_seam.specs.declared.Split.{Split}
use Rattle.chunk_seam.specs.Joined.{Joinable, Parted, Prepared, joined}

-- no window starts: nothing is listed
pub found_none : (result : Result) (base : ℕ) (list : List ℕ) → result ≡ nothing → Found result base list list (record { found = 0; inspections = 0 })
unfolding shifted
found_none result base list e = rw e (record { filled = sym (placed-nil list 0); found = refl; inspections = refl })

module _ {m : ℕ} (tail chunk : List ℕ) {seam : List ℕ} {base : ℕ} {split : Split} (parted : Parted m (length tail) (length chunk) base split)
    (reaching : seam ≡ tail ++ take (m - 1) chunk) where
  -- the seam begins with the tail
  tail-there : take split.tail seam ≡ tail
  tail-there = ap (take split.tail) reaching ∙ take_at tail (take (m - 1) chunk) split.tail (sym parted.tail-length)

  pub prepared : {list : List ℕ} → Joinable m tail chunk base list → 0 < split.over_tail.end + split.over_chunk.end
      → Prepared m seam chunk split list
  prepared joinable any =
      let based = parted.tail-starts.based in
      record {
        joinable = rw (tail-there, based) joinable;
        parted = rw tail-there (subst⁻¹ (λ (b : ℕ). Parted m (length tail) (length chunk) b split) based parted);
        reaching = rw tail-there reaching;
        any = any;
      }

  -- what is found in the tail, as the seam has it, and the chunk
  pub found-joined : (result : List ℕ → Result) {list after : List ℕ} {r : SearchCounts}
      → Found (result (joined split seam chunk)) split.over_tail.base list after r → Found (result (tail ++ chunk)) base list after r
  found-joined result f = rw (tail-there, parted.tail-starts.based) at f
