-- What a forward loop lists of the seam once its first bytes were taken.
use mathlib.Core.Path.{◌≡◌}
use mathlib.Core.List.{List}
use Prim.Native.Nat.{ℕ, ◌+◌, ◌-◌, ◌^◌, ◌≤◌, ◌<◌}
use native.Mathlib.Omega.{arith}
use Rattle.jumbled.specs.Scan.{Judged, forward}
use Rattle.jumbled.proofs.Cuts.{forward-most}
use Rattle.lent.specs.declared.Range.{Range}
use Rattle.lent.specs.Loops.{Listed}
use Rattle.chunk_seam.proofs.Joins.{from_zero}
use Rattle.chunk_forward.specs.Starting.{primed, Startable}

module _ {m : ℕ} {T : List ℕ} {range : Range} {list : List ℕ} (start : Startable m T range list) (judged : List ℕ → Judged) where
  -- the range begins at 0
  from_first : forward judged m T range.first (range.end - range.first) 1 ≡ forward judged m T 0 range.end 1
  from_first = from_zero (λ (s left : ℕ). forward judged m T s left 1) start.from_first

  pub primed-listed : {before after : List ℕ} {at taken inspections : ℕ} → taken ≡ m - 1
      → Listed (forward judged m T range.first (range.end - range.first) 1) range before after at inspections
      → Listed (primed (m - 1) (forward judged m T 0 range.end 1)) range before after at (inspections + taken)
  primed-listed e l =
      let same : Listed (forward judged m T 0 range.end 1) range _ _ _ _ = rw from_first at l in
      record { filled = same.filled; next_place = same.next_place; inspected = omega (arith, same.inspected) }

  -- the inspections fit
  pub inspections-fit : {before after : List ℕ} {at taken inspections : ℕ} → ((W : List ℕ) → (judged W).verification ≤ 64) → taken ≡ m - 1
      → Listed (forward judged m T range.first (range.end - range.first) 1) range before after at inspections
      → inspections + taken < 2 ^ 64
  inspections-fit few e l =
      omega (
        arith,
        l.inspected,
        forward-most judged m T 64 few range.first (range.end - range.first),
        start.fitting.short,
        start.fitting.numbered,
      )
