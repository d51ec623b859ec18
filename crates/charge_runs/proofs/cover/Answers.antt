-- `charge_runs::cover` meets its contract. The loop's invariant: the first i windows are behind, and what is to come is the tally from there on.
use mathlib.Core.Path.{ap, ◌∙◌}
use Prim.Native.Nat.{ℕ, ◌+◌, ◌^◌, ◌≤◌, ◌<◌}
use native.Mathlib.Nat.{le_refl}
use native.Mathlib.Omega.{arith}
use lib.ListN.{get_or}
use Rattle.charge_runs.proofs.Walking.{Walked, walk-starts, run-over, run-longer, walk_ends}
use Rattle.charge_runs.proofs.cover.Goals as goal
use Rattle.charge_runs.proofs.cover.Goals.{then-end-start, else-end-start}

pub loop-position-init : goal.loop-position-init
loop-position-init c = (walk-starts c.args.m c.args.positions.now, omega arith)

pub loop-position-preserved : goal.loop-position-preserved
loop-position-preserved c =
    let positions = c.args.positions.now in
    let joined : Walked c.args.m positions c.if-end-start.hours c.if-end-start.sixes c.if-end-start.run c.if-end-start.end c.loop-position.position-index
    × (get_or positions c.loop-position.position-index 0 ≤ c.if-end-start.end) =
    elim c.if-end-start.branch [
      | then-end-start w ↦
          rw (w.hours-is, w.sixes-is ∙ ap (λ (x : ℕ). c.loop-position.sixes + x) w.sixes_begun-sixes.ensures, w.run-is, w.end-is)
          (run-over c.args.m positions c.requires c.loop-position.invariant.0 (omega arith) w.if-end-start.true, le_refl (get_or positions c.loop-position.position-index 0))
      | else-end-start w ↦ rw (w.hours-is, w.sixes-is, w.run-is, w.end-is) (c.loop-position.invariant.0, w.if-end-start.false)
    ] in
    let small : get_or positions c.loop-position.position-index 0 < 2 ^ 32 = omega (arith, (c.type_inv.positions c.loop-position.position-index).fits) in (
      run-longer c.args.m positions c.requires joined.0 (omega arith) joined.1,
      omega (arith, small, c.requires.short),
    )

pub returns : goal.returns
returns c =
    rw c.sixes_begun.ensures (walk_ends c.args.m c.args.positions.now c.requires c.loop-position.invariant.0 (omega arith))
