-- `chunk_seam::seam_of` meets its contract.
use mathlib.Core.Path.{◌∙◌, ap}
use Prim.Native.Nat.{ℕ, ◌-◌}
use native.Mathlib.Omega.{arith}
use lib.ListN.{take, length-replicate}
use Rattle.std.proofs.lemmas.List.{take_min}
use Rattle.lent.proofs.Writing.{written_then}
use Rattle.chunk_seam.proofs.Seams.{reach-fits, holds, kept}
use Rattle.chunk_seam.proofs.seam_of.Goals as goal

pub invariant_of-result : goal.invariant_of-result
invariant_of-result c =
    let written = written_then c.copy_in-tail_end.ensures c.copy_in-len.ensures (omega (arith, length-replicate {A = ℕ} 128 0)) in
    let reached = ap (λ (n : ℕ). take n c.args.chunk.now) c.min-count.ensures ∙ take_min (c.args.m - 1) c.args.chunk.now in
    kept (rw reached at written) (reach-fits c.args.tail.now c.args.chunk.now c.requires.0 c.requires.1)

pub returns : goal.returns
returns c =
    let written = written_then c.copy_in-tail_end.ensures c.copy_in-len.ensures (omega (arith, length-replicate {A = ℕ} 128 0)) in
    let reached = ap (λ (n : ℕ). take n c.args.chunk.now) c.min-count.ensures ∙ take_min (c.args.m - 1) c.args.chunk.now in
    holds (rw reached at written) (reach-fits c.args.tail.now c.args.chunk.now c.requires.0 c.requires.1)
