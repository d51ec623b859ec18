-- `search_state::next_tail` meets its contract: the last bytes lie in the chunk, or in the tail and the whole chunk.
use mathlib.Core.Path.{◌≡◌, refl, sym, ap, ◌∙◌}
use mathlib.Core.List.{List, ◌++◌}
use Prim.Native.Nat.{ℕ, ◌+◌, ◌-◌, ◌≤◌}
use native.Mathlib.Omega.{arith}
use lib.ListN.{length, take, drop, length-drop, length-replicate}
use Rattle.lent.proofs.Writing.{written_then}
use Rattle.search_state.specs.Stored.{padded}
use Rattle.search_state.proofs.Padding.{placed-zeros, part-all, last-both}
use Rattle.search_state.proofs.next_tail.Goals as goal

pub returns : goal.returns
returns c =
    let args = c.args in
    let from = length args.tail.now + length args.chunk.now - args.keep in
    let old : List ℕ = take (length args.tail.now - from) (drop from args.tail.now) in
    let same : old ≡ drop from args.tail.now = part-all (length args.tail.now - from) from args.tail.now refl in
    let room : length old ≤ 63 = omega (arith, ap length same, length-drop from args.tail.now) in
    (written_then c.copy_in-at.ensures c.copy_in.ensures (omega (arith, length-replicate {A = ℕ} 63 0))).filled
    ∙ placed-zeros 63 (old ++ args.chunk.now)
    ∙ ap (padded 63) (ap (λ (l : List ℕ). l ++ args.chunk.now) same ∙ sym (last-both args.tail.now args.chunk.now args.keep c.if-keep-chunk.false c.requires.1))
