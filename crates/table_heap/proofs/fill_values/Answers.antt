-- `table_heap::fill_values` meets its contract. The loop's invariant: the table holds the values of the bytes passed, and 0 for the others, and the
-- power is that of their rank.
use Rattle.std.proofs.Common.{◌≡◌, ℕ, ◌+◌, ◌^◌, ◌≤◌, leb, List, length, get_or, sym, ap, ◌∙◌, arith}
use Rattle.jumbled.specs.Match.{cc}
use Rattle.jumbled.specs.Heap.{rank, heap_value}
use Rattle.jumbled.proofs.Ranks.{rank_below, rank-above, heap_value-none, exact-rank}
use Rattle.table_parikh.proofs.Parikh.{get_or-parikh}
use Rattle.table_parikh.proofs.Filled.{filled-below, filled-above}
use Rattle.table_heap.proofs.Powers.{power_zero, within-bound}
use Rattle.table_heap.proofs.Sums.{table-sum}
use Rattle.table_heap.proofs.fill_values.Invariants.{running-some, running_none}
use Rattle.table_heap.proofs.fill_values.Goals.{then-counts-byte-gt0, else-counts-byte-gt0}
use Rattle.table_heap.proofs.fill_values.Goals as goal

pub loop-byte-init : goal.loop-byte-init
loop-byte-init c =
    let P = c.args.pattern.now in
    let span = c.span_of-span.ensures in
    let low = c.span_of-span.result.low in
    record {
      entries = c.requires.empty ∙ filled-below 256 (heap_value P) 0 low (λ i l. heap_value-none P i (span.below i l));
      running = rw (rank_below P low span.below) (power_zero (length P + 1));
    }

pub loop-byte-preserved : goal.loop-byte-preserved
loop-byte-preserved c =
    let P = c.args.pattern.now in
    let loop = c.loop-byte in
    -- the counter that is tested
    let counter : get_or c.args.counts.now loop.byte 0 ≡ cc P loop.byte =
    ap (λ (l : List ℕ). get_or l loop.byte 0) c.requires.pattern-counts
    ∙ get_or-parikh P loop.byte (omega (arith, c.span_of-span.ensures.bytes)) in
    elim c.if-counts-byte-gt0.branch [
      | then-counts-byte-gt0 w ↦ rw (w.values-is, w.power-is)
          (running-some P loop.values loop.power loop.byte loop.invariant (omega arith) w.next-power.result w.next-power.ensures)
      | else-counts-byte-gt0 w ↦ rw (w.values-is, w.power-is)
          (running_none P loop.values loop.power loop.byte loop.invariant (omega arith))
    ]

pub returns : goal.returns
returns c =
    let P = c.args.pattern.now in
    let loop = c.loop-byte in
    let span = c.span_of-span.ensures in
    let past = c.span_of-span.result.past in
    let none : (i : ℕ) → loop.byte ≤ i → cc P i ≡ 0 = λ i l. span.above i (omega arith) in
    let filled = loop.invariant.entries ∙ filled-above 256 (heap_value P) 0 loop.byte (λ i l. heap_value-none P i (none i l)) in
    record {
      entries = filled;
      own-sum = c.sum_of.ensures ∙ table-sum P filled P (record { below = λ i. (c.type_inv.pattern i).fits });
      exact =
          c.is_some.ensures
          ∙ within-bound (length P + 1) (rank P loop.byte) loop.power.largest loop.invariant.running.largest
          ∙ ap (λ (n : ℕ). leb ((length P + 1) ^ n) (2 ^ 64))
          (rank-above P past span.above loop.byte (omega arith) ∙ sym (rank-above P past span.above 256 span.bytes))
          ∙ sym (exact-rank P);
    }
