-- `table_heap::sum_of` meets its contract. The loop's invariant: the sum is that of the bytes passed.
use Rattle.std.proofs.Common.{ℕ, ◌+◌, ◌%◌, ◌^◌, get_or, take, sym, ap, ◌∙◌, arith}
use Rattle.table_parikh.proofs.Letters.{take_more}
use Rattle.table_heap.specs.Table.{wrapped_sum}
use Rattle.table_heap.proofs.Sums.{sum-nil, sum-snoc}
use Rattle.table_heap.proofs.sum_of.Goals as goal

pub loop-byte-init : goal.loop-byte-init
loop-byte-init c = sym (sum-nil _)

pub loop-byte-preserved : goal.loop-byte-preserved
loop-byte-preserved c =
    let bytes = c.args.bytes.now in
    let i = c.loop-byte.byte-index in
    let value : ℕ → ℕ = λ b. get_or c.args.values.now b 0 in
    ap (λ (n : ℕ). (n + value (get_or bytes i 0)) % 2 ^ 64) c.loop-byte.invariant
    ∙ sym (sum-snoc value (take i bytes) (get_or bytes i 0)) ∙ ap (wrapped_sum value) (take_more bytes i (omega arith))
