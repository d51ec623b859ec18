-- `table_heap::Power::next` meets its contract, by the laws of powers.
use Rattle.std.proofs.Common.{◌∙◌, ◌^◌, rules}
use Rattle.table_heap.proofs.Powers.{power-mod-next, next-largest}
use Rattle.table_heap.proofs.Power.next.Goals as goal

pub returns : goal.returns
returns c i h =
    record {
      value = c.wrapping_mul.ensures.wraps ∙ power-mod-next c.args.base i (2 ^ 64) h.value;
      largest = next-largest c.args.base i c.requires c.args.self.largest _ h.largest (search rules) (search rules);
    }
