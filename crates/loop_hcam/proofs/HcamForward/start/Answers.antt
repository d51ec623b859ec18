-- Method 5 before a text's first window: the bytes summed, and those looked through for lost hours, are the first m - 1.
use mathlib.Core.Path.{◌∙◌}
use Prim.Native.Nat.{◌-◌}
use lib.ListN.{length, take}
use lib.Seq.{length-take-le}
use Rattle.jumbled.proofs.Counts.{bytes_take}
use Rattle.table_heap.proofs.Sums.{table-sum}
use Rattle.loop_hcam.proofs.HcamForward.start.Goals as goal

pub returns : goal.returns
returns c =
    let P = c.args.self.now.pattern.now in
    let T = c.args.text.now in
    record {
      kept =
          record {
            sums =
                c.sum_of.ensures
                ∙ table-sum P c.args.self.now.tabled.valued.entries (take (length P - 1) T)
                (bytes_take (length P - 1) T (record { below = λ i. (c.type_inv.text i).fits }));
            holds-lost = c.lost_hours.ensures;
          };
      inspected = length-take-le (length P - 1) T c.requires;
    }
