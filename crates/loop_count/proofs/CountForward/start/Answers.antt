-- Method 1 before a text's first window: the loop's invariant is that the state is that of the bytes passed.
use mathlib.Core.List.{List}
use Prim.Native.Nat.{ℕ, ◌-◌}
use native.Mathlib.Omega.{arith}
use lib.Dec.{leb}
use lib.ListN.{length, get_or, take, length-take}
use lib.Seq.{take_all, length-take-le}
use Rattle.jumbled.specs.Match.{Bytes}
use Rattle.jumbled.proofs.Counts.{bytes_take}
use Rattle.table_parikh.proofs.Letters.{take_more}
use Rattle.loop_count.proofs.Counters.{counting-none, counting_more, counter-room, excess-room}
use Rattle.loop_count.proofs.CountForward.start.Goals as goal

pub loop-byte-init : goal.loop-byte-init
loop-byte-init c = counting-none c.args.self.now.pattern.now

pub overflow_add-excess : goal.overflow_add-excess
overflow_add-excess c =
    let taken : List ℕ = take (length c.args.self.now.pattern.now - 1) c.args.text.now in
    let bytes : Bytes taken = bytes_take (length c.args.self.now.pattern.now - 1) c.args.text.now (record { below = λ i. (c.type_inv.text i).fits }) in
    let i = c.loop-byte.byte-index in
    let entering = get_or taken i 0 in
    omega (
      arith,
      excess-room c.loop-byte.invariant (bytes_take i taken bytes) (leb (get_or c.args.self.now.allowed.now entering 0) (get_or c.loop-byte.counts entering 0)),
      length-take i taken,
    )

pub overflow_add-counts : goal.overflow_add-counts
overflow_add-counts c =
    let taken : List ℕ = take (length c.args.self.now.pattern.now - 1) c.args.text.now in
    let bytes : Bytes taken = bytes_take (length c.args.self.now.pattern.now - 1) c.args.text.now (record { below = λ i. (c.type_inv.text i).fits }) in
    let i = c.loop-byte.byte-index in
    omega (
      arith,
      counter-room c.loop-byte.invariant (bytes.below i),
      length-take i taken,
      length-take (length c.args.self.now.pattern.now - 1) c.args.text.now,
      c.args.self.now.tabled.short,
    )

pub loop-byte-preserved : goal.loop-byte-preserved
loop-byte-preserved c =
    let P = c.args.self.now.pattern.now in
    let taken : List ℕ = take (length P - 1) c.args.text.now in
    let bytes : Bytes taken = bytes_take (length P - 1) c.args.text.now (record { below = λ i. (c.type_inv.text i).fits }) in
    let i = c.loop-byte.byte-index in
    rw (take_more taken i c.loop-byte-test.true) at
    (counting_more c.loop-byte.invariant c.args.self.now.tabled.allows
    (omega (arith, length-take i taken, length-take (length P - 1) c.args.text.now, c.args.self.now.tabled.short)) (bytes.below i))

pub returns : goal.returns
returns c =
    let P = c.args.self.now.pattern.now in
    let taken : List ℕ = take (length P - 1) c.args.text.now in
    record {
      kept = rw (take_all c.loop-byte.byte-index taken c.loop-byte-test.false) at c.loop-byte.invariant;
      inspected = length-take-le (length P - 1) c.args.text.now c.requires;
    }
