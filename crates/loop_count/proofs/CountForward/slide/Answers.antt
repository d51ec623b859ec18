-- Method 1 over a range: the loop's invariant is that what the windows before s yield is listed, and the state is that of the window at s but its
-- last byte.
use mathlib.Core.Path.{◌≡◌, refl}
use mathlib.Core.Logic.{inl}
use Prim.Native.Nat.{◌+◌}
use native.Mathlib.Omega.{arith}
use lib.ListN.{length}
use Rattle.jumbled.specs.Steps.{count_judged}
use Rattle.loop_forward.proofs.Progress.{progress-none, first_byte, ended}
use Rattle.loop_count.proofs.Counters.{counter-there, excess-there}
use Rattle.loop_count.proofs.CountForward.slide.Invariants.{few, from_first, excess-fits, counter-fits, again-listed, again-skipped, kept, counts-of}
use Rattle.loop_count.proofs.CountForward.slide.Goals.{then-excess-k, else-excess-k}
use Rattle.loop_count.proofs.CountForward.slide.Goals as goal

pub loop-s-init : goal.loop-s-init
loop-s-init c =
    let P = c.args.self.now.pattern.now in (
      record {
        progress = progress-none (count_judged P c.args.self.now.k) (length P) c.args.text.now c.args.range c.args.list.now c.requires.fitting.ordered;
        state = c.requires.kept;
      },
      refl,
    )

pub overflow_add-excess : goal.overflow_add-excess
overflow_add-excess c =
    let here = counts-of c.args.self.now.tabled c.requires.fitting (record { below = λ i. (c.type_inv.text i).fits }) c.loop-s.invariant.0 c.loop-s-test.true c.if-list-at.false in
    record { fits = excess-fits here }

pub overflow_add-counts : goal.overflow_add-counts
overflow_add-counts c =
    let here = counts-of c.args.self.now.tabled c.requires.fitting (record { below = λ i. (c.type_inv.text i).fits }) c.loop-s.invariant.0 c.loop-s-test.true c.if-list-at.false in
    record { fits = counter-fits here }

pub overflow_sub-counts : goal.overflow_sub-counts
overflow_sub-counts c =
    let here = counts-of c.args.self.now.tabled c.requires.fitting (record { below = λ i. (c.type_inv.text i).fits }) c.loop-s.invariant.0 c.loop-s-test.true c.if-list-at.false in
    counter-there (from_first here) (first_byte here.turn)

pub overflow_sub-excess : goal.overflow_sub-excess
overflow_sub-excess c =
    let here = counts-of c.args.self.now.tabled c.requires.fitting (record { below = λ i. (c.type_inv.text i).fits }) c.loop-s.invariant.0 c.loop-s-test.true c.if-list-at.false in
    excess-there (from_first here) (first_byte here.turn) here.known (few here (c.loop-s.s + 1))

pub loop-s-preserved : goal.loop-s-preserved
loop-s-preserved c =
    let here = counts-of c.args.self.now.tabled c.requires.fitting (record { below = λ i. (c.type_inv.text i).fits }) c.loop-s.invariant.0 c.loop-s-test.true c.if-list-at.false in (
      record {
        progress =
            elim c.if-excess-k.branch [
              | then-excess-k w ↦ rw (w.list-is, w.at-is) (again-listed here w.if-excess-k.true)
              | else-excess-k w ↦ rw (w.list-is, w.at-is) (again-skipped here w.if-excess-k.false)
            ];
        state = kept here;
      },
      c.loop-s.invariant.1,
    )

pub returns-after-loop-s : goal.returns-after-loop-s
returns-after-loop-s c =
    let at-end : c.loop-s.s ≡ c.loop-s.next = omega (arith, c.loop-s.invariant.1, c.loop-s.invariant.0.progress.within) in
    let running = rw at-end at c.loop-s.invariant.0 in
    record { searched = ended running.progress (inl (omega (arith, c.loop-s.invariant.1))); kept = running.state }
