-- Method 5 over a range: the loop's invariant is that what the windows before s yield is listed, and the sum and the lost hours are those of the
-- window at s but its last byte.
use Rattle.std.proofs.Common.{◌≡◌, ◌+◌, ◌-◌, eqb, get_or, length, sym, refl, ◌∙◌, inl, inr, arith, length-set}
use Rattle.jumbled.specs.Match.{Bytes, lost_hour}
use Rattle.jumbled.specs.Steps.{hcam_judged}
use Rattle.table_parikh.proofs.Lost.{byte_le}
use Rattle.loop_forward.proofs.Progress.{progress-none, prefix-short, ended}
use Rattle.loop_hcam.proofs.Sums.{lost-few}
use Rattle.loop_hcam.proofs.HcamForward.slide.Invariants.{kept, there, found, none, on-listed, on-skipped, bounded-next, bounded-end, sums-of}
use Rattle.loop_hcam.proofs.HcamForward.slide.Goals.{then-at-list, else-at-list, then-may_match+then-finding+else-at-list-2, then-may_match+else-finding, else-may_match}
use Rattle.loop_hcam.proofs.HcamForward.slide.Goals as goal

pub loop-s-init : goal.loop-s-init
loop-s-init c =
    let P = c.args.self.now.pattern.now in (
      record {
        progress = progress-none (hcam_judged P) (length P) c.args.text.now c.args.range c.args.list.now c.requires.fitting.ordered;
        state = c.requires.kept;
      },
      (
        elim c.if-at-list.branch [
          | then-at-list w ↦
              record {
                within = omega (arith, w.next-is, c.requires.fitting.ordered);
                inside = omega (arith, w.next-is);
                free = λ l. w.if-at-list.true;
                why = inl w.next-is;
              }
          | else-at-list w ↦
              record {
                within = omega (arith, w.next-is);
                inside = omega (arith, w.next-is, c.requires.fitting.ordered);
                free = λ l. absurd (omega (arith, w.next-is));
                why = inr w.if-at-list.false;
              }
        ],
        refl,
      ),
    )

pub overflow_add-lost : goal.overflow_add-lost
overflow_add-lost c =
    let bytes : Bytes c.args.text.now = record { below = λ i. (c.type_inv.text i).fits } in
    let here = sums-of c.args.self.now.tabled c.requires.fitting bytes c.loop-s.invariant.0 c.loop-s.invariant.1.0 c.loop-s-test.true in
    omega (
      arith,
      lost-few here.state,
      prefix-short here.turn,
      byte_le (eqb (get_or c.args.text.now (c.loop-s.s + length c.args.self.now.pattern.now - 1) 0) lost_hour),
    )

pub overflow_sub-lost : goal.overflow_sub-lost
overflow_sub-lost c =
    let bytes : Bytes c.args.text.now = record { below = λ i. (c.type_inv.text i).fits } in
    let here = sums-of c.args.self.now.tabled c.requires.fitting bytes c.loop-s.invariant.0 c.loop-s.invariant.1.0 c.loop-s-test.true in
    there here refl

-- the same where the search goes on
pub overflow_sub-lost-in-loop-s : goal.overflow_sub-lost-in-loop-s
overflow_sub-lost-in-loop-s c =
    let bytes : Bytes c.args.text.now = record { below = λ i. (c.type_inv.text i).fits } in
    let here = sums-of c.args.self.now.tabled c.requires.fitting bytes c.loop-s.invariant.0 c.loop-s.invariant.1.0 c.loop-s-test.true in
    there here refl

pub loop-s-preserved : goal.loop-s-preserved
loop-s-preserved c =
    let bytes : Bytes c.args.text.now = record { below = λ i. (c.type_inv.text i).fits } in
    let loop = c.loop-s in
    let bounds = loop.invariant.1.0 in
    let here = sums-of c.args.self.now.tabled c.requires.fitting bytes loop.invariant.0 bounds c.loop-s-test.true in
    let told = c.may_match.ensures in
    let same = length-set loop.list loop.at (c.args.range.base + loop.s) in
    let free = bounds.free c.loop-s-test.true in (
      record {
        -- the search goes on once the window was judged
        progress =
            elim c.if-may_match.branch [
              | then-may_match+then-finding+else-at-list-2 w ↦ rw (w.list-is, w.at-is)
                  (on-listed here refl (found here refl (sym told ∙ w.if-may_match.true) w.judge-finding.ensures) w.if-finding.true w.inspections-is)
              | then-may_match+else-finding w ↦ rw (w.list-is, w.at-is)
                  (on-skipped here refl (found here refl (sym told ∙ w.if-may_match.true) w.judge-finding.ensures) w.if-finding.false w.inspections-is)
              | else-may_match w ↦ rw (w.list-is, w.at-is)
                  (on-skipped here refl (none here refl (sym told ∙ w.if-may_match.false)) refl (w.inspections-is ∙ omega arith))
            ];
        -- and the first byte has left the window
        state = kept here refl (omega arith) (omega arith);
      },
      (
        bounded-next bounds c.loop-s-test.true
            (λ further.
            elim c.if-may_match.branch [
              | then-may_match+then-finding+else-at-list-2 w ↦ rw (w.list-is, w.at-is) (omega (arith, same, free, w.if-at-list-2.false))
              | then-may_match+else-finding w ↦ rw (w.list-is, w.at-is) free
              | else-may_match w ↦ rw (w.list-is, w.at-is) free
            ]),
        loop.invariant.1.1,
      ),
    )

pub returns-after-loop-s : goal.returns-after-loop-s
returns-after-loop-s c =
    let bounds = c.loop-s.invariant.1.0 in
    let at-end : c.loop-s.s ≡ c.loop-s.next = omega (arith, c.loop-s.invariant.1.1, bounds.within) in
    let running = rw at-end at c.loop-s.invariant.0 in
    record { searched = ended running.progress (rw at-end at (bounded-end bounds c.loop-s-test.false)); kept = running.state }

-- the last place is taken
pub returns-then-at-list-2 : goal.returns-then-at-list-2
returns-then-at-list-2 c =
    let bytes : Bytes c.args.text.now = record { below = λ i. (c.type_inv.text i).fits } in
    let here = sums-of c.args.self.now.tabled c.requires.fitting bytes c.loop-s.invariant.0 c.loop-s.invariant.1.0 c.loop-s-test.true in
    let right = found here refl (sym c.may_match.ensures ∙ c.if-may_match.true) c.judge-finding.ensures in
    record {
      searched = ended (on-listed here refl right c.if-finding.true refl) (inr (omega (arith, c.if-at-list-2.true)));
      kept = kept here refl (omega arith) (omega arith);
    }
