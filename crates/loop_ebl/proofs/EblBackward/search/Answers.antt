-- The `search` of `loop_ebl::Ebl` meets its contract: the outer loop's invariant is that the windows before s are done, the inner one's that the
-- bytes of the window at s from p on occur in the pattern. Assumes nothing.
use mathlib.Core.Logic.{inl}
use mathlib.Core.Bool.{Bool}
use mathlib.Core.Path.{◌≡◌, sym, ◌∙◌}
use mathlib.Core.List.{List}
use Prim.Native.Nat.{ℕ, ◌+◌, ◌-◌, ◌≤◌, ◌<◌}
use native.Mathlib.Omega.{arith}
use lib.ListN.{length}
use Rattle.jumbled.specs.Match.{matches, window as window_of}
use Rattle.jumbled.specs.Steps.{ebl_scan}
use Rattle.jumbled.proofs.Windows.{window-part, window-whole}
use Rattle.table_parikh.proofs.Excess.{within-matches}
use Rattle.lent.specs.declared.Range.{Range}
use Rattle.lent.specs.Loops.{Fitting}
use Rattle.loop_backward.proofs.Windows.{Going, going-first, going_end}
use Rattle.loop_ebl.proofs.Reading.{Window, told, window-upto, inner_first, inner-on, inner-stop, inner-listed, inner-passed}
use Rattle.loop_ebl.proofs.EblBackward.search.Goals as goal
use Rattle.loop_ebl.proofs.EblBackward.search.Goals.{then-within, else-within}

-- a window is begun
begun : {P T : List ℕ} {range : Range} {before after : List ℕ} {s at inspections : ℕ}
    → Fitting T (length P) range → Going (ebl_scan P) (length P) T range before s at inspections after
    → s < range.end → at < length after
    → Window P T range before s at inspections after
begun fitting going inside place =
    record {
      fitting = fitting;
      going = going;
      inside = inside;
      place = place;
    }

pub windows-init : goal.windows-init
windows-init c = going-first _ _ _ _ _ c.requires.ordered

pub loop-p-init : goal.loop-p-init
loop-p-init c =
    let w = begun c.requires c.windows.invariant c.windows-test.true c.if-at-list.true in
    (inner_first w)

pub windows-preserved-then-not-occurs-text : goal.windows-preserved-then-not-occurs-text
windows-preserved-then-not-occurs-text c =
    let w = begun c.requires c.windows.invariant c.windows-test.true c.if-at-list.true in
    inner-stop w c.loop-p.invariant (omega arith)
    (told c.args.self.now.pattern_bytes (omega (arith, c.type_inv.text (c.loop-p.p - 1))) c.if-not-occurs-text.true)

pub loop-p-preserved : goal.loop-p-preserved
loop-p-preserved c =
    let w = begun c.requires c.windows.invariant c.windows-test.true c.if-at-list.true in
    inner-on w c.loop-p.invariant (omega arith)
    (told c.args.self.now.pattern_bytes (omega (arith, c.type_inv.text (c.loop-p.p - 1))) c.if-not-occurs-text.false)

pub windows-preserved : goal.windows-preserved
windows-preserved c =
    let w = begun c.requires c.windows.invariant c.windows-test.true c.if-at-list.true in
    let i = c.loop-p.invariant in
    let P : List ℕ = c.args.self.now.pattern.now in
    let m : ℕ = length P in
    let part = window-part m c.args.text.now c.loop-p.s in
    let whole : c.loop-p.s + m ≤ length c.args.text.now = omega (arith, i.same, window-upto w) in
    -- the verification's answer tells whether the window matches
    let short : length (window_of m c.args.text.now c.loop-p.s) < 255 =
    omega (arith, window-whole m c.args.text.now c.loop-p.s whole, c.requires.short) in
    let verdict : (t : Bool) → c.within.result ≡ t → matches P 0 (window_of (length P) c.args.text.now c.windows.s) ≡ t =
    λ t e.
    rw (← i.same, ← part)
    (sym (within-matches P _ (rw part short) c.args.self.now.allows) ∙ sym c.within.ensures ∙ e) in
    elim c.if-within.branch [
      | then-within listed ↦
          rw (listed.list-is, listed.at-is, listed.position.ensures)
          (inner-listed w i (omega arith) (verdict _ listed.if-within.true))
      | else-within passed ↦
          rw (passed.list-is, passed.at-is)
          (inner-passed w i (omega arith) (verdict _ passed.if-within.false))
    ]

pub returns-after-windows : goal.returns-after-windows
returns-after-windows c = (going_end c.windows.invariant (inl c.windows-test.false))
