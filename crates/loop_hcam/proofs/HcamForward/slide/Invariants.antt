use Rattle.std.proofs.Common.{◌≡◌, refl, ℕ, ◌+◌, ◌-◌, ◌%◌, ◌^◌, ◌<◌, ◌≤◌, Bool, true, false, cond, ◌||◌, eqb, ltb, ◌⊎◌, List, length, get_or, take, drop, set, sym, ◌∙◌, inl, inr, ⊎_elim, arith}
use mir.Val.{bool_byte}
use Rattle.jumbled.specs.Match.{Bytes, lost_hour, window, window_prefix}
use Rattle.jumbled.proofs.Windows.{window-part}
use Rattle.jumbled.specs.Steps.{verified, hcam_judged}
use Rattle.jumbled.proofs.Positions.{hcam-verification}
use Rattle.table_parikh.specs.Table.{allowances}
use Rattle.table_heap.specs.declared.Target.{Target}
use Rattle.table_heap.specs.Table.{HeapTabled}
use Rattle.lent.specs.declared.Range.{Range}
use Rattle.lent.specs.Loops.{Fitting}
use Rattle.loop_forward.proofs.Progress.{Progress, Turn, last_byte, first_byte, by_last, by_first, whole-window, turn-listed, turn-skipped}
use Rattle.loop_hcam.specs.Hashing.{HcamTabled, Summing, Finds}
use Rattle.loop_hcam.proofs.Sums.{lost-there, summing-more, summing-less}
use Rattle.loop_hcam.specs.declared.Finding.{Finding}
use Rattle.loop_hcam.proofs.Judging.{Rightly, judged-none, judged-found}
use Rattle.loop_hcam.proofs.HcamForward.slide.Given as goal

-- What holds before the window at s
pub record Running (P : List ℕ) (m : ℕ) (T : List ℕ) (range : Range) (before after : List ℕ) (sum lost at inspections s : ℕ) : Type 0 where
  pub progress : Progress (hcam_judged P) m T range before after at inspections s
  pub state : Summing P (window_prefix m T s) (record { sum = sum; lost = lost })

-- and in a turn of the loop
pub record Sums (P allowed values : List ℕ) (target : Target) (m : ℕ) (T : List ℕ) (range : Range) (before after : List ℕ) (sum lost at inspections s : ℕ) : Type 0 where
  pub turn : Turn (hcam_judged P) m T range before after at inspections s
  pub sized : length P ≡ m
  pub allows : allowed ≡ allowances P
  pub tabled : HeapTabled P values target
  pub state : Summing P (window_prefix m T s) (record { sum = sum; lost = lost })

module _ {P allowed values : List ℕ} {target : Target} {m : ℕ} {T : List ℕ} {range : Range} {before after : List ℕ} {sum lost at inspections s : ℕ}
    (here : Sums P allowed values target m T range before after sum lost at inspections s) {summed : ℕ}
    (added : summed ≡ (sum + get_or values (get_or T (s + m - 1) 0) 0) % 2 ^ 64) where
  -- the lost hours of the window
  abbrev pub held : ℕ
  held = lost + bool_byte (eqb (get_or T (s + m - 1) 0) lost_hour)

  pub over-window : Summing P (window m T s) (record { sum = summed; lost = held })
  over-window = rw (by_last here.turn) (summing-more here.tabled.entries (last_byte here.turn) here.state added)

  pub kept : {rest : ℕ} → rest < 2 ^ 64 → (rest + get_or values (get_or T s 0) 0) % 2 ^ 64 ≡ summed
      → Summing P (window_prefix m T (s + 1)) (record { sum = rest; lost = held - bool_byte (eqb (get_or T s 0) lost_hour) })
  kept = summing-less here.tabled.entries (first_byte here.turn) (rw (by_first here.turn) at over-window)

  pub there : bool_byte (eqb (get_or T s 0) lost_hour) ≤ held
  there = lost-there (rw (by_first here.turn) at over-window)

  -- what the code finds of it is right: where it may match, and where it does not
  pub found : (ltb 0 held || eqb summed target.sum) ≡ true → {r : Finding} → Finds allowed held target.exact (take (s + m - s) (drop s T)) r
      → Rightly P (window m T s) r.listed r.verification
  found may finds =
      let size = whole-window here.turn in
      judged-found here.tabled over-window here.allows (size ∙ sym here.sized) (omega (arith, size, here.turn.fitting.short)) may
      (rw (window-part m T s) at finds)

  pub none : (ltb 0 held || eqb summed target.sum) ≡ false → Rightly P (window m T s) false 0
  none may-not = judged-none here.tabled over-window may-not

  -- so the search goes on: the window is listed, or it is not
  module _ {listed : Bool} {verification : ℕ} (right : Rightly P (window m T s) listed verification) where
    pub verification-small : verification ≤ 64
    verification-small = omega (arith, right.verifies, hcam-verification P (window m T s), most (verified P (window m T s)))
      where
        most : (t : Bool) → cond t (length P) 0 ≤ 64
        most true = omega (arith, here.sized, here.turn.fitting.short)
        most false = omega arith

    pub on-listed : listed ≡ true → {inspected : ℕ} → inspected ≡ inspections + 1 + verification
        → Progress (hcam_judged P) m T range before (set after at (range.base + s)) (at + 1) inspected (s + 1)
    on-listed yes-listed tally =
        turn-listed here.turn _ (omega (arith, right.verifies)) (omega (arith, verification-small)) (sym right.lists ∙ yes-listed)

    pub on-skipped : listed ≡ false → {inspected : ℕ} → inspected ≡ inspections + 1 + verification
        → Progress (hcam_judged P) m T range before after at inspected (s + 1)
    on-skipped not_listed tally =
        turn-skipped here.turn _ (omega (arith, right.verifies)) (omega (arith, verification-small)) (sym right.lists ∙ not_listed)

-- The loop goes up to `end`, the range's end or, where the list was full, its first window; and while it does a place is free
pub record Bounded (range : Range) (list : List ℕ) (end at s : ℕ) : Type 0 where
  pub within : s ≤ end
  pub inside : end ≤ range.end
  pub free : s < end → at < length list
  pub why : (end ≡ range.end) ⊎ (length list ≤ at)

-- one window further, a place being free where a window is left
pub bounded-next : {range : Range} {list after : List ℕ} {end at next_at s : ℕ} → Bounded range list end at s → s < end
    → (s + 1 < end → next_at < length after) → Bounded range after end next_at (s + 1)
bounded-next b l free =
    record {
      within = omega arith;
      inside = b.inside;
      free = free;
      why = ⊎_elim (λ e. inl e) (λ full. absurd (omega (arith, b.free l))) b.why;
    }

-- and where it ends no window is left, or no place
pub bounded-end : {range : Range} {list : List ℕ} {end at s : ℕ} → Bounded range list end at s → end ≤ s → (range.end ≤ s) ⊎ (length list ≤ at)
bounded-end b h = ⊎_elim (λ e. inl (omega arith)) (λ full. inr full) b.why

-- so it is in a turn
pub sums-of : {sum lost end at inspections s : ℕ} {P allowed values T before after : List ℕ} {target : Target} {range : Range}
    → HcamTabled P allowed values target → Fitting T (length P) range → Bytes T → Running P (length P) T range before after sum lost at inspections s
    → Bounded range after end at s → s < end
    → Sums P allowed values target (length P) T range before after sum lost at inspections s
sums-of tabled fitting bytes running bounds inside =
    record {
      turn = record { fitting = fitting; bytes = bytes; so_far = running.progress; in-loop = omega (arith, bounds.inside); place = bounds.free inside };
      sized = refl;
      allows = tabled.allows;
      tabled = tabled.valued;
      state = running.state;
    }

-- The bound is where the search would go on, no place being missing yet
abbrev pub invariant-loop-s : goal.invariant-loop-s
invariant-loop-s l =
    Running l.self.pattern.now (length l.self.pattern.now) l.text l.fn.range l.initial.list l.list l.sum l.lost l.at l.inspections l.s
    × (Bounded l.fn.range l.list l.s-end l.at l.s × (l.next ≡ l.s-end))
