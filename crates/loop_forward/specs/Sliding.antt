-- What a forward method says of its state, before a text's first window and over a range of windows: document 01, "The five methods", 1 and 5.
-- `keeps U state` is what the method says of a state that is that of the bytes U.
use Rattle.std.specs.Prelude.{◌≡◌, List, ℕ, ◌-◌}
use Rattle.jumbled.specs.Match.{window_prefix}
use Rattle.jumbled.specs.Scan.{Judged}
use Rattle.lent.specs.declared.Range.{Range}
use Rattle.lent.specs.Loops.{Fitting}
use Rattle.loop_forward.specs.Windows.{Ended}
use Rattle.loop_forward.specs.declared.Started.{Started}
use Rattle.loop_forward.specs.declared.Slid.{Slid}

-- The state is that of the first window but its last byte, each byte inspected once
pub record Begun {S : Type 0} (keeps : List ℕ → S → Type 0) (m : ℕ) (T : List ℕ) (r : Started S) : Type 0 where
  pub kept : keeps (window_prefix m T 0) r.state
  pub inspected : r.inspections ≡ m - 1

-- The state is that of the range's first window but its last byte
pub record Slidable {S : Type 0} (keeps : List ℕ → S → Type 0) (m : ℕ) (T : List ℕ) (state : S) (range : Range) : Type 0 where
  pub fitting : Fitting T m range
  pub kept : keeps (window_prefix m T range.first) state

-- and after the search that of the next one
pub record SlidOver {S : Type 0} (keeps : List ℕ → S → Type 0) (judged : List ℕ → Judged) (m : ℕ) (T : List ℕ) (range : Range) (before after : List ℕ) (r : Slid S) : Type 0 where
  pub searched : Ended judged m T range before after r.next r.at r.inspections
  pub kept : keeps (window_prefix m T r.next) r.state
