-- Windows that begin at listed positions, and what their hours come to.
use Rattle.std.specs.Prelude.{◌≡◌, List, map, ℕ, ◌+◌, ◌≤◌, ◌<◌, length, get_or}
use Rattle.jumbled.specs.Refusals.{total}
use Rattle.charge_form.specs.Runs.{marked_by, marked_hours, runs}
use Rattle.charge_form.specs.Charge.{sixes_begun}
use Rattle.charge_runs.specs.declared.Covered.{Covered}

-- Windows of m hours at ascending positions
pub record Coverable (m : ℕ) (listed : List ℕ) : Type 0 where
  pub short : m ≤ 64
  pub ascending : (i j : ℕ) → i < j → j < length listed → get_or listed i 0 < get_or listed j 0

-- They lie in n hours
abbrev pub Within : (m n : ℕ) → List ℕ → Type 0
Within m n listed = (i : ℕ) → i < length listed → get_or listed i 0 + m ≤ n

-- Of any n hours in which they lie: how many the windows mark, and how often six of them are begun in the runs
pub record Covers (m : ℕ) (listed : List ℕ) (r : Covered) : Type 0 where
  pub hours : (n : ℕ) → Within m n listed → r.hours ≡ length (marked_hours (marked_by m listed) n)
  pub sixes : (n : ℕ) → Within m n listed → r.sixes ≡ total (map (λ run. sixes_begun run.hours) (runs (marked_by m listed) n))
