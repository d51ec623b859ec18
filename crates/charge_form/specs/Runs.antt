-- The hours that listed windows cover, and the runs that these hours make up: document 02, T-10. An hour is a position of the text.
use Rattle.std.specs.Prelude.{ℕ, zero, suc, ◌+◌, ◌-◌, Bool, cond, not, ◌&&◌, List, map, leb, ltb, length}
use Rattle.jumbled.specs.Match.{select, positions}
use Rattle.jumbled.specs.Refusals.{any_of}

-- The hour h is in the window of m hours that begins at s
abbrev pub in_window : (m h s : ℕ) → Bool
in_window m h s = leb s h && ltb h (s + m)

-- It is in at least one window of m hours that begins at one of these positions
unfoldable pub marked_by : ℕ → List ℕ → ℕ → Bool
marked_by m listed h = any_of (in_window m h) listed

-- A search marks the hours of the windows that it lists
unfoldable pub marked : List ℕ → ℕ → List ℕ → ℕ → Bool
marked P k T h = marked_by (length P) (positions P k T) h

-- Of n hours those that are marked, ascending
abbrev pub marked_hours : (ℕ → Bool) → ℕ → List ℕ
marked_hours marks n = select marks 0 n

-- How many hours from h on are marked up to the first one that is not, where `left` hours are left
unfoldable pub stretch : (ℕ → Bool) → ℕ → ℕ → ℕ
stretch marks h zero = 0
stretch marks h (suc left) = cond (marks h) (suc (stretch marks (suc h) left)) 0

-- A run begins with a marked hour that has no marked hour right before it
unfoldable pub begins : (ℕ → Bool) → ℕ → Bool
begins marks zero = marks zero
begins marks (suc h) = marks (suc h) && not (marks h)

-- A run, by its first hour and the number of its hours
pub record Run : Type 0 where
  pub first : ℕ
  pub hours : ℕ

-- The run that begins with the hour h goes on as long as the n hours are marked
abbrev pub run_from : (ℕ → Bool) → ℕ → ℕ → Run
run_from marks n h = record { first = h; hours = stretch marks h (n - h) }

-- The runs of n hours, ascending
unfoldable pub runs : (ℕ → Bool) → ℕ → List Run
runs marks n = map (run_from marks n) (select (begins marks) 0 n)
