-- What the runs cost, and when a rate is refused: document 02, T-10.
use Rattle.std.specs.Prelude.{ℕ, ◌+◌, ◌*◌, ◌/◌, List, [], ◌∷◌, ◌++◌, map, ltb, length}
use Rattle.jumbled.specs.Refusals.{Test, test, whole_tests, total}
use Rattle.charge_form.specs.Runs.{marked, Run, runs}

-- How often six hours are begun in so many: a sixth, rounded up
abbrev pub sixes_begun : ℕ → ℕ
sixes_begun hours = (hours + 5) / 6

-- A run costs the rate for every six hours begun
abbrev pub cost : ℕ → Run → ℕ
cost rate run = rate * sixes_begun run.hours

-- The charge for runs is the sum of what each of them costs
unfoldable pub charge_for : ℕ → List Run → ℕ
charge_for rate rs = total (map (cost rate) rs)

-- The charge for a text: for the runs of the hours that its search marks
unfoldable pub charge : List ℕ → ℕ → List ℕ → ℕ → ℕ
charge P k T rate = charge_for rate (runs (marked P k T) (length T))

-- 17, of a rate in cents
unfoldable pub rate_tests : ℕ → List Test
rate_tests rate = test 17 (ltb 100000 rate) ∷ []

-- A whole search and its charge: those of whole search, then 17
unfoldable pub charge_tests : List ℕ → ℕ → ℕ → (bytes places rate : ℕ) → List Test
charge_tests P k method bytes places rate = whole_tests P k method bytes places ++ rate_tests rate
