-- Outcomes, where the stream has them, and when two are the same (tools/vectors_stream.py).
use Rattle.std.specs.Prelude.{Bool, cond, ◌&&◌, List, ℕ, eqb}
use Rattle.tests_stream.specs.Reading.{number_at}
use Rattle.tests_outcomes.specs.declared.Outcome.{Outcome}
use Rattle.tests_outcomes.specs.declared.StoredOutcome.{StoredOutcome}

-- The outcome of these four numbers
abbrev pub outcome_of : ℕ → ℕ → ℕ → ℕ → Outcome
outcome_of number a b digest = record { number = number; a = a; b = b; digest = digest }

-- An outcome and the place after it
abbrev pub stored_with : Outcome → ℕ → StoredOutcome
stored_with outcome next = record { outcome = outcome; next = next }

-- The outcome that the 17 bytes at a place write: "u8 refusal number (0 if accepted), u32 a, u32 b, u64 digest"
unfoldable pub outcome_at : List ℕ → ℕ → StoredOutcome
outcome_at stream at =
    let number = number_at stream at 1 255 in
    let a = number_at stream number.next 4 4294967295 in
    let b = number_at stream a.next 4 4294967295 in
    let digest = number_at stream b.next 8 18446744073709551615 in
    stored_with (outcome_of number.value a.value b.value digest.value) digest.next

-- The outcome after a case, which not every kind has
abbrev pub outcome_after : List ℕ → ℕ → Bool → StoredOutcome
outcome_after stream at stored = cond stored (outcome_at stream at) (stored_with (outcome_of 0 0 0 0) at)

-- All four are the same
abbrev pub same_outcome : Outcome → Outcome → Bool
same_outcome x y = eqb x.number y.number && eqb x.a y.a && eqb x.b y.b && eqb x.digest y.digest
