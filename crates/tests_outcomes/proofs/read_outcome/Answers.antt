-- `tests_outcomes::read_outcome` meets its contract.
use mathlib.Core.Path.{◌≡◌}
use mathlib.Core.Bool.{Bool, true}
use mathlib.Core.List.{List}
use Prim.Native.Nat.{ℕ}
use Rattle.tests_stream.specs.declared.Number.{Number}
use Rattle.tests_stream.specs.Reading.{number_at}
use Rattle.tests_outcomes.specs.Outcomes.{outcome_of, stored_with, outcome_after, outcome_at}
use Rattle.tests_outcomes.proofs.read_outcome.Goals as goal

-- the four numbers, each read where the one before it ends
chained : (stream : List ℕ) (at : ℕ) (stored : Bool) {n a b d : Number} → stored ≡ true
    → n ≡ number_at stream at 1 255
    → a ≡ number_at stream n.next 4 4294967295
    → b ≡ number_at stream a.next 4 4294967295
    → d ≡ number_at stream b.next 8 18446744073709551615
    → stored_with (outcome_of n.value a.value b.value d.value) d.next ≡ outcome_after stream at stored
unfolding outcome_at
chained stream at stored h en ea eb ed = rw (h, ed, eb, ea, en)

pub returns : goal.returns
returns c =
    let stored = c.args.stored in
    chained _ _ stored c.if-not-stored.false c.read_number-number.ensures.value
    c.read_number-a.ensures.value c.read_number-b.ensures.value c.read_number-digest.ensures.value
