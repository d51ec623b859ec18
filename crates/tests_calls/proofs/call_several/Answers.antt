-- `tests_calls::call_several` meets its contract.
use mathlib.Core.Path.{◌≡◌}
use mathlib.Core.List.{List, ◌++◌}
use Prim.Native.Nat.{ℕ}
use Rattle.table_parikh.specs.Table.{tabulate}
use Rattle.several.specs.Whole.{WholeSeveral}
use Rattle.tests_stream.specs.Fillings.{known_place}
use Rattle.tests_stream.specs.Patterns.{lent_places, length_count, length_at, pattern_bytes}
use Rattle.tests_stream.proofs.Filling.{filled-part}
use Rattle.tests_outcomes.specs.Digests.{digest, list_bytes}
use Rattle.tests_outcomes.specs.declared.Outcome.{Outcome}
use Rattle.tests_calls.specs.Calls.{Came, answer_outcome, SeveralMade}
use Rattle.tests_calls.proofs.call_several.Goals as goal

-- what was handed to the search, and the list that was filled for it, are the case's
several-made : (handed : List ℕ) {k count places : ℕ} {T before after bytes lengths filled numbers : List ℕ} {got : Outcome}
    → bytes ≡ pattern_bytes handed → lengths ≡ tabulate count (length_at handed) → count ≡ length_count handed
    → filled ≡ tabulate places known_place → places ≡ lent_places handed
    → Came (WholeSeveral bytes lengths k T before after filled numbers) (answer_outcome (digest 0 (list_bytes after ++ list_bytes numbers))) got
    → SeveralMade handed k T before after got
several-made handed bytes lengths count filled places came =
    record { numbers = _; came = rw (bytes, lengths, count, filled, places) at came }

pub returns : goal.returns
returns c =
    several-made _ c.pattern_bytes.ensures (filled-part c.read_lengths-count.ensures.filled) c.read_lengths-count.ensures.value
    (filled-part c.fill_list.ensures) c.lent_places-places.ensures.value c.several_into.ensures
