-- `tests_calls::call_marked` meets its contract.
use mathlib.Core.Path.{◌≡◌}
use mathlib.Core.List.{List, ◌++◌}
use Prim.Native.Nat.{ℕ}
use Rattle.table_parikh.specs.Table.{tabulate}
use Rattle.sheet.specs.Whole.{WholeSheet}
use Rattle.tests_stream.specs.Fillings.{known_byte}
use Rattle.tests_stream.specs.Patterns.{lent_places, marked_pattern}
use Rattle.tests_stream.proofs.Filling.{filled-part}
use Rattle.tests_outcomes.specs.Digests.{list_bytes}
use Rattle.tests_outcomes.specs.declared.Outcome.{Outcome}
use Rattle.tests_calls.specs.Calls.{Came, sheet_outcome, MarkedMade}
use Rattle.tests_calls.proofs.call_marked.Goals as goal

-- the pattern that was handed to the search, and the buffer that was filled for it, are the case's
marked-made : (handed : List ℕ) {k method room : ℕ} {T before after pattern filled buffer : List ℕ} {got : Outcome}
    → pattern ≡ marked_pattern handed → filled ≡ tabulate room known_byte → room ≡ lent_places handed
    → Came (WholeSheet pattern k method T before after filled buffer) (sheet_outcome (list_bytes after ++ buffer)) got
    → MarkedMade handed k method T before after got
marked-made handed pattern filled room came = record { buffer = _; came = rw (pattern, filled, room) at came }

pub returns : goal.returns
returns c =
    marked-made _ c.marked_pattern.ensures (filled-part c.fill_buffer.ensures) c.lent_places-room.ensures.value
    c.marked_into.ensures
