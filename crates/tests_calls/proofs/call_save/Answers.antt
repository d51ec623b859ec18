-- `tests_calls::call_save` meets its contract.
use Rattle.tests_stream.proofs.Filling.{filled-part}
use mathlib.Core.Path.{◌≡◌}
use mathlib.Core.List.{List}
use Prim.Native.Nat.{ℕ, min}
use Rattle.table_parikh.specs.Table.{tabulate}
use Rattle.tests_stream.specs.Fillings.{known_byte}
use Rattle.search.specs.declared.Search.{Search}
use Rattle.search.specs.Calls.{Saves}
use Rattle.tests_calls.specs.declared.Called.{Called}
use Rattle.tests_calls.specs.Calls.{Came, save_called, SaveMade, known_buffer}
use Rattle.tests_calls.proofs.call_save.Goals as goal

-- the buffer that was saved into is the one that was filled
save-made : (places : ℕ) {room : ℕ} {s : Search} {before after : List ℕ} {called : Called}
    → before ≡ tabulate room known_byte → room ≡ min places 512
    → Came (Saves s before after) (save_called after) called → SaveMade s (known_buffer places) called
unfolding known_buffer
save-made places filled least came = record { after = _; came = rw (filled, least) at came }

pub returns : goal.returns
returns c =
    save-made _ (filled-part c.fill_buffer.ensures) c.min-room.ensures c.save_into.ensures
