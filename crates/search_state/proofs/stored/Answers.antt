-- `search_state::stored` meets its contract.
use mathlib.Core.Path.{◌∙◌}
use Rattle.search_state.proofs.Padding.{placed-zeros}
use Rattle.search_state.proofs.stored.Goals as goal

pub returns : goal.returns
returns g c = c.copy_in.ensures.filled ∙ placed-zeros _ c.args.source.now
