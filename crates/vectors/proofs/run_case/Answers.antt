-- `vectors::run_case` meets its contract.
use mathlib.Core.Path.{refl}
use Rattle.vectors.proofs.Running.{case-run}
use Rattle.vectors.proofs.run_case.Goals as goal

pub returns-in-Unknown : goal.returns-in-Unknown
returns-in-Unknown c = rw (← c.read_case-case.ensures.stored_case.0, c.in-Unknown.is) refl

pub returns : goal.returns
returns c =
    let read = c.read_case-case.ensures.stored_case in
    case-run _ _ read.0 c.in_default.not-Unknown read.1 (rw c.has_outcome.ensures at c.read_outcome-stored.ensures) c.fill_list.ensures c.make_call-called.ensures
