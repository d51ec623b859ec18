-- `program_request::parted` meets its contract.
use Rattle.std.proofs.Common.{sym, ◌∙◌}
use Rattle.program_request.proofs.Cuts.{none-found, one-found}
use Rattle.program_request.proofs.parted.Goals as goal

pub returns-in_err-at : goal.returns-in_err-at
returns-in_err-at c = rw c.from_residual.ensures (none-found c.args.sought c.args.bytes.now (sym c.in_err-at.was ∙ c.find.ensures))

pub returns : goal.returns
returns c = (one-found c.args.sought c.args.bytes.now (sym c.in_ok-at.was ∙ c.find.ensures)).cut
