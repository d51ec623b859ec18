-- `search::Search::saved` meets its contract.
use Rattle.std.proofs.Common.{sym}
use Rattle.std.proofs.lemmas.Result.{err_from_is_err_and}
use Rattle.search.proofs.Handed.{sound, tail-fits}
use Rattle.search.proofs.Images.{saved-refused, saved-parts}
use Rattle.search.proofs.Search.saved.Goals as goal

pub returns-in_err-checked : goal.returns-in_err-checked
returns-in_err-checked c =
    let refused = err_from_is_err_and c.from_residual.result c.from_residual.ensures.1 in
    rw (refused.1, refused.2) (saved-refused c.args.self.now c.args.buffer.now _ c.in_err-checked.ensures.number)

pub own_pattern-requires : goal.own_pattern-requires
own_pattern-requires c = (sound c.args.self.now (sym c.in_ok-checked.ensures.number)).short

pub own_tail-requires : goal.own_tail-requires
own_tail-requires c = tail-fits (sound c.args.self.now (sym c.in_ok-checked.ensures.number))

pub returns : goal.returns
returns c =
    saved-parts c.args.self.now c.args.buffer.now (sym c.in_ok-checked.ensures.number) _ c.save_parts.result
    (rw (c.own_pattern.ensures, c.own_tail.ensures) at c.save_parts.ensures)
