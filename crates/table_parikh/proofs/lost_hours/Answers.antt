-- `table_parikh::lost_hours` meets its contract.
use Rattle.std.proofs.Common.{◌≡◌, count_by, eqb, sym, ◌∙◌, rules}
use Rattle.table_parikh.proofs.Lost.{lost-counted}
use Rattle.jumbled.specs.Match.{lost_hour}
use Rattle.table_parikh.proofs.lost_hours.Goals as goal

pub returns : goal.returns
returns c =
    let counted : c.count.result ≡ count_by (λ b. eqb b lost_hour) c.args.bytes.now = search rules in
    counted ∙ sym (lost-counted c.args.bytes.now)
