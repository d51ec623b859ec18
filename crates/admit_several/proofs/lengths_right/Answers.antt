-- `admit_several::lengths_right` meets its contract.
use Rattle.std.proofs.Common.{◌<◌, ◌≤◌, All, IsTrue, ◌↔◌, rules}
use Rattle.jumbled.specs.Refusals.{bad_length}
use Rattle.admit_several.proofs.Selecting.{all-good, length-good, length-not-bad}
use Rattle.admit_several.proofs.lengths_right.Goals as goal

pub returns : goal.returns
returns c =
    let told : IsTrue c.all.result ↔ All (λ m. (0 < m) × (m ≤ 64)) c.args.lengths.now = search rules in
    all-good bad_length (λ m. (0 < m) × (m ≤ 64)) length-good length-not-bad c.args.lengths.now c.all.result told
