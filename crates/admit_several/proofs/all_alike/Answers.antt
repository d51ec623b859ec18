-- `admit_several::all_alike` meets its contract.
use Rattle.std.proofs.Common.{◌≡◌, not, eqb, All, IsTrue, ◌↔◌, rules}
use Rattle.admit_several.proofs.Selecting.{all-good, same-good, same-not-bad}
use Rattle.admit_several.proofs.all_alike.Goals as goal

pub returns : goal.returns
returns c =
    let m = c.args.m in
    let told : IsTrue c.all.result ↔ All (λ length. length ≡ m) c.args.lengths.now = search rules in
    all-good (λ x. not (eqb x m)) (λ length. length ≡ m) (same-good m) (same-not-bad m) c.args.lengths.now c.all.result told
