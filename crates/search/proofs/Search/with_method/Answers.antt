-- `search::Search::with_method` meets its contract.
use Rattle.std.proofs.Common.{refl, sym, ◌∙◌, arith}
use Rattle.std.proofs.lemmas.Result.{err_from_is_err_and}
use Rattle.jumbled.proofs.Admission.{admitted}
use Rattle.search.specs.Searches.{pattern_of}
use Rattle.search.proofs.Handed.{sound, method-early, method-late}
use Rattle.search.proofs.Search.with_method.Goals as goal

pub returns-in_err-admitted : goal.returns-in_err-admitted
returns-in_err-admitted c =
    let refused = err_from_is_err_and c.from_residual.result c.from_residual.ensures.1 in
    rw (refused.1, refused.2) (record { given = method-early c.args.self c.args.method _ c.in_err-admitted.ensures.number; made = tt })

pub own_pattern-requires : goal.own_pattern-requires
own_pattern-requires c = (sound c.args.self (sym c.in_ok-admitted.ensures.number)).short

pub admit_method-requires : goal.admit_method-requires
admit_method-requires c =
    let held = c.args.self in
    let admits = admitted (pattern_of held) held.k held.method (sound held (sym c.in_ok-admitted.ensures.number)).admits in
    rw c.own_pattern.ensures (admits.short, c.in_ok-admitted.ensures.taken.counted, omega (arith, admits.within, admits.short))

pub returns-in_err-admit_method : goal.returns-in_err-admit_method
returns-in_err-admit_method c =
    let refused = err_from_is_err_and c.from_residual-in_err-admit_method.result c.from_residual-in_err-admit_method.ensures.1 in
    rw (refused.1, refused.2)
    (record {
      given = (rw c.own_pattern.ensures at c.in_err-admit_method.ensures.number) ∙ method-late c.args.self c.args.method (sym c.in_ok-admitted.ensures.number);
      made = tt;
    })

pub returns : goal.returns
returns c =
    record {
      given = (rw c.own_pattern.ensures at c.in_ok-admit_method.ensures.number) ∙ method-late c.args.self c.args.method (sym c.in_ok-admitted.ensures.number);
      made = refl;
    }
