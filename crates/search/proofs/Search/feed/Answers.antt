-- `search::Search::feed` meets its contract.
use Rattle.std.proofs.Common.{◌≡◌, ℕ, length, refl, sym, ap, ◌∙◌, arith, rules}
use Rattle.jumbled.specs.Refusals.{tail_length}
use Rattle.jumbled.proofs.Admission.{admitted, chunk-taken}
use Rattle.answers.proofs.Refused.{on-refusal}
use Rattle.search.specs.Searches.{pattern_of, stored}
use Rattle.search.specs.Calls.{fed_parts}
use Rattle.search.proofs.Handed.{sound, pattern-length}
use Rattle.search.proofs.Feeding.{fed-taken}
use Rattle.search.proofs.Search.feed.Goals as goal

pub advanced-requires : goal.advanced-requires
advanced-requires c =
    let held = c.args.self in
    let pattern-long : length held.pattern ≡ 64 = search rules in
    let fed = c.in-Ok.ensures _ refl in
    let taken = fed-taken held c.args.chunk.now c.args.list.now (sym fed.number) in
    let holds = sound held taken.0 in
    let m = pattern-length holds pattern-long in
    record {
      short = holds.short;
      some = omega (arith, (admitted (pattern_of held) held.k held.method holds.admits).some);
      tail-right = holds.tail-right ∙ ap (λ (n : ℕ). tail_length n held.total) m;
      fits = (chunk-taken held.total (length c.args.chunk.now) (length c.args.list.now) taken.1).fits;
    }

pub returns-in-Err : goal.returns-in-Err
returns-in-Err c =
    let fed = c.in-Err.ensures _ refl in
    c.in-Err.ensures c.args.self (on-refusal c.in-Err.refusal _ (stored (fed_parts c.args.self c.args.chunk.now)) c.args.self fed.number)
