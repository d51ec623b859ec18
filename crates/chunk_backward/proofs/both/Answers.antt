-- `chunk_backward::both` meets its contract.
use Rattle.chunk_backward.proofs.Backwards.{past-tail, both_found, both-inspections}
use Rattle.chunk_backward.proofs.both.Goals as goal

pub rest_of-requires : goal.rest_of-requires
rest_of-requires g c = past-tail c.requires c.search-first.ensures

pub overflow_add-result : goal.overflow_add-result
overflow_add-result g c =
    let rest = rw c.rest_of.ensures at c.search-second.ensures in
    record {
      fits =
          both-inspections c.requires c.search-first.ensures rest
          (λ W within. g.met.M.Backward.few c.args.method.now W c.requires.joinable.short within);
    }

pub returns : goal.returns
returns g c =
    let rest = rw c.rest_of.ensures at c.search-second.ensures in
    both_found c.requires c.search-first.ensures rest
