-- `chunk_forward::forward_chunk` meets its contract.
use Rattle.chunk_forward.proofs.Forwards.{startable, prefix-on, forward-one, forward-two, forward-fitting, forward-inspections}
use Rattle.chunk_forward.proofs.forward_chunk.Goals as goal

pub forward_seam-first-requires : goal.forward_seam-first-requires
forward_seam-first-requires g c = startable c.requires

pub returns-then-split-eq0 : goal.returns-then-split-eq0
returns-then-split-eq0 g c = forward-one c.requires (g.F.Forward.judged c.args.method.now) c.forward_seam-first.ensures.listed c.if-split-eq0.true

pub slide-second-requires : goal.slide-second-requires
slide-second-requires g c =
    let seam = c.forward_seam-first.ensures in
    record {
      fitting = forward-fitting c.requires (g.F.Forward.judged c.args.method.now) seam.listed;
      kept = rw (prefix-on c.requires c.if-split-eq0.false) at seam.kept;
    }

pub overflow_add-inspections : goal.overflow_add-inspections
overflow_add-inspections g c =
    record {
      fits =
          forward-inspections c.requires (g.F.Forward.judged c.args.method.now) c.forward_seam-first.ensures.listed c.slide-second.ensures.searched
          (g.met.F.Forward.verifies c.args.method.now);
    }

pub returns : goal.returns
returns g c =
    forward-two c.requires (g.F.Forward.judged c.args.method.now) c.forward_seam-first.ensures.listed c.slide-second.ensures.searched
