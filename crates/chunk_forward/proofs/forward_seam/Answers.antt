-- `chunk_forward::forward_seam` meets its contract.
use Rattle.loop_forward.proofs.Progress.{every-listed, at-end}
use Rattle.chunk_forward.proofs.Seams.{primed-listed, inspections-fit}
use Rattle.chunk_forward.proofs.forward_seam.Goals as goal

pub overflow_add-slid : goal.overflow_add-slid
overflow_add-slid g c =
    record {
      fits =
          inspections-fit c.requires (g.F.Forward.judged c.args.method.now) (g.met.F.Forward.verifies c.args.method.now) c.start-start.ensures.inspected
          (every-listed c.slide-slid.ensures.searched c.requires.places);
    }

pub returns : goal.returns
returns g c =
    let searched = c.slide-slid.ensures.searched in
    record {
      listed = primed-listed c.requires (g.F.Forward.judged c.args.method.now) c.start-start.ensures.inspected (every-listed searched c.requires.places);
      kept = rw (at-end searched c.requires.places c.requires.fitting.ordered) at c.slide-slid.ensures.kept;
    }
