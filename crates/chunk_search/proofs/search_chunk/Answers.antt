-- `chunk_search::search_chunk` meets its contract: the tail and the chunk are made ready, and the method's function searches them.
use mathlib.Core.Path.{◌≡◌, ◌∙◌}
use mathlib.Core.List.{◌++◌}
use native.Mathlib.Omega.{arith}
use lib.ListN.{length}
use Rattle.jumbled.specs.Match.{starts}
use Rattle.jumbled.specs.Steps.{steps_into}
use Rattle.jumbled.proofs.Positions.{no-windows, steps-room}
use Rattle.methods.specs.Numbers.{method_number}
use Rattle.chunk_seam.proofs.Prepared.{parted-starts}
use Rattle.chunk_search.proofs.Prepared.{found_none, prepared, found-joined}
use Rattle.chunk_search.proofs.search_chunk.Goals as goal

pub returns-then-split-eq0 : goal.returns-then-split-eq0
returns-then-split-eq0 c =
    let args = c.args in
    let empty : starts (length args.pattern.now) (args.tail.now ++ args.chunk.now) ≡ 0 = omega (arith, parted-starts args.tail.now args.chunk.now c.split_starts-split.ensures) in
    found_none _ _ _ (steps-room _ _ _ _ _ (omega (arith, empty)) ∙ no-windows _ _ _ _ empty)

-- the seam's bytes are there, and are the tail and what its windows reach of the chunk
pub search_split-requires : goal.search_split-requires
search_split-requires c =
    let args = c.args in
    let joinable = c.requires.joinable in
    let reaches = c.bytes.ensures ∙ c.seam_of-seam.ensures in
    record {
      prepared = prepared args.tail.now args.chunk.now c.split_starts-split.ensures reaches joinable (omega arith);
      taken = c.requires.taken;
    }

pub returns : goal.returns
returns c =
    let args = c.args in
    let joinable = c.requires.joinable in
    let reaches = c.bytes.ensures ∙ c.seam_of-seam.ensures in
    found-joined args.tail.now args.chunk.now c.split_starts-split.ensures reaches (steps_into (length args.list.now) args.pattern.now args.k (method_number args.method)) c.search_split.ensures
