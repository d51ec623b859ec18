-- `search_whole::search_accepted` meets its contract: the steps over an empty tail and the text.
use mathlib.Core.List.{[]}
use native.Mathlib.Omega.{arith}
use lib.ListN.{length}
use Rattle.jumbled.proofs.Admission.{admitted, method-given, WholeTaken, whole-taken}
use Rattle.chunk_search.proofs.Room.{places-there, all-stepped}
use Rattle.methods.specs.Numbers.{method_number}
use Rattle.search_whole.specs.Whole.{whole_number}
use Rattle.search_whole.proofs.Wholes.{steps-searched}
use Rattle.search_whole.proofs.search_accepted.Goals as goal

pub search_chunk-requires : goal.search_chunk-requires
unfolding whole_number
search_chunk-requires c =
    let right : let args = c.args in
    WholeTaken args.pattern.now args.k (method_number args.admitted.now.method) (length args.text.now) (length args.list.now) = let args = c.args in
    whole-taken args.pattern.now args.k (method_number args.admitted.now.method) (length args.text.now) (length args.list.now) c.requires.accepted in
    let args = c.args in
    let pattern = admitted args.pattern.now args.k (method_number args.admitted.now.method) right.pattern-right in
    let size = right.size in
    record {
      joinable = record { short = pattern.short; tail-short = pattern.some; numbered = omega (arith, size.not-long); room = places-there args.pattern.now [] args.text.now args.list.now pattern.some size.room };
      taken =
          record {
            counted = c.requires.counted;
            within = pattern.within;
            method-right = method-given args.pattern.now args.k (method_number args.admitted.now.method) right.pattern-right;
          };
    }

pub returns : goal.returns
unfolding whole_number
returns c =
    let right : let args = c.args in
    WholeTaken args.pattern.now args.k (method_number args.admitted.now.method) (length args.text.now) (length args.list.now) = let args = c.args in
    whole-taken args.pattern.now args.k (method_number args.admitted.now.method) (length args.text.now) (length args.list.now) c.requires.accepted in
    let args = c.args in
    steps-searched args.pattern.now args.k (method_number args.admitted.now.method) args.text.now args.list.now
    (record { below = λ i. (c.type_inv.pattern i).fits }) (record { below = λ i. (c.type_inv.text i).fits })
    right.pattern-right
    (all-stepped args.pattern.now [] args.text.now args.list.now (admitted args.pattern.now args.k (method_number args.admitted.now.method) right.pattern-right).some right.size.room args.k (method_number args.admitted.now.method) 0
    c.search_chunk.ensures)
