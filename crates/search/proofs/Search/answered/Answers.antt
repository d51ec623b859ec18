-- `search::Search::answered` meets its contract.
use Rattle.std.proofs.Common.{ℕ, length, get_or, sym, ◌∙◌, rules}
use Rattle.std.proofs.lemmas.Result.{err_from_is_err_and}
use mir.Syntax.{w8}
use mir.Val.{Fits}
use Rattle.jumbled.proofs.Counts.{bytes_take, bytes-append}
use Rattle.admit_chunk.proofs.Documented.{document-limits}
use Rattle.search.specs.Searches.{tail_of}
use Rattle.search.proofs.Feeding.{fed-refused-early, fed-refused-late, fed-listed}
use Rattle.search.proofs.Search.answered.Goals as goal

pub returns-in_err-admitted : goal.returns-in_err-admitted
returns-in_err-admitted c =
    let args = c.args in
    let refused = err_from_is_err_and c.from_residual.result c.from_residual.ensures.1 in
    rw (refused.1, refused.2) (fed-refused-early args.self args.chunk.now args.list.now _ c.in_err-admitted.ensures.number)

pub returns-in_err-limits : goal.returns-in_err-limits
returns-in_err-limits c =
    let args = c.args in
    let refused = err_from_is_err_and c.from_residual-in_err-limits.result c.from_residual-in_err-limits.ensures.1 in
    rw (refused.1, refused.2)
    (fed-refused-late args.self args.chunk.now args.list.now (sym c.in_ok-admitted.ensures.number) _
    (c.in_err-limits.ensures ∙ document-limits args.self.total (length args.chunk.now) (length args.list.now)))

pub searched-requires : goal.searched-requires
searched-requires c =
    let args = c.args in
    record {
      handed = sym c.in_ok-admitted.ensures.number;
      along = c.in_ok-admitted.ensures.taken;
      chunk-right = sym (c.in_ok-limits.ensures ∙ document-limits args.self.total (length args.chunk.now) (length args.list.now));
    }

pub returns : goal.returns
returns c =
    let args = c.args in
    let held = args.self in
    let byte : (i : ℕ) → Fits w8 (get_or held.pattern i 0) = λ i. search rules in
    let tail-byte : (i : ℕ) → Fits w8 (get_or held.tail i 0) = λ i. search rules in
    fed-listed held args.chunk.now args.list.now (sym c.in_ok-admitted.ensures.number)
    (bytes_take held.pattern_len held.pattern (record { below = λ i. (byte i).fits }))
    (bytes-append (tail_of held) args.chunk.now (bytes_take held.tail_len held.tail (record { below = λ i. (tail-byte i).fits }))
    (record { below = λ i. (c.type_inv.chunk i).fits })) (sym (c.in_ok-limits.ensures ∙ document-limits held.total (length args.chunk.now) (length args.list.now)))
    c.searched.new.list c.searched.result c.searched.ensures
