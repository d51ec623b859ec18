-- `search::Search::searched` meets its contract.
use Rattle.std.proofs.Common.{◌≡◌, ◌<◌, ◌-◌, length, arith, rules}
use Rattle.jumbled.proofs.Admission.{admitted, method-given, ChunkTaken, chunk-taken}
use Rattle.chunk_search.proofs.Room.{places-there, all-stepped}
use Rattle.search.specs.declared.Search.{Search}
use Rattle.search.specs.Searches.{pattern_of, tail_of}
use Rattle.search.proofs.Handed.{SoundSearch, sound, pattern-length, tail-fits, tail-length}
use Rattle.search.proofs.Search.searched.Goals as goal

pub overflow_sub-base : goal.overflow_sub-base
overflow_sub-base c =
    let right : SoundSearch c.args.self.now = sound c.args.self.now c.requires.handed in
    omega (arith, right.tail-right)

pub own_pattern-requires : goal.own_pattern-requires
own_pattern-requires c = (sound c.args.self.now c.requires.handed).short

pub own_tail-requires : goal.own_tail-requires
own_tail-requires c = tail-fits (sound c.args.self.now c.requires.handed)

-- the tail is shorter than the pattern
short-tail : {s : Search} → SoundSearch s → length s.pattern ≡ 64 → length s.tail ≡ 63 → length (tail_of s) < length (pattern_of s)
short-tail {s} right pattern-long tail-long =
    let admits = admitted (pattern_of s) s.k s.method right.admits in
    let m = pattern-length right pattern-long in
    let t = tail-length right tail-long in
    omega (arith, admits.some, right.tail-right)

pub search_chunk-requires : goal.search_chunk-requires
search_chunk-requires c =
    let held = c.args.self.now in
    let right : SoundSearch held = sound held c.requires.handed in
    let pattern-long : length held.pattern ≡ 64 = search rules in
    let tail-long : length held.tail ≡ 63 = search rules in
    let limits : ChunkTaken held.total (length c.args.chunk.now) (length c.args.list.now) = chunk-taken held.total (length c.args.chunk.now) (length c.args.list.now) c.requires.chunk-right in
    let tail-short = short-tail right pattern-long tail-long in
    let admits = admitted (pattern_of held) held.k held.method right.admits in
    let t = tail-length right tail-long in
    rw (c.own_pattern.ensures, c.own_tail.ensures, c.requires.along.named)
    (record {
      joinable =
          record {
            short = admits.short;
            tail-short = tail-short;
            numbered = omega (arith, right.tail-right, limits.fits);
            room = places-there (pattern_of held) (tail_of held) c.args.chunk.now c.args.list.now tail-short limits.size.room;
          };
      taken =
          record {
            counted = c.requires.along.counted;
            within = admits.within;
            method-right = method-given (pattern_of held) held.k held.method right.admits;
          };
    })

pub returns : goal.returns
returns c =
    let held = c.args.self.now in
    let right : SoundSearch held = sound held c.requires.handed in
    let pattern-long : length held.pattern ≡ 64 = search rules in
    let tail-long : length held.tail ≡ 63 = search rules in
    let limits : ChunkTaken held.total (length c.args.chunk.now) (length c.args.list.now) = chunk-taken held.total (length c.args.chunk.now) (length c.args.list.now) c.requires.chunk-right in
    all-stepped (pattern_of held) (tail_of held) c.args.chunk.now c.args.list.now (short-tail right pattern-long tail-long) limits.size.room held.k held.method
    (held.total - held.tail_len) (rw (c.own_pattern.ensures, c.own_tail.ensures, c.requires.along.named) at c.search_chunk.ensures)
