-- `vectors::stream_room` meets its contract: the law of `room`, since the prover would count the bytes one by one.
use Rattle.vectors.proofs.stream_room.Goals as goal

pub returns : goal.returns
returns c = c.room.ensures
