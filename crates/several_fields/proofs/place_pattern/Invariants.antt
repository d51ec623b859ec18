use Rattle.std.proofs.Common.{◌≡◌, take}
use Rattle.several_fields.specs.Words.{units_added}
use Rattle.several_fields.proofs.place_pattern.Given as goal

abbrev pub invariant-loop-byte : goal.invariant-loop-byte
invariant-loop-byte l = l.rooms ≡ units_added (take l.byte-index l.pattern) l.unit l.initial.rooms
