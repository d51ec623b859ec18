use Rattle.std.proofs.Common.{◌≡◌, take}
use Rattle.several_fields.specs.Words.{WordsOf}
use Rattle.several_pass.specs.Passing.{Startable}
use Rattle.several_pass.proofs.start.Given as goal

abbrev pub invariant-loop-byte : goal.invariant-loop-byte
invariant-loop-byte l = (l.inspections ≡ l.byte-index) × ((ready : Startable l.m l.fields l.text l.initial.rooms) → WordsOf ready.of (take l.byte-index l.text) l.word l.rooms)
