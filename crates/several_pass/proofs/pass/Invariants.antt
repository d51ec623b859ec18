use Rattle.std.proofs.Common.{◌≡◌, ◌+◌, ◌-◌, ◌≤◌, length}
use Rattle.jumbled.specs.Match.{Bytes}
use Rattle.several_pass.specs.Passing.{Passable}
use Rattle.several_pass.proofs.Turns.{Running}
use Rattle.several_pass.proofs.pass.Given as goal

abbrev pub invariant-loop-s : goal.invariant-loop-s
invariant-loop-s l = (l.m ≤ length l.text) × (l.s-end ≡ length l.text - l.m + 1)
    × ((ready : Passable l.m l.count l.fields l.fn.rooms l.text l.fn.positions l.fn.numbers) (bytes : Bytes l.text)
    → Running ready.of bytes l.word l.rooms l.positions l.numbers l.at l.inspections l.s)
