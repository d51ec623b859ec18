use Rattle.std.proofs.Common.{◌≡◌}
use Rattle.table_parikh.specs.Table.{tabulate}
use Rattle.several_fields.proofs.Placing.{placed_word}
use Rattle.several_fields.proofs.place_patterns.Given as goal

abbrev pub invariant-loop-field : goal.invariant-loop-field
invariant-loop-field l = l.rooms ≡ tabulate 256 (placed_word l.m l.patterns l.count l.field)
