-- `several_fields::place_patterns` meets its contract. The loop's invariant: the patterns before the one at hand are placed.
use mathlib.Core.Path.{◌≡◌, ap, ◌∙◌}
use mathlib.Core.List.{List}
use Prim.Native.Nat.{ℕ, ◌*◌}
use native.Mathlib.Omega.{arith}
use lib.ListN.{set}
use Rattle.jumbled.specs.Match.{lost_hour}
use Rattle.table_parikh.specs.Table.{tabulate}
use Rattle.several_fields.proofs.Placing.{placed_word, placed-none, part-able, part-added, lost-room-fits, placed-all}
use Rattle.several_fields.proofs.place_patterns.Goals as goal

pub loop-field-preserved : goal.loop-field-preserved
loop-field-preserved c = c.place_pattern.ensures ∙ part-added c.requires c.loop-field.field c.loop-field-test.true c.loop-field.invariant _ (omega arith)

pub returns : goal.returns
returns c =
    let args = c.args in
    let same : c.loop-field.field ≡ args.count = omega arith in
    let all = c.loop-field.invariant ∙ ap (λ (n : ℕ). tabulate 256 (placed_word args.m args.patterns.now args.count n)) same in
    ap (λ (rooms : List ℕ). set rooms lost_hour (args.fields.ones * 191)) all ∙ placed-all c.requires

pub loop-field-init : goal.loop-field-init
loop-field-init c = placed-none c.requires

pub place_pattern-requires : goal.place_pattern-requires
place_pattern-requires c = part-able c.requires c.loop-field.field c.loop-field-test.true c.loop-field.invariant _ (omega arith)

pub overflow_mul-rooms : goal.overflow_mul-rooms
overflow_mul-rooms c = record { fits = lost-room-fits c.requires }
