use Rattle.std.proofs.Common.{◌≡◌, ℕ, ◌+◌, ◌<◌, List, length, set, sym, ◌∙◌}
use Rattle.jumbled.specs.Match.{cc}
use Rattle.jumbled.specs.Heap.{rank, heap_value}
use Rattle.jumbled.proofs.Ranks.{rank-some, rank-none, heap_value-some, heap_value-none}
use Rattle.table_parikh.proofs.Filled.{filled, filled-set, filled-skip}
use Rattle.table_heap.specs.declared.Power.{Power}
use Rattle.table_heap.specs.Powers.{IsPower}
use Rattle.table_heap.proofs.fill_values.Given as goal

-- What holds after the bytes below c
pub record Running (P values : List ℕ) (power : Power) (c : ℕ) : Type 0 where
  pub entries : values ≡ filled 256 (heap_value P) 0 c
  pub running : IsPower (length P + 1) (rank P c) power

module _ (P values : List ℕ) (power : Power) (c : ℕ) (so_far : Running P values power c) where
  -- a byte of P takes the power
  pub running-some : 0 < cc P c → (next : Power)
      → ((i : ℕ) → IsPower (length P + 1) i power → IsPower (length P + 1) (i + 1) next)
      → Running P (set values c power.value) next (c + 1)
  running-some h next step =
      record {
        entries =
            rw so_far.entries
            (filled-set 256 (heap_value P) 0 c power.value (so_far.running.value ∙ sym (heap_value-some P c h)));
        running = rw (rank-some P c h) (step (rank P c) so_far.running);
      }

  -- any other byte keeps its 0
  pub running_none : cc P c ≡ 0 → Running P values power (c + 1)
  running_none h =
      record {
        entries = so_far.entries ∙ filled-skip 256 (heap_value P) 0 c (heap_value-none P c h);
        running = rw (rank-none P c h) so_far.running;
      }

abbrev pub invariant-loop-byte : goal.invariant-loop-byte
invariant-loop-byte l = Running l.pattern l.values l.power l.byte
