-- What terms that a whole search does not refuse have for their sheet: few lines, each with its window in the text, and its length.
use mathlib.Core.Path.{◌≡◌}
use mathlib.Core.List.{List}
use Prim.Native.Nat.{ℕ, ◌^◌, ◌≤◌}
use native.Mathlib.Omega.{arith}
use lib.ListN.{length}
use Rattle.jumbled.specs.Match.{positions}
use Rattle.jumbled.proofs.Positions.{positions-inside, positions-below}
use Rattle.table_parikh.specs.Table.{parikh}
use Rattle.search_whole.specs.Whole.{whole_number}
use Rattle.search_whole.proofs.Places.{terms-taken, pattern-admitted, positions-room}
use Rattle.sheet_form.specs.Sheet.{sheet_of, sheet_bytes}
use Rattle.sheet_form.proofs.Lengths.{InColumn, sheet-length}
use Rattle.sheet_count.specs.Counting.{Countable}
use Rattle.sheet_write.specs.Writing.{SheetFits}

module _ (P : List ℕ) (k method : ℕ) (T list : List ℕ) (accepted : whole_number P k method T list ≡ 0) where
  short : length P ≤ 64
  short = (pattern-admitted P k method T list accepted).short

  not-long : length T ≤ 65536
  not-long = (terms-taken P k method T list accepted).size.not-long

  pub countable : {counts : List ℕ} → counts ≡ parikh P → Countable P counts T
  countable counted =
      record {
        some = (pattern-admitted P k method T list accepted).some;
        short = short;
        pattern-counts = counted;
        numbered = omega (arith, not-long);
      }

  pub few-lines : length (positions P k T) ≤ 65536
  few-lines = omega (arith, (positions-room P k method T list accepted).0, not-long)

  pub in-column : InColumn (positions P k T)
  in-column = record { below = positions-below P k T (10 ^ 10) (omega (arith, not-long)) }

  pub sheet-bytes : length (sheet_of P k T) ≡ sheet_bytes (length (positions P k T))
  sheet-bytes = sheet-length (length P) T (positions P k T) short in-column

  pub sheet-fits : {buffer : List ℕ} → length (sheet_of P k T) ≤ length buffer → SheetFits (length P) T (positions P k T) buffer
  sheet-fits room =
      record {
        windows = record { short = short; numbered = omega (arith, not-long); inside = λ i l. positions-inside P k T i l };
        few = few-lines;
        room = room;
      }
