-- Methods 2, 3 and 4 as the loops' proofs take them.
use mathlib.Core.Path.{refl}
use mathlib.Core.List.{List}
use Prim.Native.Nat.{ℕ, ◌<◌}
use native.Mathlib.Omega.{arith}
use lib.Dec.{ltb}
use lib.ListN.{length, get_or}
use Rattle.std.proofs.Common.{Fits, w8}
use Rattle.jumbled.specs.Match.{Bytes}
use Rattle.jumbled.specs.Scan.{singles, pairs}
use Rattle.jumbled.specs.Fields.{bam_layout, bam2_layout, abam_layout, overflows, errors}
use Rattle.jumbled.proofs.Overflow.{bam-roomy, bam2-roomy, abam-roomy, overflows-exact, errors-exact}
use Rattle.table_packed.specs.declared.Word.{Word}
use Rattle.lent.specs.Loops.{Fitting}
use Rattle.lent.specs.declared.Range.{Range}
use Rattle.loop_backward.specs.Ranges.{Scannable}
use Rattle.loop_backward.proofs.Windows.{Going}
use Rattle.loop_backward.proofs.Reading.{Method, Lawful, scanned_by}
use Rattle.loop_backward.proofs.Scanning.{Window}

abbrev pub bam_method : List ℕ → Method
bam_method P = record { layout = bam_layout; tolerance = 0; stop = overflows P bam_layout; cut = singles; most = 1 }

abbrev pub bam2_method : List ℕ → Method
bam2_method P = record { layout = bam2_layout; tolerance = 0; stop = overflows P bam2_layout; cut = pairs; most = 2 }

abbrev pub abam_method : List ℕ → ℕ → Method
abam_method P k = record { layout = abam_layout k; tolerance = k; stop = λ R. ltb k (errors P (abam_layout k) R); cut = singles; most = 1 }

-- each is lawful
module _ {P : List ℕ} (pattern : Bytes P) where
  pub bam-lawful : Lawful P (bam_method P)
  unfolding singles
  bam-lawful = record { roomy = bam-roomy; exact = overflows-exact P 1 bam_layout pattern bam-roomy; ends = refl }

  pub bam2-lawful : Lawful P (bam2_method P)
  unfolding pairs
  bam2-lawful = record { roomy = bam2-roomy; exact = overflows-exact P 2 bam2_layout pattern bam2-roomy; ends = refl }

  pub abam-lawful : (k : ℕ) → Lawful P (abam_method P k)
  unfolding singles
  abam-lawful k = record { roomy = abam-roomy k; exact = errors-exact P k 1 (abam_layout k) pattern (abam-roomy k); ends = refl }

-- a window is begun
pub begun : {P T : List ℕ} {M : Method} {packing : Word} {units : List ℕ} {range : Range} {before after : List ℕ} {s at inspections : ℕ}
    → Lawful P M → Scannable P M.layout packing units → ((i : ℕ) → Fits w8 (get_or T i 0)) → Fitting T (length P) range
    → Going (scanned_by P M) (length P) T range before s at inspections after → s < range.end → at < length after
    → Window P M packing units T range before s at inspections after
begun lawful tables text fitting going inside place =
    record {
      given =
          record {
            lawful = lawful;
            pattern = tables.bytes;
            text = record { below = λ i. omega (arith, text i) };
            fitting = fitting;
            packed = tables.packed;
            fits = tables.fits;
          };
      going = going;
      inside = inside;
      place = place;
    }
