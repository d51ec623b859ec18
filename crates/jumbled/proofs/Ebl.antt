-- The scan of method 6 (document 02, T-04): where it stops, what it verifies, and that it is sound.
use mathlib.Core.Path.{◌≡◌, refl, sym, ap, ◌∙◌}
use mathlib.Core.Bool.{Bool, true, false, cond, not}
use mathlib.Core.List.{List, [], ◌∷◌, ◌++◌, append_assoc, append-nil, reverse, reverse-append}
use Prim.Native.Nat.{ℕ, ◌+◌, ◌≤◌, ◌<◌}
use native.Mathlib.Omega.{arith}
use lib.ListN.{length}
use Rattle.jumbled.specs.Match.{Bytes, occurs, lost, excess, matches}
use Rattle.jumbled.specs.Scan.{Scanned, completed, stopped, scan, singles}
use Rattle.jumbled.specs.Steps.{passes, lacks, verified_after, ebl_scan}
use Rattle.jumbled.proofs.Admission.{or-false}
use Rattle.jumbled.proofs.Counts.{bytes_back, bytes-head, lacked, used-up, excess-cons}
use Rattle.jumbled.proofs.Drivers.{Sound}
use Rattle.jumbled.proofs.Scans.{Right, sound-of, stop-right, scan-most, by-singles}

-- Every byte of U is read on past: P has it, or it is a lost hour
pub data Occur (P : List ℕ) : List ℕ → Type 0 where
  none : Occur P []
  next : {b : ℕ} {U : List ℕ} → passes P b ≡ true → Occur P U → Occur P (b ∷ U)

-- the reading of a window's bytes from its right end
reads : (P W : List ℕ) → Scanned
reads P W = scan (lacks P) (length P) [] (singles (reverse W))

-- the bytes R are read, and those left of them are still to be
abbrev ReadTo : (P left R : List ℕ) → Type 0
ReadTo P left R = reads P (left ++ R) ≡ scan (lacks P) (length P) R (singles (reverse left))

-- then the next one is
one_more : (P left : List ℕ) (b : ℕ) (R : List ℕ) → ReadTo P (left ++ (b ∷ [])) R
    → reads P (left ++ (b ∷ R)) ≡ cond (not (passes P b)) (stopped (length P) (b ∷ R)) (scan (lacks P) (length P) (b ∷ R) (singles (reverse left)))
unfolding scan singles lacks
one_more P left b R to =
    ap (reads P) (sym (append_assoc left (b ∷ []) R)) ∙ to
    ∙ ap (λ (l : List ℕ). scan (lacks P) (length P) R (singles l)) (reverse-append left (b ∷ []))

-- as long as they are read on past
reading : (P left R : List ℕ) → Occur P R → ReadTo P left R
unfolding reads
reading P left [] none = rw (append-nil left) refl
reading P left (b ∷ R) (next there rest) = rw there at (one_more P left b R (reading P (left ++ (b ∷ [])) R rest))

-- A byte that stops the scan, those after it being read on past: it stops there, and has read it and these
pub ebl-stops : (P left : List ℕ) (b : ℕ) (R : List ℕ) → passes P b ≡ false → Occur P R → ebl_scan P (left ++ (b ∷ R)) ≡ stopped (length P) (b ∷ R)
unfolding ebl_scan reads
ebl-stops P left b R lacking rest =
    let stop : reads P (left ++ (b ∷ R)) ≡ stopped (length P) (b ∷ R)
    = rw lacking at (one_more P left b R (reading P (left ++ (b ∷ [])) R rest)) in
    rw stop refl

-- All bytes are read on past: they are read, and the window is verified
pub ebl-verifies : (P W : List ℕ) → Occur P W → ebl_scan P W ≡ record { listed = matches P 0 W; offset = 0; inspections = length W + length P }
unfolding ebl_scan reads scan singles
ebl-verifies P W all =
    let whole : reads P W ≡ completed W = reading P [] W all in
    rw whole refl

-- one or the other
data Met (P : List ℕ) : List ℕ → Type 0 where
  all : {W : List ℕ} → Occur P W → Met P W
  lacking : (left : List ℕ) (b : ℕ) (R : List ℕ) → passes P b ≡ false → Occur P R → Met P (left ++ (b ∷ R))

meets : (P W : List ℕ) → Met P W
meets P [] = all none
meets P (c ∷ W) = longer (meets P W)
  where
    test : {W : List ℕ} → Occur P W → (t : Bool) → passes P c ≡ t → Met P (c ∷ W)
    test occur true e = all (next e occur)
    test {W} occur false e = lacking [] c W e occur

    longer : {W : List ℕ} → Met P W → Met P (c ∷ W)
    longer (lacking left b R e rest) = lacking (c ∷ left) b R e rest
    longer (all occur) = test occur (passes P c) refl

-- a byte that stops the scan is an excess
lacked-excess : (P : List ℕ) (b : ℕ) (R : List ℕ) → b < 256 → passes P b ≡ false → 0 < excess P (b ∷ R)
unfolding passes
lacked-excess P b R byte e =
    let parts = or-false (lost b) (occurs P b) e in
    rw (excess-cons P b R byte, used-up P R b parts.0 (omega (arith, lacked P b parts.1))) (omega arith)

pub ebl-sound : (P : List ℕ) → Sound P 0 (ebl_scan P)
ebl-sound P = sound-of (λ W b e. right W b e (meets P W))
  where
    right : (W : List ℕ) → Bytes W → length W ≡ length P → Met P W → Right P 0 W (ebl_scan P W)
    right W b e (all occur) = rw (ebl-verifies P W occur) (record { lists = refl; passes = λ l. omega arith })
    right W bytes e (lacking left b R lack rest) =
        rw (ebl-stops P left b R lack rest)
        (stop-right P 0 (length P) left (b ∷ R) e (lacked-excess P b R (bytes-head (bytes_back left (b ∷ R) bytes)) lack))

-- at most one inspection for each byte of the window, and the verification's
pub ebl-most : (P W : List ℕ) → (ebl_scan P W).inspections ≤ length W + length P
unfolding ebl_scan reads
ebl-most P W = case (reads P W) (omega (arith, scan-most (lacks P) (length P) 1 [] W (singles (reverse W)) (by-singles W)))
  where
    case : (w : Scanned) → w.inspections ≤ length W → (cond w.listed (verified_after w P W) w).inspections ≤ length W + length P
    case w h = by w.listed
      where
        by : (t : Bool) → (cond t (verified_after w P W) w).inspections ≤ length W + length P
        by true = omega arith
        by false = omega arith
