-- The theorem of the methods: what the tests of open do not refuse lists exactly the matching positions (demand 2, on the definitions).
use mathlib.Core.Path.{◌≡◌, refl}
use mathlib.Core.List.{List, [], reverse}
use Prim.Native.Nat.{ℕ, zero, suc, ◌+◌, ◌≤◌}
use native.Mathlib.Nat.{zero-add, le_of_eq, not-suc-le-zero}
use native.Mathlib.Omega.{arith}
use lib.Dec.{ltb}
use lib.ListN.{length}
use Rattle.jumbled.specs.Match.{Bytes, matches, starts, select, positions}
use Rattle.jumbled.specs.Scan.{Scanned, singles, pairs, Judged, Way, scans, judges, driven}
use Rattle.jumbled.specs.Fields.{bam_layout, bam2_layout, abam_layout, overflows, errors}
use Rattle.jumbled.specs.Steps.{count_judged, bam_scan, bam2_scan, abam_scan, way_of, steps}
use Rattle.jumbled.specs.Refusals.{given, exact_only, pattern_tests}
use Rattle.jumbled.proofs.Admission.{MethodTaken, admitted}
use Rattle.jumbled.proofs.Drivers.{Sound, matches_at, backward-lists, forward-lists}
use Rattle.jumbled.proofs.Scans.{scan-sound, scan-most, by-singles, by-pairs}
use Rattle.jumbled.proofs.Overflow.{overflows-exact, errors-exact, bam-roomy, bam2-roomy, abam-roomy}
use Rattle.jumbled.proofs.HeapSums.{hcam-judges}
use Rattle.jumbled.proofs.Ebl.{ebl-sound}

-- ---- each method's scan or judgement

bam-sound : (P : List ℕ) → Bytes P → Sound P 0 (bam_scan P)
unfolding bam_scan
bam-sound P hP =
    scan-sound P 0 1 (overflows P bam_layout) (overflows-exact P 1 bam_layout hP bam-roomy) (λ W. singles (reverse W)) by-singles

bam2-sound : (P : List ℕ) → Bytes P → Sound P 0 (bam2_scan P)
unfolding bam2_scan
bam2-sound P hP =
    scan-sound P 0 2 (overflows P bam2_layout) (overflows-exact P 2 bam2_layout hP bam2-roomy) (λ W. pairs (reverse W)) by-pairs

abam-sound : (P : List ℕ) (k : ℕ) → Bytes P → Sound P k (abam_scan P k)
unfolding abam_scan
abam-sound P k hP =
    scan-sound P k 1 (λ R. ltb k (errors P (abam_layout k) R)) (errors-exact P k 1 (abam_layout k) hP (abam-roomy k))
    (λ W. singles (reverse W)) by-singles

-- and makes at most one inspection for each byte of the window
pub bam-most : (P W : List ℕ) → (bam_scan P W).inspections ≤ length W
unfolding bam_scan
bam-most P W = omega (arith, scan-most (overflows P bam_layout) (length P) 1 [] W (singles (reverse W)) (by-singles W))

pub bam2-most : (P W : List ℕ) → (bam2_scan P W).inspections ≤ length W
unfolding bam2_scan
bam2-most P W = omega (arith, scan-most (overflows P bam2_layout) (length P) 2 [] W (pairs (reverse W)) (by-pairs W))

pub abam-most : (P : List ℕ) (k : ℕ) (W : List ℕ) → (abam_scan P k W).inspections ≤ length W
unfolding abam_scan
abam-most P k W =
    omega (arith, scan-most (λ R. ltb k (errors P (abam_layout k) R)) (length P) 1 [] W (singles (reverse W)) (by-singles W))

-- ---- each method's way

-- What a way has to show: its scan is sound, or its judgement lists a window exactly when the window matches
pub data SoundWay (P : List ℕ) (k : ℕ) : Way → Type 0 where
  scanning : {scanned : List ℕ → Scanned} → Sound P k scanned → SoundWay P k (scans scanned)
  judging : {judged : List ℕ → Judged} → ((W : List ℕ) → Bytes W → length W ≡ length P → (judged W).listed ≡ matches P k W) → SoundWay P k (judges judged)

sound-way : (P : List ℕ) (k method : ℕ) → Bytes P → MethodTaken P k method → SoundWay P k (way_of P k method)
unfolding way_of count_judged exact_only
sound-way P k zero hP taken = absurd (not-suc-le-zero taken.least)
sound-way P k (suc zero) hP taken = judging (λ W b e. refl)
sound-way P k (suc (suc zero)) hP taken = rw (taken.no-tolerance refl) (scanning (bam-sound P hP))
sound-way P k (suc (suc (suc zero))) hP taken = rw (taken.no-tolerance refl) (scanning (bam2-sound P hP))
sound-way P k (suc (suc (suc (suc zero)))) hP taken = scanning (abam-sound P k hP)
sound-way P k (suc (suc (suc (suc (suc zero))))) hP taken = rw (taken.no-tolerance refl) (judging (hcam-judges P hP))
sound-way P k (suc (suc (suc (suc (suc (suc zero)))))) hP taken = rw (taken.no-tolerance refl) (scanning (ebl-sound P))
sound-way P k (suc (suc (suc (suc (suc (suc (suc n))))))) hP taken = absurd (let most = taken.most in omega arith)

-- it lists the matching windows of any range of window starts
sound-lists : (P : List ℕ) (k : ℕ) (T : List ℕ) → Bytes T → {w : Way} → SoundWay P k w → (s left : ℕ) → s + left ≤ starts (length P) T
    → (driven w (length P) T s left).occurrences ≡ select (matches_at P k T) s left
sound-lists P k T hT (scanning {scanned} sound) s left h = backward-lists P k T hT scanned sound s left 0 h (λ d l. absurd (not-suc-le-zero l))
sound-lists P k T hT (judging {judged} sound) s left h = forward-lists P k T hT judged sound s left (length P) h

-- ---- the theorem

-- Whatever the tests of open do not refuse: the positions of the method's steps over any range of window starts are those of the matching windows
pub range_listed : (P : List ℕ) (k method : ℕ) (T : List ℕ) → Bytes P → Bytes T → given (pattern_tests P k method) ≡ 0 → (s left : ℕ) → s + left ≤ starts (length P) T
    → (driven (way_of P k method) (length P) T s left).occurrences ≡ select (matches_at P k T) s left
range_listed P k method T hP hT accepted = sound-lists P k T hT (sound-way P k method hP (admitted P k method accepted).taken)

-- and over all of a text they are exactly the listed positions
pub methods-list : (P : List ℕ) (k method : ℕ) (T : List ℕ) → Bytes P → Bytes T → given (pattern_tests P k method) ≡ 0
    → (steps P k method T).occurrences ≡ positions P k T
unfolding steps positions
methods-list P k method T hP hT accepted =
    range_listed P k method T hP hT accepted 0 (starts (length P) T) (le_of_eq (zero-add (starts (length P) T)))
