-- A scan whose test tells an excess over k is sound: what each of methods 2, 3 and 4 has to show is its test's exactness.
use mathlib.Core.Path.{◌≡◌, refl, sym, ap, ◌∙◌}
use mathlib.Core.Bool.{Bool, true, false, cond, false≢true}
use mathlib.Core.List.{List, [], ◌∷◌, ◌++◌, append_assoc, append-nil, reverse, reverse-cons, reverse-reverse}
use Prim.Native.Nat.{ℕ, ◌+◌, ◌-◌, ◌≤◌, ◌<◌}
use native.Mathlib.Nat.{le_trans, le_refl}
use native.Mathlib.Omega.{arith}
use lib.Dec.{ltb}
use lib.ListN.{length, drop, length-append}
use lib.Seq.{drop-append_seam}
use borrow.Author.Tests.{ltb-true, ltb-false, le-leb, lt-leb}
use Rattle.jumbled.specs.Match.{Bytes, excess, matches}
use Rattle.jumbled.specs.Scan.{Scanned, stopped, scan, singles, pairs}
use Rattle.jumbled.proofs.Counts.{bytes-nil, bytes-append, bytes-front, bytes_back, excess-nil, excess-append, excess-left}
use Rattle.jumbled.proofs.Drivers.{Sound}

-- The test holds exactly where the bytes read have an excess over k, as long as that is at most k + q: q bytes at most are read between
-- two tests, and the scan stops at the first that holds
pub record Exact (P : List ℕ) (k q : ℕ) (stop : List ℕ → Bool) : Type 0 where
  pub tells : (U : List ℕ) → Bytes U → excess P U ≤ k + q → stop U ≡ ltb k (excess P U)

-- groups of at most q bytes, in the order of reading, that make up the part U of a window
pub data Groups (q : ℕ) : List ℕ → List (List ℕ) → Type 0 where
  none : Groups q [] []
  more : {U : List ℕ} {groups : List (List ℕ)} (group : List ℕ) → length group ≤ q → Groups q U groups → Groups q (U ++ group) (group ∷ groups)

-- what a scan shows of the window W
pub record Right (P : List ℕ) (k : ℕ) (W : List ℕ) (w : Scanned) : Type 0 where
  pub lists : w.listed ≡ matches P k W
  pub passes : 0 < w.offset → k < excess P (drop w.offset W)

-- of every window it is sound
pub sound-of : {P : List ℕ} {k : ℕ} {scanned : List ℕ → Scanned} → ((W : List ℕ) → Bytes W → length W ≡ length P → Right P k W (scanned W))
    → Sound P k scanned
sound-of right = record { lists = λ W b e. (right W b e).lists; passes = λ W b e. (right W b e).passes }

-- a stop after the part R was read, the bytes left of it not: what R has too much of, the window has too
pub stop-right : (P : List ℕ) (k m : ℕ) (left R : List ℕ) → length (left ++ R) ≡ m → k < excess P R → Right P k (left ++ R) (stopped m R)
unfolding matches
stop-right P k m left R e over =
    record {
      lists = sym (lt-leb (excess P (left ++ R)) k (le_trans over (excess-left P left R)));
      passes = λ l. rw (at, drop-append_seam left R) over;
    }
  where
    at : m - length R ≡ length left
    at = omega (arith, length-append left R)

module _ (P : List ℕ) (k q : ℕ) (stop : List ℕ → Bool) (exact : Exact P k q stop) where
  scan-right : (m : ℕ) (R U : List ℕ) (groups : List (List ℕ)) → Groups q U groups → Bytes U → Bytes R → excess P R ≤ k
      → length (U ++ R) ≡ m → Right P k (U ++ R) (scan stop m R groups)
  unfolding scan matches
  scan-right m R U groups none hU hR within e =
      record { lists = sym (le-leb (excess P R) k within); passes = λ l. omega arith }
  scan-right m R U groups (more {U = left} {groups = later} group small rest) hU hR within e =
      step (stop (group ++ R)) refl
      (λ h. scan-right m (group ++ R) left later rest (bytes-front left group hU) bytes_read h (ap length (sym regroup) ∙ e))
    where
      regroup : left ++ group ++ R ≡ left ++ (group ++ R)
      regroup = append_assoc left group R

      bytes-group : Bytes group
      bytes-group = bytes_back left group hU

      bytes_read : Bytes (group ++ R)
      bytes_read = bytes-append group R bytes-group hR

      tells : stop (group ++ R) ≡ ltb k (excess P (group ++ R))
      tells = exact.tells (group ++ R) bytes_read (omega (arith, excess-append P group R bytes-group))

      step : (t : Bool) → stop (group ++ R) ≡ t
          → (excess P (group ++ R) ≤ k → Right P k (left ++ (group ++ R)) (scan stop m (group ++ R) later))
          → Right P k (left ++ group ++ R) (cond t (stopped m (group ++ R)) (scan stop m (group ++ R) later))
      step true s go = rw regroup (stop-right P k m left (group ++ R) (ap length (sym regroup) ∙ e) (ltb-true k (excess P (group ++ R)) (sym tells ∙ s)))
      step false s go = rw regroup (go (ltb-false k (excess P (group ++ R)) (sym tells ∙ s)))

  pub scan-sound : (cut : List ℕ → List (List ℕ)) → ((W : List ℕ) → Groups q W (cut W))
      → Sound P k (λ W. scan stop (length P) [] (cut W))
  scan-sound cut groups = sound-of right
    where
      right : (W : List ℕ) → Bytes W → length W ≡ length P → Right P k W (scan stop (length P) [] (cut W))
      right W b e =
          rw (append-nil W) at
          (scan-right (length P) [] W (cut W) (groups W) b bytes-nil (rw (excess-nil P) (omega arith)) (ap length (append-nil W) ∙ e))

-- Two exact tests make one scan: by what means a method tells an excess over k does not show in its steps
pub scan-alike : (P : List ℕ) (k q : ℕ) {stop stop' : List ℕ → Bool} → Exact P k q stop → Exact P k q stop'
    → (m : ℕ) (R U : List ℕ) (groups : List (List ℕ)) → Groups q U groups → Bytes U → Bytes R → excess P R ≤ k
    → scan stop m R groups ≡ scan stop' m R groups
unfolding scan
scan-alike P k q exact exact' m R U groups none hU hR within = refl
scan-alike P k q {stop} {stop'} exact exact' m R U groups (more {U = left} {groups = later} group small rest) hU hR within =
    rw (tells exact, tells exact')
    (step (ltb k (excess P (group ++ R))) refl
    (λ h. scan-alike P k q exact exact' m (group ++ R) left later rest (bytes-front left group hU) bytes_read h))
  where
    bytes-group : Bytes group
    bytes-group = bytes_back left group hU

    bytes_read : Bytes (group ++ R)
    bytes_read = bytes-append group R bytes-group hR

    tells : {test : List ℕ → Bool} → Exact P k q test → test (group ++ R) ≡ ltb k (excess P (group ++ R))
    tells e = e.tells (group ++ R) bytes_read (omega (arith, excess-append P group R bytes-group))

    step : (t : Bool) → ltb k (excess P (group ++ R)) ≡ t
        → (excess P (group ++ R) ≤ k → scan stop m (group ++ R) later ≡ scan stop' m (group ++ R) later)
        → cond t (stopped m (group ++ R)) (scan stop m (group ++ R) later) ≡ cond t (stopped m (group ++ R)) (scan stop' m (group ++ R) later)
    step true s go = refl
    step false s go = go (ltb-false k (excess P (group ++ R)) s)

-- a scan takes no byte twice
pub scan-most : (stop : List ℕ → Bool) (m q : ℕ) (R U : List ℕ) (groups : List (List ℕ)) → Groups q U groups
    → (scan stop m R groups).inspections ≤ length U + length R
unfolding scan
scan-most stop m q R U groups none = omega arith
scan-most stop m q R U groups (more {U = left} {groups = later} group small rest) =
    case (stop (group ++ R)) (scan-most stop m q (group ++ R) left later rest)
  where
    case : (t : Bool) → (scan stop m (group ++ R) later).inspections ≤ length left + length (group ++ R)
        → (cond t (stopped m (group ++ R)) (scan stop m (group ++ R) later)).inspections ≤ length (left ++ group) + length R
    case true h = omega (arith, length-append left group, length-append group R)
    case false h = omega (arith, length-append left group, length-append group R)

-- and one that lists its window has taken every byte of it
pub scan-whole : (stop : List ℕ → Bool) (m q : ℕ) (R U : List ℕ) (groups : List (List ℕ)) → Groups q U groups → (scan stop m R groups).listed ≡ true
    → (scan stop m R groups).inspections ≡ length U + length R
unfolding scan
scan-whole stop m q R U groups none = λ listed. omega arith
scan-whole stop m q R U groups (more {U = left} {groups = later} group small rest) =
    case (stop (group ++ R)) (scan-whole stop m q (group ++ R) left later rest)
  where
    case : (t : Bool) → ((scan stop m (group ++ R) later).listed ≡ true → (scan stop m (group ++ R) later).inspections ≡ length left + length (group ++ R))
        → (cond t (stopped m (group ++ R)) (scan stop m (group ++ R) later)).listed ≡ true
        → (cond t (stopped m (group ++ R)) (scan stop m (group ++ R) later)).inspections ≡ length (left ++ group) + length R
    case true h listed = absurd (false≢true listed)
    case false h listed = omega (arith, h listed, length-append left group, length-append group R)

-- ---- the two ways of cutting a window

singles-groups : (U : List ℕ) → Groups 1 (reverse U) (singles U)
unfolding singles
singles-groups [] = none
singles-groups (b ∷ U) = rw (reverse-cons b U) (more (b ∷ []) (le_refl 1) (singles-groups U))

pairs-groups : (U : List ℕ) → Groups 2 (reverse U) (pairs U)
unfolding pairs
pairs-groups [] = none
pairs-groups (b ∷ []) = more (b ∷ []) (omega arith) none
pairs-groups (b ∷ a ∷ U) = rw (reverse-cons b (a ∷ U), reverse-cons a U, append_assoc (reverse U) (a ∷ []) (b ∷ [])) (more (a ∷ b ∷ []) (le_refl 2) (pairs-groups U))

pub by-singles : (W : List ℕ) → Groups 1 W (singles (reverse W))
by-singles W = rw reverse-reverse at (singles-groups (reverse W))

pub by-pairs : (W : List ℕ) → Groups 2 W (pairs (reverse W))
by-pairs W = rw reverse-reverse at (pairs-groups (reverse W))
