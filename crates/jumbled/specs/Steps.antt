-- The steps of the six methods: document 01, "The five methods", 1 to 5, and document 02, T-04, for 6, T-07 for lost hours and T-08 for steps that
-- begin at a given place and end with the first window listed. The methods have the papers' names:
-- 1 count, 2 bam (packed backward), 3 bam2 (pairs backward), 4 abam (approximate backward), 5 hcam (heap values), 6 ebl (without counters).
use Rattle.std.specs.Prelude.{ℕ, ◌+◌, ◌-◌, Bool, false, cond, not, ◌&&◌, ◌||◌, List, [], ◌∷◌, reverse, ltb, eqb, length}
use Rattle.jumbled.specs.Match.{occurs, lost_hour, lost, matches, window, starts, select}
use Rattle.jumbled.specs.Scan.{Result, Scanned, scan, singles, pairs, Judged, unverified, Way, scans, judges, neither, driven, driven_first, driven_into}
use Rattle.jumbled.specs.Fields.{Layout, bam_layout, bam2_layout, abam_layout, overflows, errors}
use Rattle.jumbled.specs.Heap.{heap_sum, exact}

-- 1: a sliding window; the window is judged by its counts
unfoldable pub count_judged : List ℕ → ℕ → List ℕ → Judged
count_judged P k W = unverified (matches P k W)

-- 2 and 3, with fields of these widths and these groups of bytes a step: stops where a field's top bit is set
abbrev pub packed_scan : Layout → (grouped : List ℕ → List (List ℕ)) → List ℕ → List ℕ → Scanned
packed_scan layout grouped P W = scan (overflows P layout) (length P) [] (grouped (reverse W))

-- 2: one byte a step
unfoldable pub bam_scan : List ℕ → List ℕ → Scanned
bam_scan P W = packed_scan bam_layout singles P W

-- 3: two bytes a step
unfoldable pub bam2_scan : List ℕ → List ℕ → Scanned
bam2_scan P W = packed_scan bam2_layout pairs P W

-- 4: one byte a step; stops where the errors pass k
unfoldable pub abam_scan : List ℕ → ℕ → List ℕ → Scanned
abam_scan P k W = scan (λ R. ltb k (errors P (abam_layout k) R)) (length P) [] (singles (reverse W))

-- 5: a window is a candidate where its sum equals P's
unfoldable pub candidate : List ℕ → List ℕ → Bool
candidate P W = eqb (heap_sum P W) (heap_sum P P)

-- The windows that 5 verifies: those that hold a lost hour, and the candidates where the values are not exact
unfoldable pub verified : List ℕ → List ℕ → Bool
verified P W = occurs W lost_hour || (candidate P W && not (exact P))

-- A window is verified by counting, m inspections more; one that is not is listed where it is a candidate
unfoldable pub hcam_judged : List ℕ → List ℕ → Judged
hcam_judged P W = cond (verified P W) (record { listed = matches P 0 W; verification = length P }) (unverified (candidate P W))

-- Where the verified windows start in a text
unfoldable pub verified_starts : List ℕ → List ℕ → List ℕ
verified_starts P T = select (λ s. verified P (window (length P) T s)) 0 (starts (length P) T)

-- 6 reads on past a byte that P has, and past a lost hour as if P had it
unfoldable pub passes : List ℕ → ℕ → Bool
passes P b = lost b || occurs P b

-- It stops at any other, a byte that P lacks: the byte last read, the first of the part R
unfoldable pub lacks : List ℕ → List ℕ → Bool
lacks P [] = false
lacks P (b ∷ R) = not (passes P b)

-- The scan w has read all of the window W: it is verified by counting, m inspections more, and the search goes on at s + 1 whether it is listed
-- or not
abbrev pub verified_after : Scanned → List ℕ → List ℕ → Scanned
verified_after w P W = record { listed = matches P 0 W; offset = 0; inspections = w.inspections + length P }

-- 6: one byte a step. A scan that has met no byte that P lacks has read all of the window.
unfoldable pub ebl_scan : List ℕ → List ℕ → Scanned
ebl_scan P W =
    let w : Scanned = scan (lacks P) (length P) [] (singles (reverse W)) in
    cond w.listed (verified_after w P W) w

-- A method's way, by its number
unfoldable pub way_of : List ℕ → ℕ → ℕ → Way
way_of P k method =
    cond (eqb method 1) (judges (count_judged P k))
    (cond (eqb method 2) (scans (bam_scan P))
    (cond (eqb method 3) (scans (bam2_scan P))
    (cond (eqb method 4) (scans (abam_scan P k))
    (cond (eqb method 5) (judges (hcam_judged P))
    (cond (eqb method 6) (scans (ebl_scan P))
    neither)))))

-- The steps of a method over a text, from its first window start to its last
unfoldable pub steps : List ℕ → ℕ → ℕ → List ℕ → Result
steps P k method T = driven (way_of P k method) (length P) T 0 (starts (length P) T)

-- The steps begun at a and ended with the first window that they list (document 02, T-08). Where fewer than m bytes are left from a on, there is no
-- window start, and they yield nothing.
unfoldable pub steps_from : List ℕ → ℕ → ℕ → List ℕ → ℕ → Result
steps_from P k method T a = driven_first (way_of P k method) (length P) T a (starts (length P) T - a)

-- The steps over a text of a search that ends where so many places are full
unfoldable pub steps_into : (places : ℕ) → List ℕ → ℕ → ℕ → List ℕ → Result
steps_into places P k method T = driven_into places (way_of P k method) (length P) T
