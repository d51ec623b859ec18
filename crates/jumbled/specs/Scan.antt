-- The two ways of going through a text: document 01, "The five methods", the sentences above the list, and 1 and 5 for the sliding window;
-- document 02, T-04, for method 6, which goes through it as 2, 3 and 4 do, and T-08 for a search that ends with the first window that it lists.
-- An inspection is document 01's look: one byte taken by the steps.
use Rattle.std.specs.Prelude.{ℕ, zero, suc, ◌+◌, ◌-◌, Bool, true, false, cond, List, [], ◌∷◌, ◌++◌, ltb, length, get_or}
use Rattle.jumbled.specs.Match.{window, starts}

-- What the steps of a method yield
pub record Result : Type 0 where
  pub occurrences : List ℕ
  pub inspections : ℕ

abbrev pub nothing : Result
nothing = record { occurrences = []; inspections = 0 }

-- One window's share, before what the windows after it yield: s, if it is listed, and its inspections
abbrev pub note : Bool → ℕ → ℕ → Result → Result
note listed s taken rest =
    record {
      occurrences = cond listed (s ∷ rest.occurrences) rest.occurrences;
      inspections = taken + rest.inspections;
    }

-- ---- backward: methods 2, 3, 4 and 6

-- The scan of the window at s: whether s is listed, the offset p - s of the position p at which it stopped, or 0 where all of the window
-- was read, and the inspections. The search goes on at p + 1, where all was read at s + 1: at s + offset + 1.
pub record Scanned : Type 0 where
  pub listed : Bool
  pub offset : ℕ
  pub inspections : ℕ

-- All of the window R was read
abbrev pub completed : List ℕ → Scanned
completed R = record { listed = true; offset = 0; inspections = length R }

-- The scan stopped at the first byte of the part R of a window of m bytes, which is all that was read
abbrev pub stopped : ℕ → List ℕ → Scanned
stopped m R = record { listed = false; offset = m - length R; inspections = length R }

-- A window is read from its right end, step by step. Each step takes a group of bytes, the groups standing in the order of reading; R is
-- the part of the window read so far, as it stands in the text. Where the test holds of R after a step, the scan stops at R's first byte.
unfoldable pub scan : (List ℕ → Bool) → ℕ → List ℕ → List (List ℕ) → Scanned
scan stop m R [] = completed R
scan stop m R (group ∷ groups) = cond (stop (group ++ R)) (stopped m (group ++ R)) (scan stop m (group ++ R) groups)

-- A window's bytes, the rightmost first, in groups of one (methods 2, 4 and 6)
unfoldable pub singles : List ℕ → List (List ℕ)
singles [] = []
singles (b ∷ more) = (b ∷ []) ∷ singles more

-- and in groups of two, each as it stands in the text, the leftmost byte alone where their number is odd (method 3)
unfoldable pub pairs : List ℕ → List (List ℕ)
pairs [] = []
pairs (b ∷ []) = (b ∷ []) ∷ []
pairs (b ∷ a ∷ more) = (a ∷ b ∷ []) ∷ pairs more

-- The driver of the backward methods, from the window start s on: `left` window starts are left, and the first `skip` of them are passed over.
unfoldable pub backward : (List ℕ → Scanned) → ℕ → List ℕ → ℕ → ℕ → ℕ → Result
backward scanned m T s zero skip = nothing
backward scanned m T s (suc left) (suc skip) = backward scanned m T (suc s) left skip
backward scanned m T s (suc left) zero =
    let w : Scanned = scanned (window m T s) in
    note w.listed s w.inspections (backward scanned m T (suc s) left w.offset)

-- Where the driver stands after these `left` window starts: how many of those that follow are still to be passed over
unfoldable pub standing : (List ℕ → Scanned) → ℕ → List ℕ → ℕ → ℕ → ℕ → ℕ
standing scanned m T s zero skip = skip
standing scanned m T s (suc left) (suc skip) = standing scanned m T (suc s) left skip
standing scanned m T s (suc left) zero = standing scanned m T (suc s) left (scanned (window m T s)).offset

-- ---- forward: methods 1 and 5

-- What is found of a window: whether it is listed, and the inspections that its verification adds
pub record Judged : Type 0 where
  pub listed : Bool
  pub verification : ℕ

abbrev pub unverified : Bool → Judged
unverified listed = record { listed = listed; verification = 0 }

-- The driver of the forward methods, from the window start s on: `left` window starts are left, and it takes `cost` inspections to have the
-- window at s: m for the first window, one for each further one.
unfoldable pub forward : (List ℕ → Judged) → ℕ → List ℕ → ℕ → ℕ → ℕ → Result
forward judged m T s zero cost = nothing
forward judged m T s (suc left) cost =
    let w : Judged = judged (window m T s) in
    note w.listed s (cost + w.verification) (forward judged m T (suc s) left 1)

-- ---- either way

-- How a method goes about a window: it scans it backward, or judges it when the window has slid there. A number that is no method's does neither.
pub data Way : Type 0 where
  scans : (List ℕ → Scanned) → Way
  judges : (List ℕ → Judged) → Way
  neither : Way

-- The way's driver over `left` window starts from s on. Where a forward method begins it takes a whole window.
abbrev pub driven : Way → ℕ → List ℕ → ℕ → ℕ → Result
driven (scans scanned) m T s left = backward scanned m T s left 0
driven (judges judged) m T s left = forward judged m T s left m
driven neither m T s left = nothing

-- ---- ended with the first window that is listed (document 02, T-08)

-- One window's share; what the windows after it yield is there only where it is not listed itself
abbrev pub note_first : Bool → ℕ → ℕ → Result → Result
note_first listed s taken rest = note listed s taken (cond listed nothing rest)

-- The driver of the backward methods, ended with the scan that lists its window
unfoldable pub backward_first : (List ℕ → Scanned) → ℕ → List ℕ → ℕ → ℕ → ℕ → Result
backward_first scanned m T s zero skip = nothing
backward_first scanned m T s (suc left) (suc skip) = backward_first scanned m T (suc s) left skip
backward_first scanned m T s (suc left) zero =
    let w : Scanned = scanned (window m T s) in
    note_first w.listed s w.inspections (backward_first scanned m T (suc s) left w.offset)

-- The driver of the forward methods, ended with the window that is listed
unfoldable pub forward_first : (List ℕ → Judged) → ℕ → List ℕ → ℕ → ℕ → ℕ → Result
forward_first judged m T s zero cost = nothing
forward_first judged m T s (suc left) cost =
    let w : Judged = judged (window m T s) in
    note_first w.listed s (cost + w.verification) (forward_first judged m T (suc s) left 1)

-- The one or the other, by the way
abbrev pub driven_first : Way → ℕ → List ℕ → ℕ → ℕ → Result
driven_first (scans scanned) m T s left = backward_first scanned m T s left 0
driven_first (judges judged) m T s left = forward_first judged m T s left m
driven_first neither m T s left = nothing

-- ---- a search that ends where its places are full

-- How many of the `left` window starts from s on a search goes through that would list these positions and has so many places for them: it
-- ends with the window that takes the last place, and where a place stays free it goes through all of them.
unfoldable pub through : ℕ → ℕ → ℕ → List ℕ → ℕ
through zero s left listed = 0
through (suc places) s left listed = cond (ltb places (length listed)) (suc (get_or listed places 0) - s) left

-- The way's driver over all window starts of a text, ended where so many places are full
abbrev pub driven_into : (places : ℕ) → Way → ℕ → List ℕ → Result
driven_into places w m T = driven w m T 0 (through places 0 (starts m T) (driven w m T 0 (starts m T)).occurrences)
