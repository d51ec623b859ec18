-- A backward method searches a tail followed by a chunk as the seam, for the windows that start in the tail, and then as the chunk.
use mathlib.Core.Path.{◌≡◌, refl, sym, ap, ap₂, ◌∙◌}
use mathlib.Core.List.{List, ◌++◌}
use mathlib.Core.Logic.{⊎_elim}
use Prim.Native.Nat.{ℕ, zero, suc, ◌+◌, ◌-◌, ◌≤◌, ◌<◌, min}
use native.Mathlib.Nat.{add-zero, zero-add}
use native.Mathlib.Omega.{arith}
use lib.ListN.{length, take}
use Rattle.jumbled.specs.Scan.{Result, nothing, Scanned, backward, standing, through}
use Rattle.jumbled.proofs.Sums.{below_or_not}
use Rattle.jumbled.proofs.Cuts.{◌then◌, moved, moved-zero, backward-cut, backward-skip, backward-within, backward-agree, standing-agree, through-between, through-passed}
use Rattle.chunk_seam.proofs.Joins.{seam-agrees, chunk-agrees}

module _ (scanned : List ℕ → Scanned) (m : ℕ) (tail chunk seam : List ℕ) (reaching : seam ≡ tail ++ take (m - 1) chunk) where
  -- the window starts in the tail, a of them, and those in the chunk: b of them, or none where a stops short of the tail's end
  pub backward-joined : (a b : ℕ) → a ≤ length tail → (0 < b → a ≡ length tail)
      → backward scanned m (tail ++ chunk) 0 (a + b) 0
      ≡ backward scanned m seam 0 a 0 then moved (length tail) (backward scanned m chunk 0 b (standing scanned m seam 0 a 0))
  unfolding backward
  backward-joined a b inside full =
      backward-cut scanned m (tail ++ chunk) 0 a b 0
      ∙ ap₂ ◌then◌ first (ap (backward scanned m (tail ++ chunk) (0 + a) b) stand ∙ second b full)
    where
      skip : ℕ
      skip = standing scanned m seam 0 a 0

      first : backward scanned m (tail ++ chunk) 0 a 0 ≡ backward scanned m seam 0 a 0
      first =
          backward-agree scanned m (tail ++ chunk) 0 seam 0 a 0 (seam-agrees m tail chunk seam reaching a inside)
          ∙ moved-zero (backward scanned m seam 0 a 0)

      stand : standing scanned m (tail ++ chunk) 0 a 0 ≡ skip
      stand = standing-agree scanned m (tail ++ chunk) 0 seam 0 a 0 (seam-agrees m tail chunk seam reaching a inside)

      second : (left : ℕ) → (0 < left → a ≡ length tail) → backward scanned m (tail ++ chunk) (0 + a) left skip ≡ moved (length tail) (backward scanned m chunk 0 left skip)
      second zero none = refl
      second (suc left) some =
          ap (λ (n : ℕ). backward scanned m (tail ++ chunk) n (suc left) skip) (zero-add a ∙ some (omega arith) ∙ sym (add-zero (length tail)))
          ∙ backward-agree scanned m (tail ++ chunk) (length tail) chunk 0 (suc left) skip (chunk-agrees m tail chunk seam reaching (suc left))

backward-none : (scanned : List ℕ → Scanned) (m : ℕ) (T : List ℕ) (s left skip : ℕ) → left ≡ 0 → backward scanned m T s left skip ≡ nothing
unfolding backward
backward-none scanned m T s left skip e = rw e refl

-- The search of b window starts that ends where its places are full and passes over the first `skip` is one that begins after these, with as many
-- places; where it passes over all of them there is nothing to find
pub backward-rest : (scanned : List ℕ → Scanned) (m : ℕ) (T : List ℕ) (places skip b : ℕ)
    → backward scanned m T 0 (through places 0 b (backward scanned m T 0 b skip).occurrences) skip
    ≡ backward scanned m T (min skip b)
    (through places (min skip b) (b - min skip b) (backward scanned m T (min skip b) (b - min skip b) 0).occurrences) 0
backward-rest scanned m T places skip b = ⊎_elim some_left none_left (below_or_not skip b)
  where
    skipped : (n : ℕ) → backward scanned m T 0 n skip ≡ backward scanned m T skip (n - skip) 0
    skipped n = backward-skip scanned m T 0 n skip ∙ ap (λ (s : ℕ). backward scanned m T s (n - skip) 0) (zero-add skip)

    some_left : skip < b
        → backward scanned m T 0 (through places 0 b (backward scanned m T 0 b skip).occurrences) skip
        ≡ backward scanned m T (min skip b)
        (through places (min skip b) (b - min skip b) (backward scanned m T (min skip b) (b - min skip b) 0).occurrences) 0
    some_left h =
        let least : min skip b ≡ skip = omega arith in
        rw least
        (skipped (through places 0 b (backward scanned m T 0 b skip).occurrences)
        ∙ ap (λ (n : ℕ). backward scanned m T skip n 0)
        (through-passed places 0 b skip (backward scanned m T 0 b skip).occurrences
        ∙ ap₂ (λ (s : ℕ) (r : Result). through places s (b - skip) r.occurrences) (zero-add skip) (skipped b)))

    none_left : b ≤ skip
        → backward scanned m T 0 (through places 0 b (backward scanned m T 0 b skip).occurrences) skip
        ≡ backward scanned m T (min skip b)
        (through places (min skip b) (b - min skip b) (backward scanned m T (min skip b) (b - min skip b) 0).occurrences) 0
    none_left h =
        let gone = (through-between (backward-within scanned m T 0 b skip) places).1 in
        let rest = (through-between (backward-within scanned m T (min skip b) (b - min skip b) 0) places).1 in
        skipped (through places 0 b (backward scanned m T 0 b skip).occurrences)
        ∙ backward-none scanned m T skip _ 0 (omega (arith, gone)) ∙ sym (backward-none scanned m T (min skip b) _ 0 (omega (arith, rest)))
