-- A forward method searches a tail followed by a chunk as the seam, for the windows that start in the tail, and then as the chunk.
use mathlib.Core.Path.{◌≡◌, refl, sym, ap, ap₂, ◌∙◌}
use mathlib.Core.List.{List, ◌++◌}
use Prim.Native.Nat.{ℕ, zero, suc, ◌+◌, ◌-◌, ◌≤◌, ◌<◌}
use native.Mathlib.Nat.{add-zero, zero-add, add_assoc}
use native.Mathlib.Omega.{arith}
use lib.ListN.{length, take}
use Rattle.jumbled.specs.Scan.{Result, nothing, Judged, forward}
use Rattle.jumbled.proofs.Cuts.{◌then◌, moved, moved-zero, forward-cut, forward-primed, forward-agree}
use Rattle.chunk_seam.proofs.Joins.{seam-agrees, chunk-agrees}
use Rattle.chunk_forward.specs.Starting.{primed}

primed-then : (n : ℕ) (a b : Result) → primed n (a then b) ≡ primed n a then b
primed-then n a b =
    ap (λ (i : ℕ). record { occurrences = a.occurrences ++ b.occurrences; inspections = i }) (sym (add_assoc n a.inspections b.inspections))

module _ (judged : List ℕ → Judged) (m : ℕ) (tail chunk seam : List ℕ) (reaching : seam ≡ tail ++ take (m - 1) chunk) where
  pub forward-joined : (a b : ℕ) → 1 ≤ m → 0 < a + b → a ≤ length tail → (0 < b → a ≡ length tail)
      → forward judged m (tail ++ chunk) 0 (a + b) m
      ≡ primed (m - 1) (forward judged m seam 0 a 1) then moved (length tail) (forward judged m chunk 0 b 1)
  unfolding forward
  forward-joined a b some any inside full =
      ap (forward judged m (tail ++ chunk) 0 (a + b)) (omega arith)
      ∙ forward-primed judged m (tail ++ chunk) 0 (a + b) (m - 1) any
      ∙ ap (primed (m - 1)) (forward-cut judged m (tail ++ chunk) 0 a b ∙ ap₂ ◌then◌ first (second b full))
      ∙ primed-then (m - 1) (forward judged m seam 0 a 1) (moved (length tail) (forward judged m chunk 0 b 1))
    where
      first : forward judged m (tail ++ chunk) 0 a 1 ≡ forward judged m seam 0 a 1
      first =
          forward-agree judged m (tail ++ chunk) 0 seam 0 a 1 (seam-agrees m tail chunk seam reaching a inside)
          ∙ moved-zero (forward judged m seam 0 a 1)

      second : (left : ℕ) → (0 < left → a ≡ length tail)
          → forward judged m (tail ++ chunk) (0 + a) left 1 ≡ moved (length tail) (forward judged m chunk 0 left 1)
      second zero none = refl
      second (suc left) more =
          ap (λ (n : ℕ). forward judged m (tail ++ chunk) n (suc left) 1) (zero-add a ∙ more (omega arith) ∙ sym (add-zero (length tail)))
          ∙ forward-agree judged m (tail ++ chunk) (length tail) chunk 0 (suc left) 1 (chunk-agrees m tail chunk seam reaching (suc left))

pub forward-none : (judged : List ℕ → Judged) (m : ℕ) (T : List ℕ) (s left cost : ℕ) → left ≡ 0 → forward judged m T s left cost ≡ nothing
unfolding forward
forward-none judged m T s left cost e = rw e refl
