-- A window of a tail followed by a chunk lies in the seam where it starts in the tail, and in the chunk where it does not.
use mathlib.Core.Path.{◌≡◌, refl, sym, ap, ap₂, ◌∙◌}
use mathlib.Core.List.{List, [], ◌∷◌, ◌++◌}
use Prim.Native.Nat.{ℕ, zero, suc, ◌+◌, ◌-◌, ◌≤◌, ◌<◌}
use native.Mathlib.Nat.{zero-add}
use native.Mathlib.Omega.{arith}
use lib.ListN.{length, take, drop, length-drop}
use lib.Seq.{drop-append-le, drop-append-add, take-take}
use Rattle.jumbled.specs.Match.{window}
use Rattle.jumbled.proofs.Cuts.{Agree}

-- only so much of what follows matters to the first m elements
take-reach : (m j : ℕ) (A C : List ℕ) → m ≤ length A + j → take m (A ++ C) ≡ take m (A ++ take j C)
take-reach m j [] C h = sym (take-take m j C (omega arith))
take-reach zero j (x ∷ A) C h = refl
take-reach (suc m) j (x ∷ A) C h = ap (λ (l : List ℕ). x ∷ l) (take-reach m j A C (omega arith))

module _ (m : ℕ) (tail chunk seam : List ℕ) (reaching : seam ≡ tail ++ take (m - 1) chunk) where
  -- a window that starts in the tail lies in the seam
  seam-window : (s : ℕ) → s < length tail → window m (tail ++ chunk) s ≡ window m seam s
  seam-window s h =
      ap (take m) (drop-append-le s tail chunk (omega arith))
      ∙ take-reach m (m - 1) (drop s tail) chunk (omega (arith, length-drop s tail))
      ∙ ap (take m) (sym (drop-append-le s tail (take (m - 1) chunk) (omega arith)))
      ∙ ap (λ (l : List ℕ). window m l s) (sym reaching)

  -- and any other in the chunk
  chunk-window : (s : ℕ) → window m (tail ++ chunk) (length tail + s) ≡ window m chunk s
  chunk-window s = ap (take m) (drop-append-add tail chunk s)

  pub seam-agrees : (left : ℕ) → left ≤ length tail → Agree m (tail ++ chunk) 0 seam 0 left
  seam-agrees left h i l = rw (zero-add (0 + i), zero-add i) (seam-window i (omega arith))

  pub chunk-agrees : (left : ℕ) → Agree m (tail ++ chunk) (length tail) chunk 0 left
  chunk-agrees left i l = rw (zero-add i) (chunk-window i)

-- all of a text's first window starts
pub from_zero : {A : Type 0} (f : ℕ → ℕ → A) {first count : ℕ} → first ≡ 0 → f first (count - first) ≡ f 0 count
from_zero f {first} {count} e =
    let all : count - first ≡ count = omega arith in
    ap₂ f e all
