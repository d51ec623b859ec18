-- Bytes made of pieces, one for each number of a list: one piece after the other, and their room.
use mathlib.Core.Path.{◌≡◌, refl, ap, ◌∙◌}
use mathlib.Core.List.{List, [], ◌∷◌, ◌++◌, append_assoc, append-nil, flat_map}
use Prim.Native.Nat.{ℕ, ◌+◌, ◌-◌, ◌≤◌, ◌<◌}
use native.Mathlib.Numerals.{add-one}
use native.Mathlib.Omega.{arith}
use lib.ListN.{length, get_or, take, drop, length-append}
use lib.Seq.{take-suc, take-add}

module _ (f : ℕ → List ℕ) where
  pub pieces_none : flat_map f [] ≡ []
  unfolding flat_map
  pieces_none = refl

  pub pieces-append : (U W : List ℕ) → flat_map f (U ++ W) ≡ flat_map f U ++ flat_map f W
  unfolding flat_map
  pieces-append [] W = refl
  pieces-append (x ∷ U) W = rw (pieces-append U W, append_assoc) refl

  pub pieces-one : (x : ℕ) → flat_map f (x ∷ []) ≡ f x
  unfolding flat_map
  pieces-one x = append-nil (f x)

  -- one piece more than before
  pub pieces_more : (xs : List ℕ) (i : ℕ) → i < length xs → flat_map f (take (i + 1) xs) ≡ flat_map f (take i xs) ++ f (get_or xs i 0)
  pieces_more xs i l =
      ap (λ (n : ℕ). flat_map f (take n xs)) (add-one i)
      ∙ ap (flat_map f) (take-suc xs i 0 l)
      ∙ pieces-append (take i xs) (get_or xs i 0 ∷ [])
      ∙ ap (λ (L : List ℕ). flat_map f (take i xs) ++ L) (pieces-one (get_or xs i 0))

  -- fewer pieces are no longer
  pieces-shorter : (xs : List ℕ) (i j : ℕ) → i ≤ j → length (flat_map f (take i xs)) ≤ length (flat_map f (take j xs))
  pieces-shorter xs i j h =
      let more : List ℕ = take (j - i) (drop i xs) in
      let whole : j ≡ i + (j - i) = omega arith in
      let all : take j xs ≡ take i xs ++ more = ap (λ (n : ℕ). take n xs) whole ∙ take-add i (j - i) xs in
      omega (
        arith,
        ap length (ap (flat_map f) all ∙ pieces-append (take i xs) more),
        length-append (flat_map f (take i xs)) (flat_map f more),
      )

  -- so what has room for the first `count` pieces has room for the one at i after those before it
  pub pieces_room : (xs : List ℕ) (i count at : ℕ) {n : ℕ} → i < count → count ≤ length xs → at + length (flat_map f (take count xs)) ≤ n
      → at + length (flat_map f (take i xs) ++ f (get_or xs i 0)) ≤ n
  pieces_room xs i count at l h room =
      omega (arith, ap length (pieces_more xs i (omega arith)), pieces-shorter xs (i + 1) count (omega arith))
