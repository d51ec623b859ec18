-- Laws of `joined`: a part more. What stands between it and those before it is nothing where there are none, else one byte: `take before (c ∷ [])`.
use mathlib.Core.Path.{◌≡◌, refl, sym, ap, ◌∙◌}
use mathlib.Core.List.{List, [], ◌∷◌, ◌++◌, append_assoc}
use Prim.Native.Nat.{ℕ, zero, suc, ◌+◌, ◌-◌}
use native.Mathlib.Omega.{arith}
use lib.ListN.{length, take}
use lib.Seq.{take-nil}
use Rattle.sheet_form.specs.Sheet.{joined}

pub between-length : (c before : ℕ) → length (take before (c ∷ [])) + (before - 1) ≡ before
between-length c zero = refl
between-length c (suc zero) = refl
between-length c (suc (suc before)) = omega arith

pub joined-more : (c : ℕ) (parts : List (List ℕ)) (U : List ℕ) → joined c (parts ++ (U ∷ [])) ≡ joined c parts ++ (take (length parts) (c ∷ []) ++ U)
unfolding joined
joined-more c [] U = refl
joined-more c (W ∷ []) U = refl
joined-more c (W ∷ X ∷ parts) U =
    ap (λ (l : List ℕ). W ++ (c ∷ l)) (joined-more c (X ∷ parts) U ∙ ap (λ (l : List ℕ). joined c (X ∷ parts) ++ (c ∷ (l ++ U))) (take-nil (length parts)))
    ∙ sym (append_assoc W (c ∷ joined c (X ∷ parts)) (c ∷ U))
