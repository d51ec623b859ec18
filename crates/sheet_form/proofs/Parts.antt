-- Laws of `parts_by`: parts that don't hold a byte, joined by it, are cut apart again at it.
use mathlib.Core.Path.{◌≡◌, refl, ap, ◌∙◌}
use mathlib.Core.Bool.{Bool, true, false, cond}
use mathlib.Core.List.{List, [], ◌∷◌, ◌++◌}
use Prim.Native.Nat.{ℕ, zero, suc, ◌≤◌, ◌<◌}
use native.Mathlib.Omega.{arith}
use lib.Dec.{eqb}
use lib.ListN.{length, get_or, replicate}
use borrow.Author.Tests.{eq-eqb, ne_eqb}
use Rattle.sheet_form.specs.Sheet.{joined}
use Rattle.sheet_form.specs.Reading.{in_front, parts_by, but_last}

-- ---- no byte is c

pub data Without (c : ℕ) : List ℕ → Type 0 where
  none : Without c []
  more : {b : ℕ} {U : List ℕ} → (b ≡ c → ⊥) → Without c U → Without c (b ∷ U)

module _ {c : ℕ} where
  pub without-append : {U W : List ℕ} → Without c U → Without c W → Without c (U ++ W)
  without-append none w = w
  without-append (more other u) w = more other (without-append u w)

  pub without-one : {b : ℕ} → (b ≡ c → ⊥) → Without c (b ∷ [])
  without-one other = more other none

  pub without-replicate : (n b : ℕ) → (b ≡ c → ⊥) → Without c (replicate n b)
  without-replicate zero b other = none
  without-replicate (suc n) b other = more other (without-replicate n b other)

-- ---- parts

module _ (c : ℕ) where
  -- there is always one
  pub parts-some : (U : List ℕ) → 1 ≤ length (parts_by c U)
  unfolding parts_by in_front
  parts-some [] = omega arith
  parts-some (b ∷ U) = by (eqb b c)
    where
      front-some : (parts : List (List ℕ)) → 1 ≤ length (in_front b parts)
      front-some [] = omega arith
      front-some (W ∷ parts) = omega arith

      by : (t : Bool) → 1 ≤ length (cond t ([] ∷ parts_by c U) (in_front b (parts_by c U)))
      by true = omega arith
      by false = front-some (parts_by c U)

  -- the first part
  pub parts_first : {U : List ℕ} → Without c U → (W : List ℕ) → parts_by c (U ++ (c ∷ W)) ≡ U ∷ parts_by c W
  unfolding parts_by in_front
  parts_first none W = rw (eq-eqb c c refl) refl
  parts_first (more {b} {U} other u) W = rw (ne_eqb b c other, parts_first u W) refl

  -- the only one
  pub parts-one : {U : List ℕ} → Without c U → parts_by c U ≡ U ∷ []
  unfolding parts_by in_front
  parts-one none = refl
  parts-one (more {b} {U} other u) = rw (ne_eqb b c other, parts-one u) refl

  -- parts without c, joined by c and cut at it again
  pub parts-joined : (parts : List (List ℕ)) → 0 < length parts → ((i : ℕ) → i < length parts → Without c (get_or parts i []))
      → parts_by c (joined c parts) ≡ parts
  unfolding joined
  parts-joined [] some without = absurd (omega arith)
  parts-joined (U ∷ []) some without = parts-one (without 0 (omega arith))
  parts-joined (U ∷ W ∷ parts) some without =
      parts_first (without 0 (omega arith)) (joined c (W ∷ parts))
      ∙ ap (λ (later : List (List ℕ)). U ∷ later) (parts-joined (W ∷ parts) (omega arith) (λ i l. without (suc i) (omega arith)))

-- a part in front of others is not the last
pub but_last-more : (U : List ℕ) (parts : List (List ℕ)) → 1 ≤ length parts → but_last (U ∷ parts) ≡ U ∷ but_last parts
unfolding but_last
but_last-more U [] some = absurd (omega arith)
but_last-more U (W ∷ parts) some = refl
