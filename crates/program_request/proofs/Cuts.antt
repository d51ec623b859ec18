-- Laws of a list cut at the first c: where the cut lies, and what stands on its two sides.
use mathlib.Core.Path.{◌≡◌, refl, sym, ap, ◌∙◌}
use mathlib.Core.Bool.{Bool, true, false, cond}
use mathlib.Core.List.{List, [], ◌∷◌}
use Prim.Native.Nat.{ℕ, suc, ◌+◌, ◌-◌, ◌≤◌, ◌<◌}
use native.Mathlib.Numerals.{add-one}
use native.Mathlib.Omega.{arith}
use lib.Dec.{eqb, ltb, leb-suc-suc}
use lib.ListN.{length, take, drop, length-drop}
use lib.Seq.{take_all}
use borrow.Author.Tests.{lt-ltb, le-ltb, ltb-true}
use Rattle.std.specs.Prelude.{Some, None, position}
use Rattle.std.specs.List.{position_or_len}
use Rattle.std.proofs.lemmas.List.Recursion.{is_position_or_len}
use Rattle.program_request.specs.Line.{has, before_first, after_first}
use Rattle.program_request.specs.Reading.{Cut}

-- ---- the two sides of the cut

-- B stands before the first c of U, A after it, and h says whether there is one
record Sides (B A : List ℕ) (h : Bool) (U : List ℕ) : Type 0 where
  front : take (length B) U ≡ B
  rest : drop (suc (length B)) U ≡ A
  within : length B ≤ length U
  there : h ≡ ltb (length B) (length U)

cut-cons : (b : ℕ) {B A : List ℕ} {h : Bool} {U : List ℕ} (t : Bool) → Sides B A h U
    → Sides (cond t [] (b ∷ B)) (cond t U A) (cond t true h) (b ∷ U)
cut-cons b {U = U} true k =
    record { front = refl; rest = refl; within = omega arith; there = sym (lt-ltb 0 (suc (length U)) (omega arith)) }
cut-cons b {B} {U = U} false k =
    record {
      front = ap (λ (l : List ℕ). b ∷ l) k.front;
      rest = k.rest;
      within = omega (arith, k.within);
      there = k.there ∙ sym (leb-suc-suc (suc (length B)) (length U));
    }

cut : (c : ℕ) (U : List ℕ) → Sides (before_first c U) (after_first c U) (has c U) U
unfolding before_first after_first has
cut c [] = record { front = refl; rest = refl; within = omega arith; there = sym (le-ltb 0 0 (omega arith)) }
cut c (b ∷ U) = cut-cons b (eqb b c) (cut c U)

pub before-take : (c : ℕ) (U : List ℕ) → take (length (before_first c U)) U ≡ before_first c U
before-take c U = (cut c U).front

pub after-drop : (c : ℕ) (U : List ℕ) → drop (length (before_first c U) + 1) U ≡ after_first c U
after-drop c U = ap (λ (n : ℕ). drop n U) (add-one (length (before_first c U))) ∙ (cut c U).rest

pub before-le : (c : ℕ) (U : List ℕ) → length (before_first c U) ≤ length U
before-le c U = (cut c U).within

pub has-cut : (c : ℕ) (U : List ℕ) → has c U ≡ ltb (length (before_first c U)) (length U)
has-cut c U = (cut c U).there

-- where c occurs, the two sides and it are all of the list
pub sides-length : (c : ℕ) (U : List ℕ) → has c U ≡ true → length (before_first c U) + 1 + length (after_first c U) ≡ length U
sides-length c U h =
    omega (
      arith,
      ltb-true (length (before_first c U)) (length U) (sym (has-cut c U) ∙ h),
      ap length (after-drop c U),
      length-drop (length (before_first c U) + 1) U,
    )

-- ---- the place that the code finds

before-place : (c : ℕ) (U : List ℕ) → length (before_first c U) ≡ position_or_len (λ b. eqb b c) U
unfolding before_first
before-place c U = is_position_or_len (λ (V : List ℕ). length (before_first c V)) (λ (b : ℕ). eqb b c) refl (λ b V. at (eqb b c) b (before_first c V)) U
  where
    at : (t : Bool) (b : ℕ) (B : List ℕ) → length (cond t [] (b ∷ B)) ≡ cond t 0 (1 + length B)
    at true b B = refl
    at false b B = omega arith

place-known : (c : ℕ) (U : List ℕ) → position (λ b. eqb b c) U ≡ cond (has c U) (Some (length (before_first c U))) None
place-known c U = rw (has-cut c U, before-place c U) refl

module _ (c : ℕ) (U : List ℕ) where
  pub none-found : None ≡ position (λ b. eqb b c) U → has c U ≡ false
  none-found e = by (has c U) refl (e ∙ place-known c U)
    where
      by : (t : Bool) → has c U ≡ t → None ≡ cond t (Some (length (before_first c U))) None → has c U ≡ false
      by true h q = cc
      by false h q = h

  -- c stands at i, and parts the list there
  pub record Found (i : ℕ) : Type 0 where
    pub inside : i < length U
    pub cut : Cut c U (take i U) (take (length U - (i + 1)) (drop (i + 1) U))

  pub one-found : {i : ℕ} → Some i ≡ position (λ b. eqb b c) U → Found i
  one-found {i} e = by (has c U) refl (e ∙ place-known c U)
    where
      at : has c U ≡ true → i ≡ length (before_first c U) → Found i
      at h place =
          record {
            inside = omega (arith, ltb-true (length (before_first c U)) (length U) (sym (has-cut c U) ∙ h));
            cut =
                record {
                  there = h;
                  before = rw place (before-take c U);
                  after =
                      take_all (length U - (i + 1)) (drop (i + 1) U) (omega (arith, length-drop (i + 1) U))
                      ∙ ap (λ (n : ℕ). drop (n + 1) U) place
                      ∙ after-drop c U;
                };
          }

      by : (t : Bool) → has c U ≡ t → Some i ≡ cond t (Some (length (before_first c U))) None → Found i
      by true h q = at h cc
      by false h q = cc
