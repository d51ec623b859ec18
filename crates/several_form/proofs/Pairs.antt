-- What is found, place by place: the pairs rise strictly, by position and at one position by number, and every number is a pattern's.
use mathlib.Core.Path.{◌≡◌, ◌∙◌}
use mathlib.Core.List.{List}
use mathlib.Core.Logic.{◌⊎◌, inl, inr, ⊎_elim}
use Prim.Native.Nat.{ℕ, zero, suc, ◌≤◌, ◌<◌}
use native.Mathlib.Omega.{arith}
use lib.ListN.{length, get_or}
use Rattle.several_form.specs.Finds.{Find, finds}
use Rattle.several_form.proofs.Separate.{NotBefore, Ordered, none, next, finds-ascend}

-- what stands past the last find
abbrev pub no_find : Find
no_find = record { position = 0; number = 0 }

-- ---- the order

-- f stands before g
abbrev pub Before : Find → Find → Type 0
Before f g = (f.position < g.position) ⊎ ((f.position ≡ g.position) × (f.number < g.number))

later : {p q : ℕ} {f g : Find} → NotBefore p q f → NotBefore f.position (suc f.number) g → NotBefore p q g
later {p} {q} {f} {g} first second =
    ⊎_elim (λ (a : p < f.position). inl (⊎_elim (λ (b : f.position < g.position). omega arith) (λ (b : (f.position ≡ g.position) × (suc f.number ≤ g.number)). omega (arith, b.0)) second))
    (λ (a : (p ≡ f.position) × (q ≤ f.number)).
    ⊎_elim (λ (b : f.position < g.position). inl (omega (arith, a.0))) (λ (b : (f.position ≡ g.position) × (suc f.number ≤ g.number)). inr (a.0 ∙ b.0, omega (arith, a.1, b.1)))
    second)
    first

none_before : {most p q : ℕ} {F : List Find} → Ordered most p q F → (j : ℕ) → j < length F → NotBefore p q (get_or F j no_find)
none_before none j h = absurd (omega arith)
none_before (next at least most more) zero h = at
none_before (next {f = f} at least most more) (suc j) h = later {f = f} at (none_before more j (omega arith))

rising : {most p q : ℕ} {F : List Find} → Ordered most p q F → (i j : ℕ) → i < j → j < length F → Before (get_or F i no_find) (get_or F j no_find)
rising none i j l h = absurd (omega arith)
rising (next at least most more) i zero l h = absurd (omega arith)
rising (next {f = f} {more = F} at least most more) zero (suc j) l h =
    ⊎_elim (λ a. inl a) (λ (a : (f.position ≡ (get_or F j no_find).position) × (suc f.number ≤ (get_or F j no_find).number)). inr (a.0, omega (arith, a.1)))
    (none_before more j (omega arith))
rising (next at least most more) (suc i) (suc j) l h = rising more i j (omega arith) (omega arith)

-- ---- the numbers

number_at : {most p q : ℕ} {F : List Find} → Ordered most p q F → (i : ℕ) → i < length F → (1 ≤ (get_or F i no_find).number) × ((get_or F i no_find).number ≤ most)
number_at none i h = absurd (omega arith)
number_at (next at least most more) zero h = (least, most)
number_at (next at least most more) (suc i) h = number_at more i (omega arith)

-- ---- of several patterns

module _ (Ps : List (List ℕ)) (k : ℕ) (T : List ℕ) where
  pub finds-rise : (i j : ℕ) → i < j → j < length (finds Ps k T) → Before (get_or (finds Ps k T) i no_find) (get_or (finds Ps k T) j no_find)
  finds-rise = rising (finds-ascend Ps k T)

  pub finds-numbered : (i : ℕ) → i < length (finds Ps k T) → (1 ≤ (get_or (finds Ps k T) i no_find).number) × ((get_or (finds Ps k T) i no_find).number ≤ length Ps)
  finds-numbered = number_at (finds-ascend Ps k T)
