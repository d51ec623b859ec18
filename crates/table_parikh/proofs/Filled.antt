-- A table that a loop fills from its first entry on.
use mathlib.Core.Path.{◌≡◌, refl, sym, ap, ◌∙◌}
use mathlib.Core.Bool.{Bool, true, false, cond}
use mathlib.Core.List.{List}
use mathlib.Core.Logic.{◌⊎◌, inl, inr, ⊎_elim}
use Prim.Native.Nat.{ℕ, ◌+◌, ◌≤◌, ◌<◌}
use native.Mathlib.Numerals.{lt_of_le_of_ne}
use native.Mathlib.Omega.{arith}
use lib.Dec.{eqb, ltb}
use lib.ListN.{set, replicate}
use borrow.Author.Tests.{lt-ltb, le-ltb, eqb-true, eqb-false}
use Rattle.jumbled.proofs.Sums.{below_or_not}
use Rattle.table_parikh.specs.Table.{tabulate}
use Rattle.table_parikh.proofs.Tables.{tabulate-ext, tabulate-replicate, tabulate-set}

-- An entry of it: f's below c, and v from there on
abbrev entry : (ℕ → ℕ) → ℕ → ℕ → ℕ → ℕ
entry f v c i = cond (ltb i c) (f i) v

-- The table of n entries after c of them
unfoldable pub filled : ℕ → (ℕ → ℕ) → ℕ → ℕ → List ℕ
filled n f v c = tabulate n (entry f v c)

pub filled_none : (n : ℕ) (f : ℕ → ℕ) (v : ℕ) → replicate n v ≡ filled n f v 0
unfolding filled
filled_none n f v =
    tabulate-replicate n v ∙ tabulate-ext n (λ i. v) (entry f v 0) (λ i l. rw (le-ltb i 0 (omega arith)) refl)

pub filled-all : (n : ℕ) (f : ℕ → ℕ) (v c : ℕ) → n ≤ c → filled n f v c ≡ tabulate n f
unfolding filled
filled-all n f v c h = tabulate-ext n (entry f v c) f (λ i l. rw (lt-ltb i c (omega arith)) refl)

-- where the entries below c are v as well
pub filled-below : (n : ℕ) (f : ℕ → ℕ) (v c : ℕ) → ((i : ℕ) → i < c → f i ≡ v) → replicate n v ≡ filled n f v c
unfolding filled
filled-below n f v c h =
    tabulate-replicate n v ∙ tabulate-ext n (λ i. v) (entry f v c) (λ i l. at i (below_or_not i c))
  where
    at : (i : ℕ) → (i < c) ⊎ (c ≤ i) → v ≡ entry f v c i
    at i (inl l) = rw (lt-ltb i c l) (sym (h i l))
    at i (inr l) = rw (le-ltb i c l) refl

-- and where those from c on are
pub filled-above : (n : ℕ) (f : ℕ → ℕ) (v c : ℕ) → ((i : ℕ) → c ≤ i → f i ≡ v) → filled n f v c ≡ tabulate n f
unfolding filled
filled-above n f v c h = tabulate-ext n (entry f v c) f (λ i l. at i (below_or_not i c))
  where
    at : (i : ℕ) → (i < c) ⊎ (c ≤ i) → entry f v c i ≡ f i
    at i (inl l) = rw (lt-ltb i c l) refl
    at i (inr l) = rw (le-ltb i c l) (sym (h i l))

-- one entry more, where x is to stand at c
entry_next : (f : ℕ → ℕ) (v c x : ℕ) → x ≡ f c → (i : ℕ) (t : Bool) → eqb c i ≡ t → cond t x (entry f v c i) ≡ entry f v (c + 1) i
entry_next f v c x h i true e =
    let same : c ≡ i = eqb-true c i e in
    rw (lt-ltb i (c + 1) (omega arith)) (h ∙ ap f same)
entry_next f v c x h i false e =
    ⊎_elim (λ (l : i < c). rw (lt-ltb i c l, lt-ltb i (c + 1) (omega arith)) refl)
    (λ (l : c ≤ i).
    let other : c < i = lt_of_le_of_ne l (eqb-false c i e) in
    rw (le-ltb i c l, le-ltb i (c + 1) (omega arith)) refl) (below_or_not i c)

pub filled-set : (n : ℕ) (f : ℕ → ℕ) (v c x : ℕ) → x ≡ f c → set (filled n f v c) c x ≡ filled n f v (c + 1)
unfolding filled
filled-set n f v c x h =
    tabulate-set n (entry f v c) c x
    ∙ tabulate-ext n (λ i. cond (eqb c i) x (entry f v c i)) (entry f v (c + 1)) (λ i l. entry_next f v c x h i (eqb c i) refl)

-- the entry there is right as it is
pub filled-skip : (n : ℕ) (f : ℕ → ℕ) (v c : ℕ) → f c ≡ v → filled n f v c ≡ filled n f v (c + 1)
unfolding filled
filled-skip n f v c h = tabulate-ext n (entry f v c) (entry f v (c + 1)) (λ i l. at i (eqb c i) refl)
  where
    at : (i : ℕ) (t : Bool) → eqb c i ≡ t → entry f v c i ≡ entry f v (c + 1) i
    at i true e =
        let same : c ≡ i = eqb-true c i e in
        rw (le-ltb i c (omega arith), lt-ltb i (c + 1) (omega arith)) (sym (ap f (sym same) ∙ h))
    at i false e = entry_next f v c v (sym h) i false e
