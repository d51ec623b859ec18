-- Laws of `tabulate`: its length, its entries, a store to one of them, and a table of one value.
use mathlib.Core.Path.{◌≡◌, refl, sym, ap, ◌∙◌}
use mathlib.Core.Bool.{Bool, true, false, cond}
use mathlib.Core.List.{List, [], ◌∷◌}
use mathlib.Core.Logic.{⊎_elim}
use Prim.Native.Nat.{ℕ, zero, suc, ◌+◌, ◌≤◌, ◌<◌}
use native.Mathlib.Numerals.{add-one}
use native.Mathlib.Omega.{arith}
use lib.Dec.{eqb}
use lib.ListN.{length, get_or, set, replicate, length-append, length-set, length-replicate, get_or-replicate, get_or-append}
use lib.Seq.{get_or_at, ext_get_or, get_or-set_same, get_or-set_other}
use borrow.Author.Tests.{eqb-true, eqb-false}
use Rattle.jumbled.proofs.Sums.{below_or_not}
use Rattle.table_parikh.specs.Table.{tabulate}

pub length-tabulate : (n : ℕ) (f : ℕ → ℕ) → length (tabulate n f) ≡ n
unfolding tabulate
length-tabulate zero f = refl
length-tabulate (suc n) f = length-append (tabulate n f) (f n ∷ []) ∙ ap (λ (k : ℕ). k + 1) (length-tabulate n f) ∙ add-one n

pub get_d_tabulate : (n : ℕ) (f : ℕ → ℕ) (i : ℕ) → i < n → get_or (tabulate n f) i 0 ≡ f i
unfolding tabulate
get_d_tabulate zero f i l = omega arith
get_d_tabulate (suc n) f i l =
    ⊎_elim
    (λ (h : i < n).
    get_or-append (tabulate n f) (f n ∷ []) 0 i (omega (arith, length-tabulate n f)) ∙ get_d_tabulate n f i h)
    (λ (h : n ≤ i).
    let same : i ≡ n = omega arith in
    get_or_at (tabulate n f) (f n) [] 0 i (length-tabulate n f ∙ sym same) ∙ ap f (sym same)) (below_or_not i n)

-- so a table of constants obeys a rule at each entry where it passes one test, which the checker computes over the whole of it
pub tabulated : {table : List ℕ} (n : ℕ) (f : ℕ → ℕ) → table ≡ tabulate n f → (i : ℕ) → i < n → get_or table i 0 ≡ f i
tabulated n f test i l = ap (λ (t : List ℕ). get_or t i 0) test ∙ get_d_tabulate n f i l

-- a list of n entries that are f's
pub is-tabulate : (n : ℕ) (f : ℕ → ℕ) (l : List ℕ) → length l ≡ n → ((i : ℕ) → i < n → get_or l i 0 ≡ f i) → l ≡ tabulate n f
is-tabulate n f l e h =
    ext_get_or 0 l (tabulate n f) (e ∙ sym (length-tabulate n f))
    (λ i m. let k : i < n = omega arith in h i k ∙ sym (get_d_tabulate n f i k))

pub tabulate-ext : (n : ℕ) (f g : ℕ → ℕ) → ((i : ℕ) → i < n → f i ≡ g i) → tabulate n f ≡ tabulate n g
tabulate-ext n f g h = is-tabulate n g (tabulate n f) (length-tabulate n f) (λ i l. get_d_tabulate n f i l ∙ h i l)

pub tabulate-replicate : (n v : ℕ) → replicate n v ≡ tabulate n (λ i. v)
tabulate-replicate n v = is-tabulate n (λ i. v) (replicate n v) (length-replicate n v) (λ i l. get_or-replicate n i v 0 l)

-- a store to one entry
pub tabulate-set : (n : ℕ) (f : ℕ → ℕ) (j v : ℕ) → set (tabulate n f) j v ≡ tabulate n (λ i. cond (eqb j i) v (f i))
tabulate-set n f j v =
    is-tabulate n (λ i. cond (eqb j i) v (f i)) (set (tabulate n f) j v) (length-set (tabulate n f) j v ∙ length-tabulate n f)
    (λ i l. at i l (eqb j i) refl)
  where
    at : (i : ℕ) → i < n → (t : Bool) → eqb j i ≡ t → get_or (set (tabulate n f) j v) i 0 ≡ cond t v (f i)
    at i l true e =
        let same : j ≡ i = eqb-true j i e in
        rw same (get_or-set_same (tabulate n f) i v 0 (omega (arith, length-tabulate n f)))
    at i l false e = get_or-set_other (tabulate n f) j i v 0 (λ q. eqb-false j i e (sym q)) ∙ get_d_tabulate n f i l
