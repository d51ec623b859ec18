-- Laws of `parikh`: its length, its entries, the empty list, and one more byte.
use mathlib.Core.Path.{◌≡◌, refl, sym, ap, ◌∙◌}
use mathlib.Core.Bool.{Bool, true, false, cond}
use mathlib.Core.List.{List, [], ◌∷◌, ◌++◌}
use Prim.Native.Nat.{ℕ, ◌+◌, ◌≤◌, ◌<◌}
use native.Mathlib.Nat.{le_trans}
use native.Mathlib.Numerals.{add-one}
use native.Mathlib.Omega.{arith}
use lib.Dec.{eqb}
use lib.ListN.{length, get_or, set, replicate, take}
use lib.Seq.{take-suc}
use borrow.Author.Tests.{eqb-true}
use Rattle.jumbled.specs.Match.{cc, bit}
use Rattle.jumbled.proofs.Counts.{cc-nil, cc-cons, cc-append, cc-take, cc-length}
use Rattle.table_parikh.specs.Table.{parikh}
use Rattle.table_parikh.proofs.Tables.{get_d_tabulate, tabulate-ext, tabulate-replicate, tabulate-set}

pub get_or-parikh : (U : List ℕ) (c : ℕ) → c < 256 → get_or (parikh U) c 0 ≡ cc U c
unfolding parikh
get_or-parikh U c l = get_d_tabulate 256 (cc U) c l

-- all counters are 0 at the start
pub parikh-nil : replicate 256 0 ≡ parikh []
unfolding parikh
parikh-nil = tabulate-replicate 256 0 ∙ tabulate-ext 256 (λ c. 0) (cc []) (λ c l. sym (cc-nil c))

-- a byte more at the end adds 1 to its counter
pub cc-snoc : (U : List ℕ) (b c : ℕ) → cc (U ++ (b ∷ [])) c ≡ cc U c + bit (eqb b c)
cc-snoc U b c = cc-append U (b ∷ []) c ∙ omega (arith, cc-cons b [] c, cc-nil c)

pub parikh-snoc : (U : List ℕ) (b : ℕ) → b < 256 → set (parikh U) b (get_or (parikh U) b 0 + 1) ≡ parikh (U ++ (b ∷ []))
unfolding parikh
parikh-snoc U b l =
    rw (get_d_tabulate 256 (cc U) b l)
    (tabulate-set 256 (cc U) b (cc U b + 1)
    ∙ tabulate-ext 256 (λ c. cond (eqb b c) (cc U b + 1) (cc U c)) (cc (U ++ (b ∷ []))) (λ c m. at c (eqb b c) refl ∙ sym (cc-snoc U b c)))
  where
    at : (c : ℕ) (t : Bool) → eqb b c ≡ t → cond t (cc U b + 1) (cc U c) ≡ cc U c + bit t
    at c true e = rw (eqb-true b c e) refl
    at c false e = omega arith

-- the same where the bytes are the first of a list
pub parikh-take-suc : (U : List ℕ) (i : ℕ) → i < length U → get_or U i 0 < 256
    → set (parikh (take i U)) (get_or U i 0) (get_or (parikh (take i U)) (get_or U i 0) 0 + 1) ≡ parikh (take (i + 1) U)
parikh-take-suc U i l h =
    parikh-snoc (take i U) (get_or U i 0) h ∙ ap parikh (sym (ap (λ (n : ℕ). take n U) (add-one i) ∙ take-suc U i 0 l))

-- and a counter of them is at most the whole list's length
pub parikh-take-le : (U : List ℕ) (i c : ℕ) → c < 256 → get_or (parikh (take i U)) c 0 ≤ length U
parikh-take-le U i c l = rw (get_or-parikh (take i U) c l) (le_trans (cc-take i U c) (cc-length U c))
