-- How a span grows with the bytes of a pattern, and the table of those that it has.
use mathlib.Core.Path.{◌≡◌, refl, sym, ap, ◌∙◌}
use mathlib.Core.Bool.{Bool, true, false, not, ◌||◌}
use mathlib.Core.List.{List, [], ◌∷◌, ◌++◌}
use Prim.Native.Nat.{ℕ, suc, ◌+◌, ◌<◌, min, max}
use native.Mathlib.Numerals.{add-one}
use native.Mathlib.Omega.{arith}
use lib.Dec.{eqb, lit<}
use lib.ListN.{length, get_or, set, replicate, take, length-replicate, get_or-replicate, length-set}
use lib.Seq.{take-suc, get_or-set_same, get_or-set_other}
use borrow.Author.Tests.{ne_eqb, eqb-true, eqb-false}
use Rattle.jumbled.specs.Match.{cc, occurs, lost_hour, lost}
use Rattle.jumbled.specs.Steps.{passes}
use Rattle.jumbled.proofs.Counts.{cc-nil, occurs-some, occurs-none}
use Rattle.table_parikh.specs.Letters.{lowest, past_highest, Spanned, Occurring}
use Rattle.table_parikh.specs.declared.Span.{Span}
use Rattle.table_parikh.proofs.Parikh.{cc-snoc}

pub spanned-none : Spanned [] (record { low = 256; past = 0 })
unfolding lowest past_highest
spanned-none = record { low-is = refl; past_is = refl; bytes = omega arith; below = λ c l. cc-nil c; above = λ c l. cc-nil c }

lowest-snoc : (U : List ℕ) (b : ℕ) → b < 256 → lowest (U ++ (b ∷ [])) ≡ min (lowest U) b
unfolding lowest
lowest-snoc [] b l = omega arith
lowest-snoc (a ∷ U) b l = omega (arith, lowest-snoc U b l)

past-snoc : (U : List ℕ) (b : ℕ) → past_highest (U ++ (b ∷ [])) ≡ max (past_highest U) (suc b)
unfolding past_highest
past-snoc [] b = omega arith
past-snoc (a ∷ U) b = omega (arith, past-snoc U b)

-- one byte more, and the span with it
pub spanned-more : {U : List ℕ} {r : Span} → Spanned U r → (b : ℕ) (wider : Span) → b < 256 → wider.low ≡ min r.low b
    → wider.past ≡ max r.past (suc b) → Spanned (U ++ (b ∷ [])) wider
spanned-more {U} s b wider byte low past =
    record {
      low-is = omega (arith, low, s.low-is, lowest-snoc U b byte);
      past_is = omega (arith, past, s.past_is, past-snoc U b);
      bytes = omega (arith, past, s.bytes);
      below = λ c l. other c (s.below c (omega arith)) (λ e. omega arith);
      above = λ c l. other c (s.above c (omega arith)) (λ e. omega arith);
    }
  where
    other : (c : ℕ) → cc U c ≡ 0 → (b ≡ c → ⊥) → cc (U ++ (b ∷ [])) c ≡ 0
    other c none differs = cc-snoc U b c ∙ rw (none, ne_eqb b c differs) (omega arith)

pub take_more : (U : List ℕ) (i : ℕ) → i < length U → take i U ++ (get_or U i 0 ∷ []) ≡ take (i + 1) U
take_more U i l = rw (add-one i, take-suc U i 0 l) refl

-- of no bytes there is the lost hour alone
pub occurring-none : Occurring [] (set (replicate 256 false) lost_hour true)
unfolding passes
occurring-none =
    record {
      sized = length-set (replicate 256 false) lost_hour true ∙ length-replicate 256 false;
      tells = λ c l. rw (occurs-none [] c (cc-nil c)) (at c l (lost c) refl);
    }
  where
    at : (c : ℕ) → c < 256 → (t : Bool) → lost c ≡ t → get_or (set (replicate 256 false) lost_hour true) c false ≡ (t || false)
    at c l true e =
        let same : lost_hour ≡ c = eqb-true lost_hour c e in
        rw (← same) (get_or-set_same (replicate 256 false) lost_hour true false (lit< tt))
    at c l false e =
        get_or-set_other (replicate 256 false) lost_hour c true false (λ q. eqb-false lost_hour c e (sym q)) ∙ get_or-replicate 256 c false false l

-- one byte more occurs
pub occurring-more : {U : List ℕ} {table : List Bool} → Occurring U table → (b : ℕ) → b < 256 → Occurring (U ++ (b ∷ [])) (set table b true)
unfolding passes occurs
occurring-more {U} {table} o b byte = record { sized = length-set table b true ∙ o.sized; tells = λ c l. at c l (eqb b c) refl }
  where
    either : (t : Bool) → true ≡ (t || true)
    either true = refl
    either false = refl

    at : (c : ℕ) → c < 256 → (t : Bool) → eqb b c ≡ t → get_or (set table b true) c false ≡ (lost c || occurs (U ++ (b ∷ [])) c)
    at c l true e =
        let same : b ≡ c = eqb-true b c e in
        rw same (get_or-set_same table c true false (omega (arith, o.sized)))
        ∙ either (lost c) ∙ ap (λ (t : Bool). lost c || t) (sym (occurs-some (U ++ (b ∷ [])) c (rw (cc-snoc U b c, e) (omega arith))))
    at c l false e =
        get_or-set_other table b c true false (λ q. eqb-false b c e (sym q)) ∙ o.tells c l
        ∙ ap (λ (n : ℕ). lost c || not (eqb n 0)) kept
      where
        kept : cc U c ≡ cc (U ++ (b ∷ [])) c
        kept = rw (cc-snoc U b c, e) (omega arith)
