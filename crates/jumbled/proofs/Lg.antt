-- lg(v) is the smallest e with 2^e ≥ max(v, 1), and a letter's width in methods 2 and 3 the smallest g with 2^(g-1) > v.
use mathlib.Core.Path.{◌≡◌, refl, sym, ap, ◌∙◌}
use mathlib.Core.Bool.{Bool, true, false, cond, false≢true}
use mathlib.Core.Logic.{⊎_elim}
use Prim.Native.Nat.{ℕ, zero, suc, ◌+◌, ◌-◌, ◌^◌, ◌≤◌, ◌<◌, max}
use native.Mathlib.Nat.{zero-add, add-zero, add-suc, suc-add, le_refl, le_antisymm}
use native.Mathlib.Omega.{arith}
use lib.Dec.{leb, ltb, lit≤}
use borrow.Author.Tests.{leb-true, le-leb, ltb-true, lt-ltb}
use Rattle.jumbled.specs.Fields.{first, lg, letter_width, bam_layout, bam2_layout}
use Rattle.jumbled.proofs.Sums.{below_or_not}

-- where the test holds at the last try, it holds of the first that passes it
first_holds : (test : ℕ → Bool) (e tries : ℕ) → test (e + tries) ≡ true → test (first test e tries) ≡ true
unfolding first
first_holds test e zero h = ap test (sym (add-zero e)) ∙ h
first_holds test e (suc tries) h = case (test e) refl (first_holds test (suc e) tries (ap test (suc-add e tries ∙ sym (add-suc e tries)) ∙ h))
  where
    case : (t : Bool) → test e ≡ t → test (first test (suc e) tries) ≡ true → test (cond t e (first test (suc e) tries)) ≡ true
    case true q later = q
    case false q later = later

-- it is not before the first try,
first-from : (test : ℕ → Bool) (e tries : ℕ) → e ≤ first test e tries
unfolding first
first-from test e zero = le_refl e
first-from test e (suc tries) = case (test e) (first-from test (suc e) tries)
  where
    case : (t : Bool) → suc e ≤ first test (suc e) tries → e ≤ cond t e (first test (suc e) tries)
    case true later = le_refl e
    case false later = omega arith

-- and at most any other that passes
first-least : (test : ℕ → Bool) (e tries f : ℕ) → e ≤ f → test f ≡ true → first test e tries ≤ f
unfolding first
first-least test e zero f l h = l
first-least test e (suc tries) f l h = case (test e) refl (λ m. first-least test (suc e) tries f m h)
  where
    case : (t : Bool) → test e ≡ t → (suc e ≤ f → first test (suc e) tries ≤ f) → cond t e (first test (suc e) tries) ≤ f
    case true q later = l
    case false q later =
        ⊎_elim (λ (m : e < f). later m)
        (λ (m : f ≤ e). let same : e ≡ f = omega arith in absurd (false≢true (sym q ∙ ap test same ∙ h))) (below_or_not e f)

pow-above : (v : ℕ) → v < 2 ^ v
pow-above zero = lit≤ tt
pow-above (suc v) = omega (arith, pow-above v)

pub lg-enough : (v : ℕ) → max v 1 ≤ 2 ^ lg v
unfolding lg
lg-enough v =
    leb-true (max v 1) (2 ^ lg v)
    (first_holds (λ e. leb (max v 1) (2 ^ e)) 0 v (le-leb (max v 1) (2 ^ (0 + v)) (rw zero-add (omega (arith, pow-above v)))))

pub lg-least : (v e : ℕ) → max v 1 ≤ 2 ^ e → lg v ≤ e
unfolding lg
lg-least v e h = first-least (λ f. leb (max v 1) (2 ^ f)) 0 v e (omega arith) (le-leb (max v 1) (2 ^ e) h)

-- ---- the width of a letter's field in methods 2 and 3

-- What a letter's width is: a count of v stays below its top bit, and no smaller width of at least one bit has that
pub record LetterWidths (own : ℕ → ℕ) : Type 0 where
  pub enough : (v : ℕ) → v < 2 ^ (own v - 1)
  pub least : (v g : ℕ) → 0 < g → v < 2 ^ (g - 1) → own v ≤ g
  pub some : (v : ℕ) → 0 < own v

letter-widths : LetterWidths letter_width
unfolding letter_width
letter-widths =
    record {
      enough = λ v. ltb-true v (2 ^ (letter_width v - 1)) (first_holds (λ g. ltb v (2 ^ (g - 1))) 1 v (lt-ltb v (2 ^ (1 + v - 1)) (last v)));
      least = λ v g some h. first-least (λ g. ltb v (2 ^ (g - 1))) 1 v g some (lt-ltb v (2 ^ (g - 1)) h);
      some = λ v. first-from (λ g. ltb v (2 ^ (g - 1))) 1 v;
    }
  where
    last : (v : ℕ) → v < 2 ^ (1 + v - 1)
    last v = let less : 1 + v - 1 ≡ v = omega arith in rw less (pow-above v)

-- in either method
pub bam-letters : LetterWidths bam_layout.own
bam-letters = letter-widths

pub bam2-letters : LetterWidths bam2_layout.own
bam2-letters = letter-widths

-- it is lg of the next number, and 1 more
pub letter-lg : (v : ℕ) → letter_width v ≡ lg (v + 1) + 1
letter-lg v =
    let less : lg (v + 1) + 1 - 1 ≡ lg (v + 1) = omega arith in
    le_antisymm (letter-widths.least v (lg (v + 1) + 1) (omega arith) (rw less (omega (arith, lg-enough (v + 1)))))
    (omega (arith, letter-widths.some v, lg-least (v + 1) (letter_width v - 1) (omega (arith, letter-widths.enough v))))
