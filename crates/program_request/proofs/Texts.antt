-- Laws of the text: the rest of the input with one last newline left out.
use mathlib.Core.Path.{◌≡◌, refl, sym, ap, ap₂, ◌∙◌}
use mathlib.Core.Bool.{Bool, true, false}
use mathlib.Core.List.{List, [], ◌∷◌}
use Prim.Native.Nat.{ℕ, ◌-◌, ◌≤◌}
use native.Mathlib.Omega.{arith}
use lib.Dec.{eqb}
use lib.ListN.{length, get_or, take, length-take}
use lib.Seq.{get_or_at, take_at, take-length, length-take-le}
use Rattle.std.specs.List.{IsLastAndRest}
use borrow.Author.Tests.{eq-eqb, ne_eqb, eqb-true, eqb-false}
use Rattle.program_request.specs.Request.{less_newline}

less-kept : (U : List ℕ) → (get_or U (length U - 1) 0 ≡ 10 → ⊥) → less_newline U ≡ U
unfolding less_newline
less-kept U h = rw (ne_eqb (get_or U (length U - 1) 0) 10 h) refl

less-cut : (U : List ℕ) → get_or U (length U - 1) 0 ≡ 10 → less_newline U ≡ take (length U - 1) U
unfolding less_newline
less-cut U h = rw (eq-eqb (get_or U (length U - 1) 0) 10 h) refl

pub less-shorter : (U : List ℕ) → length (less_newline U) ≤ length U
less-shorter U = at (eqb (get_or U (length U - 1) 0) 10) refl
  where
    at : (t : Bool) → eqb (get_or U (length U - 1) 0) 10 ≡ t → length (less_newline U) ≤ length U
    at true e =
        omega (arith, ap length (less-cut U (eqb-true (get_or U (length U - 1) 0) 10 e)), length-take (length U - 1) U)
    at false e = omega (arith, ap length (less-kept U (eqb-false (get_or U (length U - 1) 0) 10 e)))

-- the text is the first part of the rest
pub less-first : (U : List ℕ) → take (length (less_newline U)) U ≡ less_newline U
less-first U = at (eqb (get_or U (length U - 1) 0) 10) refl
  where
    at : (t : Bool) → eqb (get_or U (length U - 1) 0) 10 ≡ t → take (length (less_newline U)) U ≡ less_newline U
    at true e =
        let cut = less-cut U (eqb-true (get_or U (length U - 1) 0) 10 e) in
        rw cut (ap (λ (n : ℕ). take n U) (length-take-le (length U - 1) U (omega arith)))
    at false e = rw (less-kept U (eqb-false (get_or U (length U - 1) 0) 10 e)) (take-length U)

-- ---- what the code reads at the end

last-read : (U : List ℕ) (last : ℕ) (text : List ℕ) → IsLastAndRest U last text → get_or U (length U - 1) 0 ≡ last
last-read U last text is =
    ap₂ (λ (l : List ℕ) (i : ℕ). get_or l i 0) is.0 (omega (arith, is.1)) ∙ get_or_at text last [] 0 (length text) refl

pub text-cut : (U : List ℕ) (last : ℕ) (text : List ℕ) → IsLastAndRest U last text → last ≡ 10 → text ≡ less_newline U
text-cut U last text is newline =
    sym (take_at text (last ∷ []) (length text) refl)
    ∙ ap₂ (λ (n : ℕ) (l : List ℕ). take n l) (omega (arith, is.1)) (sym is.0)
    ∙ sym (less-cut U (last-read U last text is ∙ newline))

pub text-kept : (U : List ℕ) (last : ℕ) (text : List ℕ) → IsLastAndRest U last text → (last ≡ 10 → ⊥) → U ≡ less_newline U
text-kept U last text is other = sym (less-kept U (λ (e : get_or U (length U - 1) 0 ≡ 10). other (sym (last-read U last text is) ∙ e)))

pub text_none : (U : List ℕ) → length U ≡ 0 → U ≡ less_newline U
unfolding less_newline
text_none [] e = refl
text_none (b ∷ U) e = absurd (omega arith)
