-- What all of some lengths are, told by an iterator, as the documents' tests ask it.
use Rattle.std.proofs.Common.{◌≡◌, refl, sym, ap, ℕ, ◌<◌, ◌≤◌, Bool, true, false, not, List, get_or, All, IsTrue, ◌↔◌}
use Rattle.std.proofs.lemmas.List.{get_or_default}
use native.Mathlib.Omega.{arith}
use lib.Dec.{eqb}
use borrow.Author.Tests.{eqb-true, eqb-false, eq-eqb, ne_eqb, le-ltb, ltb-false, not-false}
use Rattle.jumbled.specs.Refusals.{any_of, bad_length}
use Rattle.jumbled.proofs.Admission.{or-false}
use Rattle.jumbled.proofs.Selections.{any_none, none-at}

module _ (bad : ℕ → Bool) (Good : ℕ → Type 0) (good : (x : ℕ) → Good x → bad x ≡ false) (not-bad : (x : ℕ) → bad x ≡ false → Good x) where
  -- all are good exactly where none is bad
  pub all-good : (lengths : List ℕ) (told : Bool) → (IsTrue told ↔ All Good lengths) → told ≡ not (any_of bad lengths)
  all-good lengths true says = sym (ap not (any_none bad lengths (λ i inside. good (get_or lengths i 0) (says.0 refl i 0 inside))))
  all-good lengths false says = by-any (any_of bad lengths) refl
    where
      by-any : (any : Bool) → any_of bad lengths ≡ any → false ≡ not (any_of bad lengths)
      by-any true e = sym (ap not e)
      by-any false e =
          rw e (says.1 (λ i d inside. rw (get_or_default lengths i d 0 inside) (not-bad (get_or lengths i 0) (none-at bad lengths e i inside))))

pub length-good : (m : ℕ) → (0 < m) × (m ≤ 64) → bad_length m ≡ false
length-good m right = rw (ne_eqb m 0 (λ e. omega arith), le-ltb 64 m right.1) refl

pub length-not-bad : (m : ℕ) → bad_length m ≡ false → (0 < m) × (m ≤ 64)
length-not-bad m right =
    let parts = or-false (eqb m 0) _ right in
    let some = eqb-false m 0 parts.0 in
    (omega arith, ltb-false 64 m parts.1)

pub same-good : (m x : ℕ) → x ≡ m → not (eqb x m) ≡ false
same-good m x same = rw (eq-eqb x m same) refl

pub same-not-bad : (m x : ℕ) → not (eqb x m) ≡ false → x ≡ m
same-not-bad m x right = eqb-true x m (not-false (eqb x m) right)
