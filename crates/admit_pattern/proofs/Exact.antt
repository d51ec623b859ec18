-- A number that no method has is none of a method that takes no tolerance.
use Rattle.std.proofs.Common.{◌≡◌, refl, ℕ, true, false}
use borrow.Author.Tests.{ne_eqb}
use Rattle.jumbled.specs.Refusals.{is_method, exact_only}

pub not_exact : (number : ℕ) → is_method number ≡ false → exact_only number ≡ false
unfolding is_method exact_only
not_exact number unknown = rw (ne_eqb number 2 (differs 2 refl), ne_eqb number 3 (differs 3 refl), ne_eqb number 5 (differs 5 refl), ne_eqb number 6 (differs 6 refl)) refl
  where
    differs : (m : ℕ) → is_method m ≡ true → number ≡ m → ⊥
    differs m known same = let not_known : is_method m ≡ false = rw same at unknown in Prim.cc
