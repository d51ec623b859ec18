-- The numbers of the methods are those that the table of refusals takes, and no two methods have one.
use Rattle.std.proofs.Common.{◌≡◌, ℕ, true, cond, eqb, refl, sym, ap, ◌∙◌}
use Rattle.jumbled.specs.Refusals.{is_method}
use Rattle.methods.specs.Numbers.{method_number}
use Rattle.methods.specs.declared.Method.{Method}
use Rattle.methods.specs.declared.Method.TheVariants.{Count, Bam, Bam2, Abam, Hcam, Ebl}

pub is-method : (method : Method) → is_method (method_number method) ≡ true
unfolding is_method
is-method Count = refl
is-method Bam = refl
is-method Bam2 = refl
is-method Abam = refl
is-method Hcam = refl
is-method Ebl = refl

-- the method is found again by its number
method_of : ℕ → Method
method_of number =
    cond (eqb number 1) Count (cond (eqb number 2) Bam (cond (eqb number 3) Bam2 (cond (eqb number 4) Abam (cond (eqb number 5) Hcam Ebl))))

of-number : (method : Method) → method_of (method_number method) ≡ method
unfolding method_of
of-number Count = refl
of-number Bam = refl
of-number Bam2 = refl
of-number Abam = refl
of-number Hcam = refl
of-number Ebl = refl

-- so two with one number are the same
pub one-method : (a b : Method) → method_number a ≡ method_number b → a ≡ b
one-method a b same = sym (of-number a) ∙ ap method_of same ∙ of-number b
