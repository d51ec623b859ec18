-- The numbers of the methods: document 01, "The five methods", 1 to 5; document 02, T-04, for 6.
use Rattle.std.specs.Prelude.{◌≡◌, ℕ, false, Result, MatchResult}
use Rattle.jumbled.specs.Refusals.{is_method}
use Rattle.methods.specs.declared.Method.{Method}
use Rattle.methods.specs.declared.Method.TheVariants.{Count, Bam, Bam2, Abam, Hcam, Ebl}
use Rattle.methods.specs.declared.UnknownMethod.{UnknownMethod}

abbrev pub method_number : Method → ℕ
method_number Count = 1
method_number Bam = 2
method_number Bam2 = 3
method_number Abam = 4
method_number Hcam = 5
method_number Ebl = 6

-- The result is the method of this number, and an error where no method has it
abbrev pub Names : ℕ → Result Method UnknownMethod → Type 0
Names number r = MatchResult r (λ method. method_number method ≡ number) (λ _. is_method number ≡ false)
