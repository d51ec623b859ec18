-- What the tests of a pattern hand back.
use Rattle.std.specs.Prelude.{◌≡◌, List, ℕ, Result, IfOk}
use Rattle.table_parikh.specs.Table.{parikh}
use Rattle.methods.specs.Numbers.{method_number}
use Rattle.answers.specs.declared.Refusal.{Refusal}
use Rattle.answers.specs.Numbers.{answer_number}
use Rattle.admit_pattern.specs.declared.Admitted.{Admitted}

-- What is taken along says how often the pattern P has each byte, and which method has this number
pub record TakenAlong (P : List ℕ) (number : ℕ) (admitted : Admitted) : Type 0 where
  pub counted : admitted.counts ≡ parikh P
  pub named : method_number admitted.method ≡ number

-- The number that the tests of the pattern P and of the method of a number give, and what is taken along where it is 0
pub record Admits (P : List ℕ) (method given : ℕ) (r : Result Admitted Refusal) : Type 0 where
  pub number : answer_number r ≡ given
  pub taken : IfOk r (TakenAlong P method)
