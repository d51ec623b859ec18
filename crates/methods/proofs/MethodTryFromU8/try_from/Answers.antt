-- `Method::try_from` meets its contract: a number that is none of 1 to 6 is no method's.
use Rattle.std.proofs.Common.{arith}
use Rattle.std.proofs.lemmas.Bool.Decides.{nat_tests}
use Rattle.jumbled.specs.Refusals.{is_method}
use Rattle.methods.proofs.MethodTryFromU8.try_from.Goals as goal

pub returns-in_default : goal.returns-in_default
unfolding is_method
returns-in_default c = grind (arith, nat_tests)
