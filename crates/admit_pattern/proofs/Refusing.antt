-- What is refused before other tests.
use Rattle.std.proofs.Common.{◌≡◌, sym, ◌∙◌, List, ◌++◌}
use Rattle.jumbled.specs.Refusals.{Test, given}
use Rattle.jumbled.proofs.Admission.{Numbered, given-append}
use Rattle.answers.specs.Numbers.{number_of}
use Rattle.answers.specs.declared.Refusal.{Refusal}
use Rattle.answers.proofs.Refused.{still-refused}

-- what the first tests refuse is refused with their number, whatever tests follow
pub refused-first : (ts us : List Test) → Numbered ts → (refusal : Refusal) → number_of refusal ≡ given ts → number_of refusal ≡ given (ts ++ us)
refused-first ts us numbered refusal e = still-refused (given ts) (given us) refusal e ∙ sym (given-append ts us numbered)
