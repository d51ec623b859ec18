-- `Digest::fields` meets its contract.
use Rattle.std.proofs.Common.{refl}
use Rattle.tests_outcomes.specs.Digests.{digest}
use Rattle.tests_outcomes.proofs.Digesting.{digest-append}
use Rattle.tests_outcomes.proofs.digest.Digest.fields.Goals as goal

pub returns : goal.returns
unfolding digest
returns c =
    rw (
      c.number-3.ensures,
      c.bytes-2.ensures,
      c.number-2.ensures,
      c.byte-2.ensures,
      c.byte.ensures,
      c.number.ensures,
      c.bytes.ensures,
      digest-append,
      digest-append,
      digest-append,
      digest-append,
      digest-append,
    ) refl
