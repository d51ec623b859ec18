use Rattle.std.proofs.Common.{◌≡◌, drop}
use Rattle.tests_outcomes.specs.Digests.{digest}
use Rattle.tests_outcomes.proofs.digest.Digest.bytes.Given as goal

abbrev pub invariant-loop-byte : goal.invariant-loop-byte
invariant-loop-byte l = digest l.digest.value (drop l.byte-index l.bytes) ≡ digest l.fn.self.value l.bytes
