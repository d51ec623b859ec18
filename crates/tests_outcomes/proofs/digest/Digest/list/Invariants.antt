use Rattle.std.proofs.Common.{◌≡◌, drop}
use Rattle.tests_outcomes.specs.Digests.{digest, list_bytes}
use Rattle.tests_outcomes.proofs.digest.Digest.list.Given as goal

abbrev pub invariant-loop-number : goal.invariant-loop-number
invariant-loop-number l = digest l.digest.value (list_bytes (drop l.number-index l.list)) ≡ digest l.fn.self.value (list_bytes l.list)
