use Rattle.std.proofs.Common.{◌≡◌, ◌-◌}
use Rattle.image_form.specs.Image.{low_first}
use Rattle.tests_outcomes.specs.Digests.{digest}
use Rattle.tests_outcomes.proofs.digest.Digest.number.Given as goal

abbrev pub invariant-loop-place : goal.invariant-loop-place
invariant-loop-place l = digest l.digest.value (low_first (l.width - l.place) l.rest) ≡ digest l.fn.self.value (low_first l.width l.number)
