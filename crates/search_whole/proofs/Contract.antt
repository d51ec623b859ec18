-- What the contract of a whole search says where it is accepted and where it is refused (demand 1: a refusal changes nothing).
use mathlib.Core.Path.{◌≡◌}
use mathlib.Core.List.{List}
use Prim.Native.Nat.{ℕ}
use lib.ListN.{length}
use Rattle.jumbled.specs.Match.{positions}
use Rattle.jumbled.specs.Steps.{steps}
use Rattle.lent.specs.Placed.{placed}
use Rattle.answers.specs.Numbers.{answer_number}
use Rattle.answers.specs.Answers.{Answer, answer_found, answer_inspections}
use Rattle.answers.proofs.Refused.{IsRefused, is_zero, not-zero}
use Rattle.search_whole.specs.Whole.{Whole}

-- Accepted: the listed positions stand in the list's first places, and the method's own steps list them
pub record WholeAccepted (P : List ℕ) (k method : ℕ) (T before after : List ℕ) (r : Answer) : Type 0 where
  pub list : after ≡ placed before 0 (positions P k T)
  pub by-steps : (steps P k method T).occurrences ≡ positions P k T
  pub found : answer_found r ≡ length (positions P k T)
  pub inspections : answer_inspections r ≡ (steps P k method T).inspections

-- Refused, a whole search or a feed leaves every place of the list and reports nothing
pub record NothingListed (before after : List ℕ) (r : Answer) : Type 0 where
  pub list : after ≡ before
  pub found : answer_found r ≡ 0
  pub inspections : answer_inspections r ≡ 0

module _ {P : List ℕ} {k method : ℕ} {T before after : List ℕ} {r : Answer} (contract : Whole P k method T before after r) where
  pub whole-accepted : answer_number r ≡ 0 → WholeAccepted P k method T before after r
  whole-accepted ok =
      record {
        list = rw (is_zero contract.number ok) at contract.list;
        by-steps = contract.by-steps (is_zero contract.number ok);
        found = rw (is_zero contract.number ok) at contract.found;
        inspections = rw (is_zero contract.number ok) at contract.inspections;
      }

  pub whole-refused : IsRefused (answer_number r) → NothingListed before after r
  whole-refused refusal =
      record {
        list = rw (not-zero contract.number refusal) at contract.list;
        found = rw (not-zero contract.number refusal) at contract.found;
        inspections = rw (not-zero contract.number refusal) at contract.inspections;
      }
