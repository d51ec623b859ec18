-- What the contract of the search for the first match says where it is accepted and where it is refused, and which number it gives when (document 02,
-- T-08).
use mathlib.Core.Path.{◌≡◌, sym, ◌∙◌}
use mathlib.Core.List.{List, Option-to_list}
use mathlib.Core.Option.{none}
use Prim.Native.Nat.{ℕ, ◌≤◌}
use lib.ListN.{length}
use Rattle.jumbled.specs.Match.{first_match}
use Rattle.jumbled.specs.Steps.{steps_from}
use Rattle.jumbled.proofs.Admission.{first-as-whole, whole-taken}
use Rattle.jumbled.proofs.Never.{never-given, first-not-7, whole-not-5}
use Rattle.answers.specs.Numbers.{answer_number}
use Rattle.answers.specs.Answers.{Answer, FirstAnswer, first_position, first_inspections}
use Rattle.answers.proofs.Refused.{IsRefused, is_zero, not-zero}
use native.Mathlib.Nat.{le_refl}
use Rattle.search_whole.specs.Whole.{whole_number, Whole}
use Rattle.first.specs.Call.{at_or_after_number, AtOrAfter}

-- Accepted: the first match, by the method's steps, which list it too
pub record FirstAccepted (P : List ℕ) (k method : ℕ) (T : List ℕ) (a : ℕ) (r : FirstAnswer) : Type 0 where
  pub position : first_position r ≡ first_match P k T a
  pub inspections : first_inspections r ≡ (steps_from P k method T a).inspections
  pub by-steps : (steps_from P k method T a).occurrences ≡ Option-to_list (first_position r)

-- Refused, it reports nothing
pub record NothingFirst (r : FirstAnswer) : Type 0 where
  pub position : first_position r ≡ none
  pub inspections : first_inspections r ≡ 0

module _ {P : List ℕ} {k method : ℕ} {T : List ℕ} {a : ℕ} {r : FirstAnswer} (contract : AtOrAfter P k method T a r) where
  pub first-accepted : answer_number r ≡ 0 → FirstAccepted P k method T a r
  first-accepted ok =
      let none-given = is_zero contract.number ok in
      let position : first_position r ≡ first_match P k T a = rw none-given at contract.position in
      record { position = position; inspections = rw none-given at contract.inspections; by-steps = rw position (contract.by-steps none-given) }

  pub first-refused : IsRefused (answer_number r) → NothingFirst r
  first-refused refusal =
      record {
        position = rw (not-zero contract.number refusal) at contract.position;
        inspections = rw (not-zero contract.number refusal) at contract.inspections;
      }

  -- 7 never comes,
  pub first-never-7 : answer_number r ≡ 7 → ⊥
  unfolding at_or_after_number
  first-never-7 e = never-given (first-not-7 P k method (length T)) (sym contract.number ∙ e)

  -- and the number is that of every whole search of the same terms whose list has a place for each byte, wherever the search begins
  pub number-as-whole : {before after : List ℕ} {w : Answer} → Whole P k method T before after w → length T ≤ length before → answer_number r ≡ answer_number w
  unfolding at_or_after_number whole_number
  number-as-whole {before} whole room = contract.number ∙ sym (first-as-whole P k method (length T) (length before) room) ∙ sym whole.number

  -- so what a whole search accepts is accepted here
  pub accepted-too : {before after : List ℕ} {w : Answer} → Whole P k method T before after w → answer_number w ≡ 0 → answer_number r ≡ 0
  unfolding whole_number
  accepted-too {before} whole ok =
      number-as-whole whole (whole-taken P k method (length T) (length before) (is_zero whole.number ok)).size.room ∙ ok

-- method 6 is never refused with 5
pub first-never-5 : {P : List ℕ} {k : ℕ} {T : List ℕ} {a : ℕ} {r : FirstAnswer} → AtOrAfter P k 6 T a r → answer_number r ≡ 5 → ⊥
unfolding at_or_after_number
first-never-5 {P} {k} {T} contract e =
    never-given (whole-not-5 P k (length T) (length T)) (first-as-whole P k 6 (length T) (length T) (le_refl (length T)) ∙ sym contract.number ∙ e)
