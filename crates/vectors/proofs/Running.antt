-- A case that was read, with the outcome after it, and whose call was made on what was read.
use mathlib.Core.Path.{◌≡◌, ap, subst}
use mathlib.Core.Bool.{Bool, not}
use mathlib.Core.List.{List}
use Prim.Native.Nat.{ℕ, ◌+◌, ◌≤◌, ◌<◌}
use native.Mathlib.Omega.{arith}
use lib.ListN.{length, take}
use Rattle.search.specs.declared.Search.{Search}
use Rattle.tests_stream.specs.Fillings.{Filled, known_place}
use Rattle.tests_stream.specs.Reading.{nowhere}
use Rattle.table_parikh.specs.Table.{tabulate}
use Rattle.tests_stream.specs.Kinds.{kind_number, is_hand}
use Rattle.tests_stream.specs.Arguments.{kind_at, stored_pattern, stored_text, CaseRead}
use Rattle.tests_stream.specs.declared.cases.Kind.TheVariants.{Unknown}
use Rattle.tests_stream.specs.declared.cases.Case.{Case}
use Rattle.tests_stream.proofs.Filling.{filled-part}
use Rattle.tests_stream.proofs.Onward.{Onward, then-onward, either-onward, number-onward, case-onward}
use Rattle.tests_stream.proofs.Arguments.{stored-case, stored-pattern, stored-text}
use Rattle.tests_outcomes.specs.Outcomes.{outcome_of, stored_with, outcome_at, outcome_after}
use Rattle.tests_outcomes.specs.declared.StoredOutcome.{StoredOutcome}
use Rattle.tests_calls.specs.Calls.{CallMade}
use Rattle.tests_calls.specs.declared.Called.{Called}
use Rattle.vectors.specs.declared.Step.{Step}
use Rattle.vectors.specs.Runs.{CaseRun}

module _ {stream : List ℕ} (at : ℕ) {s : Search} {case : Case} {P P' T T' before list : List ℕ} (after : List ℕ) {outcome : StoredOutcome} {called : Called} where
  pub case-run : kind_number case.kind ≡ (kind_at stream at).value
      → (case.kind ≡ Unknown → ⊥)
      → CaseRead stream (kind_at stream at).next case.kind case P P' T T'
      → outcome ≡ outcome_after stream case.next (not (is_hand case.kind))
      → Filled known_place case.places before list
      → CallMade case s (take case.pattern P') (take case.text T') (take case.places list) after called
      → CaseRun stream at s
      (record { kind = case.kind; got = called.got; expected = outcome.outcome; search = called.search; next = outcome.next })
  case-run named known read stored filled made =
      record {
        kind = named;
        known = known;
        stored = subst (λ (c : Case). outcome ≡ outcome_after stream c.next (not (is_hand case.kind))) (stored-case at read) stored;
        list = after;
        made =
            subst (λ (c : Case). CallMade c s (stored_pattern stream at case.kind) (stored_text stream at case.kind) (tabulate c.places known_place) after called)
            (stored-case at read)
            (rw (stored-pattern at read, stored-text at read, filled-part filled) at made);
      }

-- a case takes a byte at least
outcome-onward : (stream : List ℕ) → length stream ≤ nowhere → (at : ℕ) (stored : Bool) → at ≤ nowhere → Onward at (outcome_after stream at stored).next
unfolding outcome_at
outcome-onward stream long at stored small =
    let number = number-onward stream long at 1 255 small in
    let a = number-onward stream long _ 4 4294967295 number.at_most in
    let b = number-onward stream long _ 4 4294967295 a.at_most in
    let digest = number-onward stream long _ 8 18446744073709551615 b.at_most in
    either-onward (λ (o : StoredOutcome). o.next) stored (outcome_at stream at) (stored_with (outcome_of 0 0 0 0) at) (then-onward number (then-onward a (then-onward b digest)))
    (record { no-earlier = omega arith; at_most = small })

pub run-onward : {stream : List ℕ} {at : ℕ} {s : Search} {step : Step} → CaseRun stream at s step → length stream ≤ nowhere → at < length stream
    → at + 1 ≤ step.next
run-onward {stream} {at} {step = step} run long inside =
    let case = case-onward stream long at step.kind inside in
    let outcome = outcome-onward stream long _ (not (is_hand step.kind)) case.at_most in
    rw (ap (λ (o : StoredOutcome). o.next) run.stored) (then-onward case outcome).no-earlier
