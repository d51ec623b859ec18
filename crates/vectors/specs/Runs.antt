-- A stored case that was run, and the count of those that came to something else than is stored (tools/vectors_stream.py).
use Rattle.std.specs.Prelude.{◌≡◌, false, cond, not, List, ℕ, ◌+◌, ◌≤◌, ◌<◌, length, Option, MatchOption}
use Rattle.table_parikh.specs.Table.{tabulate}
use Rattle.search.specs.declared.Search.{Search}
use Rattle.search.specs.Searches.{blank_search}
use Rattle.tests_stream.specs.Fillings.{known_place}
use Rattle.tests_stream.specs.Kinds.{kind_number, is_kind, is_hand}
use Rattle.tests_stream.specs.declared.cases.Kind.{Kind}
use Rattle.tests_stream.specs.declared.cases.Kind.TheVariants.{Unknown}
use Rattle.tests_stream.specs.Arguments.{kind_at, stored_case_at, stored_pattern, stored_text}
use Rattle.tests_outcomes.specs.Outcomes.{stored_with, outcome_after, same_outcome}
use Rattle.tests_outcomes.specs.declared.Outcome.{Outcome}
use Rattle.tests_calls.specs.Calls.{called_with, CallMade}
use Rattle.vectors.specs.declared.Step.{Step}
use Rattle.vectors.specs.declared.Tally.{Tally}

-- The case at a place was run on a search: its call was made, with a list of so many places as it says, and the outcome after it was read
pub record CaseRun (stream : List ℕ) (at : ℕ) (s : Search) (step : Step) : Type 0 where
  pub kind : kind_number step.kind ≡ (kind_at stream at).value
  pub known : step.kind ≡ Unknown → ⊥
  pub stored :
      stored_with step.expected step.next
      ≡ outcome_after stream (stored_case_at stream at step.kind).next (not (is_hand step.kind))
  pub list : List ℕ
  pub made :
      CallMade (stored_case_at stream at step.kind) s (stored_pattern stream at step.kind) (stored_text stream at step.kind)
      (tabulate (stored_case_at stream at step.kind).places known_place) list
      (called_with step.search step.got)

-- Or no kind's number stands there
abbrev pub CaseStep : (stream : List ℕ) (at : ℕ) (s : Search) → Option Step → Type 0
CaseStep stream at s found = MatchOption found (is_kind (kind_at stream at).value ≡ false) (λ step. CaseRun stream at s step)

-- A case more: it differs unless all of its outcome is what is stored. A search that is filled in by hand is no case.
abbrev pub tallied : Tally → Kind → (got expected : Outcome) → Tally
tallied tally kind got expected =
    cond (is_hand kind) tally
    (record { cases = tally.cases + 1; differ = cond (same_outcome got expected) tally.differ (tally.differ + 1) })

-- The cases from the stream's first on were run up to a place, the first of them on the blank search and each other on the search that the one
-- before it left; the last one left s. Each lies within the stream.
pub data Reached (stream : List ℕ) : ℕ → Search → Tally → Type 0 where
  none : Reached stream 0 blank_search (record { cases = 0; differ = 0 })
  more :
      {at : ℕ} {s : Search} {tally : Tally} {step : Step}
      → Reached stream at s tally
      → CaseRun stream at s step
      → step.next ≤ length stream
      → Reached stream step.next step.search (tallied tally step.kind step.got step.expected)

-- Nothing is left at a place: the stream ends there, or the case that would be run next is of no kind, or isn't all there
pub data Ended (stream : List ℕ) (at : ℕ) (s : Search) : Type 0 where
  end : length stream ≤ at → Ended stream at s
  unknown : is_kind (kind_at stream at).value ≡ false → Ended stream at s
  malformed : {step : Step} → CaseRun stream at s step → length stream < step.next → Ended stream at s

-- The tally of all the stream's cases
pub record TallyOf (stream : List ℕ) (tally : Tally) : Type 0 where
  pub at : ℕ
  pub search : Search
  pub reached : Reached stream at search tally
  pub ended : Ended stream at search
