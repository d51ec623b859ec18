-- What one place and the text from a on come to: the answer of the search for the first match.
use mathlib.Core.Path.{◌≡◌, refl, sym, ap, ◌∙◌}
use mathlib.Core.List.{List, [], ◌∷◌, ◌++◌, map, Option-to_list}
use mathlib.Core.Option.{Option, none, some}
use mathlib.Core.Logic.{⊎_elim}
use Prim.Native.Nat.{ℕ, ◌+◌, ◌-◌, ◌≤◌, ◌<◌, min}
use native.Mathlib.Omega.{arith}
use lib.ListN.{length, get_or, take, drop, length-map, length-drop}
use lib.Seq.{take_all}
use Rattle.jumbled.specs.Match.{Bytes, first_match}
use Rattle.jumbled.specs.Scan.{Result}
use Rattle.jumbled.specs.Steps.{steps_from, steps_into}
use Rattle.jumbled.specs.Refusals.{given, pattern_tests}
use Rattle.jumbled.proofs.Sums.{below_or_not}
use Rattle.jumbled.proofs.Cuts.{moved}
use Rattle.jumbled.proofs.First.{first-listed, first_short, steps-from}
use Rattle.lent.specs.Found.{Found}
use Rattle.lent.specs.Placed.{placed, shifted}
use Rattle.lent.specs.declared.SearchCounts.{SearchCounts}
use Rattle.answers.specs.Numbers.{number_of}
use Rattle.answers.specs.declared.Refusal.{Refusal}
use Rattle.std.specs.Prelude.{Ok, Err}
use Rattle.std.specs.Prelude as prelude
use Rattle.answers.proofs.Refused.{number-positive, on-refusal, on-accepted}
use Rattle.first.specs.Call.{at_or_after_number, AtOrAfter}

-- ---- one place that holds what an option does

no-position : (o : Option ℕ) → length (Option-to_list o) ≡ 0 → o ≡ none
unfolding Option-to_list
no-position none e = refl
no-position (some p) e = absurd (omega arith)

in_place : (o : Option ℕ) → (length (Option-to_list o) ≡ 0 → ⊥) → some (get_or (placed (0 ∷ []) 0 (Option-to_list o)) 0 0) ≡ o
unfolding Option-to_list placed
in_place none e = absurd (e refl)
in_place (some p) e = refl

-- ---- the call

module _ (P : List ℕ) (k method : ℕ) (T : List ℕ) (a : ℕ) where
  -- a refusal reports nothing
  pub first-refusal : (refusal : Refusal) → number_of refusal ≡ at_or_after_number P k method T → AtOrAfter P k method T a (Err refusal)
  first-refusal refusal e =
      record {
        number = e;
        position = on-refusal refusal (at_or_after_number P k method T) (first_match P k T a) none e;
        inspections = on-refusal refusal (at_or_after_number P k method T) (steps_from P k method T a).inspections 0 e;
        by-steps = λ q. absurd (let positive = number-positive refusal in omega arith);
      }

  -- past the text's end the search begins at its end, where there is no window either
  begun-there : 1 ≤ length P
      → (steps_from P k method T (min a (length T)) ≡ steps_from P k method T a) × (first_match P k T (min a (length T)) ≡ first_match P k T a)
  begun-there least =
      ⊎_elim
      (λ (past : length T < a).
      let end : min a (length T) ≡ length T = omega arith in
      let there = first_short P k method T (length T) (omega arith) in
      let further = first_short P k method T a (omega arith) in
      rw end (there.0 ∙ sym further.0, there.1 ∙ sym further.1))
      (λ (inside : a ≤ length T). let same : min a (length T) ≡ a = omega arith in rw same (refl, refl)) (below_or_not (length T) a)

  -- a search of the text from there on with one place holds the first match in it
  pub record Held (after : List ℕ) (r : SearchCounts) : Type 0 where
    pub count : r.found ≡ length (Option-to_list (first_match P k T a))
    pub place : after ≡ placed (0 ∷ []) 0 (Option-to_list (first_match P k T a))
    pub inspected : r.inspections ≡ (steps_from P k method T a).inspections
    pub by-steps : (steps_from P k method T a).occurrences ≡ Option-to_list (first_match P k T a)

  pub held : Bytes P → Bytes T → given (pattern_tests P k method) ≡ 0 → 1 ≤ length P → {begun : ℕ} → begun ≡ min a (length T) → {after : List ℕ} {r : SearchCounts}
      → Found (steps_into 1 P k method ([] ++ take (length T - begun) (drop begun T))) begun (0 ∷ []) after r → Held after r
  unfolding shifted
  held hP hT accepted least {begun} there {after} {r} found-there =
      let searched : Found (steps_into 1 P k method (drop begun T)) begun (0 ∷ []) after r =
      rw (take_all (length T - begun) (drop begun T) (omega (arith, length-drop begun T))) at found-there
      in
      record {
        count = searched.found ∙ sym (length-map part.occurrences (λ p. begun + p)) ∙ ap length listed;
        place = searched.filled ∙ ap (placed (0 ∷ []) 0) listed;
        inspected = searched.inspections ∙ ap (λ (x : Result). x.inspections) same;
        by-steps = by-steps;
      }
    where
      part : Result
      part = steps_into 1 P k method (drop begun T)

      same : moved begun (steps_into 1 P k method (drop begun T)) ≡ steps_from P k method T a
      same = sym (steps-from P k method T begun least) ∙ ap (steps_from P k method T) there ∙ (begun-there least).0

      by-steps : (steps_from P k method T a).occurrences ≡ Option-to_list (first_match P k T a)
      by-steps = first-listed P k method T a hP hT accepted

      listed : map (λ p. begun + p) (steps_into 1 P k method (drop begun T)).occurrences ≡ Option-to_list (first_match P k T a)
      listed = ap (λ (x : Result). x.occurrences) same ∙ by-steps

  module _ (accepted : at_or_after_number P k method T ≡ 0) {after : List ℕ} {r : SearchCounts} (holds : Held after r) where
    pub answer-nothing : r.found ≡ 0 → AtOrAfter P k method T a (Ok (record { position = prelude.None; inspections = r.inspections }))
    answer-nothing e =
        record {
          number = sym accepted;
          position =
              sym (no-position (first_match P k T a) (sym holds.count ∙ e)) ∙ on-accepted (at_or_after_number P k method T) (first_match P k T a) none accepted;
          inspections = holds.inspected ∙ on-accepted (at_or_after_number P k method T) (steps_from P k method T a).inspections 0 accepted;
          by-steps = λ q. holds.by-steps;
        }

    pub answer-found : (r.found ≡ 0 → ⊥) → AtOrAfter P k method T a (Ok (record { position = prelude.Some (get_or after 0 0); inspections = r.inspections }))
    answer-found e =
        record {
          number = sym accepted;
          position =
              ap (λ (l : List ℕ). some (get_or l 0 0)) holds.place ∙ in_place (first_match P k T a) (λ q. e (holds.count ∙ q))
              ∙ on-accepted (at_or_after_number P k method T) (first_match P k T a) none accepted;
          inspections = holds.inspected ∙ on-accepted (at_or_after_number P k method T) (steps_from P k method T a).inspections 0 accepted;
          by-steps = λ q. holds.by-steps;
        }
