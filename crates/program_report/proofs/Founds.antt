-- What a whole search's answer says to the program, whose list has a place for each byte of the text.
use mathlib.Core.Path.{◌≡◌, refl, sym, ap, ap₂, ◌∙◌}
use mathlib.Core.List.{List}
use Prim.Native.Nat.{ℕ, ◌+◌, ◌≤◌}
use native.Mathlib.Nat.{le_trans}
use native.Mathlib.Omega.{arith}
use lib.ListN.{length, take}
use borrow.Author.Tests.{eq-eqb, ne_eqb}
use Rattle.jumbled.specs.Match.{positions}
use Rattle.jumbled.specs.Steps.{steps}
use Rattle.jumbled.specs.Refusals.{given, pattern_tests, size_tests, whole_tests}
use Rattle.jumbled.proofs.Admission.{given-first, pattern-numbered, size_fits}
use Rattle.std.specs.Prelude.{Ok, Err}
use Rattle.lent.specs.Placed.{placed}
use Rattle.lent.specs.declared.SearchCounts.{SearchCounts}
use Rattle.answers.specs.Numbers.{number_of}
use Rattle.answers.specs.declared.Refusal.{Refusal}
use Rattle.search_whole.specs.Whole.{whole_number, Whole}
use Rattle.search_whole.proofs.Places.{pattern-admitted, places-enough, places-first}
use Rattle.answers.proofs.Refused.{number-positive, number_small, on-accepted}
use Rattle.program_lines.specs.Lines.{output_text, refusal_text}
use Rattle.program_report.specs.Output.{answer_text}
use Rattle.program_report.proofs.Room.{refusal-room, found-room}

-- there is room for the line of any refusal
pub refused-fits : {number room : ℕ} (refusal : Refusal) → number ≡ number_of refusal → 98416 ≤ room
    → 0 + length (refusal_text number) ≤ room
refused-fits refusal e most = refusal-room (rw e (number_small refusal)) most

-- 6 and 7 do not apply
whole-given : (P : List ℕ) (k method : ℕ) (T list : List ℕ) → length T ≤ 16384 → length list ≡ 16384
    → whole_number P k method T list ≡ given (pattern_tests P k method)
unfolding whole_number whole_tests
whole-given P k method T list fits places =
    given-first (pattern_tests P k method) (size_tests (length T) (length list)) (pattern-numbered P k method)
    (λ e. size_fits (length T) (length list) (omega arith) (omega arith))

-- a refusal is one of open's
pub refused-text : {P : List ℕ} {k method : ℕ} {T list after : List ℕ} {refusal : Refusal} → Whole P k method T list after (Err refusal)
    → length T ≤ 16384 → length list ≡ 16384 → answer_text P k method T ≡ refusal_text (number_of refusal)
unfolding answer_text
refused-text {P} {k} {method} {T} {list} {after} {refusal} w fits places =
    let e : number_of refusal ≡ given (pattern_tests P k method) = w.number ∙ whole-given P k method T list fits places in
    let positive = number-positive refusal in
    rw (← e, ne_eqb (number_of refusal) 0 (λ (q : number_of refusal ≡ 0). omega arith)) refl

module _ {P : List ℕ} {k method : ℕ} {T list after : List ℕ} {counts : SearchCounts} (w : Whole P k method T list after (Ok counts))
    (fits : length T ≤ 16384) (places : length list ≡ 16384) where
  accepted : whole_number P k method T list ≡ 0
  accepted = sym w.number

  admissible : given (pattern_tests P k method) ≡ 0
  admissible = sym (whole-given P k method T list fits places) ∙ accepted

  found-is : counts.found ≡ length (positions P k T)
  found-is = w.found ∙ sym (on-accepted (whole_number P k method T list) (length (positions P k T)) 0 accepted)

  inspections-are : counts.inspections ≡ (steps P k method T).inspections
  inspections-are = w.inspections ∙ sym (on-accepted (whole_number P k method T list) (steps P k method T).inspections 0 accepted)

  filled : after ≡ placed list 0 (positions P k T)
  filled = w.list ∙ sym (on-accepted (whole_number P k method T list) (placed list 0 (positions P k T)) list accepted)

  pub found_inside : counts.found ≤ length after
  found_inside = omega (arith, found-is, places-enough P k method T list accepted filled)

  listed-is : take counts.found after ≡ positions P k T
  listed-is = ap (λ (n : ℕ). take n after) found-is ∙ places-first P k method T list accepted filled

  -- what is printed then, and that there is room for it
  pub found-text : answer_text P k method T ≡ output_text P k method (take counts.found after) counts.inspections
  unfolding answer_text
  found-text =
      rw (eq-eqb (given (pattern_tests P k method)) 0 admissible)
      (ap₂ (output_text P k method) (sym listed-is) (sym inspections-are))

  pub found-fits : {room : ℕ} → 98416 ≤ room → length (output_text P k method (take counts.found after) counts.inspections) ≤ room
  found-fits most = rw (listed-is, inspections-are) (le_trans (found-room P k method T (pattern-admitted P k method T list accepted) fits) most)
