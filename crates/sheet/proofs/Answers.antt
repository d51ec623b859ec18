-- The number of a whole search with its sheet, and its answers: a refusal, or what it lists and writes.
use mathlib.Core.Path.{◌≡◌, refl, sym, ◌∙◌}
use mathlib.Core.List.{List}
use Prim.Native.Nat.{ℕ, ◌≤◌, ◌<◌}
use native.Mathlib.Nat.{zero-add}
use native.Mathlib.Omega.{arith}
use lib.ListN.{length}
use borrow.Author.Tests.{ne_eqb}
use Rattle.jumbled.specs.Match.{positions}
use Rattle.jumbled.specs.Steps.{steps}
use Rattle.jumbled.specs.Refusals.{given, whole_tests, buffer_tests, sheet_tests}
use Rattle.jumbled.proofs.Admission.{Numbered, given-append, given-append-none, given-later, whole-numbered, buffer-short, buffer-fits}
use Rattle.lent.specs.Placed.{placed}
use Rattle.lent.specs.Written.{Written}
use Rattle.lent.specs.declared.SearchCounts.{SearchCounts}
use Rattle.std.specs.Prelude.{Ok, Err}
use Rattle.answers.specs.Numbers.{number_of}
use Rattle.answers.specs.declared.Refusal.{Refusal}
use Rattle.answers.proofs.Refused.{IsRefused, number-positive, on-refusal, on-accepted}
use Rattle.admit_pattern.proofs.Refusing.{refused-first}
use Rattle.search_whole.specs.Whole.{whole_number, Searched}
use Rattle.sheet_form.specs.Sheet.{sheet_of}
use Rattle.sheet.specs.Whole.{whole_sheet_number, WholeSheet}

module _ (P : List ℕ) (k method : ℕ) (T list buffer : List ℕ) where
  abbrev number : ℕ
  number = whole_sheet_number P k method T list buffer

  whole-tests : Numbered (whole_tests P k method (length T) (length list))
  whole-tests = whole-numbered P k method (length T) (length list)

  -- what the whole search refuses is refused with its number,
  pub number-early : (refusal : Refusal) → number_of refusal ≡ whole_number P k method T list → number_of refusal ≡ number
  unfolding whole_sheet_number sheet_tests whole_number
  number-early = refused-first (whole_tests P k method (length T) (length list)) (buffer_tests (length buffer) (length (sheet_of P k T))) whole-tests

  pub number-whole : IsRefused (whole_number P k method T list) → number ≡ whole_number P k method T list
  unfolding whole_sheet_number sheet_tests whole_number
  number-whole refusal =
      given-append (whole_tests P k method (length T) (length list)) (buffer_tests (length buffer) (length (sheet_of P k T))) whole-tests
      ∙ rw (ne_eqb (given (whole_tests P k method (length T) (length list))) 0 refusal) refl

  -- and it takes what is accepted here
  pub whole-taken-too : number ≡ 0 → whole_number P k method T list ≡ 0
  unfolding whole_sheet_number sheet_tests whole_number
  whole-taken-too e =
      (given-append-none (whole_tests P k method (length T) (length list)) (buffer_tests (length buffer) (length (sheet_of P k T))) whole-tests e).0

  module _ (accepted : whole_number P k method T list ≡ 0) where
    number-late : number ≡ given (buffer_tests (length buffer) (length (sheet_of P k T)))
    unfolding whole_sheet_number sheet_tests whole_number
    number-late =
        given-later (whole_tests P k method (length T) (length list)) (buffer_tests (length buffer) (length (sheet_of P k T))) whole-tests accepted

    -- then too short a buffer with 10,
    pub number_short : length buffer < length (sheet_of P k T) → number ≡ 10
    number_short short = number-late ∙ buffer-short (length buffer) (length (sheet_of P k T)) short

    -- and nothing else
    pub number-none : length (sheet_of P k T) ≤ length buffer → number ≡ 0
    number-none room = number-late ∙ buffer-fits (length buffer) (length (sheet_of P k T)) room

  -- ---- the answers

  -- a refusal leaves everything as it was
  pub sheet-refusal : (refusal : Refusal) → number_of refusal ≡ number → WholeSheet P k method T list list buffer buffer (Err refusal)
  sheet-refusal refusal e =
      record {
        number = e;
        found = on-refusal refusal number (length (positions P k T)) 0 e;
        inspections = on-refusal refusal number (steps P k method T).inspections 0 e;
        len = on-refusal refusal number (length (sheet_of P k T)) 0 e;
        listed = on-refusal refusal number (placed list 0 (positions P k T)) list e;
        laid_out = on-refusal refusal number (placed buffer 0 (sheet_of P k T)) buffer e;
        by-steps = λ q. absurd (let positive = number-positive refusal in omega arith);
      }

  pub sheet-written : number ≡ 0 → {list' : List ℕ} {r : SearchCounts} → Searched P k method T list list' r → {buffer' : List ℕ} {len : ℕ}
      → Written buffer 0 (sheet_of P k T) buffer' len → WholeSheet P k method T list list' buffer buffer' (Ok (record { found = r.found; inspections = r.inspections; len = len }))
  sheet-written e searched written =
      record {
        number = sym e;
        found = searched.found ∙ on-accepted number (length (positions P k T)) 0 e;
        inspections = searched.inspections ∙ on-accepted number (steps P k method T).inspections 0 e;
        len = written.place ∙ zero-add _ ∙ on-accepted number (length (sheet_of P k T)) 0 e;
        listed = searched.list ∙ on-accepted number (placed list 0 (positions P k T)) list e;
        laid_out = written.filled ∙ on-accepted number (placed buffer 0 (sheet_of P k T)) buffer e;
        by-steps = λ q. searched.by-steps;
      }
