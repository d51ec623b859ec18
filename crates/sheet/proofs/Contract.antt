-- What the contract of a whole search with its sheet says where it is accepted and where it is refused, and which number it gives when (document 02,
-- T-02).
use mathlib.Core.Path.{◌≡◌, sym, ◌∙◌}
use mathlib.Core.List.{List}
use Prim.Native.Nat.{ℕ, ◌≤◌, ◌<◌}
use lib.ListN.{length, take}
use Rattle.jumbled.specs.Match.{positions}
use Rattle.jumbled.specs.Steps.{steps}
use Rattle.jumbled.proofs.Never.{never-given, sheet-not-5}
use Rattle.lent.specs.Placed.{placed, FirstPlaces}
use Rattle.lent.proofs.Placing.{first-places}
use Rattle.answers.specs.Numbers.{answer_number}
use Rattle.answers.specs.Answers.{Answer, answer_found, answer_inspections, SheetAnswer, sheet_found, sheet_inspections, sheet_length}
use Rattle.answers.proofs.Refused.{IsRefused, is_zero, not-zero}
use Rattle.search_whole.specs.Whole.{whole_number, Whole}
use Rattle.search_whole.proofs.Contract.{whole-accepted}
use Rattle.sheet_form.specs.Sheet.{sheet_of}
use Rattle.sheet.specs.Whole.{whole_sheet_number, WholeSheet}
use Rattle.sheet.proofs.Answers.{number-whole, number_short, number-none, whole-taken-too}

-- Accepted: the positions stand in the list's first places and their sheet in the buffer's, and every other place of both is as it was
pub record SheetAccepted (P : List ℕ) (k method : ℕ) (T list list' buffer buffer' : List ℕ) (r : SheetAnswer) : Type 0 where
  pub found : sheet_found r ≡ length (positions P k T)
  pub inspections : sheet_inspections r ≡ (steps P k method T).inspections
  pub len : sheet_length r ≡ length (sheet_of P k T)
  pub places : FirstPlaces list list' (sheet_found r) (positions P k T)
  pub bytes : FirstPlaces buffer buffer' (sheet_length r) (sheet_of P k T)
  pub by-steps : (steps P k method T).occurrences ≡ positions P k T

-- Refused, it leaves every place of both and reports nothing
pub record NothingPrinted (list list' buffer buffer' : List ℕ) (r : SheetAnswer) : Type 0 where
  pub found : sheet_found r ≡ 0
  pub inspections : sheet_inspections r ≡ 0
  pub len : sheet_length r ≡ 0
  pub places : list' ≡ list
  pub bytes : buffer' ≡ buffer

-- A whole search answers as a search with its sheet that answered r, and leaves the list that this one left
pub record AsWhole (left : List ℕ) (r : SheetAnswer) (after : List ℕ) (answer : Answer) : Type 0 where
  pub number : answer_number answer ≡ 0
  pub found : answer_found answer ≡ sheet_found r
  pub inspections : answer_inspections answer ≡ sheet_inspections r
  pub list : after ≡ left

module _ {P : List ℕ} {k method : ℕ} {T list list' buffer buffer' : List ℕ} {r : SheetAnswer}
    (contract : WholeSheet P k method T list list' buffer buffer' r) where
  pub sheet-accepted : answer_number r ≡ 0 → SheetAccepted P k method T list list' buffer buffer' r
  sheet-accepted ok =
      let none = is_zero contract.number ok in
      let found : sheet_found r ≡ length (positions P k T) = rw none at contract.found in
      let inspections : sheet_inspections r ≡ (steps P k method T).inspections = rw none at contract.inspections in
      let len : sheet_length r ≡ length (sheet_of P k T) = rw none at contract.len in
      let listed : list' ≡ placed list 0 (positions P k T) = rw none at contract.listed in
      let laid_out : buffer' ≡ placed buffer 0 (sheet_of P k T) = rw none at contract.laid_out in
      record {
        found = found;
        inspections = inspections;
        len = len;
        places = first-places listed found;
        bytes = first-places laid_out len;
        by-steps = contract.by-steps none;
      }

  pub sheet-refused : IsRefused (answer_number r) → NothingPrinted list list' buffer buffer' r
  sheet-refused refusal =
      record {
        found = rw (not-zero contract.number refusal) at contract.found;
        inspections = rw (not-zero contract.number refusal) at contract.inspections;
        len = rw (not-zero contract.number refusal) at contract.len;
        places = rw (not-zero contract.number refusal) at contract.listed;
        bytes = rw (not-zero contract.number refusal) at contract.laid_out;
      }

  -- accepted, it is the whole search: any whole search of the same terms and list answers the same and leaves the same list,
  pub as-whole : answer_number r ≡ 0 → {after : List ℕ} {answer : Answer} → Whole P k method T list after answer → AsWhole list' r after answer
  as-whole ok {after} {answer} whole =
      let here = sheet-accepted ok in
      let none = is_zero contract.number ok in
      let there = whole-accepted whole (whole.number ∙ whole-taken-too P k method T list buffer none) in
      record {
        number = whole.number ∙ whole-taken-too P k method T list buffer none;
        found = there.found ∙ sym here.found;
        inspections = there.inspections ∙ sym here.inspections;
        list = there.list ∙ sym (rw none at contract.listed);
      }

  -- and the positions in the list's first places are those of the method's own steps
  pub listed-by-steps : answer_number r ≡ 0 → take (sheet_found r) list' ≡ (steps P k method T).occurrences
  listed-by-steps ok = (sheet-accepted ok).places.first ∙ sym (sheet-accepted ok).by-steps

  -- what the whole search refuses is refused with its number, whatever the buffer;
  pub earlier-first : IsRefused (whole_number P k method T list) → answer_number r ≡ whole_number P k method T list
  earlier-first refusal = contract.number ∙ number-whole P k method T list buffer refusal

  -- what it does not refuse is refused with 10 where the buffer is shorter than the sheet,
  pub ten-last : whole_number P k method T list ≡ 0 → length buffer < length (sheet_of P k T) → answer_number r ≡ 10
  ten-last accepted short = contract.number ∙ number_short P k method T list buffer accepted short

  -- and accepted where it is not
  pub fits-accepted : whole_number P k method T list ≡ 0 → length (sheet_of P k T) ≤ length buffer → answer_number r ≡ 0
  fits-accepted accepted room = contract.number ∙ number-none P k method T list buffer accepted room

-- 5 never comes from method 6 (document 02, T-04)
pub sheet-never-5 : {P : List ℕ} {k : ℕ} {T list list' buffer buffer' : List ℕ} {r : SheetAnswer} → WholeSheet P k 6 T list list' buffer buffer' r
    → answer_number r ≡ 5 → ⊥
unfolding whole_sheet_number
sheet-never-5 {P} {k} {T} {list} {buffer = buffer} contract e =
    never-given (sheet-not-5 P k (length T) (length list) (length buffer) (length (sheet_of P k T))) (sym contract.number ∙ e)
