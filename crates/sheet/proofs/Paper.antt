-- From the paper alone the positions can be read back, from all of it and from one page by itself; and it does not tell the method (document 02,
-- T-02).
use mathlib.Core.Path.{◌≡◌, sym, ap, ◌∙◌}
use mathlib.Core.List.{List, []}
use Prim.Native.Nat.{ℕ, ◌<◌}
use lib.ListN.{length, get_or, take}
use Rattle.jumbled.specs.Match.{positions}
use Rattle.answers.specs.Numbers.{answer_number}
use Rattle.answers.specs.Answers.{SheetAnswer, sheet_length}
use Rattle.answers.proofs.Refused.{is_zero}
use Rattle.search_whole.specs.Whole.{whole_number}
use Rattle.sheet_form.specs.Sheet.{on_page, page_count, sheet_bytes}
use Rattle.sheet_form.specs.Reading.{pages_on, read_page, read_sheet}
use Rattle.sheet_form.proofs.Lengths.{InColumn}
use Rattle.sheet_form.proofs.ReadBack.{read-page, read-sheet, page-on-sheet, pages-on-sheet}
use Rattle.sheet.specs.Whole.{WholeSheet}
use Rattle.sheet.specs.Paper.{ReadBack}
use Rattle.sheet.proofs.Terms.{in-column, sheet-bytes}
use Rattle.sheet.proofs.Answers.{whole-taken-too}
use Rattle.sheet.proofs.Contract.{SheetAccepted, sheet-accepted}

module _ {P : List ℕ} {k method : ℕ} {T list list' buffer buffer' : List ℕ} {r : SheetAnswer}
    (contract : WholeSheet P k method T list list' buffer buffer' r) (ok : answer_number r ≡ 0) where
  accepted : SheetAccepted P k method T list list' buffer buffer' r
  accepted = sheet-accepted contract ok

  whole : whole_number P k method T list ≡ 0
  whole = whole-taken-too P k method T list buffer (is_zero contract.number ok)

  columns : InColumn (positions P k T)
  columns = in-column P k method T list whole

  all_read : ReadBack list' buffer' r
  all_read =
      record {
        from-sheet = ap read_sheet accepted.bytes.first ∙ read-sheet (length P) T (positions P k T) columns ∙ sym accepted.places.first;
        from-page = λ i on.
            let on-sheet : i < page_count (length (positions P k T)) = rw accepted.found at on in
            ap (λ (bytes : List ℕ). read_page (get_or (pages_on bytes) i [])) accepted.bytes.first
            ∙ ap read_page (page-on-sheet (length P) T (positions P k T) i on-sheet)
            ∙ read-page (length P) T (positions P k T) columns i
            ∙ ap (λ (listed : List ℕ). on_page listed i) (sym accepted.places.first);
        pages = λ some.
            ap (λ (bytes : List ℕ). length (pages_on bytes)) accepted.bytes.first
            ∙ pages-on-sheet (length P) T (positions P k T) (rw accepted.found at some)
            ∙ ap page_count (sym accepted.found);
        bytes = accepted.len ∙ sheet-bytes P k method T list whole ∙ ap sheet_bytes (sym accepted.found);
      }

pub read_back : {P : List ℕ} {k method : ℕ} {T list list' buffer buffer' : List ℕ} {r : SheetAnswer}
    → WholeSheet P k method T list list' buffer buffer' r
    → answer_number r ≡ 0
    → ReadBack list' buffer' r
read_back contract ok = all_read contract ok

-- two accepted calls for one pattern, k and text print the same sheet, whatever their methods
pub same-sheet : {P : List ℕ} {k method method₂ : ℕ} {T list list' buffer buffer' list₂ list₂' buffer₂ buffer₂' : List ℕ} {r r₂ : SheetAnswer}
    → WholeSheet P k method T list list' buffer buffer' r → WholeSheet P k method₂ T list₂ list₂' buffer₂ buffer₂' r₂
    → answer_number r ≡ 0 → answer_number r₂ ≡ 0 → take (sheet_length r) buffer' ≡ take (sheet_length r₂) buffer₂'
same-sheet contract contract₂ ok ok₂ = (sheet-accepted contract ok).bytes.first ∙ sym (sheet-accepted contract₂ ok₂).bytes.first
