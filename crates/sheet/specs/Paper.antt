-- What can be told from the paper alone: document 02, T-02.
use Rattle.std.specs.Prelude.{◌≡◌, List, [], ℕ, ◌<◌, length, get_or, take}
use Rattle.answers.specs.Answers.{SheetAnswer, sheet_found, sheet_length}
use Rattle.sheet_form.specs.Sheet.{on_page, page_count, sheet_bytes}
use Rattle.sheet_form.specs.Reading.{pages_on, read_page, read_sheet}

-- Of a call that answered r and left this list and this buffer: what is printed gives back what is listed
pub record ReadBack (list buffer : List ℕ) (r : SheetAnswer) : Type 0 where
  -- From the whole sheet all listed positions are read.
  pub from-sheet : read_sheet (take (sheet_length r) buffer) ≡ take (sheet_found r) list
  -- From each of its pages, by itself, the positions on that page are read.
  pub from-page :
      (i : ℕ)
      → i < page_count (sheet_found r)
      → read_page (get_or (pages_on (take (sheet_length r) buffer)) i []) ≡ on_page (take (sheet_found r) list) i
  -- Where a position is listed, the byte 12 parts as many pages as the lines take.
  pub pages : 0 < sheet_found r → length (pages_on (take (sheet_length r) buffer)) ≡ page_count (sheet_found r)
  -- The sheet's length is 76 for each position, and 1 for each page but the first.
  pub bytes : sheet_length r ≡ sheet_bytes (sheet_found r)
