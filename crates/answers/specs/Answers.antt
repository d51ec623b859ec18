-- What each answer says in the terms of document 01, "When a call says no": the counts, the length or the position, which a refusal leaves at 0 or
-- at none.
use Rattle.std.specs.Prelude.{ℕ, Option, Some, None, Result, Ok, Err}
use Rattle.std.proofs.Math.Option as maybe
use Rattle.lent.specs.declared.SearchCounts.{SearchCounts}
use Rattle.answers.specs.declared.Refusal.{Refusal}
use Rattle.answers.specs.declared.SheetCounts.{SheetCounts}
use Rattle.answers.specs.declared.First.{First}

-- ---- the answers' types, named as the code names them

abbrev pub Admission : Type 0
Admission = Result Unit Refusal

abbrev pub Answer : Type 0
Answer = Result SearchCounts Refusal

abbrev pub SheetAnswer : Type 0
SheetAnswer = Result SheetCounts Refusal

abbrev pub FirstAnswer : Type 0
FirstAnswer = Result First Refusal

abbrev pub Saving : Type 0
Saving = Result ℕ Refusal

-- ---- of a search of a text or of a chunk

abbrev pub answer_found : Answer → ℕ
answer_found (Ok counts) = counts.found
answer_found (Err refusal) = 0

abbrev pub answer_inspections : Answer → ℕ
answer_inspections (Ok counts) = counts.inspections
answer_inspections (Err refusal) = 0

-- ---- of a whole search with its sheet

abbrev pub sheet_found : SheetAnswer → ℕ
sheet_found (Ok counts) = counts.found
sheet_found (Err refusal) = 0

abbrev pub sheet_inspections : SheetAnswer → ℕ
sheet_inspections (Ok counts) = counts.inspections
sheet_inspections (Err refusal) = 0

abbrev pub sheet_length : SheetAnswer → ℕ
sheet_length (Ok counts) = counts.len
sheet_length (Err refusal) = 0

-- ---- of a search for the first match from a given position on; without one, and on a refusal, there is no position

-- the position as document 02's definitions speak of it, whose option is not the code's
abbrev pub defined_position : Option ℕ → maybe.Option ℕ
defined_position None = maybe.none
defined_position (Some position) = maybe.some position

abbrev pub first_position : FirstAnswer → maybe.Option ℕ
first_position (Ok first) = defined_position first.position
first_position (Err refusal) = maybe.none

abbrev pub first_inspections : FirstAnswer → ℕ
first_inspections (Ok first) = first.inspections
first_inspections (Err refusal) = 0

-- ---- of a save

abbrev pub saving_length : Saving → ℕ
saving_length (Ok len) = len
saving_length (Err refusal) = 0
