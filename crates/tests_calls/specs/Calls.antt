-- Which call each kind of case asks for, and what the call comes to (tools/vectors_stream.py, "Operations"). What a call gives is said by its own
-- record: `Whole` of search_whole, `WholeSeveral` of several, `WholeSheet` of sheet, `AtOrAfter` of first, `Assembles` of resent, and `Opened`,
-- `Feeds`, `SetsMethod`, `Saves` and `Loads` of search.
use Rattle.std.specs.Prelude.{◌≡◌, cond, List, [], ◌++◌, ℕ, min, eqb, ltb, length, Result, Ok, Err}
use Rattle.std.proofs.Math.Option.{Option-elim, get_or}
use Rattle.jumbled.specs.Match.{bit}
use Rattle.jumbled.specs.Fields.{layout_of, bits}
use Rattle.jumbled.specs.Heap.{exact}
use Rattle.answers.specs.declared.Refusal.{Refusal}
use Rattle.answers.specs.Numbers.{number_of, answer_number}
use Rattle.answers.specs.Answers.{Answer, SheetAnswer, FirstAnswer, answer_found, answer_inspections, saving_length}
use Rattle.answers.specs.Answers.{sheet_found, sheet_inspections, sheet_length, first_position, first_inspections}
use Rattle.image_form.specs.Image.{low_first}
use Rattle.table_parikh.specs.Table.{tabulate}
use Rattle.search_whole.specs.Whole.{Whole}
use Rattle.several.specs.Whole.{WholeSeveral}
use Rattle.sheet.specs.Whole.{WholeSheet}
use Rattle.first.specs.Call.{AtOrAfter}
use Rattle.resent.specs.Call.{Assembles}
use Rattle.resent.specs.declared.Assembled.{Assembled}
use Rattle.search.specs.declared.Search.{Search}
use Rattle.search.specs.declared.SearchResult.{SearchResult}
use Rattle.search.specs.declared.FeedResult.{FeedResult}
use Rattle.search.specs.declared.SaveResult.{SaveResult}
use Rattle.search.specs.Calls.{Opened, Feeds, SetsMethod, Saves, Loads}
use Rattle.program_report.specs.Output.{output}
use Rattle.tests_stream.specs.Fillings.{known_place, known_byte}
use Rattle.tests_stream.specs.Cases.{fields_of}
use Rattle.tests_stream.specs.Patterns.{lent_places, pattern_lengths, pattern_bytes, marked_pattern, start_position, pattern_after_start}
use Rattle.tests_stream.specs.declared.cases.Case.{Case}
use Rattle.tests_stream.specs.Kinds.{kind_number}
use Rattle.tests_outcomes.specs.Digests.{digest, list_bytes}
use Rattle.tests_outcomes.specs.Outcomes.{outcome_of}
use Rattle.tests_outcomes.specs.declared.Outcome.{Outcome}
use Rattle.tests_calls.specs.declared.Called.{Called}
use Rattle.tests_calls.specs.Searches.{search_bytes, search_of}

-- A call was made of which Says tells what it gave, and `given` is what `put` makes of that
pub record Came {A B : Type 0} (Says : A → Type 0) (put : A → B) (given : B) : Type 0 where
  pub result : A
  pub says : Says result
  pub is : given ≡ put result

-- ---- what a call came to, put as an outcome

abbrev pub called_with : Search → Outcome → Called
called_with s got = record { search = s; got = got }

-- a number that a call without refusals gives
abbrev pub number_outcome : ℕ → Outcome
number_outcome a = outcome_of 0 a 0 0

-- a call that gave two numbers, or that was refused and gave none, and a digest
abbrev pub given_outcome : ℕ → Result (ℕ × ℕ) Refusal → Outcome
given_outcome digested (Ok given) = outcome_of 0 given.0 given.1 digested
given_outcome digested (Err refusal) = outcome_of (number_of refusal) 0 0 digested

-- a search of a text or a chunk: the number, found and inspections, and a digest
abbrev pub answer_outcome : ℕ → Answer → Outcome
answer_outcome digested answer = outcome_of (answer_number answer) (answer_found answer) (answer_inspections answer) digested

-- a search with its marked sheet, and a digest
abbrev pub sheet_counted : ℕ → SheetAnswer → Outcome
sheet_counted digested answer = outcome_of (answer_number answer) (sheet_found answer) (sheet_inspections answer) digested

-- one which left a list and a buffer of these bytes: the sheet's length is digested after them
abbrev pub sheet_outcome : List ℕ → SheetAnswer → Outcome
sheet_outcome U answer = sheet_counted (digest 0 (U ++ low_first 8 (sheet_length answer))) answer

-- a search for the first match: 1 where there is one, else 0, and the digest of its position, which counts as 0 where there is none
abbrev pub first_outcome : FirstAnswer → Outcome
first_outcome answer =
    outcome_of (answer_number answer) (Option-elim (first_position answer) 0 (λ position. 1)) (first_inspections answer)
    (digest 0 (low_first 8 (get_or (first_position answer) 0)))

-- readings that were sent again: the number, and the digest of the text that was made of them
abbrev pub resent_outcome : Assembled → Outcome
resent_outcome r = outcome_of (answer_number r.admission) 0 0 (digest 0 r.text)

-- the digest of the bytes that a call left in a list or a buffer, and then of the search
abbrev pub digest_with : List ℕ → Search → ℕ
digest_with U s = digest 0 (U ++ search_bytes s)

-- open, set method and load
abbrev pub admission_called : SearchResult → Called
admission_called r = called_with r.search (outcome_of (answer_number r.admission) 0 0 (digest_with [] r.search))

-- feed, which left a list of these bytes
abbrev pub feed_called : List ℕ → FeedResult → Called
feed_called U r = called_with r.search (answer_outcome (digest_with U r.search) r.answer)

-- save, which left this buffer
abbrev pub save_called : List ℕ → SaveResult → Called
save_called U r = called_with r.search (outcome_of (answer_number r.saving) (saving_length r.saving) 0 (digest_with U r.search))

-- ---- the calls

-- A save into a buffer that held `before`
pub record SaveMade (s : Search) (before : List ℕ) (called : Called) : Type 0 where
  pub after : List ℕ
  pub came : Came (Saves s before after) (save_called after) called

-- The buffer that a case with so many places lends to save: 512 bytes at most
unfoldable pub known_buffer : ℕ → List ℕ
known_buffer places = tabulate (min places 512) known_byte

-- A search for the patterns that a case hands over, with a list of positions that held `before` and holds `after`. The list of numbers is made for
-- it, and filled like every other.
pub record SeveralMade (handed : List ℕ) (k : ℕ) (T before after : List ℕ) (got : Outcome) : Type 0 where
  pub numbers : List ℕ
  pub came :
      Came
      (WholeSeveral (pattern_bytes handed) (pattern_lengths handed) k T before after (tabulate (lent_places handed) known_place) numbers)
      (answer_outcome (digest 0 (list_bytes after ++ list_bytes numbers)))
      got

-- A search for the pattern that a case hands over, with its marked sheet and with a list that held `before` and holds `after`. The sheet's buffer is
-- made for it, and filled like that of a save.
pub record MarkedMade (handed : List ℕ) (k method : ℕ) (T before after : List ℕ) (got : Outcome) : Type 0 where
  pub buffer : List ℕ
  pub came :
      Came
      (WholeSheet (marked_pattern handed) k method T before after (tabulate (lent_places handed) known_byte) buffer)
      (sheet_outcome (list_bytes after ++ buffer))
      got

-- A search for the first match of the pattern that a case hands over, from the position on that stands before it
abbrev pub FirstMade : (handed : List ℕ) (k method : ℕ) (T : List ℕ) → Outcome → Type 0
FirstMade handed k method T got = Came (AtOrAfter (pattern_after_start handed) k method T (start_position handed)) first_outcome got

-- The text of nine days, made of the readings T
abbrev pub ResentMade : (T : List ℕ) → Outcome → Type 0
ResentMade T got = Came (Assembles T) resent_outcome got

-- mixlist's output: its length, and the digest of it
unfoldable pub report_outcome : List ℕ → Outcome
report_outcome input = outcome_of 0 (length (output input)) 0 (digest 0 (output input))

-- The bits that the fields of methods 2, 3 and 4 need. A pattern over 64 bytes and a k over 64, which no search has, count as none.
unfoldable pub width_number : List ℕ → ℕ → ℕ → ℕ
width_number P k method = cond (ltb 64 (length P)) 0 (cond (ltb 64 k) 0 (bits P (layout_of k method)))

-- 1 where a candidate of method 5 matches without being verified, else 0
unfoldable pub exact_number : List ℕ → ℕ
exact_number P = cond (ltb 64 (length P)) 0 (bit (exact P))

-- The calls that no search is handed to, by the kind of the case: whole search (1), mixlist (8), the bits (9), exact (10), several patterns (11), a
-- search with its marked sheet (12), the first match (13) and readings that were sent again (14). Only 1, 11 and 12, which list what they find,
-- change the list.
unfoldable pub OutcomeMade : (op : ℕ) (P : List ℕ) (k method : ℕ) (T before after : List ℕ) → Outcome → Type 0
OutcomeMade op P k method T before after got =
    cond (eqb op 1) (Came (Whole P k method T before after) (answer_outcome (digest 0 (list_bytes after))) got)
    (cond (eqb op 11) (SeveralMade P k T before after got)
    (cond (eqb op 12) (MarkedMade P k method T before after got)
    (cond (eqb op 13) ((after ≡ before) × FirstMade P k method T got)
    (cond (eqb op 14) ((after ≡ before) × ResentMade T got)
    ((after ≡ before)
    × (got
    ≡ cond (eqb op 8) (report_outcome T)
    (cond (eqb op 9) (number_outcome (width_number P k method)) (number_outcome (exact_number P)))))))))

-- Such a call leaves the search as it was
pub record Beside (Made : Outcome → Type 0) (s : Search) (called : Called) : Type 0 where
  pub kept : called.search ≡ s
  pub made : Made called.got

-- The call of a case, with the pattern P, the text T and a list that held `before`: open (2), feed (3), set method (4), save (5), load (6), a search
-- filled in by hand (7), or one of those above. A feed alone of these changes the list.
unfoldable pub CallMade : Case → Search → (P T before after : List ℕ) → Called → Type 0
CallMade case s P T before after called =
    cond (eqb (kind_number case.kind) 2) ((after ≡ before) × Came (Opened P case.k case.method) admission_called called)
    (cond (eqb (kind_number case.kind) 3) (Came (Feeds s T before after) (feed_called (list_bytes after)) called)
    (cond (eqb (kind_number case.kind) 4) ((after ≡ before) × Came (SetsMethod s case.method) admission_called called)
    (cond (eqb (kind_number case.kind) 5) ((after ≡ before) × SaveMade s (known_buffer case.places) called)
    (cond (eqb (kind_number case.kind) 6) ((after ≡ before) × Came (Loads T) admission_called called)
    (cond (eqb (kind_number case.kind) 7) ((after ≡ before) × (called ≡ called_with (search_of (fields_of T)) (number_outcome 0)))
    (Beside (OutcomeMade (kind_number case.kind) P case.k case.method T before after) s called))))))
