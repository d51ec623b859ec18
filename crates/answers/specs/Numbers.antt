-- The numbers of document 01, "When a call says no", and from 12 on of document 02, for the refusals that the code names.
use Rattle.std.specs.Prelude.{cond, ℕ, eqb, Result, Ok, Err}
use Rattle.answers.specs.declared.Refusal.{Refusal}
use Rattle.answers.specs.declared.Refusal.TheVariants.{PatternLength, ToleranceTooLarge, UnknownMethod, ToleranceNotTaken, FieldsTooWide, TextTooLong, TooFewPlaces, TotalTooLarge, Malformed, BufferTooShort, BadRequest, PatternSet, LostHourInPattern, BadEntries, ConflictingEntries}

abbrev pub number_of : Refusal → ℕ
number_of PatternLength = 1
number_of ToleranceTooLarge = 2
number_of UnknownMethod = 3
number_of ToleranceNotTaken = 4
number_of FieldsTooWide = 5
number_of TextTooLong = 6
number_of TooFewPlaces = 7
number_of TotalTooLarge = 8
number_of Malformed = 9
number_of BufferTooShort = 10
number_of BadRequest = 11
number_of PatternSet = 12
number_of LostHourInPattern = 13
number_of BadEntries = 15
number_of ConflictingEntries = 16

-- The number of any call's answer: 0 where nothing is refused
abbrev pub answer_number : {A : Type 0} → Result A Refusal → ℕ
answer_number (Ok answered) = 0
answer_number (Err refusal) = number_of refusal

-- What holds where the number is 0, and what holds on a refusal
abbrev pub unless_refused : {A : Type 0} → ℕ → A → A → A
unless_refused number accepted refused = cond (eqb number 0) accepted refused
