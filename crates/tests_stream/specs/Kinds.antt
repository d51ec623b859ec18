-- The kinds of cases and their numbers in the stream (tools/vectors_stream.py, "Operations").
use Rattle.std.specs.Prelude.{◌≡◌, ℕ, Bool, true, false, ◌&&◌, ltb, Result, MatchResult}
use Rattle.tests_stream.specs.declared.cases.Kind.{Kind}
use Rattle.tests_stream.specs.declared.cases.Kind.TheVariants.{Unknown, Whole, Open, Feed, SetMethod, Save, Load, Hand, Report, FieldBits, Exact, Several, Marked, First, Resent}
use Rattle.tests_stream.specs.declared.cases.UnknownKind.{UnknownKind}

abbrev pub kind_number : Kind → ℕ
kind_number Unknown = 0
kind_number Whole = 1
kind_number Open = 2
kind_number Feed = 3
kind_number SetMethod = 4
kind_number Save = 5
kind_number Load = 6
kind_number Hand = 7
kind_number Report = 8
kind_number FieldBits = 9
kind_number Exact = 10
kind_number Several = 11
kind_number Marked = 12
kind_number First = 13
kind_number Resent = 14

-- A kind has this number
abbrev pub is_kind : ℕ → Bool
is_kind number = ltb 0 number && ltb number 15

-- The result is the kind of this number, and an error where no kind has it
abbrev pub Names : ℕ → Result Kind UnknownKind → Type 0
Names number r = MatchResult r (λ kind. (kind_number kind ≡ number) × (is_kind number ≡ true)) (λ _. is_kind number ≡ false)

-- A search is filled in by hand
abbrev pub is_hand : Kind → Bool
is_hand Unknown = false
is_hand Whole = false
is_hand Open = false
is_hand Feed = false
is_hand SetMethod = false
is_hand Save = false
is_hand Load = false
is_hand Hand = true
is_hand Report = false
is_hand FieldBits = false
is_hand Exact = false
is_hand Several = false
is_hand Marked = false
is_hand First = false
is_hand Resent = false
