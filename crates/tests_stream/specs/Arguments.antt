-- The kinds of cases and their arguments, as they stand in the stream (tools/vectors_stream.py). An argument that a kind lacks takes no bytes.
use Rattle.std.specs.Prelude.{◌≡◌, false, cond, List, ℕ, eqb}
use Rattle.table_parikh.specs.Table.{tabulate}
use Rattle.tests_stream.specs.declared.Number.{Number}
use Rattle.tests_stream.specs.declared.Text.{Text}
use Rattle.tests_stream.specs.Kinds.{kind_number, is_hand}
use Rattle.tests_stream.specs.declared.cases.Kind.{Kind}
use Rattle.tests_stream.specs.declared.cases.Kind.TheVariants.{Unknown, Whole, Open, Feed, SetMethod, Save, Load, Hand, Report, FieldBits, Exact, Several, Marked, First, Resent}
use Rattle.tests_stream.specs.Reading.{nowhere, number_with, number_at}
use Rattle.tests_stream.specs.Texts.{Spelling, spelling, text_byte, HoldsText, text_of, spelling_at, text_at}
use Rattle.tests_stream.specs.declared.cases.Case.{Case}
use Rattle.tests_stream.specs.declared.cases.Shape.{Shape}

-- The longest pattern and the longest text, the widths of k, of the method and of the number of places, and the most places
abbrev pub arguments : ℕ → ℕ → ℕ → ℕ → ℕ → ℕ → Shape
arguments pattern text k method places most = record { pattern = pattern; text = text; k = k; method = method; places = places; most = most }

-- Those of each kind
unfoldable pub shape_of : Kind → Shape
shape_of Unknown = arguments 0 0 0 0 0 0
shape_of Whole = arguments 300 65537 1 1 4 65537
shape_of Open = arguments 300 0 1 1 0 0
shape_of Feed = arguments 0 65537 0 0 4 65537
shape_of SetMethod = arguments 0 0 0 1 0 0
shape_of Save = arguments 0 0 0 0 2 512
shape_of Load = arguments 0 512 0 0 0 0
shape_of Hand = arguments 0 0 0 0 0 0
shape_of Report = arguments 0 65537 0 0 0 0
shape_of FieldBits = arguments 64 0 1 1 0 0
shape_of Exact = arguments 64 0 0 0 0 0
shape_of Several = arguments 1024 65537 1 0 4 65537
shape_of Marked = arguments 304 65537 1 1 4 65537
shape_of First = arguments 308 65537 1 1 0 0
shape_of Resent = arguments 0 65537 0 0 0 0

-- The text of a case, at its place: where a search is filled in by hand it is a search's 149 bytes, as they stand there. How it is spelled; its length and the place
-- after it
unfoldable pub case_text_spelling : List ℕ → ℕ → Kind → ℕ → Spelling
case_text_spelling stream at kind longest = cond (is_hand kind) (spelling at 149 false 0 149) (spelling_at stream at longest)

unfoldable pub case_text_at : List ℕ → ℕ → Kind → ℕ → Text
case_text_at stream at kind longest = cond (is_hand kind) (text_of stream (spelling at 149 false 0 149)) (text_at stream at longest)

-- That text was put into the first bytes of a buffer
pub record CaseTextRead (stream : List ℕ) (at : ℕ) (kind : Kind) (longest : ℕ) (text : Text) (before after : List ℕ) : Type 0 where
  pub is : text ≡ case_text_at stream at kind longest
  pub bytes : HoldsText stream (case_text_spelling stream at kind longest) text.len before after

-- The pattern, k and the method of a case of a kind whose arguments start at a place, each where the one before it ends
abbrev pub pattern_at : List ℕ → ℕ → Kind → Text
pattern_at stream at kind = text_at stream at (shape_of kind).pattern

abbrev pub k_at : List ℕ → ℕ → Kind → Number
k_at stream at kind = number_at stream (pattern_at stream at kind).next (shape_of kind).k 255

unfoldable pub method_at : List ℕ → ℕ → Kind → Number
method_at stream at kind = number_at stream (k_at stream at kind).next (shape_of kind).method 255

-- The case: its text and the number of places follow
unfoldable pub case_at : List ℕ → ℕ → Kind → Case
case_at stream at kind =
    let method = method_at stream at kind in
    let text = case_text_at stream method.next kind (shape_of kind).text in
    let places = number_at stream text.next (shape_of kind).places (shape_of kind).most in
    record {
      kind = kind;
      pattern = (pattern_at stream at kind).len;
      k = (k_at stream at kind).value;
      method = method.value;
      text = text.len;
      places = places.value;
      next = places.next;
    }

-- That case was read, and its pattern and its text were put into the first bytes of buffers, P and T before and P' and T' after
pub record CaseRead (stream : List ℕ) (at : ℕ) (kind : Kind) (case : Case) (P P' T T' : List ℕ) : Type 0 where
  pub is : case ≡ case_at stream at kind
  pub pattern : HoldsText stream (spelling_at stream at (shape_of kind).pattern) case.pattern P P'
  pub text : HoldsText stream (case_text_spelling stream (method_at stream at kind).next kind (shape_of kind).text) case.text T T'

-- The number of the kind of the case at a place, and the place after it; what can't be read counts as 0, which is no kind's, and nothing follows it
unfoldable pub kind_at : List ℕ → ℕ → Number
kind_at stream at =
    let kind = number_at stream at 1 14 in
    cond (eqb kind.value 0) (number_with 0 nowhere) kind

-- The case of a kind at a place: its arguments follow the kind's number
unfoldable pub stored_case_at : List ℕ → ℕ → Kind → Case
stored_case_at stream at kind = case_at stream (kind_at stream at).next kind

-- Its pattern and its text
unfoldable pub stored_pattern : List ℕ → ℕ → Kind → List ℕ
stored_pattern stream at kind =
    tabulate (stored_case_at stream at kind).pattern (text_byte stream (spelling_at stream (kind_at stream at).next (shape_of kind).pattern))

unfoldable pub stored_text : List ℕ → ℕ → Kind → List ℕ
stored_text stream at kind =
    let after = (method_at stream (kind_at stream at).next kind).next in
    tabulate (stored_case_at stream at kind).text (text_byte stream (case_text_spelling stream after kind (shape_of kind).text))

-- The case of the kind whose number stands at a place was read
abbrev pub StoredCase : List ℕ → ℕ → Case → (P P' T T' : List ℕ) → Type 0
StoredCase stream at case P P' T T' =
    (kind_number case.kind ≡ (kind_at stream at).value) × CaseRead stream (kind_at stream at).next case.kind case P P' T T'
