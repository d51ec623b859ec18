-- The answer of `parse`: what each case says, its number in document 01 and its values, and what they have to be.
use Rattle.std.specs.Prelude.{ℕ, ◌+◌, ◌-◌, ◌≡◌, cond, List, [], Result, Ok, Err, eqb, length, take, drop}
use Rattle.answers.specs.declared.Refusal.{Refusal}
use Rattle.answers.specs.Numbers.{number_of}
use Rattle.program_request.specs.Reading.{pattern_place}
use Rattle.program_request.specs.Request.{first_line, request_method, request_tolerance, request_pattern, request_text, request_number}
use Rattle.program_request.specs.declared.Request.{Request}

-- What an input asks for, or the number with which it is refused before that is known
pub record Asked : Type 0 where
  pub refusal : ℕ
  pub method : ℕ
  pub k : ℕ
  pub pattern : List ℕ
  pub text : List ℕ

abbrev pub refused_with : ℕ → Asked
refused_with number = record { refusal = number; method = 0; k = 0; pattern = []; text = [] }

-- What the input asks for, where neither 6 nor 11 is given
unfoldable pub asked : List ℕ → Asked
asked input =
    cond (eqb (request_number input) 0)
    (record {
      refusal = 0;
      method = request_method input;
      k = request_tolerance input;
      pattern = request_pattern input;
      text = request_text input;
    })
    (refused_with (request_number input))

-- The number and the values of each case
abbrev pub meaning : Result Request Refusal → Asked
meaning (Err refusal) = refused_with (number_of refusal)
meaning (Ok request) =
    record { refusal = 0; method = request.method; k = request.k; pattern = request.pattern.now; text = request.text.now }

-- ---- where the pattern and the text stand

pub record Places : Type 0 where
  pub from : ℕ
  pub line_end : ℕ
  pub end : ℕ

abbrev pub no_places : Places
no_places = record { from = 0; line_end = 0; end = 0 }

-- The places of each case
abbrev pub places_of : Result Request Refusal → Places
places_of (Err refusal) = no_places
places_of (Ok request) = record { from = request.from; line_end = request.line_end; end = request.end }

-- In an input that is not refused the pattern ends where the first line does, and the text begins after the newline there
unfoldable pub places : List ℕ → Places
places input =
    cond (eqb (request_number input) 0)
    (record {
      from = pattern_place (first_line input);
      line_end = length (first_line input);
      end = length (first_line input) + 1 + length (request_text input);
    })
    no_places

-- The bytes of U from `start` up to `end`
abbrev pub between : List ℕ → ℕ → ℕ → List ℕ
between U start end = take (end - start) (drop start U)

-- The number and the values of each case, with the pattern and the text as they stand in the input: the pattern from `from` up to the newline at
-- `line_end`, and the text after that up to `end`
abbrev pub meaning_in : List ℕ → Result Request Refusal → Asked
meaning_in input (Err refusal) = refused_with (number_of refusal)
meaning_in input (Ok request) =
    record {
      refusal = 0;
      method = request.method;
      k = request.k;
      pattern = between input request.from request.line_end;
      text = between input (request.line_end + 1) request.end;
    }

-- ---- what `parse` yields

pub record Parses (input : List ℕ) (answer : Result Request Refusal) : Type 0 where
  pub values : meaning answer ≡ asked input
  pub stand : places_of answer ≡ places input
  pub parts : meaning_in input answer ≡ asked input
