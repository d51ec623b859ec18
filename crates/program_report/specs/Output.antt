-- What the program prints: document 01, "The program".
use Rattle.std.specs.Prelude.{ℕ, cond, List, eqb, length}
use Rattle.jumbled.specs.Match.{positions}
use Rattle.jumbled.specs.Steps.{steps}
use Rattle.jumbled.specs.Refusals.{given, pattern_tests, program_tests}
use Rattle.lent.specs.Written.{Written}
use Rattle.program_request.specs.declared.Request.{Request}
use Rattle.program_request.specs.Request.{request_method, request_tolerance, request_pattern, request_text, bad_line}
use Rattle.program_lines.specs.Lines.{output_text, refusal_text}

-- ---- when the program says no: document 01, "When a call says no"

-- The number of the refusal, 0 where nothing is refused: 6 before 11, then those of open
unfoldable pub request_refusal : List ℕ → ℕ
request_refusal input =
    given
    (program_tests (length input) (bad_line input) (request_pattern input) (request_tolerance input) (request_method input))

-- What is printed for a request with a good first line: a refusal of open's tests, or what was found
unfoldable pub answer_text : List ℕ → ℕ → ℕ → List ℕ → List ℕ
answer_text P k method T =
    cond (eqb (given (pattern_tests P k method)) 0)
    (output_text P k method (positions P k T) (steps P k method T).inspections)
    (refusal_text (given (pattern_tests P k method)))

-- That was put at the buffer's start
abbrev pub AnswerWritten : Request → (before after : List ℕ) → ℕ → Type 0
AnswerWritten request before after len =
    Written before 0 (answer_text request.pattern.now request.k request.method request.text.now) after len

-- ---- what the program prints for an input

unfoldable pub output : List ℕ → List ℕ
output input =
    cond (eqb (request_refusal input) 0)
    (output_text (request_pattern input) (request_tolerance input) (request_method input)
    (positions (request_pattern input) (request_tolerance input) (request_text input))
    (steps (request_pattern input) (request_tolerance input) (request_method input) (request_text input)).inspections)
    (refusal_text (request_refusal input))
