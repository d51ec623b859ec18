-- What the program is asked: document 01, "The program", as definitions on the bytes of its input.
use Rattle.std.specs.Prelude.{ℕ, ◌-◌, Bool, cond, not, ◌&&◌, List, eqb, length, get_or, take}
use Rattle.jumbled.specs.Refusals.{given, request_tests}
use Rattle.ascii.specs.Codes.{newline}
use Rattle.ascii.specs.Decimal.{decimal_value}
use Rattle.program_request.specs.Line.{has, before_first, after_first, method_field, tolerance_field, pattern_field, good_line}

-- ---- what the input asks for

unfoldable pub first_line : List ℕ → List ℕ
first_line input = before_first newline input

unfoldable pub request_method : List ℕ → ℕ
request_method input = decimal_value 0 (method_field (first_line input))

unfoldable pub request_tolerance : List ℕ → ℕ
request_tolerance input = decimal_value 0 (tolerance_field (first_line input))

unfoldable pub request_pattern : List ℕ → List ℕ
request_pattern input = pattern_field (first_line input)

-- U without its last byte, where that is a newline
unfoldable pub less_newline : List ℕ → List ℕ
less_newline U = cond (eqb (get_or U (length U - 1) 0) newline) (take (length U - 1) U) U

-- The text: all that follows the first line, without the newline that may end it
unfoldable pub request_text : List ℕ → List ℕ
request_text input = less_newline (after_first newline input)

-- ---- when the program says no: document 01, "When a call says no"

-- 11: no newline at all, or a first line that does not have its form
unfoldable pub bad_line : List ℕ → Bool
bad_line input = not (has newline input && good_line (first_line input))

-- 6, which is tested before 11
unfoldable pub request_number : List ℕ → ℕ
request_number input = given (request_tests (length input) (bad_line input))
