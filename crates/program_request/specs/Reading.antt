-- What the functions below `parse` read: a list of bytes cut in two, a field's number, and the first line with document 01's number and its values.
use Rattle.std.specs.Prelude.{◌≡◌, ℕ, ◌+◌, Bool, true, false, cond, List, [], Option, Some, None, MatchOption, length}
use Rattle.ascii.specs.Decimal.{decimal_value}
use Rattle.program_request.specs.Line.{has, before_first, after_first, method_field, tolerance_field, pattern_field, good_line}
use Rattle.program_request.specs.declared.Line.{Line}

-- A list cut at its first c: what stands before it and what stands after it
pub record Cut (c : ℕ) (U front rest : List ℕ) : Type 0 where
  pub there : has c U ≡ true
  pub before : front ≡ before_first c U
  pub after : rest ≡ after_first c U

-- The number that a field spells in base ten, where it has the form asked for
abbrev pub Spelled : (List ℕ → Bool) → List ℕ → Option ℕ → Type 0
Spelled form field answer = MatchOption answer (form field ≡ false) (λ number. (form field ≡ true) × (number ≡ decimal_value 0 field))

-- What a first line says: the number with which it is refused, or 0, and then the method, k and the pattern
pub record LineParts : Type 0 where
  pub refusal : ℕ
  pub method : ℕ
  pub k : ℕ
  pub pattern : List ℕ

abbrev pub line_refused : LineParts
line_refused = record { refusal = 11; method = 0; k = 0; pattern = [] }

-- The number and the values of each case
abbrev pub line_meaning : Option Line → LineParts
line_meaning None = line_refused
line_meaning (Some line) = record { refusal = 0; method = line.method; k = line.k; pattern = line.pattern.now }

-- The pattern begins after the method, a space, k and a space
unfoldable pub pattern_place : List ℕ → ℕ
pattern_place line = length (method_field line) + 1 + (length (tolerance_field line) + 1)

-- What the line says
unfoldable pub line_parts : List ℕ → LineParts
line_parts line =
    cond (good_line line)
    (record {
      refusal = 0;
      method = decimal_value 0 (method_field line);
      k = decimal_value 0 (tolerance_field line);
      pattern = pattern_field line;
    })
    line_refused
