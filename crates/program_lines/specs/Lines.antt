-- The lines that the program prints: document 01, "The program".
use Rattle.std.specs.Prelude.{ℕ, length}
use mathlib.Core.List.{List, ◌++◌, flat_map}
use Rattle.lent.specs.Written.{Written}
use Rattle.ascii.specs.Codes.{ascii}
use Rattle.ascii.specs.Decimal.{decimal}

-- n, and the newline that ends its line. Each line of the output has a number at its end, so this is how it ends.
unfoldable pub number_line : ℕ → List ℕ
number_line n = decimal n ++ ascii "\n"

-- The first line: the pattern, the method and k of the request
unfoldable pub header : List ℕ → ℕ → ℕ → List ℕ
header P k method = ascii "mix " ++ P ++ ascii " method " ++ decimal method ++ ascii " k " ++ number_line k

-- A line for each position
abbrev pub position_lines : List ℕ → List ℕ
position_lines ps = flat_map number_line ps

-- The last line: how many positions, and how many inspections
unfoldable pub counts_line : ℕ → ℕ → List ℕ
counts_line found inspections = ascii "found " ++ decimal found ++ ascii " looks " ++ number_line inspections

-- The whole output for a pattern, k, a method, the positions listed and the inspections
unfoldable pub output_text : List ℕ → ℕ → ℕ → List ℕ → ℕ → List ℕ
output_text P k method listed inspections = header P k method ++ position_lines listed ++ counts_line (length listed) inspections

-- All that is printed for a refusal
unfoldable pub refusal_text : ℕ → List ℕ
refusal_text number = ascii "refused " ++ number_line number

-- The whole output was put at the buffer's start
abbrev pub OutputWritten : List ℕ → (k method : ℕ) → List ℕ → ℕ → (before after : List ℕ) → ℕ → Type 0
OutputWritten P k method listed inspections before after len = Written before 0 (output_text P k method listed inspections) after len
