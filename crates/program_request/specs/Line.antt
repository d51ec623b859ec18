-- The program's first line: document 01, "The program", as definitions on the line's bytes.
use Rattle.std.specs.Prelude.{ℕ, Bool, true, false, cond, not, ◌&&◌, List, [], ◌∷◌, leb, eqb}
use Rattle.ascii.specs.Codes.{space, zero_digit}

-- ---- a list of bytes, cut at the first c

-- c occurs in U
unfoldable pub has : ℕ → List ℕ → Bool
has c [] = false
has c (b ∷ U) = cond (eqb b c) true (has c U)

-- What stands before the first c; all of U where there is none
unfoldable pub before_first : ℕ → List ℕ → List ℕ
before_first c [] = []
before_first c (b ∷ U) = cond (eqb b c) [] (b ∷ before_first c U)

-- What stands after the first c; nothing where there is none
unfoldable pub after_first : ℕ → List ℕ → List ℕ
after_first c [] = []
after_first c (b ∷ U) = cond (eqb b c) U (after_first c U)

-- ---- numbers written in base ten

-- b is one of the digits 0 to 9
unfoldable pub digit : ℕ → Bool
digit b = leb zero_digit b && leb b 57

-- The form of the method's field: a single digit
unfoldable pub method_form : List ℕ → Bool
method_form [] = false
method_form (a ∷ []) = digit a
method_form (a ∷ b ∷ more) = false

-- The form of k's field: a single digit, or two of which the first is no zero
unfoldable pub tolerance_form : List ℕ → Bool
tolerance_form [] = false
tolerance_form (a ∷ []) = digit a
tolerance_form (a ∷ b ∷ []) = digit a && not (eqb a zero_digit) && digit b
tolerance_form (a ∷ b ∷ c ∷ more) = false

-- ---- the fields: method, k and pattern, parted by spaces. All that follows is said of every line, which comes without its newline; where the line
-- is bad, its fields have no meaning, and no answer depends on them.

-- up to the first space
unfoldable pub method_field : List ℕ → List ℕ
method_field line = before_first space line

-- between the first space and the second
unfoldable pub tolerance_field : List ℕ → List ℕ
tolerance_field line = before_first space (after_first space line)

-- all that follows the second space, further spaces included; it may be empty, and is then refused with 1
unfoldable pub pattern_field : List ℕ → List ℕ
pattern_field line = after_first space (after_first space line)

-- The line has the form asked for. Any digit passes as a method here: 0 and 7 to 9 are refused with 3.
unfoldable pub good_line : List ℕ → Bool
good_line line =
    has space line
    && has space (after_first space line)
    && method_form (method_field line)
    && tolerance_form (tolerance_field line)
