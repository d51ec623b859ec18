-- Laws of the lines: the parts that are written one after the other, and how long the lines are.
use mathlib.Core.Path.{◌≡◌}
use mathlib.Core.List.{List, [], ◌∷◌, ◌++◌, append_assoc, flat_map}
use Prim.Native.Nat.{ℕ, suc, ◌+◌, ◌*◌, ◌≤◌, ◌<◌}
use native.Mathlib.Omega.{arith}
use lib.ListN.{length, get_or, take, length-append}
use lib.Seq.{length-take-le}
use Rattle.lent.specs.declared.writer.Writer.{Writer}
use Rattle.lent.specs.Appended.{Appended}
use Rattle.ascii.specs.Codes.{ascii}
use Rattle.ascii.specs.Decimal.{decimal}
use Rattle.program_lines.specs.Lines.{number_line, header, position_lines, counts_line, refusal_text, output_text}
use Rattle.ascii.proofs.Decimals.{length-decimal}

-- ---- the parts of a line, as they are written

pub header-parts : (P : List ℕ) (k method : ℕ)
    → header P k method ≡ ascii "mix " ++ (P ++ ((ascii " method " ++ decimal method) ++ (ascii " k " ++ number_line k)))
unfolding header
header-parts P k method = simp append_assoc

pub counts-parts : (found inspections : ℕ)
    → counts_line found inspections ≡ (ascii "found " ++ decimal found) ++ (ascii " looks " ++ number_line inspections)
unfolding counts_line
counts-parts found inspections = simp append_assoc

-- the header, the lines of the first `found` numbers of a list, and the counts
pub found-parts : (P : List ℕ) (k method : ℕ) (S : List ℕ) (found inspections : ℕ) → found ≤ length S
    → output_text P k method (take found S) inspections
    ≡ header P k method ++ (position_lines (take found S) ++ counts_line found inspections)
unfolding output_text
found-parts P k method S found inspections h = rw (length-take-le found S h) (simp append_assoc)

-- what was put is known by its value
pub put_known : {before after : Writer} {byte digit : ℕ} → Appended before (byte ∷ []) after → byte ≡ digit → Appended before (digit ∷ []) after
put_known put e = rw e at put

-- ---- how long the lines are

length-number_line : (n : ℕ) → length (number_line n) ≡ length (decimal n) + 1
unfolding number_line ascii
length-number_line n = length-append (decimal n) (10 ∷ [])

-- a pattern of at most 64 bytes, k of at most two digits, a method of one
header-most : (P : List ℕ) (k method : ℕ) → length P ≤ 64 → k < 100 → method < 10 → length (header P k method) ≤ 83
unfolding ascii
header-most P k method p q r =
    rw (header-parts P k method)
    (simp length-append (omega (arith, length-number_line k, length-decimal 1 k q, length-decimal 0 method r)))

-- positions below 100,000
positions-most : (S : List ℕ) → ((i : ℕ) → get_or S i 0 < 100000) → length (position_lines S) ≤ 6 * length S
unfolding flat_map
positions-most [] h = omega arith
positions-most (p ∷ S) h =
    omega (
      arith,
      length-append (number_line p) (position_lines S),
      length-number_line p,
      length-decimal 4 p (h 0),
      positions-most S (λ i. h (suc i)),
    )

counts-most : (found inspections : ℕ) → found < 100000 → inspections < 4294967296 → length (counts_line found inspections) ≤ 29
unfolding ascii
counts-most found inspections p q =
    rw (counts-parts found inspections)
    (simp length-append (omega (arith, length-number_line inspections, length-decimal 4 found p, length-decimal 9 inspections (omega arith))))

pub refusal-most : (number : ℕ) → number < 100 → length (refusal_text number) ≤ 11
unfolding refusal_text ascii
refusal-most number p = omega (arith, length-number_line number, length-decimal 1 number p)

pub output-most : (P : List ℕ) (k method : ℕ) (listed : List ℕ) (inspections : ℕ)
    → length P ≤ 64 → k < 100 → method < 10 → ((i : ℕ) → get_or listed i 0 < 100000) → length listed < 100000 → inspections < 4294967296
    → length (output_text P k method listed inspections) ≤ 112 + 6 * length listed
unfolding output_text
output-most P k method listed inspections p q r small few h =
    simp length-append
    (omega (arith, header-most P k method p q r, positions-most listed small, counts-most (length listed) inspections few h))
