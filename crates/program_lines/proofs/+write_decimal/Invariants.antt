-- `write_decimal` calls itself at n / 10. The measure is n.
use Rattle.program_lines.proofs.+write_decimal.Given as goal

abbrev pub decreases-write_decimal : goal.decreases-write_decimal
decreases-write_decimal l = l.n
