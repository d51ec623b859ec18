-- What a case hands over in the text of its pattern: "u32 places of the list of pattern numbers, u8 count, that many u64 lengths, and then the bytes
-- of the patterns", or "u32 bytes of the sheet's buffer, and then the pattern", or "u64 start, and then the pattern" (tools/vectors_stream.py). A
-- number that can't be read is 0.
use Rattle.std.specs.Prelude.{List, ℕ, ◌+◌, ◌*◌, drop}
use Rattle.table_parikh.specs.Table.{tabulate}
use Rattle.tests_stream.specs.Reading.{number_at}

-- The places of either of the first two
abbrev pub lent_places : List ℕ → ℕ
lent_places handed = (number_at handed 0 4 65537).value

abbrev pub length_count : List ℕ → ℕ
length_count handed = (number_at handed 4 1 16).value

-- Length i, from 0
abbrev pub length_at : List ℕ → ℕ → ℕ
length_at handed i = (number_at handed (5 + 8 * i) 8 18446744073709551615).value

-- All the lengths, and the bytes after them
abbrev pub pattern_lengths : List ℕ → List ℕ
pattern_lengths handed = tabulate (length_count handed) (length_at handed)

abbrev pub pattern_bytes : List ℕ → List ℕ
pattern_bytes handed = drop (5 + 8 * length_count handed) handed

-- The pattern of a search with its marked sheet
abbrev pub marked_pattern : List ℕ → List ℕ
marked_pattern handed = drop 4 handed

-- The position from which on the first match is sought, and the pattern
abbrev pub start_position : List ℕ → ℕ
start_position handed = (number_at handed 0 8 18446744073709551615).value

abbrev pub pattern_after_start : List ℕ → List ℕ
pattern_after_start handed = drop 8 handed
