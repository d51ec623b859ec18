-- What the writing of a marked sheet asks and yields: document 02, T-02.
use mathlib.Core.List.{List, [], ◌∷◌, flat_map}
use Rattle.std.specs.Prelude.{ℕ, ◌+◌, ◌^◌, ◌≤◌, ◌<◌, length, get_or, take}
use Rattle.lent.specs.declared.writer.Writer.{Writer}
use Rattle.lent.specs.Appended.{RoomFor}
use Rattle.lent.specs.Written.{Written}
use Rattle.sheet_form.specs.Sheet.{line, line_at, page_break, sheet}

-- The position and the window have room in their columns, and the line in the buffer
pub record LineFits (position : ℕ) (window : List ℕ) (writer : Writer) : Type 0 where
  pub column : position < 10 ^ 10
  pub short : length window ≤ 64
  pub room : RoomFor writer (line position window)

-- Positions of the text T, each with its whole window of m readings
pub record WindowsInside (m : ℕ) (T listed : List ℕ) : Type 0 where
  pub short : m ≤ 64
  pub numbered : length T < 10 ^ 10
  pub inside : (i : ℕ) → i < length listed → get_or listed i 0 + m ≤ length T

-- and room for their lines
pub record PageFits (m : ℕ) (T listed : List ℕ) (writer : Writer) : Type 0 where
  pub windows : WindowsInside m T listed
  pub room : RoomFor writer (flat_map (line_at m T) listed)

-- What is written before page i: nothing before page 0, a byte before every other
abbrev pub break_before : (i : ℕ) → List ℕ
break_before i = take i (page_break ∷ [])

-- Room for the sheet of such positions
pub record SheetFits (m : ℕ) (T listed buffer : List ℕ) : Type 0 where
  pub windows : WindowsInside m T listed
  pub few : length listed ≤ 65536
  pub room : length (sheet m T listed) ≤ length buffer

abbrev pub SheetWritten : (m : ℕ) → (T listed before after : List ℕ) → ℕ → Type 0
SheetWritten m T listed before after len = Written before 0 (sheet m T listed) after len
