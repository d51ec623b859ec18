-- How much of its input the program reads: document 01, "The program".
use Rattle.std.specs.Prelude.{◌≡◌, List, ℕ, ◌≤◌, length, take}
use Rattle.lent.specs.Written.{Written}
use Rattle.program_report.specs.Output.{output}

-- One byte more than the longest input, so that a longer one is told from it
abbrev pub input_room : ℕ
input_room = 16385

-- An array to read into has so many places; `read` of them were filled
pub record ReadInto (bytes : List ℕ) (read : ℕ) : Type 0 where
  pub room : length bytes ≡ input_room
  pub within : read ≤ length bytes

-- These are the first bytes of the input, as many as the array has places, or all of them
abbrev pub FirstBytes : (input bytes : List ℕ) (read : ℕ) → Type 0
FirstBytes input bytes read = take read bytes ≡ take (length bytes) input

-- What is put into the buffer is the output for the whole input, whatever follows the bytes that were read
abbrev pub ReportsRead : (bytes : List ℕ) (read : ℕ) (before after : List ℕ) (len : ℕ) → Type 0
ReportsRead bytes read before after len = (input : List ℕ) → FirstBytes input bytes read → Written before 0 (output input) after len
