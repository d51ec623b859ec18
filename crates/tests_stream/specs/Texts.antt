-- Texts: the letters in the stream that spell them, and their three forms (tools/vectors_stream.py).
use Rattle.std.specs.Prelude.{◌≡◌, Bool, false, cond, List, ℕ, ◌*◌, ◌-◌, eqb, ltb}
use Rattle.tests_stream.specs.Fillings.{Filled, letter_at, made_length}
use Rattle.tests_stream.specs.Reading.{nowhere, bytes_at, next_at, number_at}
use Rattle.tests_stream.specs.declared.Text.{Text}

-- How a text is spelled: `len` bytes, made of `count` letters that stand at a place, which are picked by the numbers drawn from a seed or repeated
pub record Spelling : Type 0 where
  pub at : ℕ
  pub count : ℕ
  pub picked : Bool
  pub seed : ℕ
  pub len : ℕ

abbrev pub spelling : ℕ → ℕ → Bool → ℕ → ℕ → Spelling
spelling at count picked seed len = record { at = at; count = count; picked = picked; seed = seed; len = len }

-- Its letters
abbrev pub letters : List ℕ → Spelling → List ℕ
letters stream s = bytes_at stream s.at s.count

-- Byte i of the text
unfoldable pub text_byte : List ℕ → Spelling → ℕ → ℕ
text_byte stream s i = letter_at (letters stream s) s.picked s.seed i

-- The first `len` bytes of a buffer are the text's, and the others as they were
abbrev pub HoldsText : List ℕ → Spelling → ℕ → (before after : List ℕ) → Type 0
HoldsText stream s len before after = Filled (text_byte stream s) len before after

-- A text's length, and the place after it
abbrev pub text_with : ℕ → ℕ → Text
text_with len next = record { len = len; next = next }

-- Those of the text; one that is to have bytes and has no letters can't be read
unfoldable pub text_of : List ℕ → Spelling → Text
text_of stream s =
    let made = made_length (letters stream s) s.len in
    text_with made (cond (ltb made s.len) nowhere (next_at stream s.at s.count))

-- The text that is spelled so was put into the first bytes of a buffer
pub record Spelled (stream : List ℕ) (s : Spelling) (text : Text) (before after : List ℕ) : Type 0 where
  pub is : text ≡ text_of stream s
  pub bytes : HoldsText stream s text.len before after

-- The three forms of a text, after the byte that says which. The form 0: "u16 length, the bytes"
unfoldable pub plain_spelling : List ℕ → ℕ → ℕ → Spelling
plain_spelling stream at longest =
    let len = number_at stream at 2 longest in
    spelling len.next len.value false 0 len.value

-- The forms 1 and 2: "u32 length", in the form 2 "u32 seed", and "u8 count" before the letters
unfoldable pub made_spelling : List ℕ → ℕ → ℕ → ℕ → Spelling
made_spelling stream at form longest =
    let len = number_at stream at 4 longest in
    let seed = number_at stream len.next ((form - 1) * 4) 4294967295 in
    let count = number_at stream seed.next 1 255 in
    spelling count.next count.value (eqb form 2) seed.value len.value

-- A text of at most `longest` bytes, in any form
unfoldable pub spelling_at : List ℕ → ℕ → ℕ → Spelling
spelling_at stream at longest =
    let form = number_at stream at 1 2 in
    cond (ltb 0 form.value) (made_spelling stream form.next form.value longest) (plain_spelling stream form.next longest)

-- Its length and the place after it; where `longest` is 0 there is no text to read
unfoldable pub text_at : List ℕ → ℕ → ℕ → Text
text_at stream at longest = cond (eqb longest 0) (text_with 0 at) (text_of stream (spelling_at stream at longest))

-- That text was put into the first bytes of a buffer
pub record TextRead (stream : List ℕ) (at longest : ℕ) (text : Text) (before after : List ℕ) : Type 0 where
  pub is : text ≡ text_at stream at longest
  pub bytes : HoldsText stream (spelling_at stream at longest) text.len before after
