-- The packed words of a search for several patterns: document 02, T-01, and T-07 for lost hours; document 000, section 2, algorithm 2, with d = 7.
use Rattle.std.specs.Prelude.{◌≡◌, cond, List, [], ◌∷◌, ◌++◌, ℕ, ◌+◌, ◌-◌, ◌*◌, ◌^◌, ◌≤◌, ◌<◌, length, get_or, take, drop, replicate}
use Rattle.jumbled.specs.Match.{Bytes, cc, lost}
use Rattle.table_parikh.specs.Table.{tabulate}
use Rattle.table_packed.specs.Pack.{pack}
use Rattle.several_form.specs.Mcount.{top_value, field_after}
use Rattle.several_fields.specs.declared.Fields.{Fields}

-- ---- words

-- Each field has d + 1 bits
abbrev pub field_bits : ℕ → ℕ
field_bits f = 8

-- The numbers v(0), v(1), … in the fields of so many patterns
abbrev pub packed : (ℕ → ℕ) → ℕ → ℕ
packed v count = pack field_bits v count

-- How many of a byte a pattern has room for: as many as it has, and as many lost hours as a window has bytes
abbrev pub room_for : List ℕ → ℕ → ℕ
room_for P c = cond (lost c) 64 (cc P c)

-- What a byte's word holds of a pattern once the bytes U are taken: one less than the top bit's value, and how many more of the byte there is room for
abbrev pub room_value : List ℕ → List ℕ → ℕ → ℕ
room_value P U c = top_value + room_for P c - cc U c - 1

-- The words once the bytes U are taken, for count patterns, P(f) in the field f: the window's, and one for each byte
pub record Words (P : ℕ → List ℕ) (count k : ℕ) (U : List ℕ) (word : ℕ) (rooms : List ℕ) : Type 0 where
  pub window-word : word ≡ packed (λ f. field_after (P f) k U) count
  pub byte-words : rooms ≡ tabulate 256 (λ c. packed (λ f. room_value (P f) U c) count)

-- What all words have in common, where a field starts so many below its top bit's value
pub record FieldsFor (count waiting : ℕ) (r : Fields) : Type 0 where
  pub ones-are : r.ones ≡ packed (λ f. 1) count
  pub tops_are : r.tops ≡ packed (λ f. top_value) count
  pub start_is : r.start ≡ packed (λ f. top_value - waiting) count

-- ---- the bytes' words before a byte of the text is taken

-- a pattern's unit can be added for each of its bytes,
pub record Placeable (pattern : List ℕ) (unit : ℕ) (rooms : List ℕ) : Type 0 where
  pub short : length pattern ≤ 64
  pub words : length rooms ≡ 256
  pub room : (c : ℕ) → c < 256 → get_or rooms c 0 + length pattern * unit < 2 ^ 64

-- and is
abbrev pub units_added : List ℕ → ℕ → List ℕ → List ℕ
units_added pattern unit rooms = tabulate 256 (λ c. get_or rooms c 0 + cc pattern c * unit)

-- The pattern in the field f, of patterns of m bytes that follow one another
abbrev pub pattern_at : ℕ → List ℕ → ℕ → List ℕ
pattern_at m patterns f = take m (drop (f * m) patterns)

-- Up to eight of them, and words that hold one less than the top bit's value in every field
pub record Placing (patterns : List ℕ) (m count : ℕ) (fields : Fields) (rooms : List ℕ) : Type 0 where
  pub waiting : ℕ
  pub fields-are : FieldsFor count waiting fields
  pub few : count ≤ 8
  pub short : m ≤ 64
  pub enough : count * m ≤ length patterns
  pub lent : rooms ≡ replicate 256 (packed (λ f. top_value - 1) count)

-- and then those of all patterns, no byte of a text taken
abbrev pub Placed : List ℕ → ℕ → ℕ → List ℕ → Type 0
Placed patterns m count rooms = rooms ≡ tabulate 256 (λ c. packed (λ f. room_value (pattern_at m patterns f) [] c) count)

-- ---- a byte enters, and leaves

-- Whose words they are: the patterns, one for each field, and k. With up to eight patterns of up to 64 bytes no field passes its width.
pub record Several (fields : Fields) : Type 0 where
  pub count : ℕ
  pub pattern : ℕ → List ℕ
  pub k : ℕ
  pub waiting : ℕ
  pub few : count ≤ 8
  pub short : (f : ℕ) → f < count → length (pattern f) ≤ 64
  pub tolerance : (f : ℕ) → f < count → k ≤ length (pattern f)
  pub fields-are : FieldsFor count waiting fields

abbrev pub WordsOf : {fields : Fields} → Several fields → List ℕ → ℕ → List ℕ → Type 0
WordsOf of U word rooms = Words of.pattern of.count of.k U word rooms

-- Up to 63 bytes are taken, and one more is
pub record Taking (fields : Fields) (word byte : ℕ) (rooms : List ℕ) : Type 0 where
  pub of : Several fields
  pub taken : List ℕ
  pub bytes : Bytes taken
  pub short : length taken < 64
  pub words : WordsOf of taken word rooms

abbrev pub Taken : Fields → (word byte : ℕ) → (before after : List ℕ) → ℕ → Type 0
Taken fields word byte before after r = (ready : Taking fields word byte before) → WordsOf ready.of (ready.taken ++ (byte ∷ [])) r after

-- Up to 64 bytes are taken, and the first of them is given back
pub record Giving (fields : Fields) (word byte : ℕ) (rooms : List ℕ) : Type 0 where
  pub of : Several fields
  pub staying : List ℕ
  pub bytes : Bytes staying
  pub short : length staying < 64
  pub words : WordsOf of (byte ∷ staying) word rooms

abbrev pub Given : Fields → (word byte : ℕ) → (before after : List ℕ) → ℕ → Type 0
Given fields word byte before after r = (ready : Giving fields word byte before) → WordsOf ready.of ready.staying r after
