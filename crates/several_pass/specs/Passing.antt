-- What the pass for several patterns asks and yields: document 02, T-01.
use Rattle.std.specs.Prelude.{◌≡◌, cond, not, List, [], ℕ, suc, ◌+◌, ◌-◌, ◌*◌, ◌^◌, ◌≤◌, ◌<◌, ltb, eqb, length, take}
use Rattle.std.specs.Int.Bits.{bit_and}
use Rattle.jumbled.specs.Match.{window_prefix, select}
use Rattle.table_parikh.specs.Table.{tabulate}
use Rattle.lent.specs.Placed.{placed}
use Rattle.lent.specs.declared.SearchCounts.{SearchCounts}
use Rattle.several_form.specs.Finds.{Find, numbered, Together, beside, finds, positions_in, numbers_in}
use Rattle.several_form.specs.Mcount.{top_value, mcount}
use Rattle.several_fields.specs.declared.Fields.{Fields}
use Rattle.several_fields.specs.Words.{packed, room_value, Words, FieldsFor, Several, WordsOf}
use Rattle.several_pass.specs.declared.Started.{Started}

-- ---- what is found, in two lent lists

-- The finds stand in both lists from the place `at` on, every other place of both is as it was, and `next` is the place after them
pub record Noted (found : List Find) (at : ℕ) (positions positions' numbers numbers' : List ℕ) (next : ℕ) : Type 0 where
  pub positions-filled : positions' ≡ placed positions at (positions_in found)
  pub numbers-filled : numbers' ≡ placed numbers at (numbers_in found)
  pub next_place : next ≡ at + length found

-- ---- one window

-- The numbers of the fields in a word that have their top bit set
unfoldable pub tops_set : ℕ → ℕ → List ℕ
tops_set word count = select (λ number. not (eqb (bit_and word (top_value * 2 ^ (8 * (number - 1)))) 0)) 1 count

-- There is a place for every pattern
pub record Notable (count s : ℕ) (positions numbers : List ℕ) (at : ℕ) : Type 0 where
  pub few : count ≤ 8
  pub numbered-window : s < 2 ^ 32
  pub positions-room : at + count ≤ length positions
  pub numbers-room : at + count ≤ length numbers

abbrev pub Notes : (word count s at : ℕ) → (positions positions' numbers numbers' : List ℕ) → ℕ → Type 0
Notes word count s at positions positions' numbers numbers' r = Noted (beside s (tops_set word count)) at positions positions' numbers numbers' r

-- ---- the first window but its last byte

pub record Startable (m : ℕ) (fields : Fields) (T rooms : List ℕ) : Type 0 where
  pub of : Several fields
  pub some : 1 ≤ m
  pub short : m ≤ 64
  pub enough : m ≤ length T
  pub words : WordsOf of [] fields.start rooms

pub record StartedAt (m : ℕ) {fields : Fields} (of : Several fields) (T rooms : List ℕ) (r : Started) : Type 0 where
  pub words : WordsOf of (take (m - 1) T) r.word rooms
  pub inspected : r.inspections ≡ m - 1

abbrev pub Starts : ℕ → Fields → (T before after : List ℕ) → Started → Type 0
Starts m fields T before after r = (ready : Startable m fields T before) → StartedAt m ready.of T after r

-- ---- all windows

-- The patterns and k that a text is searched for, and a place in both lists for every pattern at every byte
pub record SearchedFor (m count : ℕ) (fields : Fields) (T positions numbers : List ℕ) : Type 0 where
  pub patterns : List (List ℕ)
  pub k : ℕ
  pub together : Together patterns m
  pub counted : length patterns ≡ count
  pub few : count ≤ 8
  pub tolerance : k ≤ m
  pub fields-are : FieldsFor count (m - k) fields
  pub numbered-text : length T ≤ 2 ^ 32
  pub positions-room : length T * count ≤ length positions
  pub numbers-room : length T * count ≤ length numbers

-- with their words before a byte is taken
pub record Passable (m count : ℕ) (fields : Fields) (rooms T positions numbers : List ℕ) : Type 0 where
  pub of : SearchedFor m count fields T positions numbers
  pub words : Words (λ f. numbered of.patterns (suc f)) count of.k [] fields.start rooms

pub record PassedOver (Ps : List (List ℕ)) (k : ℕ) (T positions positions' numbers numbers' : List ℕ) (r : SearchCounts) : Type 0 where
  pub noted : Noted (finds Ps k T) 0 positions positions' numbers numbers' r.found
  pub inspected : r.inspections ≡ (mcount Ps k T).inspections

-- The bytes that are still taken after the pass: those of the last window but its first, and none where the text has no window
unfoldable pub still_taken : ℕ → List ℕ → List ℕ
still_taken m T = cond (ltb (length T) m) [] (window_prefix m T (length T - m + 1))

-- The bytes' words that the pass leaves
abbrev pub RoomsLeft : (Ps : List (List ℕ)) (m count : ℕ) (T rooms : List ℕ) → Type 0
RoomsLeft Ps m count T rooms = rooms ≡ tabulate 256 (λ c. packed (λ f. room_value (numbered Ps (suc f)) (still_taken m T) c) count)

abbrev pub Passes : (m count : ℕ) → Fields → (rooms rooms' T positions positions' numbers numbers' : List ℕ) → SearchCounts → Type 0
Passes m count fields rooms rooms' T positions positions' numbers numbers' r =
    (ready : Passable m count fields rooms T positions numbers)
    → PassedOver ready.of.patterns ready.of.k T positions positions' numbers numbers' r × RoomsLeft ready.of.patterns m count T rooms'
