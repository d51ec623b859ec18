-- The fields of methods 2, 3 and 4, each a number of its own: document 01, "The five methods", 2 to 4; the widths of 2 and 3 as document 02, T-03,
-- has them, and what a lost hour does as T-07 has it.
-- A letter c of P has the field c. All other letters share the field 256.
use Rattle.std.specs.Prelude.{ℕ, zero, suc, ◌+◌, ◌-◌, ◌/◌, ◌%◌, ◌^◌, max, Bool, false, cond, ◌||◌, List, [], ◌∷◌, map, leb, ltb, eqb}
use Rattle.jumbled.specs.Match.{bit, cc, sum, lost, evidence}

-- The first of e, e + 1, ... that passes the test, the test being tried `tries` times at most
unfoldable pub first : (ℕ → Bool) → ℕ → ℕ → ℕ
first test e zero = e
first test e (suc tries) = cond (test e) e (first test (suc e) tries)

-- lg(v): the smallest e with 2^e ≥ max(v, 1). Since 2^v ≥ max(v, 1), v tries are enough.
unfoldable pub lg : ℕ → ℕ
lg v = first (λ e. leb (max v 1) (2 ^ e)) 0 v

-- The width of the field of a letter that P has v times, in methods 2 and 3: the smallest g, of at least one bit, with 2^(g-1) > v (document 02,
-- T-03). Since 2^v > v, v tries are enough.
unfoldable pub letter_width : ℕ → ℕ
letter_width v = first (λ g. ltb v (2 ^ (g - 1))) 1 v

-- The number of the field that all letters outside P share
abbrev pub shared : ℕ
shared = 256

-- How many numbers stand for fields; that of a letter that P lacks stands for a field of 0 bits
abbrev pub field_count : ℕ
field_count = 257

-- The field that an inspection of c adds 1 to
unfoldable pub field_of : List ℕ → ℕ → ℕ
field_of P c = cond (eqb (cc P c) 0) shared c

-- The widths of a method's fields in bits: of a letter that P has v times, and of the shared field
pub record Layout : Type 0 where
  pub own : ℕ → ℕ
  pub common : ℕ

-- Method 2: letter_width(cc(P, c)) bits, and 1 shared
abbrev pub bam_layout : Layout
bam_layout = record { own = letter_width; common = 1 }

-- Method 3: as 2, and 2 shared
abbrev pub bam2_layout : Layout
bam2_layout = record { own = letter_width; common = 2 }

-- Method 4: lg(max(cc(P, c), k)) + 2 bits, and lg(k) + 2 shared
abbrev pub abam_layout : ℕ → Layout
abam_layout k = record { own = λ v. lg (max v k) + 2; common = lg k + 2 }

-- Methods 1, 5 and 6 have no fields, so 5 is never given for them
abbrev pub no_layout : Layout
no_layout = record { own = λ v. 0; common = 0 }

-- by the method's number
unfoldable pub layout_of : ℕ → ℕ → Layout
layout_of k method =
    cond (eqb method 2) bam_layout (cond (eqb method 3) bam2_layout (cond (eqb method 4) (abam_layout k) no_layout))

-- The width of each field: a letter that P lacks has none of its own
unfoldable pub width_of : List ℕ → Layout → ℕ → ℕ
width_of P layout f = cond (eqb f shared) layout.common (cond (eqb (cc P f) 0) 0 (layout.own (cc P f)))

-- The bits that all fields need together
unfoldable pub bits : List ℕ → Layout → ℕ
bits P layout = sum field_count (width_of P layout)

-- A field of g bits starts at 2^(g-1) - cc(P, c) - 1. cc(P, 256) is 0, as no byte is 256.
unfoldable pub start_value : List ℕ → Layout → ℕ → ℕ
start_value P layout f = 2 ^ (width_of P layout f - 1) - cc P f - 1

-- The field f after the bytes R were read: each inspection of a byte added 1 to the byte's field, that of a lost hour nothing
unfoldable pub value_of : List ℕ → Layout → List ℕ → ℕ → ℕ
value_of P layout R f = start_value P layout f + cc (map (field_of P) (evidence R)) f

-- The top bit of a field of g bits that holds v is set
unfoldable pub top_set : ℕ → ℕ → Bool
top_set g v = eqb (v / 2 ^ (g - 1) % 2) 1

-- Some number below n passes the test
unfoldable pub some : ℕ → (ℕ → Bool) → Bool
some zero test = false
some (suc n) test = test n || some n test

-- A field's top bit is set after the bytes R were read (methods 2 and 3)
unfoldable pub overflows : List ℕ → Layout → List ℕ → Bool
overflows P layout R = some field_count (λ f. top_set (width_of P layout f) (value_of P layout R f))

-- The own top bit of b is set after the bytes R were read
unfoldable pub own_top_set : List ℕ → Layout → List ℕ → ℕ → Bool
own_top_set P layout R b = top_set (width_of P layout (field_of P b)) (value_of P layout R (field_of P b))

-- The errors counted while the bytes R were read, from R's last byte to its first: one for each byte whose own top bit is set after the
-- inspection of it, and none for a lost hour, be that bit set or not (method 4)
unfoldable pub errors : List ℕ → Layout → List ℕ → ℕ
errors P layout [] = 0
errors P layout (b ∷ R) = cond (lost b) 0 (bit (own_top_set P layout (b ∷ R) b)) + errors P layout R
