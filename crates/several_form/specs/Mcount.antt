-- The steps of the search for several patterns: Mcount (document 000, section 2, algorithm 2; document 02, T-01). Each pattern has a field, which
-- is a number of its own here; how the code packs the fields into words is no part of the steps.
use Rattle.std.specs.Prelude.{ℕ, zero, suc, ◌+◌, ◌-◌, ◌^◌, not, List, [], ◌∷◌, ◌++◌, leb, length, get_or, take}
use Rattle.jumbled.specs.Match.{bit, used_up, excess, window_prefix, starts, select}
use Rattle.several_form.specs.Finds.{Find, numbered, common_length, beside}

-- ---- a field

-- A field has d bits and a top bit above them. With d = 7 it holds every value that windows of 64 bytes can give it. The top bit's value, 2^d:
abbrev pub top_value : ℕ
top_value = 2 ^ 7

-- Before a byte is taken: m - k below the top bit's value
unfoldable pub start_field : List ℕ → ℕ → ℕ
start_field P k = top_value - (length P - k)

-- 1 where P has more of the byte c than the bytes U, so that a c beside them is an acceptable one, else 0
unfoldable pub acceptable : List ℕ → List ℕ → ℕ → ℕ
acceptable P U c = bit (not (used_up P U c))

-- The field once the bytes U are taken, in whatever order: m - k below the top bit's value, and one more for each byte of U that is not in excess.
-- The steps do not compute it; that they come to it, byte by byte, is proved (`field-start`, `field-entered`, `field-given-back`).
abbrev pub field_after : List ℕ → ℕ → List ℕ → ℕ
field_after P k U = top_value + k + length U - length P - excess P U

-- ---- the fields of all patterns, by their numbers

-- The byte c is taken beside the bytes U,
abbrev pub entered : List (List ℕ) → List ℕ → ℕ → (ℕ → ℕ) → ℕ → ℕ
entered Ps U c fields number = fields number + acceptable (numbered Ps number) U c

-- and is given back where the bytes U stay
abbrev pub given_back : List (List ℕ) → List ℕ → ℕ → (ℕ → ℕ) → ℕ → ℕ
given_back Ps U c fields number = fields number - acceptable (numbered Ps number) U c

-- Bytes are taken one after the other, the first of them beside U
unfoldable pub all_entered : List (List ℕ) → List ℕ → List ℕ → (ℕ → ℕ) → ℕ → ℕ
all_entered Ps U [] fields = fields
all_entered Ps U (c ∷ more) fields = all_entered Ps (U ++ (c ∷ [])) more (entered Ps U c fields)

-- The numbers of the patterns whose field has reached its top bit: m - k acceptable bytes are in the window
unfoldable pub reached : ℕ → (ℕ → ℕ) → List ℕ
reached count fields = select (λ number. leb top_value (fields number)) 1 count

-- ---- the pass

-- What the steps yield
pub record Passed : Type 0 where
  pub finds : List Find
  pub inspections : ℕ

-- From the window start s on, where `left` are left: the fields are those of the window at s but its last byte, and it takes `cost` inspections to
-- have that window. Its last byte enters, what is reached is found, and its first byte is given back.
unfoldable pub pass : List (List ℕ) → ℕ → List ℕ → (s left : ℕ) → (ℕ → ℕ) → ℕ → Passed
pass Ps m T s zero fields cost = record { finds = []; inspections = 0 }
pass Ps m T s (suc left) fields cost =
    let full = entered Ps (window_prefix m T s) (get_or T (s + m - 1) 0) fields in
    let rest : Passed = pass Ps m T (suc s) left (given_back Ps (window_prefix m T (suc s)) (get_or T s 0) full) 1 in
    record { finds = beside s (reached (length Ps) full) ++ rest.finds; inspections = cost + rest.inspections }

-- The first window's bytes but its last are taken, then the pass: m inspections for the first window, one for each further one
unfoldable pub mcount : List (List ℕ) → ℕ → List ℕ → Passed
mcount Ps k T =
    let m = common_length Ps in
    pass Ps m T 0 (starts m T) (all_entered Ps [] (take (m - 1) T) (λ number. start_field (numbered Ps number) k)) m
