-- The packed word of a pattern: document 01, "The five methods", 2 to 4; document 02, T-07, for lost hours.
use Rattle.std.specs.Prelude.{◌≡◌, cond, List, ℕ, ◌*◌, ◌-◌, ◌^◌, ◌≤◌, length, replicate}
use Rattle.jumbled.specs.Match.{sum, lost}
use Rattle.jumbled.specs.Fields.{Layout, layout_of, bits, shared, field_count, field_of, width_of, start_value}
use Rattle.table_parikh.specs.Table.{tabulate}
use Rattle.methods.specs.Numbers.{method_number}
use Rattle.table_widths.specs.Layouts.{layout}
use Rattle.table_widths.specs.declared.PatternFields.{PatternFields}
use Rattle.table_packed.specs.Pack.{pack, top_bit, only}
use Rattle.table_packed.specs.declared.Field.{Field}
use Rattle.table_packed.specs.declared.Word.{Word}

-- ---- one field

-- A field of a byte that the pattern has count times: its start value, a 1 and its top bit, at its place in the word
pub record FieldPlaced (count width at : ℕ) (r : Field) : Type 0 where
  pub start : r.start ≡ (2 ^ (width - 1) - count - 1) * 2 ^ at
  pub unit : r.unit ≡ 2 ^ at
  pub top : r.top ≡ top_bit width * 2 ^ at

-- Of the field f: a 1 in it, and its top bit, each in the word
abbrev pub unit_of : List ℕ → Layout → ℕ → ℕ
unit_of P layout f = pack (width_of P layout) (only f 1) field_count

abbrev pub top_of : List ℕ → Layout → ℕ → ℕ
top_of P layout f = pack (width_of P layout) (only f (top_bit (width_of P layout f))) field_count

-- What an inspection of the byte c adds to the word, and the top bit of c's field, which method 4 tests after it: neither has anything for a lost
-- hour
abbrev pub added : List ℕ → Layout → ℕ → ℕ
added P layout c = cond (lost c) 0 (unit_of P layout (field_of P c))

abbrev pub tested : List ℕ → Layout → ℕ → ℕ
tested P layout c = cond (lost c) 0 (top_of P layout (field_of P c))

-- The field f of the pattern P
pub record FieldIs (P : List ℕ) (layout : Layout) (f : ℕ) (r : Field) : Type 0 where
  pub start : r.start ≡ start_value P layout f * 2 ^ sum f (width_of P layout)
  pub unit : r.unit ≡ unit_of P layout f
  pub top : r.top ≡ top_of P layout f

-- ---- all fields

-- What a search by packed fields goes by: the word before the first inspection, the top bits of all fields, and what an inspection of each
-- byte adds
pub record Packed (P : List ℕ) (layout : Layout) (r : Word) (units : List ℕ) : Type 0 where
  pub start : r.start ≡ pack (width_of P layout) (start_value P layout) field_count
  pub tops : r.tops ≡ pack (width_of P layout) (λ f. top_bit (width_of P layout f)) field_count
  pub units-are : units ≡ tabulate 256 (added P layout)

-- and in method 4 the top bit that is tested after it
abbrev pub OwnTops : List ℕ → Layout → List ℕ → Type 0
OwnTops P layout tops = tops ≡ tabulate 256 (tested P layout)

-- ---- what they are made from

-- The arguments that the tables are made for: methods 2, 3 and 4, and fields that need 64 bits at most (document 01, "When a call says no", 5)
pub record Packable (P : List ℕ) (k method : ℕ) : Type 0 where
  pub short : length P ≤ 64
  pub tolerance : k ≤ 64
  pub from : 2 ≤ method
  pub to : method ≤ 4
  pub fits : bits P (layout_of k method) ≤ 64

-- The fields of a pattern for which tables can be made
abbrev pub Placeable : PatternFields → Type 0
Placeable fields = Packable fields.pattern.now fields.k (method_number fields.method)

-- and, of those, the field that all other bytes share, and the table of top bits before any byte has its own
abbrev pub SharedField : PatternFields → Field → Type 0
SharedField fields r = FieldIs fields.pattern.now (layout fields) shared r

abbrev pub SharedTops : PatternFields → List ℕ → Type 0
SharedTops fields tops = tops ≡ replicate 256 (top_of fields.pattern.now (layout fields) shared)
