-- Words with a field of eight bits for each pattern, over any number of patterns: no field carries into its neighbour.
use mathlib.Core.Path.{◌≡◌, refl, sym, ap, ap₂, ◌∙◌}
use mathlib.Core.Bool.{Bool, true, false, not, false≢true}
use Prim.Native.Nat.{ℕ, zero, suc, ◌+◌, ◌-◌, ◌*◌, ◌/◌, ◌%◌, ◌^◌, ◌≤◌, ◌<◌}
use native.Mathlib.Nat.{add-mul, mul_right_comm, zero-mul, one-mul, mul-div_cancel}
use native.Mathlib.Numerals.{add-one}
use native.Mathlib.Omega.{arith}
use lib.Dec.{leb, eqb, lit<}
use lib.Pow.{pow_mono, shl_exact}
use lib.Bits.{bit_and}
use borrow.Author.Tests.{eq-eqb, leb-true, leb-false}
use Rattle.jumbled.specs.Match.{bit, sum}
use Rattle.jumbled.specs.Fields.{top_set, some}
use Rattle.jumbled.proofs.Sums.{some_at}
use Rattle.table_packed.specs.Pack.{pack, top_bit}
use Rattle.table_packed.proofs.Packs.{pack-suc, pack-ext, pack-lt, pack-field, pack-add, pack-and, pack-only, and-top, tops-test, own-top-test}
use Rattle.several_form.specs.Mcount.{top_value}
use Rattle.several_fields.specs.Words.{field_bits, packed}

-- the first bit of a field
pub field_at : (n : ℕ) → sum n field_bits ≡ 8 * n
unfolding sum
field_at zero = refl
field_at (suc n) = omega (arith, field_at n)

-- one field more
pub packed_more : (v : ℕ → ℕ) (n : ℕ) → packed v (n + 1) ≡ packed v n + v n * 2 ^ (8 * n)
packed_more v n = ap (packed v) (add-one n) ∙ pack-suc field_bits v n ∙ ap (λ (at : ℕ). packed v n + v n * 2 ^ at) (field_at n)

-- a 1 in one of up to eight fields
pub unit-at : (n : ℕ) → n < 8 → (1 * 2 ^ (8 * n)) % 2 ^ 64 ≡ 2 ^ (8 * n)
unit-at n l = shl_exact {a = 1} 1 (8 * n) 64 (lit< tt) (omega arith) ∙ one-mul (2 ^ (8 * n))

-- a word of up to eight fields is a number of 64 bits
pub packed-fits : (v : ℕ → ℕ) (count : ℕ) → count ≤ 8 → ((f : ℕ) → f < count → v f < 256) → packed v count < 2 ^ 64
packed-fits v count few small =
    let few_bits : sum count field_bits ≤ 64 = omega (arith, field_at count) in
    omega (arith, pack-lt field_bits v count small, pow_mono few_bits)

-- No field carries into its neighbour: of any number of fields each holds its own number and nothing of the others'
pub fields-apart : (v : ℕ → ℕ) (count : ℕ) → ((f : ℕ) → f < count → v f < 256) → (f : ℕ) → f < count → packed v count / 2 ^ (8 * f) % 2 ^ 8 ≡ v f
fields-apart v count small f l =
    ap (λ (at : ℕ). packed v count / 2 ^ at % 2 ^ 8) (sym (field_at f)) ∙ pack-field field_bits v count small f l

-- differences go field by field
module _ (u v : ℕ → ℕ) (count : ℕ) (less : (f : ℕ) → f < count → v f ≤ u f) where
  back : packed (λ f. u f - v f) count + packed v count ≡ packed u count
  back =
      pack-add field_bits (λ f. u f - v f) v count
      ∙ pack-ext field_bits (λ f. u f - v f + v f) u count (λ f l. omega (arith, less f l))

  pub packed-sub : packed u count - packed v count ≡ packed (λ f. u f - v f) count
  packed-sub = omega (arith, back)

  pub packed-below : packed v count ≤ packed u count
  packed-below = omega (arith, back)

-- and so do products with one number
pub packed-scale : (v : ℕ → ℕ) (x count : ℕ) → packed v count * x ≡ packed (λ f. v f * x) count
unfolding pack
packed-scale v x zero = zero-mul x
packed-scale v x (suc n) =
    add-mul (packed v n) (v n * 2 ^ sum n field_bits) x ∙ ap₂ ◌+◌ (packed-scale v x n) (mul_right_comm (v n) (2 ^ sum n field_bits) x)

-- of a number of eight bits the top bit, moved down
top-down : (v : ℕ) → v < 256 → v / 2 ^ 7 % 2 ≡ bit (leb top_value v)
top-down v l = case (leb top_value v) refl
  where
    case : (t : Bool) → leb top_value v ≡ t → v / 2 ^ 7 % 2 ≡ bit t
    case true e = omega (arith, leb-true top_value v e)
    case false e = omega (arith, leb-false top_value v e)

-- ---- which fields have their top bit set

top_set-leb : (v : ℕ) → v < 256 → top_set 8 v ≡ leb top_value v
unfolding top_set
top_set-leb v l = ap (λ (x : ℕ). eqb x 1) (top-down v l) ∙ case (leb top_value v)
  where
    case : (t : Bool) → eqb (bit t) 1 ≡ t
    case true = refl
    case false = refl

module _ (v : ℕ → ℕ) (count : ℕ) (small : (f : ℕ) → f < count → v f < 256) where
  -- one of them, under the mask of its top bit
  pub top-test : (f : ℕ) → f < count → eqb (bit_and (packed v count) (top_value * 2 ^ (8 * f))) 0 ≡ not (leb top_value (v f))
  unfolding top_bit
  top-test f l =
      ap (λ (x : ℕ). eqb (bit_and (packed v count) x) 0)
      (ap (λ (at : ℕ). top_value * 2 ^ at) (sym (field_at f)) ∙ sym (pack-only field_bits f top_value count l))
      ∙ own-top-test field_bits v f count l small
      ∙ ap not (top_set-leb (v f) (small f l))

  -- none of them, where the word under the mask of all top bits is 0
  pub tops-none : bit_and (packed v count) (packed (λ f. top_value) count) ≡ 0 → (f : ℕ) → f < count → leb top_value (v f) ≡ false
  unfolding top_bit
  tops-none none f l = sym (top_set-leb (v f) (small f l)) ∙ case (top_set 8 (v f)) refl
    where
      not_some : not (some count (λ f. top_set 8 (v f))) ≡ true
      not_some = sym (tops-test field_bits v count small) ∙ eq-eqb (bit_and (packed v count) (packed (λ f. top_value) count)) 0 none

      case : (t : Bool) → top_set 8 (v f) ≡ t → t ≡ false
      case true e = absurd (false≢true (sym (ap not (some_at count (λ f. top_set 8 (v f)) f l e)) ∙ not_some))
      case false e = refl

-- Of a word the fields' top bits, each moved down to its field's first bit
pub tops-down : (v : ℕ → ℕ) (count : ℕ) → ((f : ℕ) → f < count → v f < 256)
    → bit_and (packed v count) (packed (λ f. top_value) count) / 2 ^ 7 ≡ packed (λ f. bit (leb top_value (v f))) count
tops-down v count small =
    ap (λ (x : ℕ). x / 2 ^ 7)
    (pack-and field_bits v (λ f. top_value) count small (λ f l. lit< tt)
    ∙ pack-ext field_bits (λ f. bit_and (v f) top_value) (λ f. bit (leb top_value (v f)) * 2 ^ 7) count
    (λ f l. and-top (v f) 7 ∙ ap (λ (x : ℕ). x * 2 ^ 7) (top-down (v f) (small f l)))
    ∙ sym (packed-scale (λ f. bit (leb top_value (v f))) (2 ^ 7) count))
    ∙ mul-div_cancel (packed (λ f. bit (leb top_value (v f))) count) (lit< tt)
