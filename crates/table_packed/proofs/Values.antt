-- The word while a window is read: an inspection of a byte adds the byte's unit, and the tests of its top bits are those of the steps.
use mathlib.Core.Path.{◌≡◌, refl, sym, ap, ◌∙◌}
use mathlib.Core.Bool.{Bool, true, false, cond, not}
use mathlib.Core.List.{List, [], ◌∷◌, map}
use Prim.Native.Nat.{ℕ, ◌+◌, ◌^◌, ◌≤◌, ◌<◌}
use native.Mathlib.Nat.{add-zero, lt_of_lt_of_le}
use native.Mathlib.Omega.{arith}
use lib.Bits.{bit_and, and_zero_r}
use lib.Dec.{eqb}
use lib.Pow.{pow_mono}
use borrow.Author.Tests.{eq-eqb}
use Rattle.jumbled.specs.Match.{cc, lost, evidence}
use Rattle.jumbled.specs.Fields.{Layout, field_count, field_of, width_of, start_value, value_of, bits, overflows, own_top_set}
use Rattle.jumbled.proofs.Counts.{cc-nil, cc-cons, evidence-nil, evidence-lost, evidence-kept}
use Rattle.jumbled.proofs.Overflow.{field-numbered}
use Rattle.table_packed.specs.Pack.{pack, top_bit, only}
use Rattle.table_packed.proofs.Packs.{ValuesFit, pack-ext, pack-lt, pack-add, tops-test, own-top-test}
use Rattle.table_packed.specs.Word.{unit_of, top_of, added, tested}

-- The word after the bytes R were read
abbrev pub word_of : List ℕ → Layout → List ℕ → ℕ
word_of P L R = pack (width_of P L) (value_of P L R) field_count

module _ (P : List ℕ) (L : Layout) where
  pub word-nil : word_of P L [] ≡ pack (width_of P L) (start_value P L) field_count
  unfolding value_of
  word-nil =
      pack-ext (width_of P L) (value_of P L []) (start_value P L) field_count
      (λ f l. rw (evidence-nil, cc-nil f) (add-zero (start_value P L f)))

  -- a lost hour changes no field
  word-lost : (b : ℕ) (R : List ℕ) → lost b ≡ true → word_of P L R + 0 ≡ word_of P L (b ∷ R)
  unfolding value_of
  word-lost b R e =
      add-zero (word_of P L R)
      ∙ pack-ext (width_of P L) (value_of P L R) (value_of P L (b ∷ R)) field_count
      (λ f l. ap (λ (E : List ℕ). start_value P L f + cc (map (field_of P) E) f) (sym (evidence-lost b R e)))

  -- and any other byte its own
  word_kept : (b : ℕ) (R : List ℕ) → lost b ≡ false → word_of P L R + unit_of P L (field_of P b) ≡ word_of P L (b ∷ R)
  unfolding value_of only
  word_kept b R e =
      pack-add (width_of P L) (value_of P L R) (only (field_of P b) 1) field_count
      ∙ pack-ext (width_of P L) (λ f. value_of P L R f + only (field_of P b) 1 f) (value_of P L (b ∷ R)) field_count
      (λ f l.
      rw (evidence-kept b R e) (omega (arith, cc-cons (field_of P b) (map (field_of P) (evidence R)) f)))

  pub word-cons : (b : ℕ) (R : List ℕ) → word_of P L R + added P L b ≡ word_of P L (b ∷ R)
  word-cons b R = by (lost b) refl
    where
      by : (t : Bool) → lost b ≡ t → word_of P L R + cond t 0 (unit_of P L (field_of P b)) ≡ word_of P L (b ∷ R)
      by true e = word-lost b R e
      by false e = word_kept b R e

  module _ (R : List ℕ) (h : ValuesFit (width_of P L) (value_of P L R) field_count) where
    pub word_lt : bits P L ≤ 64 → word_of P L R < 2 ^ 64
    unfolding bits
    word_lt s = lt_of_lt_of_le (pack-lt (width_of P L) (value_of P L R) field_count h) (pow_mono s)

    -- methods 2 and 3
    pub word-overflows : eqb (bit_and (word_of P L R) (pack (width_of P L) (λ f. top_bit (width_of P L f)) field_count)) 0 ≡ not (overflows P L R)
    unfolding overflows
    word-overflows = tops-test (width_of P L) (value_of P L R) field_count h

    -- method 4: nothing is tested after a lost hour
    pub word-own-top : (b : ℕ) → b < 256 → eqb (bit_and (word_of P L R) (tested P L b)) 0 ≡ not (cond (lost b) false (own_top_set P L R b))
    unfolding own_top_set
    word-own-top b l = by (lost b)
      where
        by : (t : Bool) → eqb (bit_and (word_of P L R) (cond t 0 (top_of P L (field_of P b)))) 0 ≡ not (cond t false (own_top_set P L R b))
        by true = eq-eqb (bit_and (word_of P L R) 0) 0 (and_zero_r (word_of P L R))
        by false = own-top-test (width_of P L) (value_of P L R) (field_of P b) field_count (field-numbered P b l) h
