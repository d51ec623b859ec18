-- The words that the pass begins with are those of the patterns as they are handed in.
use mathlib.Core.Path.{◌≡◌, sym, ap, ap₂, ◌∙◌}
use mathlib.Core.List.{List, []}
use Prim.Native.Nat.{ℕ, suc, ◌-◌, ◌≤◌, ◌<◌}
use native.Mathlib.Omega.{arith}
use lib.ListN.{length, get_or}
use Rattle.table_parikh.proofs.Tables.{tabulate-ext}
use Rattle.table_packed.proofs.Packs.{pack-ext}
use Rattle.admit_several.proofs.Taken.{SeveralTaken, PairTaken}
use Rattle.several_form.specs.Finds.{numbered}
use Rattle.several_form.specs.Mcount.{top_value, start_field, field_after}
use Rattle.several_form.specs.Handed.{patterns_of}
use Rattle.several_form.proofs.Fields.{field-start}
use Rattle.several_form.proofs.Handed.{pattern-at, as-many-patterns}
use Rattle.several_fields.specs.declared.Fields.{Fields}
use Rattle.several_fields.specs.Words.{field_bits, packed, room_value, FieldsFor, pattern_at, Placed}
use Rattle.several_fields.proofs.Packing.{packed-sub, packed-below}
use Rattle.several_pass.specs.Passing.{Passable}
use Rattle.several.proofs.Answers.{taken-together}

-- ---- the words with no pattern placed

module _ {count waiting : ℕ} {fields : Fields} (are : FieldsFor count waiting fields) where
  pub ones_below : fields.ones ≤ fields.tops
  ones_below = rw (are.ones-are, are.tops_are) (packed-below (λ f. top_value) (λ f. 1) count (λ f l. omega arith))

  pub unplaced : fields.tops - fields.ones ≡ packed (λ f. top_value - 1) count
  unplaced = ap₂ ◌-◌ are.tops_are are.ones-are ∙ packed-sub (λ f. top_value) (λ f. 1) count (λ f l. omega arith)

-- ---- with all patterns placed

module _ (bytes lengths : List ℕ) (k : ℕ) (T positions numbers : List ℕ) (taken : SeveralTaken lengths bytes k)
    (sized : PairTaken (length T) (length lengths) (length positions) (length numbers)) where
  abbrev m : ℕ
  m = get_or lengths 0 0

  abbrev pattern : ℕ → List ℕ
  pattern f = numbered (patterns_of lengths bytes) (suc f)

  pub is-pattern : (f : ℕ) → f < length lengths → pattern f ≡ pattern_at m bytes f
  is-pattern f l =
      let same : suc f - 1 ≡ f = omega arith in
      ap (λ (i : ℕ). get_or (patterns_of lengths bytes) i []) same ∙ pattern-at m lengths bytes taken.set.alike f l

  one-length : (f : ℕ) → f < length lengths → length (pattern f) ≡ m
  one-length f l =
      (taken-together bytes lengths k taken).one-length (suc f) (omega arith) (omega (arith, as-many-patterns lengths bytes))

  pub start-value : (f : ℕ) → f < length lengths → top_value - (m - k) ≡ field_after (pattern f) k []
  unfolding start_field
  start-value f l =
      ap (λ (n : ℕ). top_value - (n - k)) (sym (one-length f l))
      ∙ sym (field-start (pattern f) k (omega (arith, one-length f l, taken.set.short)) (omega (arith, one-length f l, taken.within)))

  abbrev pub passable : {fields : Fields} {rooms : List ℕ} → FieldsFor (length lengths) (m - k) fields → Placed bytes m (length lengths) rooms
      → Passable m (length lengths) fields rooms T positions numbers
  passable are placed =
      record {
        of =
            record {
              patterns = patterns_of lengths bytes;
              k = k;
              together = taken-together bytes lengths k taken;
              counted = as-many-patterns lengths bytes;
              few = taken.set.few;
              tolerance = omega (arith, taken.within);
              fields-are = are;
              numbered-text = omega (arith, sized.not-long);
              positions-room = sized.positions-room;
              numbers-room = sized.numbers-room;
            };
        words =
            record {
              window-word = are.start_is ∙ pack-ext field_bits (λ f. top_value - (m - k)) (λ f. field_after (pattern f) k []) (length lengths) start-value;
              byte-words =
                  placed
                  ∙ tabulate-ext 256 _ (λ c. packed (λ f. room_value (pattern f) [] c) (length lengths))
                  (λ c h.
                  pack-ext field_bits _ (λ f. room_value (pattern f) [] c) (length lengths)
                  (λ f l. ap (λ (P : List ℕ). room_value P [] c) (sym (is-pattern f l))));
            };
      }
