-- The words while bytes enter the window and leave it. What a byte's word says of each pattern is whether one more of the byte is acceptable.
use mathlib.Core.Path.{◌≡◌, refl, sym, ap, ap₂, ◌∙◌}
use mathlib.Core.Bool.{Bool, true, false, cond, not}
use mathlib.Core.List.{List, [], ◌∷◌, ◌++◌}
use mathlib.Core.Logic.{⊎_elim}
use Prim.Native.Nat.{ℕ, ◌+◌, ◌-◌, ◌*◌, ◌/◌, ◌%◌, ◌^◌, ◌≤◌, ◌<◌}
use native.Mathlib.Omega.{arith}
use lib.Bits.{bit_and}
use lib.Dec.{leb, eqb}
use lib.ListN.{length, get_or, set, length-append}
use borrow.Author.Tests.{eq-eqb, eqb-true, le-leb, lt-leb}
use Rattle.jumbled.specs.Match.{bit, cc, lost, used_up}
use Rattle.jumbled.proofs.Counts.{cc-cons, cc-turned, cc-length, used-up, not-used-up, used-up-lost, excess-length, bytes-cons}
use Rattle.jumbled.proofs.Sums.{below_or_not}
use Rattle.table_parikh.specs.Table.{tabulate}
use Rattle.table_parikh.proofs.Tables.{get_d_tabulate, tabulated, tabulate-set, tabulate-ext}
use Rattle.table_packed.proofs.Packs.{pack-add, pack-ext}
use Rattle.several_form.specs.Mcount.{top_value, acceptable, field_after}
use Rattle.several_form.proofs.Fields.{field-entered, field-given-back}
use Rattle.several_fields.specs.declared.Fields.{Fields}
use Rattle.several_fields.specs.Words.{field_bits, packed, room_for, room_value, Several, WordsOf, Taking, Giving}
use Rattle.several_fields.proofs.Packing.{packed-fits, fields-apart, packed-sub, packed-below, tops-down}

-- ---- one pattern

-- the top bit of what a byte's word holds of it
room-top : (P U : List ℕ) (c : ℕ) → length U < 64 → bit (leb top_value (room_value P U c)) ≡ acceptable P U c
unfolding acceptable
room-top P U c short = by (lost c) refl
  where
    by : (t : Bool) → lost c ≡ t → bit (leb top_value (top_value + cond t 64 (cc P c) - cc U c - 1)) ≡ bit (not (used_up P U c))
    by true e = rw (used-up-lost P U c e, le-leb top_value (top_value + 64 - cc U c - 1) (omega (arith, cc-length U c))) refl
    by false e =
        ⊎_elim
        (λ (more : cc U c < cc P c). rw (not-used-up P U c more, le-leb top_value (top_value + cc P c - cc U c - 1) (omega arith)) refl)
        (λ (none : cc P c ≤ cc U c). rw (used-up P U c e none, lt-leb top_value (top_value + cc P c - cc U c - 1) (omega arith)) refl)
        (below_or_not (cc U c) (cc P c))

-- one more of the byte leaves one less
own-one-more : (U : List ℕ) (b : ℕ) → cc (b ∷ U) b ≡ 1 + cc U b
own-one-more U b = rw (cc-cons b U b, eq-eqb b b refl) refl

room-less : (P U : List ℕ) (b : ℕ) → room_value P U b - 1 ≡ room_value P (b ∷ U) b
room-less P U b = omega (arith, own-one-more U b)

room-other : (P U : List ℕ) (b c : ℕ) → eqb b c ≡ false → room_value P (b ∷ U) c ≡ room_value P U c
room-other P U b c e = ap (λ (n : ℕ). top_value + room_for P c - n - 1) (cc-cons b U c ∙ ap (λ (t : Bool). bit t + cc U c) e ∙ omega arith)

-- at whichever end it stands
room-turned : (P U : List ℕ) (b c : ℕ) → room_value P (b ∷ U) c ≡ room_value P (U ++ (b ∷ [])) c
room-turned P U b c = ap (λ (n : ℕ). top_value + room_for P c - n - 1) (sym (cc-turned b U c))

-- ---- all of them

module _ {fields : Fields} (of : Several fields) where
  -- a byte's word once the bytes U are taken, and the table of these
  abbrev room_word : List ℕ → ℕ → ℕ
  room_word U c = packed (λ f. room_value (of.pattern f) U c) of.count

  abbrev room_table : List ℕ → List ℕ
  room_table U = tabulate 256 (room_word U)

  room_small : (U : List ℕ) (c f : ℕ) → f < of.count → room_value (of.pattern f) U c < 256
  room_small U c f l = omega (arith, most (lost c))
    where
      most : (t : Bool) → cond t 64 (cc (of.pattern f) c) ≤ 64
      most true = omega arith
      most false = omega (arith, cc-length (of.pattern f) c, of.short f l)

  field-small : (U : List ℕ) → length U ≤ 64 → (f : ℕ) → f < of.count → field_after (of.pattern f) of.k U < 256
  field-small U short f l = omega (arith, of.tolerance f l)

  -- No field carries into its neighbour: in the window's word, and in the word of every byte, the field f holds its own pattern's number
  module _ {U : List ℕ} {word : ℕ} {rooms : List ℕ} (words : WordsOf of U word rooms) (f : ℕ) (l : f < of.count) where
    pub window-field : length U ≤ 64 → word / 2 ^ (8 * f) % 2 ^ 8 ≡ field_after (of.pattern f) of.k U
    window-field short = rw words.window-word (fields-apart (λ f. field_after (of.pattern f) of.k U) of.count (field-small U short) f l)

    pub byte-field : (c : ℕ) → c < 256 → get_or rooms c 0 / 2 ^ (8 * f) % 2 ^ 8 ≡ room_value (of.pattern f) U c
    byte-field c is_byte_lem =
        ap (λ (rooms : List ℕ). get_or rooms c 0 / 2 ^ (8 * f) % 2 ^ 8) words.byte-words
        ∙ ap (λ (word : ℕ). word / 2 ^ (8 * f) % 2 ^ 8) (get_d_tabulate 256 (room_word U) c is_byte_lem)
        ∙ fields-apart (λ f. room_value (of.pattern f) U c) of.count (room_small U c) f l

  -- what a byte adds to the window's word, or takes from it
  accepted-word : (U : List ℕ) (c : ℕ) → length U < 64
      → bit_and (room_word U c) fields.tops / 2 ^ 7 ≡ packed (λ f. acceptable (of.pattern f) U c) of.count
  accepted-word U c short =
      ap (λ (tops : ℕ). bit_and (room_word U c) tops / 2 ^ 7) of.fields-are.tops_are
      ∙ tops-down (λ f. room_value (of.pattern f) U c) of.count (room_small U c)
      ∙ pack-ext field_bits (λ f. bit (leb top_value (room_value (of.pattern f) U c))) (λ f. acceptable (of.pattern f) U c) of.count
      (λ f l. room-top (of.pattern f) U c short)

  -- every pattern has one less to allow of the byte
  room-there : (U : List ℕ) (b : ℕ) → length U < 64 → (f : ℕ) → f < of.count → 1 ≤ room_value (of.pattern f) U b
  room-there U b short f l = omega (arith, cc-length U b)

  word-less : (U : List ℕ) (b : ℕ) → length U < 64 → room_word U b - fields.ones ≡ room_word (b ∷ U) b
  word-less U b short =
      ap (λ (ones : ℕ). room_word U b - ones) of.fields-are.ones-are
      ∙ packed-sub (λ f. room_value (of.pattern f) U b) (λ f. 1) of.count (room-there U b short)
      ∙ pack-ext field_bits (λ f. room_value (of.pattern f) U b - 1) (λ f. room_value (of.pattern f) (b ∷ U) b) of.count
      (λ f l. room-less (of.pattern f) U b)

  ones_below : (U : List ℕ) (b : ℕ) → length U < 64 → fields.ones ≤ room_word U b
  ones_below U b short =
      rw of.fields-are.ones-are (packed-below (λ f. room_value (of.pattern f) U b) (λ f. 1) of.count (room-there U b short))

  -- a store to one byte's word
  table-set : (U W : List ℕ) (b : ℕ) → ((c f : ℕ) → eqb b c ≡ false → room_value (of.pattern f) U c ≡ room_value (of.pattern f) W c)
      → set (room_table U) b (room_word W b) ≡ room_table W
  table-set U W b other =
      tabulate-set 256 (room_word U) b (room_word W b)
      ∙ tabulate-ext 256 (λ c. cond (eqb b c) (room_word W b) (room_word U c)) (room_word W) (λ c l. at c (eqb b c) refl)
    where
      at : (c : ℕ) (t : Bool) → eqb b c ≡ t → cond t (room_word W b) (room_word U c) ≡ room_word W c
      at c true e = ap (room_word W) (eqb-true b c e)
      at c false e =
          pack-ext field_bits (λ f. room_value (of.pattern f) U c) (λ f. room_value (of.pattern f) W c) of.count (λ f l. other c f e)

-- ---- a byte enters

module _ {fields : Fields} {word byte : ℕ} {rooms : List ℕ} (ready : Taking fields word byte rooms) (is_byte_lem : byte < 256) where
  abbrev U : List ℕ
  U = ready.taken

  abbrev more : List ℕ
  more = U ++ (byte ∷ [])

  room-is : get_or rooms byte 0 ≡ room_word ready.of U byte
  room-is = tabulated 256 (room_word ready.of U) ready.words.byte-words byte is_byte_lem

  abbrev accepted : ℕ
  accepted = bit_and (get_or rooms byte 0) fields.tops / 2 ^ 7

  word_more : word + accepted ≡ packed (λ f. field_after (ready.of.pattern f) ready.of.k more) ready.of.count
  word_more =
      ap₂ ◌+◌ ready.words.window-word (ap (λ (room : ℕ). bit_and room fields.tops / 2 ^ 7) room-is ∙ accepted-word ready.of U byte ready.short)
      ∙ pack-add field_bits (λ f. field_after (ready.of.pattern f) ready.of.k U) (λ f. acceptable (ready.of.pattern f) U byte) ready.of.count
      ∙ pack-ext field_bits _ (λ f. field_after (ready.of.pattern f) ready.of.k more) ready.of.count
      (λ f l. field-entered (ready.of.pattern f) ready.of.k (ready.of.short f l) U byte is_byte_lem ready.bytes)

  pub take-room : fields.ones ≤ get_or rooms byte 0
  take-room = rw room-is (ones_below ready.of U byte ready.short)

  pub take-fits : word + accepted < 2 ^ 64
  take-fits =
      rw word_more
      (packed-fits (λ f. field_after (ready.of.pattern f) ready.of.k more) ready.of.count ready.of.few
      (field-small ready.of more (omega (arith, length-append U (byte ∷ []), ready.short))))

  pub take_words : WordsOf ready.of more (word + accepted) (set rooms byte (get_or rooms byte 0 - fields.ones))
  take_words =
      record {
        window-word = word_more;
        byte-words =
            ap₂ (λ (l : List ℕ) (room : ℕ). set l byte (room - fields.ones)) ready.words.byte-words room-is
            ∙ ap (set (room_table ready.of U) byte) (word-less ready.of U byte ready.short)
            ∙ table-set ready.of U (byte ∷ U) byte (λ c f e. sym (room-other (ready.of.pattern f) U byte c e))
            ∙ tabulate-ext 256 (room_word ready.of (byte ∷ U)) (room_word ready.of more)
            (λ c l. pack-ext field_bits _ _ ready.of.count (λ f l. room-turned (ready.of.pattern f) U byte c));
      }

-- ---- a byte is given back

module _ {fields : Fields} {word byte : ℕ} {rooms : List ℕ} (ready : Giving fields word byte rooms) (is_byte_lem : byte < 256) where
  abbrev W : List ℕ
  W = ready.staying

  room_was : get_or rooms byte 0 ≡ room_word ready.of (byte ∷ W) byte
  room_was = tabulated 256 (room_word ready.of (byte ∷ W)) ready.words.byte-words byte is_byte_lem

  room_back : get_or rooms byte 0 + fields.ones ≡ room_word ready.of W byte
  room_back = omega (arith, room_was, word-less ready.of W byte ready.short, ones_below ready.of W byte ready.short)

  abbrev given : ℕ
  given = bit_and (get_or rooms byte 0 + fields.ones) fields.tops / 2 ^ 7

  given_word : given ≡ packed (λ f. acceptable (ready.of.pattern f) W byte) ready.of.count
  given_word = ap (λ (room : ℕ). bit_and room fields.tops / 2 ^ 7) room_back ∙ accepted-word ready.of W byte ready.short

  field-has : (f : ℕ) → f < ready.of.count → acceptable (ready.of.pattern f) W byte ≤ field_after (ready.of.pattern f) ready.of.k (byte ∷ W)
  unfolding acceptable
  field-has f l = case (used_up (ready.of.pattern f) W byte)
    where
      bound : 1 ≤ field_after (ready.of.pattern f) ready.of.k (byte ∷ W)
      bound =
          omega (
            arith,
            ready.of.short f l,
            excess-length (ready.of.pattern f) (byte ∷ W) (bytes-cons is_byte_lem ready.bytes),
          )

      case : (t : Bool) → bit (not t) ≤ field_after (ready.of.pattern f) ready.of.k (byte ∷ W)
      case true = omega arith
      case false = bound

  pub give-fits : get_or rooms byte 0 + fields.ones < 2 ^ 64
  give-fits = rw room_back (packed-fits _ ready.of.count ready.of.few (room_small ready.of W byte))

  pub give-below : given ≤ word
  give-below =
      omega (
        arith,
        given_word,
        ready.words.window-word,
        packed-below (λ f. field_after (ready.of.pattern f) ready.of.k (byte ∷ W)) (λ f. acceptable (ready.of.pattern f) W byte) ready.of.count field-has,
      )

  pub give-words : WordsOf ready.of W (word - given) (set rooms byte (get_or rooms byte 0 + fields.ones))
  give-words =
      record {
        window-word =
            ap₂ ◌-◌ ready.words.window-word given_word
            ∙ packed-sub (λ f. field_after (ready.of.pattern f) ready.of.k (byte ∷ W)) (λ f. acceptable (ready.of.pattern f) W byte) ready.of.count field-has
            ∙ pack-ext field_bits _ (λ f. field_after (ready.of.pattern f) ready.of.k W) ready.of.count
            (λ f l. field-given-back (ready.of.pattern f) ready.of.k (ready.of.short f l) W byte is_byte_lem ready.bytes);
        byte-words =
            ap₂ (λ (l : List ℕ) (room : ℕ). set l byte room) ready.words.byte-words room_back
            ∙ table-set ready.of (byte ∷ W) W byte (λ c f e. room-other (ready.of.pattern f) W byte c e);
      }
