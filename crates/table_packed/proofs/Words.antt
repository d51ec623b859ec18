-- What the tables are made by: a word of at most 64 bits that is put together field by field, and tables whose bytes have the shared field until
-- their own is placed.
use mathlib.Core.Path.{◌≡◌, refl, sym, ap, ap₂, ◌∙◌}
use mathlib.Core.Bool.{cond}
use mathlib.Core.List.{List}
use Prim.Native.Nat.{ℕ, suc, ◌+◌, ◌*◌, ◌-◌, ◌^◌, ◌≤◌, ◌<◌, min}
use native.Mathlib.Nat.{zero-add, one-mul}
use native.Mathlib.Numerals.{add-one}
use native.Mathlib.Omega.{arith}
use lib.Dec.{lit≤, lit<}
use lib.ListN.{get_or, set, replicate}
use lib.Pow.{pow_pos, pow_mono}
use Rattle.jumbled.specs.Match.{cc, sum, lost_hour, lost}
use Rattle.jumbled.specs.Fields.{Layout, shared, field_count, field_of, width_of, start_value, bits}
use Rattle.jumbled.proofs.Sums.{sum-zero, sum-suc}
use Rattle.jumbled.proofs.Counts.{cc-length, cc-out}
use Rattle.jumbled.proofs.Overflow.{Roomy, some_bits, width-none, width-own, width-shared, field-inside, field-outside}
use Rattle.table_parikh.specs.Table.{tabulate}
use Rattle.methods.specs.Numbers.{method_number}
use Rattle.table_widths.specs.Layouts.{layout}
use Rattle.table_widths.specs.declared.PatternFields.{PatternFields}
use Rattle.table_parikh.proofs.Tables.{tabulate-set}
use Rattle.table_parikh.proofs.Filled.{filled, filled_none, filled-set, filled-skip, filled-all}
use Rattle.table_parikh.proofs.Spans.{span-first, span_last}
use Rattle.table_widths.proofs.Widths.{layout-roomy, count-is}
use Rattle.table_packed.specs.Pack.{pack, top_bit}
use Rattle.table_packed.specs.Word.{FieldPlaced, unit_of, top_of, FieldIs, Packed, Placeable}
use Rattle.table_packed.specs.declared.Field.{Field}
use Rattle.table_packed.proofs.Packs.{ValuesFit, sum-upto, pack-suc, pack-lt, pack-upto, pack-empty, pack-only, tops-fitting}

-- ---- the word

-- The fields below c, and the shared one
unfoldable pub partly : (ℕ → ℕ) → (ℕ → ℕ) → ℕ → ℕ
partly w v c = pack w v c + v shared * 2 ^ sum shared w

module _ (w v : ℕ → ℕ) where
  partly-lt : (c : ℕ) → ValuesFit w v field_count → sum field_count w ≤ 64 → c ≤ 256 → partly w v c < 2 ^ 64
  unfolding partly
  partly-lt c h s l =
      let all = pack-lt w v field_count h in
      let room = pow_mono s in
      omega (arith, pack-suc w v 256, pack-upto w v c 256 l)

  partly-first : (x : ℕ) → x ≡ v shared * 2 ^ sum shared w → x ≡ partly w v 0
  unfolding partly pack
  partly-first x e = e ∙ sym (zero-add (v shared * 2 ^ sum shared w))

  partly-own : (c x y : ℕ) → x ≡ partly w v c → y ≡ v c * 2 ^ sum c w → x + y ≡ partly w v (suc c)
  unfolding partly
  partly-own c x y e f = omega (arith, pack-suc w v c)

  partly_none : (c : ℕ) → v c ≡ 0 → partly w v c ≡ partly w v (suc c)
  unfolding partly
  partly_none c e = rw (pack-empty w v c e) refl

  partly-last : partly w v 256 ≡ pack w v field_count
  unfolding partly
  partly-last = sym (pack-suc w v 256)

-- ---- the fields of a pattern

module _ (P : List ℕ) (L : Layout) where
  -- a start value is less than half of what its field holds
  start-fitting : (n : ℕ) → ValuesFit (width_of P L) (start_value P L) n
  unfolding start_value
  start-fitting n f l =
      let half = pow_mono {i = width_of P L f - 1} {j = width_of P L f} (omega arith) in
      omega (arith, pow_pos (width_of P L f - 1))

  -- every field is within the word
  word_room : (f : ℕ) → bits P L ≤ 64 → f < field_count → sum f (width_of P L) + width_of P L f ≤ 64
  unfolding bits
  word_room f h l = omega (arith, sum-upto (width_of P L) (suc f) field_count l, sum-suc f (width_of P L))

  -- a byte that the pattern lacks has a field of 0 bits, which holds 0
  start_none : (f : ℕ) → f < 256 → cc P f ≡ 0 → start_value P L f ≡ 0
  unfolding start_value
  start_none f l e = rw (width-none P L f l e, e) refl

  top-none : (f : ℕ) → f < 256 → cc P f ≡ 0 → top_bit (width_of P L f) ≡ 0
  unfolding top_bit
  top-none f l e = rw (width-none P L f l e) refl

-- ---- one field

-- a field's top bit at its place is that bit alone in the word
top_placed : (P : List ℕ) (L : Layout) (f : ℕ) → f < field_count → top_of P L f ≡ top_bit (width_of P L f) * 2 ^ sum f (width_of P L)
top_placed P L f l = pack-only (width_of P L) f (top_bit (width_of P L f)) field_count l

field_is : (P : List ℕ) (L : Layout) (f count width at : ℕ) (r : Field) → f < field_count → count ≡ cc P f → width ≡ width_of P L f
    → at ≡ sum f (width_of P L) → FieldPlaced count width at r → FieldIs P L f r
unfolding start_value
field_is P L f count width at r l ec ew ea p =
    let w = width_of P L in
    record {
      start = p.start ∙ rw (ec, ew, ea) refl;
      unit = p.unit ∙ ap (λ (a : ℕ). 2 ^ a) ea ∙ sym (one-mul (2 ^ sum f w)) ∙ sym (pack-only w f 1 field_count l);
      top = p.top ∙ ap₂ (λ (g a : ℕ). top_bit g * 2 ^ a) ew ea ∙ sym (top_placed P L f l);
    }

-- Where a field of width bits can be placed at bit at, of a byte that the pattern has count times
abbrev pub Room : ℕ → ℕ → ℕ → Type 0
Room count width at = (1 ≤ width) × (at + width ≤ 64) × (count + 1 ≤ 2 ^ (width - 1))

module _ (fields : PatternFields) (ready : Placeable fields) where
  abbrev P : List ℕ
  P = fields.pattern.now

  abbrev L : Layout
  L = layout fields

  roomy : Roomy 0 1 L
  roomy = layout-roomy fields.k (method_number fields.method) ready.from ready.to

  -- the shared field, above all others
  module _ (width at : ℕ) (width_is : width ≡ L.common) (at-is : at ≡ sum 256 (width_of P L)) where
    shared-width : width ≡ width_of P L shared
    shared-width = width_is ∙ sym (width-shared P L)

    pub shared-room : Room 0 width at
    shared-room = (
      omega (arith, width_is, roomy.common-some),
      omega (arith, shared-width, at-is, word_room P L shared ready.fits (lit< tt)),
      pow_pos (width - 1),
    )

    pub shared-is : (r : Field) → FieldPlaced 0 width at r → FieldIs P L shared r
    shared-is r placed = field_is P L shared 0 width at r (lit< tt) (sym (cc-out P shared fields.counted.bytes (lit≤ tt))) shared-width at-is placed

  -- a byte of the span
  module _ (c : ℕ) (inside : c < fields.span.past) where
    pub byte-below : c < 256
    byte-below = omega (arith, fields.counted.spanned.bytes)

    counted : get_or fields.counts.now c 0 ≡ cc P c
    counted = count-is P fields.counts.now c fields.counted.counts-are byte-below

    here : min c 256 ≡ c
    here = omega (arith, byte-below)

    next : min (c + 1) 256 ≡ suc c
    next = omega (arith, byte-below)

    pub few : get_or fields.counts.now c 0 ≤ 64
    few = omega (arith, counted, fields.counted.short, cc-length P c)

    -- that the pattern has
    module _ (has : 0 < get_or fields.counts.now c 0) (width at : ℕ) (width_is : width ≡ L.own (get_or fields.counts.now c 0)) (at-is : at ≡ sum c (width_of P L)) where
      own-width-is : width ≡ width_of P L c
      own-width-is = width_is ∙ ap L.own counted ∙ sym (width-own P L c byte-below (omega (arith, counted)))

      pub own_room : Room (get_or fields.counts.now c 0) width at
      own_room =
          let starts : cc P c + 1 ≤ 2 ^ (L.own (cc P c) - 1) = roomy.starts (cc P c) (omega (arith, counted)) in
          let same : width ≡ L.own (cc P c) = width_is ∙ ap L.own counted in (
            rw same (some_bits (L.own (cc P c)) (cc P c) (omega (arith, counted)) starts),
            omega (arith, own-width-is, at-is, word_room P L c ready.fits (omega (arith, byte-below))),
            rw (same, counted) starts,
          )

      pub own_is : (r : Field) → FieldPlaced (get_or fields.counts.now c 0) width at r → FieldIs P L c r
      own_is r placed = field_is P L c (get_or fields.counts.now c 0) width at r (omega (arith, byte-below)) counted own-width-is at-is placed

-- ---- a table of a number for each byte, by its field

-- The table once the bytes below c are placed
abbrev Table : List ℕ → (ℕ → ℕ) → ℕ → List ℕ
Table P h c = filled 256 (λ i. h (field_of P i)) (h shared) c

-- The bytes below c are placed: `at` is the next field's bit, and each of them has h of its field in the table
pub record Tabled (P : List ℕ) (L : Layout) (h : ℕ → ℕ) (table : List ℕ) (at c : ℕ) : Type 0 where
  pub within : c ≤ 256
  pub at-is : at ≡ sum c (width_of P L)
  pub table_is : table ≡ Table P h c

module _ (P : List ℕ) (L : Layout) (h : ℕ → ℕ) where
  tabled-first : (v : ℕ) → v ≡ h shared → Tabled P L h (replicate 256 v) 0 0
  tabled-first v e =
      record {
        within = omega arith;
        at-is = sym (sum-zero (width_of P L));
        table_is = ap (replicate 256) e ∙ filled_none 256 (λ i. h (field_of P i)) (h shared);
      }

  module _ (table : List ℕ) (at c : ℕ) (t : Tabled P L h table at c) where
    -- within the word
    at-fits : bits P L ≤ 64 → at ≤ 64
    unfolding bits
    at-fits f = omega (arith, t.at-is, t.within, sum-upto (width_of P L) c field_count (omega (arith, t.within)))

    -- the field of a byte of the pattern is placed
    tabled-own : (width v : ℕ) → c < 256 → 0 < cc P c → width ≡ width_of P L c → v ≡ h c → Tabled P L h (set table c v) (at + width) (suc c)
    tabled-own width v l has e f =
        record {
          within = omega arith;
          at-is = rw (sum-suc c (width_of P L)) (ap₂ ◌+◌ t.at-is e);
          table_is =
              rw (t.table_is, ← add-one c) (filled-set 256 (λ i. h (field_of P i)) (h shared) c v (f ∙ ap h (sym (field-inside P c has))));
        }

    -- any other byte has none to place
    tabled-none : c < 256 → cc P c ≡ 0 → Tabled P L h table at (suc c)
    tabled-none l e =
        record {
          within = omega arith;
          at-is = omega (arith, t.at-is, sum-suc c (width_of P L), width-none P L c l e);
          table_is = t.table_is ∙ rw (← add-one c) (filled-skip 256 (λ i. h (field_of P i)) (h shared) c (ap h (field-outside P c e)));
        }

-- where a span of the pattern's bytes begins, and past its end
module _ (fields : PatternFields) (ready : Placeable fields) (h : ℕ → ℕ) where
  pub tabled-begin : (v : ℕ) → v ≡ h shared → Tabled fields.pattern.now (layout fields) h (replicate 256 v) 0 (min fields.span.low 256)
  tabled-begin v e =
      span-first fields.pattern.now (Tabled fields.pattern.now (layout fields) h (replicate 256 v) 0) (λ c l none t. tabled-none fields.pattern.now (layout fields) h (replicate 256 v) 0 c t l none) fields.counted.spanned
      (tabled-first fields.pattern.now (layout fields) h v e)

  -- a byte of it that the pattern has, and one that it lacks
  module _ (c : ℕ) (inside : c < fields.span.past) {table : List ℕ} {at : ℕ} (t : Tabled fields.pattern.now (layout fields) h table at (min c 256)) where
    pub at_here : at ≡ sum c (width_of fields.pattern.now (layout fields))
    at_here = rw (here fields ready c inside) at t.at-is

    pub tabled-has : (width v : ℕ) → 0 < get_or fields.counts.now c 0 → width ≡ (layout fields).own (get_or fields.counts.now c 0) → v ≡ h c
        → Tabled fields.pattern.now (layout fields) h (set table c v) (at + width) (min (c + 1) 256)
    tabled-has width v has width_is e =
        rw (next fields ready c inside)
        (tabled-own fields.pattern.now (layout fields) h table at c (rw (here fields ready c inside) at t) width v (byte-below fields ready c inside) (omega (arith, counted fields ready c inside))
        (own-width-is fields ready c inside has width at width_is at_here) e)

    pub tabled-lacks : get_or fields.counts.now c 0 ≤ 0 → Tabled fields.pattern.now (layout fields) h table at (min (c + 1) 256)
    tabled-lacks none =
        rw (next fields ready c inside)
        (tabled-none fields.pattern.now (layout fields) h table at c (rw (here fields ready c inside) at t) (byte-below fields ready c inside) (omega (arith, counted fields ready c inside)))

  -- the next field's bit is one of the word's
  pub tabled-fits : {table : List ℕ} {at : ℕ} (c : ℕ) → Tabled fields.pattern.now (layout fields) h table at (min c 256) → at ≤ 64
  tabled-fits {table} {at} c t = at-fits fields.pattern.now (layout fields) h table at (min c 256) t ready.fits

  -- all bytes are placed, and the lost hour's entry is blanked
  pub tabled-end : (table : List ℕ) (at c : ℕ) → fields.span.past ≤ c → Tabled fields.pattern.now (layout fields) h table at (min c 256)
      → set table lost_hour 0 ≡ tabulate 256 (λ i. cond (lost i) 0 (h (field_of fields.pattern.now i)))
  tabled-end table at c past t =
      let all : Tabled fields.pattern.now (layout fields) h table at 256
      = span_last fields.pattern.now (Tabled fields.pattern.now (layout fields) h table at) (λ d l none u. tabled-none fields.pattern.now (layout fields) h table at d u l none) fields.counted.spanned c past t in
      ap (λ (l : List ℕ). set l lost_hour 0) (all.table_is ∙ filled-all 256 (λ i. h (field_of fields.pattern.now i)) (h shared) 256 (omega arith))
      ∙ tabulate-set 256 (λ i. h (field_of fields.pattern.now i)) lost_hour 0

-- ---- the word while it is put together

-- The fields of the bytes below c are in it, and the shared one
pub record Summed (P : List ℕ) (L : Layout) (start tops c : ℕ) : Type 0 where
  pub start_is : start ≡ partly (width_of P L) (start_value P L) c
  pub tops_are : tops ≡ partly (width_of P L) (λ f. top_bit (width_of P L f)) c

module _ (P : List ℕ) (L : Layout) where
  summed-first : (r : Field) → FieldIs P L shared r → Summed P L r.start r.top 0
  summed-first r p =
      record {
        start_is = partly-first (width_of P L) (start_value P L) r.start p.start;
        tops_are = partly-first (width_of P L) (λ f. top_bit (width_of P L f)) r.top (p.top ∙ top_placed P L shared (lit< tt));
      }

  module _ (start tops c : ℕ) (s : Summed P L start tops c) where
    -- both fit the word
    both-fit : bits P L ≤ 64 → c ≤ 256 → (start < 2 ^ 64) × (tops < 2 ^ 64)
    unfolding bits
    both-fit f l = (
      rw s.start_is (partly-lt (width_of P L) (start_value P L) c (start-fitting P L field_count) f l),
      rw s.tops_are (partly-lt (width_of P L) (λ g. top_bit (width_of P L g)) c (tops-fitting (width_of P L) field_count) f l),
    )

    summed-own : (r : Field) → c < 256 → FieldIs P L c r → Summed P L (start + r.start) (tops + r.top) (suc c)
    summed-own r l p =
        record {
          start_is = partly-own (width_of P L) (start_value P L) c start r.start s.start_is p.start;
          tops_are = partly-own (width_of P L) (λ f. top_bit (width_of P L f)) c tops r.top s.tops_are (p.top ∙ top_placed P L c (omega arith));
        }

    summed-none : c < 256 → cc P c ≡ 0 → Summed P L start tops (suc c)
    summed-none l e =
        record {
          start_is = s.start_is ∙ partly_none (width_of P L) (start_value P L) c (start_none P L c l e);
          tops_are = s.tops_are ∙ partly_none (width_of P L) (λ f. top_bit (width_of P L f)) c (top-none P L c l e);
        }

module _ (fields : PatternFields) (ready : Placeable fields) where
  pub summed-begin : (r : Field) → FieldIs fields.pattern.now (layout fields) shared r → Summed fields.pattern.now (layout fields) r.start r.top (min fields.span.low 256)
  summed-begin r p =
      span-first fields.pattern.now (Summed fields.pattern.now (layout fields) r.start r.top) (λ c l none s. summed-none fields.pattern.now (layout fields) r.start r.top c s l none) fields.counted.spanned
      (summed-first fields.pattern.now (layout fields) r p)

  module _ (c : ℕ) (inside : c < fields.span.past) {start tops : ℕ} (s : Summed fields.pattern.now (layout fields) start tops (min c 256)) where
    pub summed-has : (r : Field) → FieldIs fields.pattern.now (layout fields) c r → Summed fields.pattern.now (layout fields) (start + r.start) (tops + r.top) (min (c + 1) 256)
    summed-has r p = rw (next fields ready c inside) (summed-own fields.pattern.now (layout fields) start tops c (rw (here fields ready c inside) at s) r (byte-below fields ready c inside) p)

    pub summed-lacks : get_or fields.counts.now c 0 ≤ 0 → Summed fields.pattern.now (layout fields) start tops (min (c + 1) 256)
    summed-lacks none =
        rw (next fields ready c inside)
        (summed-none fields.pattern.now (layout fields) start tops c (rw (here fields ready c inside) at s) (byte-below fields ready c inside) (omega (arith, counted fields ready c inside)))

  pub summed-fits : {start tops : ℕ} (c : ℕ) → Summed fields.pattern.now (layout fields) start tops (min c 256) → (start < 2 ^ 64) × (tops < 2 ^ 64)
  summed-fits {start} {tops} c s = both-fit fields.pattern.now (layout fields) start tops (min c 256) s ready.fits (omega arith)

  -- all fields are placed
  pub packed-end : (start tops c : ℕ) (units : List ℕ) (at : ℕ) → fields.span.past ≤ c → Summed fields.pattern.now (layout fields) start tops (min c 256)
      → Tabled fields.pattern.now (layout fields) (unit_of fields.pattern.now (layout fields)) units at (min c 256) → Packed fields.pattern.now (layout fields) (record { start = start; tops = tops }) (set units lost_hour 0)
  packed-end start tops c units at past s t =
      let all : Summed fields.pattern.now (layout fields) start tops 256
      = span_last fields.pattern.now (Summed fields.pattern.now (layout fields) start tops) (λ d l none u. summed-none fields.pattern.now (layout fields) start tops d u l none) fields.counted.spanned c past s in
      record {
        start = all.start_is ∙ partly-last (width_of fields.pattern.now (layout fields)) (start_value fields.pattern.now (layout fields));
        tops = all.tops_are ∙ partly-last (width_of fields.pattern.now (layout fields)) (λ f. top_bit (width_of fields.pattern.now (layout fields) f));
        units-are = tabled-end fields ready (unit_of fields.pattern.now (layout fields)) units at c past t;
      }
