-- The bytes' words before a byte of the text is taken: what each pattern adds, and all of them.
use mathlib.Core.Path.{◌≡◌, refl, sym, ap, ◌∙◌}
use mathlib.Core.Bool.{Bool, true, false, cond}
use mathlib.Core.List.{List, []}
use Prim.Native.Nat.{ℕ, ◌+◌, ◌-◌, ◌*◌, ◌%◌, ◌^◌, ◌≤◌, ◌<◌}
use native.Mathlib.Nat.{add-zero, zero-mul, add-mul, one-mul, mul-le-mul_right}
use native.Mathlib.Omega.{arith}
use lib.Dec.{eqb, lit<}
use lib.ListN.{length, get_or, set, take, drop, length-take}
use borrow.Author.Tests.{eqb-true}
use Rattle.jumbled.specs.Match.{bit, cc, lost_hour, lost}
use Rattle.jumbled.proofs.Counts.{cc-nil, cc-cons, cc-turned, cc-length}
use Rattle.table_parikh.specs.Table.{tabulate}
use Rattle.table_parikh.proofs.Tables.{length-tabulate, get_d_tabulate, tabulate-set, tabulate-ext, tabulate-replicate, is-tabulate}
use Rattle.table_parikh.proofs.Letters.{take_more}
use Rattle.table_packed.specs.Pack.{pack}
use Rattle.table_packed.proofs.Packs.{pack-add, pack-ext, pack-upto}
use Rattle.several_form.specs.Mcount.{top_value}
use Rattle.several_fields.specs.declared.Fields.{Fields}
use Rattle.several_fields.specs.Words.{field_bits, packed, room_value, Placeable, units_added, pattern_at, Placing, Placed}
use Rattle.several_fields.proofs.Packing.{packed_more, unit-at, packed-fits, packed-below, packed-scale}

-- ---- one pattern

pub added_none : (unit : ℕ) (rooms : List ℕ) → length rooms ≡ 256 → rooms ≡ units_added [] unit rooms
added_none unit rooms size =
    is-tabulate 256 (λ c. get_or rooms c 0 + cc [] c * unit) rooms size
    (λ c l. sym (ap (λ (n : ℕ). get_or rooms c 0 + n * unit) (cc-nil c) ∙ ap (λ (n : ℕ). get_or rooms c 0 + n) (zero-mul unit) ∙ add-zero (get_or rooms c 0)))

module _ (pattern : List ℕ) (unit : ℕ) (rooms : List ℕ) (i : ℕ) (inside : i < length pattern) (byte : get_or pattern i 0 < 256) where
  abbrev here : ℕ
  here = get_or pattern i 0

  so_far : get_or (units_added (take i pattern) unit rooms) here 0 ≡ get_or rooms here 0 + cc (take i pattern) here * unit
  so_far = get_d_tabulate 256 (λ c. get_or rooms c 0 + cc (take i pattern) c * unit) here byte

  one_more : (c : ℕ) → cc (take (i + 1) pattern) c ≡ bit (eqb here c) + cc (take i pattern) c
  one_more c = ap (λ (l : List ℕ). cc l c) (sym (take_more pattern i inside)) ∙ cc-turned here (take i pattern) c ∙ cc-cons here (take i pattern) c

  -- its next byte
  pub added_more : set (units_added (take i pattern) unit rooms) here (get_or (units_added (take i pattern) unit rooms) here 0 + unit) ≡ units_added (take (i + 1) pattern) unit rooms
  added_more =
      tabulate-set 256 (λ c. get_or rooms c 0 + cc (take i pattern) c * unit) here (get_or (units_added (take i pattern) unit rooms) here 0 + unit)
      ∙ tabulate-ext 256 _ (λ c. get_or rooms c 0 + cc (take (i + 1) pattern) c * unit) (λ c l. at c (eqb here c) refl)
    where
      at : (c : ℕ) (t : Bool) → eqb here c ≡ t
          → cond t (get_or (units_added (take i pattern) unit rooms) here 0 + unit) (get_or rooms c 0 + cc (take i pattern) c * unit)
          ≡ get_or rooms c 0 + cc (take (i + 1) pattern) c * unit
      at c true e =
          let same : here ≡ c = eqb-true here c e in
          so-far-at c same
          ∙ ap (λ (n : ℕ). get_or rooms c 0 + n * unit) (sym (one_more c ∙ ap (λ (t : Bool). bit t + cc (take i pattern) c) e))
        where
          so-far-at : (c : ℕ) → here ≡ c → get_or (units_added (take i pattern) unit rooms) here 0 + unit ≡ get_or rooms c 0 + (1 + cc (take i pattern) c) * unit
          so-far-at c same =
              ap (λ (n : ℕ). n + unit) so_far
              ∙ ap (λ (b : ℕ). get_or rooms b 0 + cc (take i pattern) b * unit + unit) same
              ∙ omega (arith, add-mul 1 (cc (take i pattern) c) unit, one-mul unit)
      at c false e = ap (λ (n : ℕ). get_or rooms c 0 + n * unit) (sym (one_more c ∙ ap (λ (t : Bool). bit t + cc (take i pattern) c) e ∙ omega arith))

  -- there is room for it
  pub added-fits : Placeable pattern unit rooms → get_or (units_added (take i pattern) unit rooms) here 0 + unit < 2 ^ 64
  added-fits able =
      let few : 1 + cc (take i pattern) here ≤ length pattern = omega (arith, cc-length (take i pattern) here, length-take i pattern) in
      omega (
        arith,
        so_far,
        able.room here byte,
        add-mul 1 (cc (take i pattern) here) unit,
        one-mul unit,
        mul-le-mul_right unit few,
      )

-- ---- all patterns

-- The words with the first n patterns placed
abbrev pub placed_word : ℕ → List ℕ → ℕ → ℕ → ℕ → ℕ
placed_word m patterns count n c = packed (λ f. top_value - 1) count + packed (λ f. cc (pattern_at m patterns f) c) n

module _ {patterns : List ℕ} {m count : ℕ} {fields : Fields} {rooms : List ℕ} (given : Placing patterns m count fields rooms) where
  pub placed-none : rooms ≡ tabulate 256 (placed_word m patterns count 0)
  unfolding pack
  placed-none =
      given.lent
      ∙ tabulate-replicate 256 (packed (λ f. top_value - 1) count)
      ∙ tabulate-ext 256 (λ c. packed (λ f. top_value - 1) count) (placed_word m patterns count 0) (λ c l. none c)
    where
      none : (c : ℕ) → packed (λ f. top_value - 1) count ≡ placed_word m patterns count 0 c
      none c = sym (add-zero (packed (λ f. top_value - 1) count))

  module _ (n : ℕ) (next : n < count) where
    short : (f : ℕ) → length (pattern_at m patterns f) ≤ 64
    short f = omega (arith, length-take m (drop (f * m) patterns), given.short)

    -- 64 of each byte would fit too
    most : (c : ℕ) → packed (λ f. cc (pattern_at m patterns f) c) n + 64 * 2 ^ (8 * n) ≤ packed (λ f. 64) count
    most c =
        omega (
          arith,
          packed_more (λ f. 64) n,
          pack-upto field_bits (λ f. 64) (n + 1) count (omega arith),
          packed-below (λ f. 64) (λ f. cc (pattern_at m patterns f) c) n (λ f l. omega (arith, cc-length (pattern_at m patterns f) c, short f)),
        )

    both-fit : packed (λ f. top_value - 1) count + packed (λ f. 64) count < 2 ^ 64
    both-fit = rw (pack-add field_bits (λ f. top_value - 1) (λ f. 64) count) (packed-fits (λ f. top_value - 1 + 64) count given.few (λ f l. lit< tt))

    placed-able : Placeable (pattern_at m patterns n) (2 ^ (8 * n)) (tabulate 256 (placed_word m patterns count n))
    placed-able = record { short = short n; words = length-tabulate 256 (placed_word m patterns count n); room = at }
      where
        at : (c : ℕ) → c < 256 → get_or (tabulate 256 (placed_word m patterns count n)) c 0 + length (pattern_at m patterns n) * 2 ^ (8 * n) < 2 ^ 64
        at c l =
            omega (
              arith,
              get_d_tabulate 256 (placed_word m patterns count n) c l,
              mul-le-mul_right (2 ^ (8 * n)) (short n),
              most c,
              both-fit,
            )

    placed-more : units_added (pattern_at m patterns n) (2 ^ (8 * n)) (tabulate 256 (placed_word m patterns count n)) ≡ tabulate 256 (placed_word m patterns count (n + 1))
    placed-more =
        tabulate-ext 256 _ (placed_word m patterns count (n + 1))
        (λ c l.
        omega (
          arith,
          get_d_tabulate 256 (placed_word m patterns count n) c l,
          packed_more (λ f. cc (pattern_at m patterns f) c) n,
        ))

    -- as the code has them: the pattern as a part of the bytes from its start on, and its unit as a 1 moved up
    abbrev part : ℕ → List ℕ
    part start = take ((n + 1) * m - start) (drop start patterns)

    abbrev unit : ℕ
    unit = (1 * 2 ^ (8 * n)) % 2 ^ 64

    part-is : (start : ℕ) → start ≡ n * m → part start ≡ pattern_at m patterns n
    part-is start begins =
        let rest : (n + 1) * m - n * m ≡ m = omega (arith, add-mul n 1 m, one-mul m) in
        ap part begins ∙ ap (λ (k : ℕ). take k (drop (n * m) patterns)) rest

    unit-is : unit ≡ 2 ^ (8 * n)
    unit-is = unit-at n (omega (arith, given.few))

    module _ {so_far : List ℕ} (placed : so_far ≡ tabulate 256 (placed_word m patterns count n)) (start : ℕ) (begins : start ≡ n * m) where
      pub part-able : Placeable (part start) unit so_far
      part-able = rw (part-is start begins, unit-is, placed) placed-able

      pub part-added : units_added (part start) unit so_far ≡ tabulate 256 (placed_word m patterns count (n + 1))
      part-added = rw (part-is start begins, unit-is, placed) placed-more

  -- the lost hour's room, the same in every field
  lost-room : fields.ones * 191 ≡ packed (λ f. top_value - 1 + 64) count
  lost-room =
      ap (λ (ones : ℕ). ones * 191) given.fields-are.ones-are
      ∙ packed-scale (λ f. 1) 191 count
      ∙ pack-ext field_bits (λ f. 1 * 191) (λ f. top_value - 1 + 64) count (λ f l. refl)

  pub lost-room-fits : fields.ones * 191 < 2 ^ 64
  lost-room-fits = rw lost-room (packed-fits (λ f. top_value - 1 + 64) count given.few (λ f l. lit< tt))

  pub placed-all : Placed patterns m count (set (tabulate 256 (placed_word m patterns count count)) lost_hour (fields.ones * 191))
  placed-all =
      tabulate-set 256 (placed_word m patterns count count) lost_hour (fields.ones * 191)
      ∙ tabulate-ext 256 (λ c. cond (lost c) (fields.ones * 191) (placed_word m patterns count count c))
      (λ c. packed (λ f. room_value (pattern_at m patterns f) [] c) count) (λ c l. by c (lost c))
    where
      by : (c : ℕ) (t : Bool)
          → cond t (fields.ones * 191) (placed_word m patterns count count c)
          ≡ packed (λ f. top_value + cond t 64 (cc (pattern_at m patterns f) c) - cc [] c - 1) count
      by c true = lost-room ∙ pack-ext field_bits _ (λ f. top_value + 64 - cc [] c - 1) count (λ f h. omega (arith, cc-nil c))
      by c false =
          pack-add field_bits (λ f. top_value - 1) (λ f. cc (pattern_at m patterns f) c) count
          ∙ pack-ext field_bits _ (λ f. top_value + cc (pattern_at m patterns f) c - cc [] c - 1) count (λ f h. omega (arith, cc-nil c))
