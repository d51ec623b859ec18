-- The leftward loop over a window of a text, by its position p: what holds where its test is reached, and the ways it goes on.
use mathlib.Core.Path.{◌≡◌, refl, sym, ap, ◌∙◌}
use mathlib.Core.Bool.{true, false, not}
use mathlib.Core.List.{List}
use Prim.Native.Nat.{ℕ, suc, ◌+◌, ◌-◌, ◌^◌, ◌≤◌, ◌<◌}
use native.Mathlib.Omega.{arith}
use lib.Bits.{bit_and}
use lib.Dec.{eqb}
use lib.ListN.{length, get_or, set, length-drop}
use borrow.Author.Tests.{eq-eqb, ne_eqb, not-true, not-false}
use Rattle.jumbled.specs.Match.{Bytes, window}
use Rattle.jumbled.specs.Scan.{singles, pairs}
use Rattle.jumbled.specs.Fields.{field_count, width_of, value_of, bits, overflows}
use Rattle.jumbled.proofs.Windows.{window-whole, window_bytes}
use Rattle.table_packed.specs.Word.{Packed}
use Rattle.table_packed.specs.declared.Word.{Word}
use Rattle.table_packed.proofs.Packs.{ValuesFit as Fits}
use Rattle.table_packed.proofs.Values.{word_of, word_lt, word-overflows}
use Rattle.lent.specs.declared.Range.{Range}
use Rattle.lent.specs.Loops.{Fitting}
use Rattle.loop_backward.proofs.Windows.{Going, going-match, going-stop}
use Rattle.loop_backward.proofs.Leftward.{read_from, left-more, in_window, byte-is}
use Rattle.loop_backward.proofs.Reading.{Group, one_byte, two_bytes, leftmost, unit-added, Method, Lawful, scanned_by, Reading, reading-first, reading-fitting, reading-stop, reading-on, reading-end}

-- What a loop has from its arguments and its method
pub record Given (P : List ℕ) (M : Method) (packing : Word) (units T : List ℕ) (range : Range) : Type 0 where
  pub lawful : Lawful P M
  pub pattern : Bytes P
  pub text : Bytes T
  pub fitting : Fitting T (length P) range
  pub packed : Packed P M.layout packing units
  pub fits : bits P M.layout ≤ 64

-- where the windows before s₀ are done, and the one at s₀ is to be scanned, for which the list has a place
pub record Window (P : List ℕ) (M : Method) (packing : Word) (units T : List ℕ) (range : Range) (before : List ℕ) (s₀ at inspections₀ : ℕ) (after : List ℕ) : Type 0 where
  pub given : Given P M packing units T range
  pub going : Going (scanned_by P M) (length P) T range before s₀ at inspections₀ after
  pub inside : s₀ < range.end
  pub place : at < length after

-- What holds where the test of the leftward loop is reached: the window at s₀ is read down to p, and each byte read is an inspection
pub record Inner (P : List ℕ) (M : Method) (T : List ℕ) (s₀ inspections₀ s inspections word p : ℕ) : Type 0 where
  pub same : s ≡ s₀
  pub here : s₀ ≤ p
  pub upto : p ≤ s₀ + length P
  pub reading : Reading P M (window (length P) T s₀) (p - s₀) word
  pub inspected : inspections + p ≡ inspections₀ + (s₀ + length P)

-- After the bytes of a step were added, from the one before p down to that at `low`
pub record Taken (P : List ℕ) (M : Method) (T : List ℕ) (s₀ p inspections low next_word next-inspections : ℕ) : Type 0 where
  pub here : s₀ ≤ low
  pub lower : low < p
  pub near : p ≤ low + M.most
  pub group : Group M.cut (window (length P) T s₀) (low - s₀) (p - s₀)
  pub holds : next_word ≡ word_of P M.layout (read_from (length P) T s₀ low)
  pub inspected : next-inspections + low ≡ inspections + p

module _ {P : List ℕ} {M : Method} {packing : Word} {units T : List ℕ} {range : Range} {before : List ℕ} {s₀ at inspections₀ : ℕ} {after : List ℕ}
    (w : Window P M packing units T range before s₀ at inspections₀ after) where
  pub window-upto : s₀ + length P ≤ length T
  window-upto = w.given.fitting.whole s₀ w.inside

  pub inner_first : Inner P M T s₀ inspections₀ s₀ inspections₀ packing.start (s₀ + length P)
  inner_first =
      let all : length (window (length P) T s₀) ≡ s₀ + length P - s₀ = window-whole (length P) T s₀ window-upto ∙ omega arith in
      record {
        same = refl;
        here = omega arith;
        upto = omega arith;
        reading = rw all at (reading-first P M w.given.packed (window (length P) T s₀));
        inspected = refl;
      }

  -- the byte before p is added
  module _ (p : ℕ) (more : s₀ < p) (upto : p ≤ s₀ + length P) where
    byte-added : (word : ℕ) → word ≡ word_of P M.layout (read_from (length P) T s₀ p)
        → word + get_or units (get_or T (p - 1) 0) 0 ≡ word_of P M.layout (read_from (length P) T s₀ (p - 1))
    byte-added word e =
        rw (← byte-is (length P) T s₀ window-upto p more upto)
        (unit-added P M.layout w.given.packed (window (length P) T s₀) (window_bytes (length P) T s₀ w.given.text) (p - 1 - s₀) word
        (in_window (length P) T s₀ window-upto p more upto)
        (rw (left-more (length P) T s₀ window-upto p more upto) at e))

  module _ {s inspections word p : ℕ} (inner : Inner P M T s₀ inspections₀ s inspections word p) where
    -- while a step's bytes are added no field carries
    pub inner-fitting : (low : ℕ) → low ≤ p → p ≤ low + M.most → Fits (width_of P M.layout) (value_of P M.layout (read_from (length P) T s₀ low)) field_count
    inner-fitting low l near =
        reading-fitting w.given.lawful (window_bytes (length P) T s₀ w.given.text) inner.reading (low - s₀) (omega arith) (omega (arith, inner.here)) w.given.pattern

    -- so the word stays below 2^64
    pub inner-word : (low next_word : ℕ) → low ≤ p → p ≤ low + M.most → next_word ≡ word_of P M.layout (read_from (length P) T s₀ low) → next_word < 2 ^ 64
    inner-word low next_word l near e = rw e (word_lt P M.layout (read_from (length P) T s₀ low) (inner-fitting low l near) w.given.fits)

    -- as one byte a step, the byte before p is next
    pub single-group : s < p → Group singles (window (length P) T s₀) (p - 1 - s₀) (p - s₀)
    single-group h =
        let d : p - s₀ ≡ suc (p - 1 - s₀) = omega (arith, inner.same) in
        rw d (one_byte (window (length P) T s₀) (p - 1 - s₀) (omega (arith, inner.same, inner.upto, window-whole (length P) T s₀ window-upto)))

    -- as two bytes a step, the two before p are next, or the leftmost alone
    pub pair-group : s + 1 < p → Group pairs (window (length P) T s₀) (p - 2 - s₀) (p - s₀)
    pair-group h =
        let d : p - s₀ ≡ suc (suc (p - 2 - s₀)) = omega (arith, inner.same) in
        rw d (two_bytes (window (length P) T s₀) (p - 2 - s₀) (omega (arith, inner.same, inner.upto, window-whole (length P) T s₀ window-upto)))

    pub alone-group : s < p → p ≤ s + 1 → Group pairs (window (length P) T s₀) (s - s₀) (p - s₀)
    alone-group h last =
        let none : s - s₀ ≡ 0 = omega (arith, inner.same) in
        let one : p - s₀ ≡ 1 = omega (arith, inner.same) in
        rw (none, one) (leftmost (window (length P) T s₀) (omega (arith, inner.same, inner.upto, window-whole (length P) T s₀ window-upto)))

    module _ {low next_word next-inspections : ℕ} (taken : Taken P M T s₀ p inspections low next_word next-inspections) where
      pub taken_word : next_word < 2 ^ 64
      taken_word = inner-word low next_word (omega (arith, taken.lower)) taken.near taken.holds

      -- the test of all top bits (methods 2 and 3)
      tops-test : eqb (bit_and next_word packing.tops) 0 ≡ not (overflows P M.layout (read_from (length P) T s₀ low))
      tops-test =
          rw (taken.holds, w.given.packed.tops)
          (word-overflows P M.layout (read_from (length P) T s₀ low) (inner-fitting low (omega (arith, taken.lower)) taken.near))

      pub tops-set : (bit_and next_word packing.tops ≡ 0 → ⊥) → overflows P M.layout (read_from (length P) T s₀ low) ≡ true
      tops-set h = not-false (overflows P M.layout (read_from (length P) T s₀ low)) (sym tops-test ∙ ne_eqb (bit_and next_word packing.tops) 0 h)

      pub tops-clear : bit_and next_word packing.tops ≡ 0 → overflows P M.layout (read_from (length P) T s₀ low) ≡ false
      tops-clear h = not-true (overflows P M.layout (read_from (length P) T s₀ low)) (sym tops-test ∙ eq-eqb (bit_and next_word packing.tops) 0 h)

      -- the test does not hold after the step
      pub inner-on : M.stop (read_from (length P) T s₀ low) ≡ false → Inner P M T s₀ inspections₀ s next-inspections next_word low
      inner-on t =
          record {
            same = inner.same;
            here = taken.here;
            upto = omega (arith, taken.lower, inner.upto);
            reading =
                reading-on w.given.lawful (window_bytes (length P) T s₀ w.given.text) inner.reading (low - s₀) (omega (arith, taken.lower))
                (omega (arith, taken.near, taken.here, inner.here)) taken.group taken.holds t;
            inspected = omega (arith, inner.inspected, taken.inspected);
          }

      -- it does: the search goes on at the window start after the position of the stop
      pub inner-stop : M.stop (read_from (length P) T s₀ low) ≡ true → Going (scanned_by P M) (length P) T range before (low + 1) at next-inspections after
      inner-stop t =
          let read : length (read_from (length P) T s₀ low) ≡ length P - (low - s₀)
          = length-drop (low - s₀) (window (length P) T s₀) ∙ ap (λ (n : ℕ). n - (low - s₀)) (window-whole (length P) T s₀ window-upto) in
          let offset : length P - (length P - (low - s₀)) ≡ low - s₀ = omega (arith, taken.lower, inner.upto) in
          let next : s₀ + (low - s₀) + 1 ≡ low + 1 = omega (arith, taken.here) in
          let counted : inspections₀ + (length P - (low - s₀)) ≡ next-inspections = omega (arith, taken.inspected, inner.inspected, taken.here, taken.lower, inner.upto) in
          rw (next, counted) at
          (going-stop w.going w.inside w.place (low - s₀) (length P - (low - s₀)) (omega (arith, w.given.fitting.short))
          (rw (read, offset) at
          (reading-stop w.given.lawful (window_bytes (length P) T s₀ w.given.text) inner.reading (low - s₀) (omega (arith, taken.lower))
          (omega (arith, taken.near, taken.here, inner.here)) taken.group t)))

    -- what is read lies in the text
    pub inner-upto : p ≤ length T
    inner-upto = omega (arith, inner.upto, window-upto)

    -- the byte before p is added
    first-added : s < p → word + get_or units (get_or T (p - 1) 0) 0 ≡ word_of P M.layout (read_from (length P) T s₀ (p - 1))
    first-added h = byte-added p (omega (arith, inner.same)) inner.upto word inner.reading.holds

    -- one byte taken as a step
    pub single-taken : s < p → 1 ≤ M.most → Group M.cut (window (length P) T s₀) (p - 1 - s₀) (p - s₀)
        → Taken P M T s₀ p inspections (p - 1) (word + get_or units (get_or T (p - 1) 0) 0) (inspections + 1)
    single-taken h some group =
        record {
          here = omega (arith, inner.same);
          lower = omega (arith, inner.same);
          near = omega (arith, inner.same);
          group = group;
          holds = first-added h;
          inspected = omega (arith, inner.same);
        }

    -- the leftmost byte, where no other is left
    pub alone-taken : s < p → p ≤ s + 1 → 1 ≤ M.most → Group M.cut (window (length P) T s₀) (s - s₀) (p - s₀)
        → Taken P M T s₀ p inspections s (word + get_or units (get_or T s 0) 0) (inspections + 1)
    alone-taken h last some group =
        let left : p - 1 ≡ s = omega arith in
        rw left at (single-taken h some (rw left group))

    -- the right one of two bytes, and both
    pub pair-first : s + 1 < p → word + get_or units (get_or T (p - 2 + 1) 0) 0 ≡ word_of P M.layout (read_from (length P) T s₀ (p - 1))
    pair-first h =
        let right : p - 1 ≡ p - 2 + 1 = omega arith in
        rw (← right) (first-added (omega arith))

    pub pair-taken : s + 1 < p → 2 ≤ M.most → Group M.cut (window (length P) T s₀) (p - 2 - s₀) (p - s₀)
        → Taken P M T s₀ p inspections (p - 2) (word + get_or units (get_or T (p - 2 + 1) 0) 0 + get_or units (get_or T (p - 2) 0) 0) (inspections + 2)
    pair-taken h some group =
        let left : p - 1 - 1 ≡ p - 2 = omega arith in
        record {
          here = omega (arith, inner.same);
          lower = omega (arith, inner.same);
          near = omega (arith, inner.same);
          group = group;
          holds = rw left at (byte-added (p - 1) (omega (arith, inner.same)) (omega (arith, inner.upto)) _ (pair-first h));
          inspected = omega (arith, inner.same);
        }

    -- all of the window is read: a match
    pub inner-end : p ≤ s → Going (scanned_by P M) (length P) T range before (s + 1) (at + 1) inspections (set after at (range.base + s))
    inner-end done =
        let none : p - s₀ ≡ 0 = omega (arith, inner.same) in
        let counted : inspections ≡ inspections₀ + length P = omega (arith, inner.inspected, inner.here, inner.same) in
        rw (inner.same, counted)
        (going-match w.going w.inside w.place (length P) (omega (arith, w.given.fitting.short))
        (rw (window-whole (length P) T s₀ window-upto) at (reading-end w.given.lawful (rw none at inner.reading))))
