-- What the window's word says of a window, and how the pass goes from window start to window start.
use mathlib.Core.Path.{◌≡◌, sym, ap, ap₂, ◌∙◌}
use mathlib.Core.Bool.{false, not, not-not}
use mathlib.Core.List.{List, [], ◌∷◌, ◌++◌, append-nil}
use Prim.Native.Nat.{ℕ, suc, ◌+◌, ◌-◌, ◌*◌, ◌^◌, ◌≤◌, ◌<◌}
use native.Mathlib.Nat.{zero-add, add-mul, one-mul, mul-le-mul_right}
use native.Mathlib.Omega.{arith}
use lib.Bits.{bit_and}
use lib.Dec.{leb, eqb}
use lib.ListN.{length, get_or, take, drop, length-take}
use borrow.Author.Tests.{lt-ltb, le-ltb}
use Rattle.jumbled.specs.Match.{Bytes, matches, window, window_prefix, starts, select}
use Rattle.jumbled.proofs.Counts.{bytes_take, bytes_drop}
use Rattle.jumbled.proofs.Selections.{select-same, select-none, select-few}
use Rattle.jumbled.proofs.Windows.{window-whole, window_bytes, window-last, window-first}
use Rattle.several_form.specs.Finds.{numbered, beside, collect, matching, finds}
use Rattle.several_form.specs.Mcount.{top_value, field_after}
use Rattle.several_form.proofs.Fields.{field-reached}
use Rattle.several_form.proofs.Passes.{common-length, mcount-inspections, mcount-none}
use Rattle.several_form.proofs.Separate.{collect-more, collect-few}
use Rattle.several_fields.specs.declared.Fields.{Fields}
use Rattle.several_fields.specs.Words.{packed, Several, WordsOf, Taking, Giving}
use Rattle.several_fields.proofs.Packing.{top-test, tops-none}
use Rattle.several_pass.specs.Passing.{Noted, tops_set, SearchedFor, PassedOver, still_taken, RoomsLeft}
use Rattle.several_pass.proofs.Noting.{noted-none, noted-lengths, noted_more}

module _ {m count : ℕ} {fields : Fields} {T positions numbers : List ℕ} (ready : SearchedFor m count fields T positions numbers) (bytes : Bytes T) where
  abbrev Ps : List (List ℕ)
  Ps = ready.patterns

  pub one-length : (f : ℕ) → f < count → length (numbered Ps (suc f)) ≡ m
  one-length f l = ready.together.one-length (suc f) (omega arith) (omega (arith, ready.counted))

  -- whose words they are
  abbrev pub several : Several fields
  several =
      record {
        count = count;
        pattern = λ f. numbered Ps (suc f);
        k = ready.k;
        waiting = m - ready.k;
        few = ready.few;
        short = λ f l. omega (arith, one-length f l, ready.together.short);
        tolerance = λ f l. omega (arith, one-length f l, ready.tolerance);
        fields-are = ready.fields-are;
      }

  -- what is found at a window start
  abbrev pub numbers_at : ℕ → List ℕ
  numbers_at s = matching Ps ready.k (window m T s)

  module _ (s : ℕ) (whole : s + m ≤ length T) where
    abbrev W : List ℕ
    W = window m T s

    abbrev value : ℕ → ℕ
    value f = field_after (numbered Ps (suc f)) ready.k W

    small : (f : ℕ) → f < count → value f < 256
    small f l = omega (arith, one-length f l, ready.tolerance, ready.together.short, window-whole m T s whole)

    -- a field has its top bit set where its pattern matches
    by_field : (f : ℕ) → f < count → leb top_value (value f) ≡ matches (numbered Ps (suc f)) ready.k W
    by_field f l =
        field-reached (numbered Ps (suc f)) ready.k (omega (arith, one-length f l, ready.together.short)) W (window-whole m T s whole ∙ sym (one-length f l)) (window_bytes m T s bytes)

    -- the pattern of a field has the next number
    by_number : (number : ℕ) → 1 ≤ number → matches (numbered Ps (suc (number - 1))) ready.k W ≡ matches (numbered Ps number) ready.k W
    by_number number from =
        let same : suc (number - 1) ≡ number = omega arith in
        ap (λ (i : ℕ). matches (numbered Ps i) ready.k W) same

    module _ {word : ℕ} {rooms' : List ℕ} (words : WordsOf several W word rooms') where
      pub set-matching : tops_set word count ≡ numbers_at s
      unfolding tops_set matching
      set-matching =
          select-same (λ number. not (eqb (bit_and word (top_value * 2 ^ (8 * (number - 1)))) 0)) (λ number. matches (numbered Ps number) ready.k W) 1 count
          (λ number from to. at (number - 1) (omega arith) ∙ by_number number from)
          ∙ ap (select (λ number. matches (numbered Ps number) ready.k W) 1) (sym ready.counted)
        where
          at : (f : ℕ) → f < count → not (eqb (bit_and word (top_value * 2 ^ (8 * f))) 0) ≡ matches (numbered Ps (suc f)) ready.k W
          at f l =
              ap (λ (x : ℕ). not (eqb (bit_and x (top_value * 2 ^ (8 * f))) 0)) words.window-word
              ∙ ap not (top-test value count small f l)
              ∙ not-not (leb top_value (value f))
              ∙ by_field f l

      -- where no top bit is set nothing is found
      pub none-matching : bit_and word fields.tops ≡ 0 → numbers_at s ≡ []
      unfolding matching
      none-matching none =
          select-none (λ number. matches (numbered Ps number) ready.k W) 1 (length Ps)
          (λ number from to. sym (by_number number from) ∙ at (number - 1) (omega (arith, ready.counted)))
        where
          masked : bit_and (packed value count) (packed (λ f. top_value) count) ≡ 0
          masked = sym (ap₂ bit_and words.window-word ready.fields-are.tops_are) ∙ none

          at : (f : ℕ) → f < count → matches (numbered Ps (suc f)) ready.k W ≡ false
          at f l = sym (by_field f l) ∙ tops-none value count small masked f l

  -- ---- from window start to window start

  -- What holds before the window at s
  pub record Running (word : ℕ) (rooms' positions' numbers' : List ℕ) (at inspections s : ℕ) : Type 0 where
    pub within : s ≤ length T - m + 1
    pub words : WordsOf several (window_prefix m T s) word rooms'
    pub noted : Noted (collect numbers_at 0 s) 0 positions positions' numbers numbers' at
    pub inspected : inspections ≡ m - 1 + s

  -- before the first window
  pub begun : {word : ℕ} {rooms' : List ℕ} {inspections : ℕ} → WordsOf several (take (m - 1) T) word rooms' → inspections ≡ m - 1
      → Running word rooms' positions numbers 0 inspections 0
  unfolding collect
  begun words counted =
      record {
        within = omega arith;
        words = words;
        noted = noted-none 0 positions numbers;
        inspected = omega (arith, counted);
      }

  few-found : (s : ℕ) → length (collect numbers_at 0 s) ≤ s * count
  unfolding matching
  few-found s =
      collect-few numbers_at count
      (λ i. omega (arith, ready.counted, select-few (λ number. matches (numbered Ps number) ready.k (window m T i)) 1 (length Ps))) 0 s

  module _ (enough : m ≤ length T) {word : ℕ} {rooms' positions' numbers' : List ℕ} {at inspections s : ℕ}
      (here : Running word rooms' positions' numbers' at inspections s) where
    -- what is found so far has its places, and the lists have their lengths
    module _ (room : s ≤ length T) where
      most : s * count ≤ length T * count
      most = mul-le-mul_right count room

      placed-all : (length (collect numbers_at 0 s) ≤ length positions) × (length (collect numbers_at 0 s) ≤ length numbers)
      placed-all = (omega (arith, few-found s, most, ready.positions-room), omega (arith, few-found s, most, ready.numbers-room))

      pub same-lengths : (length positions' ≡ length positions) × (length numbers' ≡ length numbers)
      same-lengths = noted-lengths here.noted (omega (arith, placed-all.0)) (omega (arith, placed-all.1))

    -- in a turn of the loop
    module _ (in-loop : s < length T - m + 1) where
      pub whole : s + m ≤ length T
      whole = omega arith

      next-most : (s + 1) * count ≤ length T * count
      next-most = mul-le-mul_right count (omega (arith, ready.together.some))

      -- a place for every pattern
      pub places : (at + count ≤ length positions') × (at + count ≤ length numbers')
      places =
          let same = same-lengths (omega (arith, ready.together.some)) in
          let more = add-mul s 1 count in
          let one = one-mul count in (
            omega (arith, here.noted.next_place, few-found s, next-most, ready.positions-room, same.0),
            omega (arith, here.noted.next_place, few-found s, next-most, ready.numbers-room, same.1),
          )

      abbrev pub taking : Taking fields word (get_or T (s + m - 1) 0) rooms'
      taking =
          record {
            of = several;
            taken = window_prefix m T s;
            bytes = bytes_take (m - 1) (drop s T) (bytes_drop s T bytes);
            short = omega (arith, length-take (m - 1) (drop s T), ready.together.some, ready.together.short);
            words = here.words;
          }

      -- the window's last byte has entered
      module _ {full : ℕ} {rooms'' : List ℕ} (entered : WordsOf several (window_prefix m T s ++ (get_or T (s + m - 1) 0 ∷ [])) full rooms'') where
        pub over-window : WordsOf several (window m T s) full rooms''
        over-window = rw (← window-last m T s ready.together.some whole) at entered

        abbrev pub giving : Giving fields full (get_or T s 0) rooms''
        giving =
            record {
              of = several;
              staying = window_prefix m T (s + 1);
              bytes = bytes_take (m - 1) (drop (s + 1) T) (bytes_drop (s + 1) T bytes);
              short = omega (arith, length-take (m - 1) (drop (s + 1) T), ready.together.some, ready.together.short);
              words = rw (window-first m T s ready.together.some whole) at over-window;
            }

        -- what is found in the window is noted,
        pub noted-window : {positions'' numbers'' : List ℕ} {next : ℕ} → Noted (beside s (tops_set full count)) at positions' positions'' numbers' numbers'' next
            → Noted (collect numbers_at 0 (s + 1)) 0 positions positions'' numbers numbers'' next
        noted-window more =
            let placed = placed-all (omega (arith, ready.together.some)) in
            rw (collect-more numbers_at 0 s, zero-add s, ← set-matching s whole over-window)
            (noted_more here.noted (omega (arith, placed.0)) (omega (arith, placed.1)) more)

        -- or nothing is
        pub noted_nothing : bit_and full fields.tops ≡ 0 → Noted (collect numbers_at 0 (s + 1)) 0 positions positions' numbers numbers' at
        unfolding beside
        noted_nothing none =
            rw (collect-more numbers_at 0 s, zero-add s, none-matching s whole over-window none, append-nil (collect numbers_at 0 s)) here.noted

  -- the end of the pass
  pub passed : (enough : m ≤ length T) {word : ℕ} {rooms' positions' numbers' : List ℕ} {at inspections : ℕ}
      → Running word rooms' positions' numbers' at inspections (length T - m + 1)
      → PassedOver Ps ready.k T positions positions' numbers numbers' (record { found = at; inspections = inspections })
  unfolding finds
  passed enough here =
      let all : starts m T ≡ length T - m + 1 = omega arith in
      record {
        noted = rw (common-length ready.together, all) here.noted;
        inspected =
            here.inspected
            ∙ omega (arith, ready.together.some)
            ∙ sym (mcount-inspections Ps ready.k T (rw (common-length ready.together) enough));
      }

  -- with the words of the bytes still taken,
  pub rooms-left : m ≤ length T → {word : ℕ} {rooms' positions' numbers' : List ℕ} {at inspections : ℕ}
      → Running word rooms' positions' numbers' at inspections (length T - m + 1) → RoomsLeft Ps m count T rooms'
  unfolding still_taken
  rooms-left enough here = rw (le-ltb (length T) m enough) here.words.byte-words

  -- and of a text that has no window
  pub passed_none : length T < m → PassedOver Ps ready.k T positions positions numbers numbers (record { found = 0; inspections = 0 })
  unfolding finds collect
  passed_none short =
      let none : starts m T ≡ 0 = omega arith in
      record {
        noted = rw (common-length ready.together, none) (noted-none 0 positions numbers);
        inspected = sym (mcount-none Ps ready.k T (rw (common-length ready.together) short));
      }

  pub rooms-kept : {word : ℕ} {rooms : List ℕ} → length T < m → WordsOf several [] word rooms → RoomsLeft Ps m count T rooms
  unfolding still_taken
  rooms-kept short words = rw (lt-ltb (length T) m short) words.byte-words
