-- `sheet::whole` meets its contract: the tests of a whole search, the count, the test of the buffer, the search, and the sheet.
use mathlib.Core.Path.{◌≡◌, sym, ap, ◌∙◌}
use mathlib.Core.List.{List}
use Prim.Native.Nat.{ℕ, ◌≤◌, ◌<◌}
use native.Mathlib.Omega.{arith}
use lib.ListN.{length, take}
use lib.Seq.{length-take-le}
use Rattle.std.proofs.lemmas.Result.{err_from_is_err_and}
use Rattle.jumbled.specs.Match.{positions}
use Rattle.answers.specs.declared.Refusal.TheVariants.{BufferTooShort}
use Rattle.lent.specs.declared.SearchCounts.{SearchCounts}
use Rattle.search_whole.specs.Whole.{whole_number, Searched}
use Rattle.search_whole.proofs.Places.{places-enough, places-first}
use Rattle.sheet_form.specs.Sheet.{sheet_of, sheet_bytes}
use Rattle.sheet.proofs.Terms.{countable, few-lines, sheet-bytes, sheet-fits}
use Rattle.sheet.proofs.Answers.{number-early, number_short, number-none, sheet-refusal, sheet-written}
use Rattle.sheet.proofs.whole.Goals as goal
use Rattle.jumbled.specs.Refusals.{given, whole_tests}
use Rattle.lent.specs.Placed.{placed}

-- past the tests of the whole search
accepted : (P : List ℕ) (k method : ℕ) (T list : List ℕ) → 0 ≡ given (whole_tests P k method (length T) (length list)) → whole_number P k method T list ≡ 0
unfolding whole_number
accepted P k method T list tested = sym tested

-- a search by the method that was taken is one by the method of the given number
search_of : {P : List ℕ} {k taken method : ℕ} {T before after : List ℕ} {r : SearchCounts} → taken ≡ method → Searched P k taken T before after r
    → Searched P k method T before after r
search_of same searched = rw same at searched

-- the lines are the positions to be listed
module _ (P : List ℕ) (k method : ℕ) (T list : List ℕ) (taken : whole_number P k method T list ≡ 0) {lines : ℕ} (counted : lines ≡ length (positions P k T)) where
  -- the sheet's length
  measured : {len : ℕ} → len ≡ sheet_bytes lines → len ≡ length (sheet_of P k T)
  measured e = e ∙ ap sheet_bytes counted ∙ sym (sheet-bytes P k method T list taken)

  -- once the text is searched the list's first places have the positions
  module _ {after : List ℕ} (searched : after ≡ placed list 0 (positions P k T)) where
    enough : lines ≤ length after
    enough = omega (arith, places-enough P k method T list taken searched, counted)

    listed : take lines after ≡ positions P k T
    listed = ap (λ (n : ℕ). take n after) counted ∙ places-first P k method T list taken searched

pub returns-in_err-admitted : goal.returns-in_err-admitted
unfolding whole_number
returns-in_err-admitted c =
    let args = c.args in
    let refused = err_from_is_err_and c.from_residual.result c.from_residual.ensures.1 in
    rw (refused.1, refused.2)
    (sheet-refusal args.pattern.now args.k args.method args.text.now args.list.now args.buffer.now _
    (number-early args.pattern.now args.k args.method args.text.now args.list.now args.buffer.now _ c.in_err-admitted.ensures.number))

pub count_matches-lines-requires : goal.count_matches-lines-requires
unfolding whole_number
count_matches-lines-requires c =
    let args = c.args in
    let taken = accepted args.pattern.now args.k args.method args.text.now args.list.now c.in_ok-admitted.ensures.number in
    countable args.pattern.now args.k args.method args.text.now args.list.now taken c.in_ok-admitted.ensures.taken.counted

pub sheet_length-requires : goal.sheet_length-requires
sheet_length-requires c =
    let args = c.args in
    let taken = accepted args.pattern.now args.k args.method args.text.now args.list.now c.in_ok-admitted.ensures.number in
    let few = few-lines args.pattern.now args.k args.method args.text.now args.list.now taken in
    omega (arith, few, c.count_matches-lines.ensures)

pub returns-then-buffer-sheet_length : goal.returns-then-buffer-sheet_length
returns-then-buffer-sheet_length c =
    let args = c.args in
    let taken = accepted args.pattern.now args.k args.method args.text.now args.list.now c.in_ok-admitted.ensures.number in
    let size = measured args.pattern.now args.k args.method args.text.now args.list.now taken c.count_matches-lines.ensures c.sheet_length.ensures in
    let short : length args.buffer.now < length (sheet_of args.pattern.now args.k args.text.now) = omega (arith, size, c.if-buffer-sheet_length.true) in
    sheet-refusal args.pattern.now args.k args.method args.text.now args.list.now args.buffer.now BufferTooShort (sym (number_short args.pattern.now args.k args.method args.text.now args.list.now args.buffer.now taken short))

pub search_accepted-searched-requires : goal.search_accepted-searched-requires
unfolding whole_number
search_accepted-searched-requires c =
    let args = c.args in
    let taken = accepted args.pattern.now args.k args.method args.text.now args.list.now c.in_ok-admitted.ensures.number in
    record { counted = c.in_ok-admitted.ensures.taken.counted; accepted = rw c.in_ok-admitted.ensures.taken.named taken }

pub slice_bounds-write_sheet-end : goal.slice_bounds-write_sheet-end
slice_bounds-write_sheet-end c =
    let args = c.args in
    let taken = accepted args.pattern.now args.k args.method args.text.now args.list.now c.in_ok-admitted.ensures.number in
    enough args.pattern.now args.k args.method args.text.now args.list.now taken c.count_matches-lines.ensures (search_of c.in_ok-admitted.ensures.taken.named c.search_accepted-searched.ensures).list

pub slice_bounds-write_sheet-end-2 : goal.slice_bounds-write_sheet-end-2
slice_bounds-write_sheet-end-2 c =
    let args = c.args in
    let taken = accepted args.pattern.now args.k args.method args.text.now args.list.now c.in_ok-admitted.ensures.number in
    sym (length-take-le c.count_matches-lines.result _ (enough args.pattern.now args.k args.method args.text.now args.list.now taken c.count_matches-lines.ensures (search_of c.in_ok-admitted.ensures.taken.named c.search_accepted-searched.ensures).list))

pub write_sheet-len-requires : goal.write_sheet-len-requires
write_sheet-len-requires c =
    let args = c.args in
    let taken = accepted args.pattern.now args.k args.method args.text.now args.list.now c.in_ok-admitted.ensures.number in
    let size = measured args.pattern.now args.k args.method args.text.now args.list.now taken c.count_matches-lines.ensures c.sheet_length.ensures in
    let fits : length (sheet_of args.pattern.now args.k args.text.now) ≤ length args.buffer.now = omega (arith, size, c.if-buffer-sheet_length.false) in
    rw (listed args.pattern.now args.k args.method args.text.now args.list.now taken c.count_matches-lines.ensures (search_of c.in_ok-admitted.ensures.taken.named c.search_accepted-searched.ensures).list) (sheet-fits args.pattern.now args.k args.method args.text.now args.list.now taken fits)

pub returns : goal.returns
returns c =
    let args = c.args in
    let taken = accepted args.pattern.now args.k args.method args.text.now args.list.now c.in_ok-admitted.ensures.number in
    let size = measured args.pattern.now args.k args.method args.text.now args.list.now taken c.count_matches-lines.ensures c.sheet_length.ensures in
    let fits : length (sheet_of args.pattern.now args.k args.text.now) ≤ length args.buffer.now = omega (arith, size, c.if-buffer-sheet_length.false) in
    let none = number-none args.pattern.now args.k args.method args.text.now args.list.now args.buffer.now taken fits in
    sheet-written args.pattern.now args.k args.method args.text.now args.list.now args.buffer.now none (search_of c.in_ok-admitted.ensures.taken.named c.search_accepted-searched.ensures)
    (rw (listed args.pattern.now args.k args.method args.text.now args.list.now taken c.count_matches-lines.ensures (search_of c.in_ok-admitted.ensures.taken.named c.search_accepted-searched.ensures).list) at c.write_sheet-len.ensures)
