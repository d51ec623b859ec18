-- Every item of the stream ends no earlier than it starts, within the stream or nowhere; and a case takes a byte at least.
use borrow.Author.Tests.{ltb-false}
use mathlib.Core.Path.{◌≡◌, refl}
use mathlib.Core.Bool.{Bool, true, false, cond}
use mathlib.Core.List.{List}
use Prim.Native.Nat.{ℕ, ◌+◌, ◌≤◌, ◌<◌}
use native.Mathlib.Omega.{arith}
use lib.Dec.{eqb, ltb}
use lib.ListN.{length}
use Rattle.image_form.specs.Decode.{from_low_first}
use Rattle.tests_stream.specs.Fillings.{made_length}
use Rattle.tests_stream.specs.Reading.{nowhere, part_at, bytes_at, next_at, number_with, number_at}
use Rattle.tests_stream.specs.Texts.{Spelling, spelling, letters, text_with, text_of, plain_spelling, made_spelling, spelling_at, text_at}
use Rattle.tests_stream.specs.Kinds.{is_hand}
use Rattle.tests_stream.specs.declared.cases.Kind.{Kind}
use Rattle.tests_stream.specs.Arguments.{case_text_at, method_at, case_at, kind_at, stored_case_at}
use Rattle.tests_stream.specs.declared.Number.{Number}
use Rattle.tests_stream.specs.declared.Text.{Text}

-- from a place to one that is no earlier
pub record Onward (at next : ℕ) : Type 0 where
  pub no-earlier : at ≤ next
  pub at_most : next ≤ nowhere

pub then-onward : {a b c : ℕ} → Onward a b → Onward b c → Onward a c
then-onward first second = record { no-earlier = omega arith; at_most = second.at_most }

-- whichever of two items it is
pub either-onward : {A : Type 0} (next : A → ℕ) {at : ℕ} (t : Bool) (x y : A) → Onward at (next x) → Onward at (next y) → Onward at (next (cond t x y))
either-onward next true x y first second = first
either-onward next false x y first second = second

module _ (stream : List ℕ) (long : length stream ≤ nowhere) where
  part-onward : (from at count : ℕ) → from ≤ nowhere → from ≤ at + count → Onward from (part_at stream at count).next
  unfolding part_at
  part-onward from at count small past = go (ltb (length stream) (at + count)) refl
    where
      go : (t : Bool) → ltb (length stream) (at + count) ≡ t → Onward from (part_at stream at count).next
      go true e = rw e (record { no-earlier = small; at_most = omega arith })
      go false e = rw e (record { no-earlier = past; at_most = omega (arith, ltb-false (length stream) (at + count) e) })

  number_past : (from at width most : ℕ) → from ≤ nowhere → from ≤ at + width → Onward from (number_at stream at width most).next
  unfolding number_at
  number_past from at width most small past =
      let value = from_low_first (bytes_at stream at width) in
      either-onward (λ (n : Number). n.next) (ltb most value) (number_with 0 nowhere) (number_with value (next_at stream at width))
      (record { no-earlier = small; at_most = omega arith }) (part-onward from at width small past)

  pub number-onward : (at width most : ℕ) → at ≤ nowhere → Onward at (number_at stream at width most).next
  number-onward at width most small = number_past at at width most small (omega arith)

  -- ---- texts

  spelled-onward : (s : Spelling) → s.at ≤ nowhere → Onward s.at (text_of stream s).next
  unfolding text_of
  spelled-onward s small =
      let made = made_length (letters stream s) s.len in
      either-onward (λ (n : ℕ). n) (ltb made s.len) nowhere (next_at stream s.at s.count)
      (record { no-earlier = small; at_most = omega arith }) (part-onward s.at s.at s.count small (omega arith))

  plain-onward : (at longest : ℕ) → at ≤ nowhere → Onward at (plain_spelling stream at longest).at
  unfolding plain_spelling
  plain-onward at longest small = number-onward at 2 longest small

  made-onward : (at form longest : ℕ) → at ≤ nowhere → Onward at (made_spelling stream at form longest).at
  unfolding made_spelling
  made-onward at form longest small =
      let len = number-onward at 4 longest small in
      let seed = number-onward _ _ 4294967295 len.at_most in
      let count = number-onward _ 1 255 seed.at_most in
      then-onward (then-onward len seed) count

  spelling-onward : (at longest : ℕ) → at ≤ nowhere → Onward at (spelling_at stream at longest).at
  unfolding spelling_at
  spelling-onward at longest small =
      let form = number-onward at 1 2 small in
      let number = number_at stream at 1 2 in
      then-onward form
      (either-onward (λ (s : Spelling). s.at) (ltb 0 number.value) (made_spelling stream number.next number.value longest)
      (plain_spelling stream number.next longest) (made-onward _ _ longest form.at_most) (plain-onward _ longest form.at_most))

  text-onward : (at longest : ℕ) → at ≤ nowhere → Onward at (text_at stream at longest).next
  unfolding text_at
  text-onward at longest small =
      let start = spelling-onward at longest small in
      either-onward (λ (t : Text). t.next) (eqb longest 0) (text_with 0 at) (text_of stream (spelling_at stream at longest))
      (record { no-earlier = omega arith; at_most = small })
      (then-onward start (spelled-onward (spelling_at stream at longest) start.at_most))

  case-text-onward : (at : ℕ) (kind : Kind) (longest : ℕ) → at ≤ nowhere → Onward at (case_text_at stream at kind longest).next
  unfolding case_text_at
  case-text-onward at kind longest small =
      let hand = spelling at 149 false 0 149 in
      either-onward (λ (t : Text). t.next) (is_hand kind) (text_of stream hand) (text_at stream at longest)
      (spelled-onward hand small) (text-onward at longest small)

  -- ---- a case

  arguments-onward : (at : ℕ) (kind : Kind) → at ≤ nowhere → Onward at (case_at stream at kind).next
  unfolding case_at method_at
  arguments-onward at kind small =
      let pattern = text-onward at _ small in
      let k = number-onward _ _ 255 pattern.at_most in
      let method = number-onward _ _ 255 k.at_most in
      let text = case-text-onward _ kind _ method.at_most in
      let places = number-onward _ _ _ text.at_most in
      then-onward pattern (then-onward k (then-onward method (then-onward text places)))

  kind-onward : (at : ℕ) → at < length stream → Onward (at + 1) (kind_at stream at).next
  unfolding kind_at
  kind-onward at inside =
      let kind = number_at stream at 1 14 in
      either-onward (λ (n : Number). n.next) (eqb kind.value 0) (number_with 0 nowhere) kind
      (record { no-earlier = omega arith; at_most = omega arith }) (number_past (at + 1) at 1 14 (omega arith) (omega arith))

  pub case-onward : (at : ℕ) (kind : Kind) → at < length stream → Onward (at + 1) (stored_case_at stream at kind).next
  unfolding stored_case_at
  case-onward at kind inside =
      let number = kind-onward at inside in
      then-onward number (arguments-onward _ kind number.at_most)
