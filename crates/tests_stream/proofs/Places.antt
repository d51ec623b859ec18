-- What stands at a place, by the tests that the code makes.
use borrow.Author.Tests.{lt-ltb, le-ltb}
use mathlib.Core.Path.{◌≡◌, ap, ◌∙◌}
use mathlib.Core.List.{List}
use Prim.Native.Nat.{ℕ, ◌+◌, ◌≤◌, ◌<◌}
use lib.ListN.{length}
use Rattle.image_form.specs.Decode.{from_low_first}
use Rattle.tests_stream.specs.declared.Part.{Part}
use Rattle.tests_stream.specs.Reading.{nowhere, part_with, part_at, bytes_in, bytes_at, number_with, number_at}

pub part-there : (stream : List ℕ) (at count : ℕ) → at + count ≤ length stream → part_with at (at + count) (at + count) ≡ part_at stream at count
unfolding part_at
part-there stream at count h = rw (le-ltb (length stream) (at + count) h)

pub part-short : (stream : List ℕ) (at count : ℕ) → length stream < at + count → part_with 0 0 nowhere ≡ part_at stream at count
unfolding part_at
part-short stream at count h = rw (lt-ltb (length stream) (at + count) h)

module _
    (stream : List ℕ) (at width : ℕ) {part : Part} (is : part ≡ part_at stream at width)
    {value : ℕ} (written : value ≡ from_low_first (bytes_in stream part)) where
  -- what the bytes write, put as the part says where they stand
  found : value ≡ from_low_first (bytes_at stream at width)
  found = written ∙ ap (λ (p : Part). from_low_first (bytes_in stream p)) is

  pub number_fits : (most : ℕ) → value ≤ most → number_with value part.next ≡ number_at stream at width most
  unfolding number_at
  number_fits most h = rw (← found, is, le-ltb most value h)

  pub number-large : (most : ℕ) → most < value → number_with 0 nowhere ≡ number_at stream at width most
  unfolding number_at
  number-large most h = rw (← found, lt-ltb most value h)
