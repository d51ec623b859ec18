-- What the tests of a call say of the parts that a search holds.
use mathlib.Core.Path.{◌≡◌, refl, ap, ap₂, ◌∙◌}
use mathlib.Core.Bool.{Bool}
use mathlib.Core.List.{List, ◌++◌}
use Prim.Native.Nat.{ℕ, ◌+◌, ◌-◌, ◌<◌, ◌^◌}
use native.Mathlib.Omega.{arith}
use lib.ListN.{length, replicate}
use lib.Seq.{take-append_seam}
use Rattle.jumbled.specs.Refusals.{given, length_tests, tail_length, form_tests, buffer_tests, method_tests, pattern_tests, search_tests, chunk_tests, feed_tests, set_method_tests, save_tests, load_tests}
use Rattle.jumbled.proofs.Admission.{given-append-none, Admitted, admitted, method-changed, chunk-taken, search-right, length-again}
use Rattle.image_form.specs.Image.{Parts, parts_with, image, Sized}
use Rattle.image_form.specs.Decode.{parts_of}
use Rattle.image_form.proofs.Images.{image-taken, parts-back}
use Rattle.search.specs.declared.Search.{Search}
use Rattle.search.specs.Searches.{pattern_of, tail_of, parts_of_search, stored, blank_search}
use Rattle.search.specs.Calls.{handed_tests, handed_number, feed_number, set_method_number, image_of, save_number, parts_tests, parts_number, load_number}
use Rattle.search.proofs.Handed.{handed-numbered, sound}

-- ---- the parts of a search that `stored` gives

pub pattern-stored : (parts : Parts) → pattern_of (stored parts) ≡ parts.pattern
pattern-stored parts = take-append_seam parts.pattern (replicate (64 - length parts.pattern) 0)

pub tail-stored : (parts : Parts) → tail_of (stored parts) ≡ parts.tail
tail-stored parts = take-append_seam parts.tail (replicate (63 - length parts.tail) 0)

pub parts-stored : (parts : Parts) → parts_of_search (stored parts) ≡ parts
parts-stored parts =
    ap₂ (λ (P tail : List ℕ). parts_with P parts.k parts.method parts.total tail) (pattern-stored parts) (tail-stored parts)

-- its tests are those of its parts
pub handed-stored : (parts : Parts) → handed_number (stored parts) ≡ parts_number parts
unfolding handed_number handed_tests parts_tests
handed-stored parts =
    ap (λ (P : List ℕ). given (length_tests (length parts.pattern) ++ search_tests P parts.k parts.method parts.total (length parts.tail))) (pattern-stored parts)
    ∙ length-again parts.pattern parts.k parts.method parts.total (length parts.tail)

-- ---- an accepted feed: n stays within 32 bits

pub feed-total : (s : Search) (chunk list : List ℕ) → feed_number s chunk list ≡ 0 → s.total + length chunk < 2 ^ 32
unfolding feed_number feed_tests
feed-total s chunk list e =
    let later = (given-append-none (handed_tests s) (chunk_tests s.total (length chunk) (length list)) (handed-numbered s) e).1 in
    omega (arith, (chunk-taken s.total (length chunk) (length list) later).fits)

-- ---- an accepted change of method: the new one is admitted

pub set-admitted : (s : Search) (new_method : ℕ) → set_method_number s new_method ≡ 0 → given (pattern_tests (pattern_of s) s.k new_method) ≡ 0
unfolding set_method_number set_method_tests handed_number
set-admitted s new_method e =
    let tests = given-append-none (handed_tests s) (method_tests (pattern_of s) s.k new_method) (handed-numbered s) e in
    method-changed (pattern_of s) s.k s.method new_method (handed-admitted s tests.0) tests.1
  where
    handed-admitted : (t : Search) → given (handed_tests t) ≡ 0 → given (pattern_tests (pattern_of t) t.k t.method) ≡ 0
    handed-admitted t none = (sound t none).admits

-- ---- an accepted save: the search is in order

pub handed-saved : (s : Search) (buffer : List ℕ) → save_number s buffer ≡ 0 → handed_number s ≡ 0
unfolding save_number save_tests handed_number
handed-saved s buffer e = (given-append-none (handed_tests s) (buffer_tests (length buffer) (length (image_of s))) (handed-numbered s) e).0

-- ---- the blank search is refused with 1

pub feed-blank : (chunk list : List ℕ) → feed_number blank_search chunk list ≡ 1
unfolding feed_number feed_tests handed_tests length_tests given
feed-blank chunk list = refl

pub set-blank : (new_method : ℕ) → set_method_number blank_search new_method ≡ 1
unfolding set_method_number set_method_tests handed_tests length_tests given
set-blank new_method = refl

pub save-blank : (buffer : List ℕ) → save_number blank_search buffer ≡ 1
unfolding save_number save_tests handed_tests length_tests given
save-blank buffer = refl

-- ---- load gets an image

module _ (parts : Parts) (pattern-admitted : given (pattern_tests parts.pattern parts.k parts.method) ≡ 0)
    (tail-right : length parts.tail ≡ tail_length (length parts.pattern) parts.total) (total-fits : parts.total < 2 ^ 32) where
  pub sized : Sized parts
  sized =
      let a : Admitted parts.pattern parts.k parts.method = admitted parts.pattern parts.k parts.method pattern-admitted in
      record { pattern-short = omega arith; tail-short = omega arith; total-fits = total-fits }

  pub load-parts : parts_of (image parts) ≡ parts
  load-parts = parts-back sized

  pub load-taken : load_number (image parts) ≡ 0
  unfolding load_number load_tests form_tests given parts_tests
  load-taken =
      ap₂ (λ (bad : Bool) (p : Parts). given (load_tests bad (parts_tests p))) (image-taken sized) load-parts
      ∙ search-right parts.pattern parts.k parts.method parts.total (length parts.tail) pattern-admitted tail-right
