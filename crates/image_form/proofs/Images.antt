-- What is read in an image is what was written.
use mathlib.Core.Path.{◌≡◌, refl, sym, ap, ap₂, ◌∙◌}
use mathlib.Core.Bool.{true, false}
use mathlib.Core.List.{List, [], ◌∷◌, ◌++◌, append_assoc, append-nil}
use Prim.Native.Nat.{ℕ, ◌+◌, ◌-◌}
use native.Mathlib.Omega.{arith}
use lib.ListN.{length, get_or, take, drop, length-append}
use lib.Seq.{take-append_seam, drop-append_seam}
use Rattle.image_form.specs.Image.{Parts, parts_with, low_first, contents, image, Sized}
use Rattle.image_form.specs.Decode.{from_low_first, kind_at, length_of, end_of, body_of, kinds_right, bad_form, parts_of}
use Rattle.image_form.proofs.Numbers.{number-low_first, length-low_first}
use Rattle.image_form.proofs.Contents.{end-first, end-next, taken}

length-contents : (pattern_len tail_len : ℕ) → length (contents pattern_len tail_len) ≡ 13
unfolding contents low_first
length-contents pattern_len tail_len = refl

pub length-image : (parts : Parts) → length (image parts) ≡ 13 + 6 + length parts.pattern + length parts.tail
unfolding image contents low_first
length-image parts = simp (length-append) (omega arith)

-- what stands after a front is found there
middle : (front U rest : List ℕ) → take (length U) (drop (length front) (front ++ U ++ rest)) ≡ U
middle front U rest =
    ap (λ (l : List ℕ). take (length U) (drop (length front) l)) (append_assoc front U rest)
    ∙ ap (take (length U)) (drop-append_seam front (U ++ rest))
    ∙ take-append_seam U rest

module _ {parts : Parts} (sized : Sized parts) where
  abbrev P : List ℕ
  P = parts.pattern

  abbrev settings : List ℕ
  settings = parts.k ∷ parts.method ∷ []

  abbrev number : List ℕ
  number = low_first 4 parts.total

  abbrev head : List ℕ
  head = contents (length P) (length parts.tail)

  -- the entries say the lengths,
  length-1 : length_of 1 (image parts) ≡ length P
  unfolding image contents length_of low_first
  length-1 = number-low_first 2 (length P) sized.pattern-short

  length-2 : length_of 2 (image parts) ≡ 2
  unfolding image contents length_of low_first from_low_first
  length-2 = refl

  length-3 : length_of 3 (image parts) ≡ 4
  unfolding image contents length_of low_first from_low_first
  length-3 = refl

  length-4 : length_of 4 (image parts) ≡ length parts.tail
  unfolding image contents length_of low_first
  length-4 = number-low_first 2 (length parts.tail) sized.tail-short

  -- which put the bodies one after the other,
  end-1 : end_of 1 (image parts) ≡ 13 + length P
  end-1 = omega (arith, end-first (image parts), end-next (image parts) 0, length-1)

  end-2 : end_of 2 (image parts) ≡ 13 + length P + 2
  end-2 = omega (arith, end-1, end-next (image parts) 1, length-2)

  end-3 : end_of 3 (image parts) ≡ 13 + length P + 6
  end-3 = omega (arith, end-2, end-next (image parts) 2, length-3)

  end-4 : end_of 4 (image parts) ≡ length (image parts)
  end-4 = omega (arith, end-3, end-next (image parts) 3, length-4, length-image parts)

  -- where each is found
  found : (kind : ℕ) (front U rest : List ℕ) → image parts ≡ front ++ U ++ rest → end_of (kind - 1) (image parts) ≡ length front
      → length_of kind (image parts) ≡ length U → body_of kind (image parts) ≡ U
  unfolding body_of
  found kind front U rest e end len =
      ap₂ (λ (n at : ℕ). take n (drop at (image parts))) len end
      ∙ ap (λ (l : List ℕ). take (length U) (drop (length front) l)) e
      ∙ middle front U rest

  body-1 : body_of 1 (image parts) ≡ P
  unfolding image
  body-1 =
      found 1 head P (settings ++ (number ++ parts.tail)) (append_assoc (head ++ P ++ settings) number parts.tail ∙ append_assoc (head ++ P) settings (number ++ parts.tail))
      (end-first (image parts) ∙ sym (length-contents (length P) (length parts.tail)))
      length-1

  body-2 : body_of 2 (image parts) ≡ settings
  unfolding image
  body-2 =
      found 2 (head ++ P) settings (number ++ parts.tail) (append_assoc (head ++ P ++ settings) number parts.tail)
      (omega (arith, end-1, length-append head P, length-contents (length P) (length parts.tail)))
      length-2

  body-3 : body_of 3 (image parts) ≡ number
  unfolding image
  body-3 =
      found 3 (head ++ P ++ settings) number parts.tail refl
      (omega (arith, end-2, length-append (head ++ P) settings, length-append head P, length-contents (length P) (length parts.tail)))
      (length-3 ∙ sym (length-low_first 4 parts.total))

  body-4 : body_of 4 (image parts) ≡ parts.tail
  unfolding image
  body-4 =
      found 4 (head ++ P ++ settings ++ number) parts.tail [] (sym (append-nil (image parts)))
      (omega (
        arith,
        end-3,
        length-append (head ++ P ++ settings) number,
        length-append (head ++ P) settings,
        length-append head P,
        length-contents (length P) (length parts.tail),
        length-low_first 4 parts.total,
      ))
      length-4

  first_byte : get_or (image parts) 0 0 ≡ 4
  unfolding image contents
  first_byte = refl

  kinds-right : kinds_right (image parts) ≡ true
  unfolding image contents low_first kinds_right kind_at
  kinds-right = refl

  -- load takes the form
  pub image-taken : bad_form (image parts) ≡ false
  image-taken =
      taken (image parts)
      (record {
        long = omega (arith, length-image parts);
        first = first_byte;
        kinds = kinds-right;
        two = length-2;
        four = length-3;
        whole = sym end-4;
      })

  -- and finds the parts
  pub parts-back : parts_of (image parts) ≡ parts
  parts-back = rw (body-1, body-2, ap from_low_first body-3 ∙ number-low_first 4 parts.total sized.total-fits, body-4) refl

-- equal images come only from equal parts
pub image_injective : {parts parts' : Parts} → Sized parts → Sized parts' → image parts ≡ image parts' → parts ≡ parts'
image_injective sized sized' e = sym (parts-back sized) ∙ ap parts_of e ∙ parts-back sized'

-- The example of document 01, "The saved image": the pattern `ab` with k 0 and method 2, nothing fed yet
pub example : image (parts_with (97 ∷ 98 ∷ []) 0 2 0 [])
    ≡ 4 ∷ 1 ∷ 2 ∷ 0 ∷ 2 ∷ 2 ∷ 0 ∷ 3 ∷ 4 ∷ 0 ∷ 4 ∷ 0 ∷ 0 ∷ 97 ∷ 98 ∷ 0 ∷ 2 ∷ 0 ∷ 0 ∷ 0 ∷ 0 ∷ []
unfolding image contents low_first
example = refl

-- The same search after `a` was fed, and its bytes with the kinds 3 and 4 exchanged
pub example-moved-on : image (parts_with (97 ∷ 98 ∷ []) 0 2 1 (97 ∷ []))
    ≡ 4 ∷ 1 ∷ 2 ∷ 0 ∷ 2 ∷ 2 ∷ 0 ∷ 3 ∷ 4 ∷ 0 ∷ 4 ∷ 1 ∷ 0 ∷ 97 ∷ 98 ∷ 0 ∷ 2 ∷ 1 ∷ 0 ∷ 0 ∷ 0 ∷ 97 ∷ []
unfolding image contents low_first
example-moved-on = refl

example-other-order : bad_form (4 ∷ 1 ∷ 2 ∷ 0 ∷ 2 ∷ 2 ∷ 0 ∷ 4 ∷ 1 ∷ 0 ∷ 3 ∷ 4 ∷ 0 ∷ 97 ∷ 98 ∷ 0 ∷ 2 ∷ 97 ∷ 1 ∷ 0 ∷ 0 ∷ 0 ∷ []) ≡ true
unfolding bad_form kinds_right kind_at
example-other-order = refl

-- The example of 9, "When a call says no": an image that ends after its first byte
example-refused : bad_form (4 ∷ []) ≡ true
unfolding bad_form
example-refused = refl

-- and that of 10: a search for `a` that was fed nothing takes 20 bytes
example-length : length (image (parts_with (97 ∷ []) 0 1 0 [])) ≡ 20
example-length = length-image (parts_with (97 ∷ []) 0 1 0 [])
