-- Bytes whose form load takes are the image of the parts that they hold: no two images hold the same parts.
use mathlib.Core.Path.{◌≡◌, refl, sym, ap, ap₂, ◌∙◌}
use mathlib.Core.Bool.{false}
use mathlib.Core.List.{List, [], ◌∷◌, ◌++◌}
use Prim.Native.Nat.{ℕ, suc, ◌+◌, ◌-◌, ◌*◌, ◌≤◌}
use native.Mathlib.Omega.{arith}
use lib.ListN.{length, get_or, take, drop, length-take, length-drop}
use lib.Seq.{drop-cons, take-add, take_all}
use Rattle.jumbled.specs.Match.{Bytes}
use Rattle.jumbled.proofs.Counts.{bytes_take, bytes_drop}
use Rattle.image_form.specs.Image.{low_first, entry, contents, image}
use Rattle.image_form.specs.Decode.{from_low_first, kind_at, length_of, end_of, body_of, bad_form, parts_of}
use Rattle.image_form.proofs.Numbers.{low_first-number}
use Rattle.image_form.proofs.Contents.{Formed, formed, kinds-known, end-first, end-next, length-body_of, two_bytes, four_bytes}

-- two bytes are the one and the other
pair : (l : List ℕ) → length l ≡ 2 → get_or l 0 0 ∷ get_or l 1 0 ∷ [] ≡ l
pair [] h = absurd (omega arith)
pair (a ∷ []) h = absurd (omega arith)
pair (a ∷ b ∷ []) h = refl
pair (a ∷ b ∷ c ∷ l) h = absurd (omega arith)

joined : {a a' b b' : List ℕ} → a ≡ a' → b ≡ b' → a ++ b ≡ a' ++ b'
joined e e' = ap₂ (λ (a b : List ℕ). a ++ b) e e'

module _ (bytes : List ℕ) (good : Bytes bytes) (form : bad_form bytes ≡ false) where
  f : Formed bytes
  f = formed bytes form

  -- each entry is the one that says its kind and length,
  entry-again : (i : ℕ) → 1 ≤ i → i ≤ 4 → take 3 (drop (3 * i - 2) bytes) ≡ entry i (length_of i bytes)
  unfolding kind_at length_of
  entry-again i least most =
      let next : suc (3 * i - 2) ≡ 3 * i - 1 = omega arith in
      let len = take 2 (drop (3 * i - 1) bytes) in
      let two : length len ≡ 2 = simp (length-take, length-drop) (omega (arith, f.long)) in
      ap (take 3) (drop-cons bytes (3 * i - 2) 0 (omega (arith, f.long)))
      ∙ ap₂ (λ (kind at : ℕ). kind ∷ take 2 (drop at bytes)) (kinds-known bytes f.kinds i least most) next
      ∙ ap (λ (l : List ℕ). i ∷ l) (sym (low_first-number 2 len two (bytes_take 2 _ (bytes_drop (3 * i - 1) bytes good))))

  contents-again : take 13 bytes ≡ contents (length_of 1 bytes) (length_of 4 bytes)
  unfolding contents
  contents-again =
      let first : take 1 bytes ≡ 4 ∷ [] =
      ap (take 1) (drop-cons bytes 0 0 (omega (arith, f.long))) ∙ ap (λ (b : ℕ). b ∷ []) f.first in
      let second = entry-again 2 (omega arith) (omega arith) ∙ ap (entry 2) f.two in
      let third = entry-again 3 (omega arith) (omega arith) ∙ ap (entry 3) f.four in
      take-add 10 3 bytes
      ∙ joined (take-add 7 3 bytes
      ∙ joined (take-add 4 3 bytes
      ∙ joined (take-add 1 3 bytes
      ∙ joined first (entry-again 1 (omega arith) (omega arith))) second) third) (entry-again 4 (omega arith) (omega arith))

  -- and each body follows the ones before it
  body-again : (kind : ℕ) → take (end_of (kind + 1) bytes) bytes ≡ take (end_of kind bytes) bytes ++ body_of (kind + 1) bytes
  unfolding body_of
  body-again kind =
      let this : kind ≡ kind + 1 - 1 = omega arith in
      ap (λ (n : ℕ). take n bytes) (end-next bytes kind)
      ∙ take-add (end_of kind bytes) (length_of (kind + 1) bytes) bytes
      ∙ ap (λ (i : ℕ). take (end_of kind bytes) bytes ++ take (length_of (kind + 1) bytes) (drop (end_of i bytes) bytes)) this

  pub image-again : image (parts_of bytes) ≡ bytes
  unfolding image body_of
  image-again =
      sym (
      sym (take_all (end_of 4 bytes) bytes (omega (arith, f.whole)))
      ∙ body-again 3
      ∙ joined (body-again 2
      ∙ joined (body-again 1
      ∙ joined (body-again 0
      ∙ joined (ap (λ (n : ℕ). take n bytes) (end-first bytes) ∙ contents-again ∙ ap₂ contents len-1 len-4) refl) settings) number) refl
      )
    where
      len-1 : length_of 1 bytes ≡ length (body_of 1 bytes)
      len-1 = sym (length-body_of bytes f 1 (omega arith) (omega arith))

      len-4 : length_of 4 bytes ≡ length (body_of 4 bytes)
      len-4 = sym (length-body_of bytes f 4 (omega arith) (omega arith))

      settings : body_of 2 bytes ≡ get_or (body_of 2 bytes) 0 0 ∷ get_or (body_of 2 bytes) 1 0 ∷ []
      settings = sym (pair (body_of 2 bytes) (two_bytes bytes form refl))

      number : body_of 3 bytes ≡ low_first 4 (from_low_first (body_of 3 bytes))
      number = sym (low_first-number 4 (body_of 3 bytes) (four_bytes bytes form refl) (bytes_take (length_of 3 bytes) _ (bytes_drop (end_of 2 bytes) bytes good)))
