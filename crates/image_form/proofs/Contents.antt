-- Laws of what any bytes say, read as an image.
use mathlib.Core.Path.{◌≡◌, refl, ap, ap₂, ◌∙◌}
use mathlib.Core.Bool.{Bool, true, false, not, ◌&&◌, ◌||◌}
use mathlib.Core.List.{List}
use Prim.Native.Nat.{ℕ, zero, suc, ◌+◌, ◌-◌, ◌*◌, ◌≤◌}
use native.Mathlib.Nat.{add-zero}
use native.Mathlib.Numerals.{add-one, unary_clauses}
use native.Mathlib.Omega.{arith}
use lib.Dec.{eqb}
use lib.ListN.{length, get_or, drop, length-take, length-drop}
use lib.Seq.{get_or-drop}
use borrow.Author.Tests.{eq-eqb, eqb-true, ltb-false, le-ltb, not-false}
use Rattle.image_form.specs.Decode.{kind_at, length_of, end_of, body_of, kinds_right, bad_form}
use Rattle.image_form.proofs.Numbers.{number-two}

-- ---- lengths and ends

module _ (image : List ℕ) where
  -- the two bytes of a length
  pub length-bytes : (kind : ℕ) → 13 ≤ length image → 1 ≤ kind → kind ≤ 4
      → length_of kind image ≡ get_or image (3 * kind - 1) 0 + 256 * get_or image (3 * kind) 0
  unfolding length_of
  length-bytes kind long least most =
      let rest : 2 ≤ length (drop (3 * kind - 1) image) = simp (length-drop) (omega arith) in
      let next : 3 * kind - 1 + 1 ≡ 3 * kind = omega arith in
      number-two (drop (3 * kind - 1) image) rest
      ∙ ap₂ (λ (low high : ℕ). low + 256 * high) (byte 0 (add-zero (3 * kind - 1))) (byte 1 next)
    where
      byte : (i : ℕ) {at : ℕ} → 3 * kind - 1 + i ≡ at → get_or (drop (3 * kind - 1) image) i 0 ≡ get_or image at 0
      byte i e = get_or-drop (3 * kind - 1) image i 0 ∙ ap (λ (at : ℕ). get_or image at 0) e

  pub end-first : end_of 0 image ≡ 13
  unfolding end_of
  end-first = refl

  pub end-next : (kind : ℕ) → end_of (kind + 1) image ≡ end_of kind image + length_of (kind + 1) image
  unfolding end_of
  end-next kind = rw (add-one kind) refl

  -- a body ends no later than the ones after it
  later-ends : (kind more : ℕ) → end_of kind image ≤ end_of (kind + more) image
  unfolding end_of
  later-ends kind zero = simp unary_clauses (omega arith)
  later-ends kind (suc more) = simp unary_clauses (omega (arith, later-ends kind more))

-- ---- the form

or-false : (a b : Bool) → (a || b) ≡ false → (a ≡ false) × (b ≡ false)
or-false true b h = (h, cc)
or-false false b h = (refl, h)

-- An image whose form load takes
pub record Formed (image : List ℕ) : Type 0 where
  pub long : 13 ≤ length image
  pub first : get_or image 0 0 ≡ 4
  pub kinds : kinds_right image ≡ true
  pub two : length_of 2 image ≡ 2
  pub four : length_of 3 image ≡ 4
  pub whole : length image ≡ end_of 4 image

equal : (a b : ℕ) → not (eqb a b) ≡ false → a ≡ b
equal a b h = eqb-true a b (not-false (eqb a b) h)

pub formed : (image : List ℕ) → bad_form image ≡ false → Formed image
unfolding bad_form
formed image h =
    let h₁ = or-false _ _ h in
    let h₂ = or-false _ _ h₁.1 in
    let h₃ = or-false _ _ h₂.1 in
    let h₄ = or-false _ _ h₃.1 in
    let h₅ = or-false _ _ h₄.1 in
    record {
      long = ltb-false (length image) 13 h₁.0;
      first = equal (get_or image 0 0) 4 h₂.0;
      kinds = not-false (kinds_right image) h₃.0;
      two = equal (length_of 2 image) 2 h₄.0;
      four = equal (length_of 3 image) 4 h₅.0;
      whole = equal (length image) (end_of 4 image) h₅.1;
    }

-- and every such image is taken
pub taken : (image : List ℕ) → Formed image → bad_form image ≡ false
unfolding bad_form
taken image f =
    rw (
      le-ltb (length image) 13 f.long,
      eq-eqb (get_or image 0 0) 4 f.first,
      f.kinds,
      eq-eqb (length_of 2 image) 2 f.two,
      eq-eqb (length_of 3 image) 4 f.four,
      eq-eqb (length image) (end_of 4 image) f.whole,
    )
    refl

-- ---- the kinds

and-true : (a b : Bool) → (a && b) ≡ true → (a ≡ true) × (b ≡ true)
and-true true b h = (refl, h)
and-true false b h = (h, cc)

-- entries of the right kinds: the i-th is of kind i
pub kinds-known : (image : List ℕ) → kinds_right image ≡ true → (i : ℕ) → 1 ≤ i → i ≤ 4 → kind_at i image ≡ i
unfolding kinds_right
kinds-known image h =
    let three = and-true (right 1 && right 2 && right 3) (right 4) h in
    let two = and-true (right 1 && right 2) (right 3) three.0 in
    let one = and-true (right 1) (right 2) two.0 in
    known one.0 one.1 two.1 three.1
  where
    right : ℕ → Bool
    right i = eqb (kind_at i image) i

    known : right 1 ≡ true → right 2 ≡ true → right 3 ≡ true → right 4 ≡ true → (i : ℕ) → 1 ≤ i → i ≤ 4 → kind_at i image ≡ i
    known h₁ h₂ h₃ h₄ zero least most = absurd (omega arith)
    known h₁ h₂ h₃ h₄ (suc zero) least most = eqb-true (kind_at 1 image) 1 h₁
    known h₁ h₂ h₃ h₄ (suc (suc zero)) least most = eqb-true (kind_at 2 image) 2 h₂
    known h₁ h₂ h₃ h₄ (suc (suc (suc zero))) least most = eqb-true (kind_at 3 image) 3 h₃
    known h₁ h₂ h₃ h₄ (suc (suc (suc (suc zero)))) least most = eqb-true (kind_at 4 image) 4 h₄
    known h₁ h₂ h₃ h₄ (suc (suc (suc (suc (suc i))))) least most = absurd (omega arith)

-- and where one is not, the form is bad
pub kind-refused : (image : List ℕ) (i : ℕ) → 1 ≤ i → i ≤ 4 → (kind_at i image ≡ i → ⊥) → bad_form image ≡ true
kind-refused image i least most other = by (bad_form image) refl
  where
    by : (bad : Bool) → bad_form image ≡ bad → bad_form image ≡ true
    by true e = e
    by false e = absurd (other (kinds-known image (formed image e).kinds i least most))

-- ---- the bodies

module _ (image : List ℕ) (f : Formed image) (kind : ℕ) (least : 1 ≤ kind) (most : kind ≤ 4) where
  -- a body lies within the image,
  pub body-within : end_of (kind - 1) image + length_of kind image ≤ length image
  body-within =
      let this : kind - 1 + 1 ≡ kind = omega arith in
      let last : kind + (4 - kind) ≡ 4 = omega arith in
      let end : end_of kind image ≡ end_of (kind - 1) image + length_of kind image =
      rw this at (end-next image (kind - 1)) in
      omega (arith, rw last at (later-ends image kind (4 - kind)), f.whole)

  -- and so has the length that its entry says
  pub length-body_of : length (body_of kind image) ≡ length_of kind image
  unfolding body_of
  length-body_of = simp (length-take, length-drop) (omega (arith, body-within))

-- the bodies of kinds 2 and 3
module _ (image : List ℕ) {l : List ℕ} (form : bad_form image ≡ false) where
  pub two_bytes : l ≡ body_of 2 image → length l ≡ 2
  two_bytes e = ap length e ∙ length-body_of image (formed image form) 2 (omega arith) (omega arith) ∙ (formed image form).two

  pub four_bytes : l ≡ body_of 3 image → length l ≡ 4
  four_bytes e = ap length e ∙ length-body_of image (formed image form) 3 (omega arith) (omega arith) ∙ (formed image form).four
