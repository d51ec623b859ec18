-- Laws of `pack`, over any widths and any number of fields: its bound, sums, masks, and the tests of top bits.
use mathlib.Core.Path.{◌≡◌, refl, sym, ap, ap₂, ◌∙◌}
use mathlib.Core.Bool.{Bool, true, false, cond, not, ◌||◌, not-not}
use mathlib.Core.Logic.{⊎_elim}
use Prim.Native.Nat.{ℕ, zero, suc, ◌+◌, ◌*◌, ◌-◌, ◌/◌, ◌%◌, ◌^◌, ◌≤◌, ◌<◌}
use native.Mathlib.Nat.{add_comm, add-suc, mul_comm, mul_assoc, add-zero, add-mul, zero-mul, eq_of_mul-eq-mul_right, le_refl, mod-lt, mod-eq_of_lt, add-mul-mod_self_right, mul-div_cancel, pow-suc}
use native.Mathlib.Omega.{arith}
use lib.Dec.{eqb, lit<}
use lib.Arith.{digits_lt}
use lib.Pow.{pow_pos, pow-add, mod-pow-add}
use lib.Bits.{bit_and, and_block, and_high, and_zero_r}
use borrow.Author.Tests.{eq-eqb, ne_eqb, eqb-true, eqb-false}
use Rattle.jumbled.specs.Match.{sum}
use Rattle.jumbled.specs.Fields.{top_set, some}
use Rattle.jumbled.proofs.Sums.{below_or_not, sum-suc, sum-ext, sum-point, some-ext}
use Rattle.table_packed.specs.Pack.{pack, top_bit, only}

-- Each of the first n fields holds a number of its width
abbrev pub ValuesFit : (ℕ → ℕ) → (ℕ → ℕ) → ℕ → Type 0
ValuesFit w v n = (f : ℕ) → f < n → v f < 2 ^ w f

fitting-less : (w v : ℕ → ℕ) (n : ℕ) → ValuesFit w v (suc n) → ValuesFit w v n
fitting-less w v n h f l = h f (omega arith)

pub pack-suc : (w v : ℕ → ℕ) (n : ℕ) → pack w v (suc n) ≡ pack w v n + v n * 2 ^ sum n w
unfolding pack
pack-suc w v n = refl

pack-sum : (w v : ℕ → ℕ) (n : ℕ) → pack w v n ≡ sum n (λ f. v f * 2 ^ sum f w)
unfolding pack sum
pack-sum w v zero = refl
pack-sum w v (suc n) = ap (λ (x : ℕ). x + v n * 2 ^ sum n w) (pack-sum w v n)

pub pack-ext : (w u v : ℕ → ℕ) (n : ℕ) → ((f : ℕ) → f < n → u f ≡ v f) → pack w u n ≡ pack w v n
pack-ext w u v n h =
    pack-sum w u n
    ∙ sum-ext n (λ f. u f * 2 ^ sum f w) (λ f. v f * 2 ^ sum f w) (λ f l. ap (λ (x : ℕ). x * 2 ^ sum f w) (h f l))
    ∙ sym (pack-sum w v n)

-- the fields fill no more bits than they have
pub pack-lt : (w v : ℕ → ℕ) (n : ℕ) → ValuesFit w v n → pack w v n < 2 ^ sum n w
unfolding pack sum
pack-lt w v zero h = lit< tt
pack-lt w v (suc n) h =
    rw (pow-add 2 (sum n w) (w n))
    (omega (
      arith,
      mul_comm (2 ^ sum n w) (2 ^ w n),
      digits_lt {q = v n} {m = 2 ^ w n} {r = pack w v n} {c = 2 ^ sum n w} (h n (le_refl (suc n))) (pack-lt w v n (fitting-less w v n h)),
    ))

-- a field that holds 0 adds nothing
pub pack-empty : (w v : ℕ → ℕ) (n : ℕ) → v n ≡ 0 → pack w v (suc n) ≡ pack w v n
unfolding pack
pack-empty w v n e = rw (e, zero-mul (2 ^ sum n w)) (add-zero (pack w v n))

-- fewer fields, no more bits
pub sum-upto : (f : ℕ → ℕ) (m n : ℕ) → m ≤ n → sum m f ≤ sum n f
unfolding sum
sum-upto f m zero l = let same : m ≡ 0 = omega arith in rw same (le_refl 0)
sum-upto f m (suc n) l =
    ⊎_elim (λ (h : m < suc n). omega (arith, sum-upto f m n (omega arith)))
    (λ (h : suc n ≤ m). let same : m ≡ suc n = omega arith in rw same (le_refl (sum (suc n) f))) (below_or_not m (suc n))

-- and no larger a number
pub pack-upto : (w v : ℕ → ℕ) (m n : ℕ) → m ≤ n → pack w v m ≤ pack w v n
pack-upto w v m n l = rw (pack-sum w v m, pack-sum w v n) (sum-upto (λ f. v f * 2 ^ sum f w) m n l)

-- ---- no field carries into its neighbour

-- a word's lower fields, whatever stands above them
lower-fields : (w v : ℕ → ℕ) (j n : ℕ) → pack w v (j + n) % 2 ^ sum j w ≡ pack w v j % 2 ^ sum j w
lower-fields w v j zero = ap (λ (n : ℕ). pack w v n % 2 ^ sum j w) (add-zero j)
lower-fields w v j (suc n) =
    ap (λ (x : ℕ). pack w v x % 2 ^ sum j w) (add-suc j n)
    ∙ ap (λ (x : ℕ). x % 2 ^ sum j w) (pack-suc w v (j + n) ∙ ap (λ (x : ℕ). pack w v (j + n) + x) above)
    ∙ add-mul-mod_self_right (pack w v (j + n)) (v (j + n) * 2 ^ rest) (2 ^ sum j w)
    ∙ lower-fields w v j n
  where
    rest : ℕ
    rest = sum (j + n) w - sum j w

    above : v (j + n) * 2 ^ sum (j + n) w ≡ v (j + n) * 2 ^ (sum (j + n) w - sum j w) * 2 ^ sum j w
    above =
        let both : sum (j + n) w ≡ sum (j + n) w - sum j w + sum j w = omega (arith, sum-upto w j (j + n) (omega arith)) in
        ap (λ (x : ℕ). v (j + n) * 2 ^ x) both
        ∙ ap (λ (x : ℕ). v (j + n) * x) (pow-add 2 (sum (j + n) w - sum j w) (sum j w))
        ∙ sym (mul_assoc (v (j + n)) (2 ^ (sum (j + n) w - sum j w)) (2 ^ sum j w))

-- Of any number of fields each holds its own number and nothing of the others'
pub pack-field : (w v : ℕ → ℕ) (n : ℕ) → ValuesFit w v n → (f : ℕ) → f < n → pack w v n / 2 ^ sum f w % 2 ^ w f ≡ v f
pack-field w v n fit f l =
    eq_of_mul-eq-mul_right (2 ^ sum f w) (pow_pos (sum f w)) _ _
    (omega (arith, mod-pow-add (pack w v n) (w f) (sum f w), low f (omega arith), up-to-f, pack-suc w v f))
  where
    low : (j : ℕ) → j ≤ n → pack w v n % 2 ^ sum j w ≡ pack w v j
    low j h =
        let rest : j + (n - j) ≡ n = omega arith in
        ap (λ (x : ℕ). pack w v x % 2 ^ sum j w) (sym rest) ∙ lower-fields w v j (n - j) ∙ mod-eq_of_lt (pack-lt w v j (λ i b. fit i (omega arith)))

    up-to-f : pack w v n % 2 ^ (w f + sum f w) ≡ pack w v (suc f)
    up-to-f = ap (λ (x : ℕ). pack w v n % 2 ^ x) (add_comm (w f) (sum f w) ∙ sym (sum-suc f w)) ∙ low (suc f) l

-- sums go field by field
pub pack-add : (w u v : ℕ → ℕ) (n : ℕ) → pack w u n + pack w v n ≡ pack w (λ f. u f + v f) n
unfolding pack
pack-add w u v zero = refl
pack-add w u v (suc n) = let ih = pack-add w u v n in omega (arith, add-mul (u n) (v n) (2 ^ sum n w))

-- and so do masks, where each field holds a number of its width
pub pack-and : (w u v : ℕ → ℕ) (n : ℕ) → ValuesFit w u n → ValuesFit w v n → bit_and (pack w u n) (pack w v n) ≡ pack w (λ f. bit_and (u f) (v f)) n
unfolding pack
pack-and w u v zero hu hv = refl
pack-and w u v (suc n) hu hv =
    ap₂ bit_and (add_comm (pack w u n) (u n * 2 ^ sum n w)) (add_comm (pack w v n) (v n * 2 ^ sum n w))
    ∙ and_block (sum n w) (u n) (v n) (pack w u n) (pack w v n) (pack-lt w u n (fitting-less w u n hu)) (pack-lt w v n (fitting-less w v n hv))
    ∙ ap (λ (x : ℕ). bit_and (u n) (v n) * 2 ^ sum n w + x) (pack-and w u v n (fitting-less w u n hu) (fitting-less w v n hv))
    ∙ add_comm (bit_and (u n) (v n) * 2 ^ sum n w) (pack w (λ f. bit_and (u f) (v f)) n)

-- ---- one field

-- a number in one field stands at that field's place
pub pack-only : (w : ℕ → ℕ) (f x n : ℕ) → f < n → pack w (only f x) n ≡ x * 2 ^ sum f w
unfolding only
pack-only w f x n l =
    pack-sum w (only f x) n
    ∙ sum-ext n (λ g. only f x g * 2 ^ sum g w) (λ g. cond (eqb f g) (x * 2 ^ sum f w) 0) (λ g m. at g (eqb f g) refl)
    ∙ sum-point n f (x * 2 ^ sum f w) l
  where
    at : (g : ℕ) (t : Bool) → eqb f g ≡ t → cond t x 0 * 2 ^ sum g w ≡ cond t (x * 2 ^ sum f w) 0
    at g true e = rw (eqb-true f g e) refl
    at g false e = zero-mul (2 ^ sum g w)

-- ---- top bits

top_bit-suc : (g : ℕ) → top_bit (suc g) ≡ 2 ^ g
unfolding top_bit
top_bit-suc g = rw (pow-suc 2 g) (mul-div_cancel (2 ^ g) (lit< tt))

pub top_bit-pred : (g : ℕ) → 1 ≤ g → top_bit g ≡ 2 ^ (g - 1)
top_bit-pred g l = let same : g ≡ suc (g - 1) = omega arith in ap top_bit same ∙ top_bit-suc (g - 1)

top_bit-lt : (g : ℕ) → top_bit g < 2 ^ g
unfolding top_bit
top_bit-lt g = omega (arith, pow_pos g)

pub tops-fitting : (w : ℕ → ℕ) (n : ℕ) → ValuesFit w (λ f. top_bit (w f)) n
tops-fitting w n f l = top_bit-lt (w f)

only-fitting : (w : ℕ → ℕ) (f x n : ℕ) → x < 2 ^ w f → ValuesFit w (only f x) n
unfolding only
only-fitting w f x n h g l = at (eqb f g) refl
  where
    at : (t : Bool) → eqb f g ≡ t → cond t x 0 < 2 ^ w g
    at true e = rw (sym (eqb-true f g e)) h
    at false e = pow_pos (w g)

zero-or-more : (x y : ℕ) → (x ≡ 0 → y ≡ 0) → (y ≡ 0 → x ≡ 0) → eqb x 0 ≡ eqb y 0
zero-or-more x y f g = at (eqb y 0) refl
  where
    at : (t : Bool) → eqb y 0 ≡ t → eqb x 0 ≡ t
    at true e = eq-eqb x 0 (g (eqb-true y 0 e))
    at false e = ne_eqb x 0 (λ z. eqb-false y 0 e (f z))

scaled-zero : (x k : ℕ) → eqb (x * 2 ^ k) 0 ≡ eqb x 0
scaled-zero x k =
    zero-or-more (x * 2 ^ k) x (λ (e : x * 2 ^ k ≡ 0). eq_of_mul-eq-mul_right (2 ^ k) (pow_pos k) x 0 (e ∙ sym (zero-mul (2 ^ k))))
    (λ (e : x ≡ 0). ap (λ (y : ℕ). y * 2 ^ k) e ∙ zero-mul (2 ^ k))

bit_test : (b : ℕ) → b < 2 → eqb b 0 ≡ not (eqb b 1)
bit_test zero l = refl
bit_test (suc zero) l = refl
bit_test (suc (suc b)) l = absurd (omega arith)

pub and-top : (v g : ℕ) → bit_and v (2 ^ g) ≡ (v / 2 ^ g % 2) * 2 ^ g
and-top v g =
    let same : 2 ^ (1 + g) - 2 ^ g ≡ 2 ^ g = omega (arith, pow-add 2 1 g) in
    ap (bit_and v) (sym same) ∙ and_high v 1 g

top_set-suc : (g v : ℕ) → top_set (suc g) v ≡ eqb (v / 2 ^ g % 2) 1
unfolding top_set
top_set-suc g v = let same : suc g - 1 ≡ g = omega arith in rw same refl

-- a field under the mask of its top bit
top-test : (g v : ℕ) → v < 2 ^ g → eqb (bit_and v (top_bit g)) 0 ≡ not (top_set g v)
unfolding top_bit top_set
top-test zero v h = let none : v ≡ 0 = omega arith in rw none refl
top-test (suc g) v h =
    ap (λ (x : ℕ). eqb (bit_and v x) 0) (top_bit-suc g)
    ∙ ap (λ (x : ℕ). eqb x 0) (and-top v g)
    ∙ scaled-zero (v / 2 ^ g % 2) g
    ∙ bit_test (v / 2 ^ g % 2) (mod-lt (v / 2 ^ g) (lit< tt))
    ∙ ap not (sym (top_set-suc g v))

-- a word is 0 where each of its fields is
pack-zero : (w v : ℕ → ℕ) (n : ℕ) → eqb (pack w v n) 0 ≡ not (some n (λ f. not (eqb (v f) 0)))
unfolding pack some
pack-zero w v zero = refl
pack-zero w v (suc n) = case (eqb (v n) 0) refl (pack-zero w v n)
  where
    case : (t : Bool) → eqb (v n) 0 ≡ t → eqb (pack w v n) 0 ≡ not (some n (λ f. not (eqb (v f) 0)))
        → eqb (pack w v n + v n * 2 ^ sum n w) 0 ≡ not (not t || some n (λ f. not (eqb (v f) 0)))
    case true e ih = rw (eqb-true (v n) 0 e, zero-mul (2 ^ sum n w), add-zero (pack w v n)) ih
    case false e ih =
        ne_eqb (pack w v n + v n * 2 ^ sum n w) 0
        (λ z. eqb-false (v n * 2 ^ sum n w) 0 (scaled-zero (v n) (sum n w) ∙ e) (omega arith))

-- a word under the mask of all top bits is 0 exactly where no field's top bit is set
pub tops-test : (w v : ℕ → ℕ) (n : ℕ) → ValuesFit w v n
    → eqb (bit_and (pack w v n) (pack w (λ f. top_bit (w f)) n)) 0 ≡ not (some n (λ f. top_set (w f) (v f)))
tops-test w v n h =
    ap (λ (x : ℕ). eqb x 0) (pack-and w v (λ f. top_bit (w f)) n h (tops-fitting w n))
    ∙ pack-zero w (λ f. bit_and (v f) (top_bit (w f))) n
    ∙ ap not (some-ext n (λ f. not (eqb (bit_and (v f) (top_bit (w f))) 0)) (λ f. top_set (w f) (v f)) (λ f l. ap not (top-test (w f) (v f) (h f l)) ∙ not-not (top_set (w f) (v f))))

and-only : (v : ℕ → ℕ) (f x g : ℕ) → bit_and (v g) (only f x g) ≡ only f (bit_and (v f) x) g
unfolding only
and-only v f x g = at (eqb f g) refl
  where
    at : (t : Bool) → eqb f g ≡ t → bit_and (v g) (cond t x 0) ≡ cond t (bit_and (v f) x) 0
    at true e = rw (eqb-true f g e) refl
    at false e = and_zero_r (v g)

-- and under the mask of one field's top bit, exactly where that one is not set
pub own-top-test : (w v : ℕ → ℕ) (f n : ℕ) → f < n → ValuesFit w v n
    → eqb (bit_and (pack w v n) (pack w (only f (top_bit (w f))) n)) 0 ≡ not (top_set (w f) (v f))
own-top-test w v f n l h =
    ap (λ (x : ℕ). eqb x 0)
    (pack-and w v (only f (top_bit (w f))) n h (only-fitting w f (top_bit (w f)) n (top_bit-lt (w f)))
    ∙ pack-ext w (λ g. bit_and (v g) (only f (top_bit (w f)) g)) (only f (bit_and (v f) (top_bit (w f)))) n (λ g m. and-only v f (top_bit (w f)) g)
    ∙ pack-only w f (bit_and (v f) (top_bit (w f))) n l)
    ∙ scaled-zero (bit_and (v f) (top_bit (w f))) (sum f w)
    ∙ top-test (w f) (v f) (h f l)
