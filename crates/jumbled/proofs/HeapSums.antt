-- Method 5's candidates: a window whose counts are the pattern's is one, and where (m + 1)^q ≤ 2^64 every candidate is such a window.
use mathlib.Core.Path.{◌≡◌, refl, sym, ap, ◌∙◌}
use mathlib.Core.Bool.{Bool, true, false, cond, not, ◌&&◌, ◌||◌, true≢false}
use mathlib.Core.List.{List, [], ◌∷◌}
use mathlib.Core.Logic.{◌⊎◌, inl, inr, ⊎_elim}
use Prim.Native.Nat.{ℕ, zero, suc, ◌+◌, ◌-◌, ◌*◌, ◌%◌, ◌/◌, ◌^◌, ◌≤◌, ◌<◌}
use native.Mathlib.Nat.{le_trans, le_refl, lt_of_lt_of_le, pow-succ', pow-le-pow_right, mod-eq_of_lt, add-mod-mod, add-mul, one-mul, zero-mul, mul-zero, add_comm, add-zero, eq-zero-or-pos, zero-mod, le_of_eq, add-suc, not-suc-le-zero, one-le-pow, mul-le-mul_right}
use native.Mathlib.Numerals.{add-one}
use native.Mathlib.Omega.{arith}
use lib.Dec.{eqb}
use lib.Arith.{digits_lt, digits_div, digits_mod}
use lib.ListN.{length}
use borrow.Author.Tests.{eqb-true, eqb-false, leb-true, le-leb, lt-leb}
use Rattle.jumbled.specs.Match.{Bytes, bit, cc, occurs, sum, lost_hour, excess, matches}
use Rattle.jumbled.specs.Heap.{rank, radix, heap_value, heap_sum, exact}
use Rattle.jumbled.specs.Scan.{Judged, unverified}
use Rattle.jumbled.specs.Steps.{candidate, verified, hcam_judged}
use Rattle.jumbled.proofs.Sums.{below_or_not, sum-zero, sum-suc, sum-ext, sum-add, sum_zeros, sum-point}
use Rattle.jumbled.proofs.Admission.{or-false}
use Rattle.jumbled.proofs.Ranks.{rank-next, rank-some, rank-none, heap_value-some, heap_value-none}
use Rattle.jumbled.proofs.Counts.{bytes-head, bytes-tail, cc-nil, cc-cons, cc-length, counts-of-excess, counts-of-enough, excess-of-counts}

-- the values of the bytes below n, each as often as W has it
weigh : List ℕ → List ℕ → ℕ → ℕ
weigh P W n = sum n (λ c. cc W c * heap_value P c)

weigh-zero : (P W : List ℕ) → weigh P W 0 ≡ 0
unfolding weigh
weigh-zero P W = sum-zero (λ c. cc W c * heap_value P c)

weigh-suc : (P W : List ℕ) (n : ℕ) → weigh P W (suc n) ≡ weigh P W n + cc W n * heap_value P n
unfolding weigh
weigh-suc P W n = sum-suc n (λ c. cc W c * heap_value P c)

-- ---- a window's sum is what its counts weigh, modulo 2^64

weigh-cons : (P : List ℕ) (b : ℕ) (W : List ℕ) → b < 256 → weigh P (b ∷ W) 256 ≡ heap_value P b + weigh P W 256
unfolding weigh
weigh-cons P b W h =
    sum-ext 256 (λ c. cc (b ∷ W) c * heap_value P c) (λ c. cond (eqb b c) (heap_value P b) 0 + cc W c * heap_value P c)
    (λ c l. rw (cc-cons b W c, add-mul (bit (eqb b c)) (cc W c) (heap_value P c)) (ap (λ (n : ℕ). n + cc W c * heap_value P c) (at c (eqb b c) refl)))
    ∙ sum-add 256 (λ c. cond (eqb b c) (heap_value P b) 0) (λ c. cc W c * heap_value P c)
    ∙ ap (λ (n : ℕ). n + sum 256 (λ c. cc W c * heap_value P c)) (sum-point 256 b (heap_value P b) h)
  where
    at : (c : ℕ) (t : Bool) → eqb b c ≡ t → bit t * heap_value P c ≡ cond t (heap_value P b) 0
    at c true e = one-mul (heap_value P c) ∙ ap (heap_value P) (sym (eqb-true b c e))
    at c false e = zero-mul (heap_value P c)

sum-weigh : (P W : List ℕ) → Bytes W → heap_sum P W ≡ weigh P W 256 % 2 ^ 64
unfolding heap_sum weigh
sum-weigh P [] h = rw nothing (sym (zero-mod (2 ^ 64)))
  where
    nothing : weigh P [] 256 ≡ 0
    nothing = sum_zeros 256 (λ c. cc [] c * heap_value P c) (λ c. rw (cc-nil c) (zero-mul (heap_value P c)))
sum-weigh P (b ∷ W) h =
    rw (sum-weigh P W (bytes-tail h), weigh-cons P b W (bytes-head h)) (add-mod-mod (heap_value P b) (weigh P W 256) (2 ^ 64))

-- equal counts, equal sums
sum-of-counts : (P W : List ℕ) → Bytes P → Bytes W → ((c : ℕ) → c < 256 → cc W c ≡ cc P c) → heap_sum P W ≡ heap_sum P P
unfolding weigh
sum-of-counts P W hP hW h =
    sum-weigh P W hW
    ∙ ap (λ (n : ℕ). n % 2 ^ 64) (sum-ext 256 (λ c. cc W c * heap_value P c) (λ c. cc P c * heap_value P c) (λ c l. ap (λ (n : ℕ). n * heap_value P c) (h c l)))
    ∙ sym (sum-weigh P P hP)

-- ---- where (m + 1)^q ≤ 2^64, the counts of the pattern's letters are the digits of a number in base m + 1

rank-grows : (P : List ℕ) (c j : ℕ) → rank P c ≤ rank P (c + j)
rank-grows P c zero = le_of_eq (ap (rank P) (sym (add-zero c)))
rank-grows P c (suc j) =
    le_trans (rank-grows P c j) (rw (add-suc c j, ← add-one (c + j), rank-next P (c + j)) (omega arith))

rank-letter : (P : List ℕ) (c : ℕ) → 0 < cc P c → rank P (suc c) ≡ suc (rank P c)
rank-letter P c h = ap (rank P) (sym (add-one c)) ∙ rank-some P c h ∙ add-one (rank P c)

rank-other : (P : List ℕ) (c : ℕ) → cc P c ≡ 0 → rank P (suc c) ≡ rank P c
rank-other P c e = ap (rank P) (sym (add-one c)) ∙ rank-none P c e

-- a digit d above a number w below the place's value
place_same : (d e w u place : ℕ) → w < place → u < place → w + d * place ≡ u + e * place → (d ≡ e) × (w ≡ u)
place_same d e w u place hw hu q =
    let turned : d * place + w ≡ e * place + u = add_comm (d * place) w ∙ q ∙ add_comm u (e * place) in (
      sym (digits_div d hw) ∙ ap (λ (n : ℕ). n / place) turned ∙ digits_div e hu,
      sym (digits_mod d hw) ∙ ap (λ (n : ℕ). n % place) turned ∙ digits_mod e hu,
    )

module _ (P : List ℕ) (fits : radix P ^ rank P 256 ≤ 2 ^ 64) where
  base_step : (e : ℕ) → radix P ^ suc e ≡ radix P * radix P ^ e
  base_step e = pow-succ' (radix P) e

  base-pos : (e : ℕ) → 0 < radix P ^ e
  base-pos e = one-le-pow e (radix P) (omega arith)

  -- no power wraps
  value-letter : (c : ℕ) → c < 256 → 0 < cc P c → heap_value P c ≡ radix P ^ rank P c
  value-letter c l h = heap_value-some P c h ∙ (mod-eq_of_lt (lt_of_lt_of_le smaller (le_trans higher fits)))
    where
      rest : suc c + (256 - suc c) ≡ 256
      rest = omega arith

      higher : radix P ^ suc (rank P c) ≤ radix P ^ rank P 256
      higher =
          pow-le-pow_right (omega arith)
          (rw (ap (rank P) rest) at (rw (rank-letter P c h) at (rank-grows P (suc c) (256 - suc c))))

      smaller : radix P ^ rank P c < radix P ^ suc (rank P c)
      smaller =
          rw (base_step (rank P c))
          (omega (arith, base-pos (rank P c), mul-le-mul_right (radix P ^ rank P c) at-least-two))
        where
          at-least-two : 2 ≤ radix P
          at-least-two = omega (arith, cc-length P c)

  -- the digits below n make a number below (m + 1)^(the letters below n)
  weigh-below : (W : List ℕ) → length W ≤ length P → (n : ℕ) → n ≤ 256 → weigh P W n < radix P ^ rank P n
  weigh-below W short zero l = rw (weigh-zero P W) (base-pos (rank P 0))
  weigh-below W short (suc n) l =
      let below : weigh P W n < radix P ^ rank P n = weigh-below W short n (omega arith) in
      ⊎_elim (λ (e : cc P n ≡ 0). rw (weigh-suc P W n, heap_value-none P n e, rank-other P n e, mul-zero (cc W n), add-zero (weigh P W n)) below)
      (λ (h : 0 < cc P n).
      rw (weigh-suc P W n, value-letter n l h, rank-letter P n h, base_step (rank P n), add_comm (weigh P W n) (cc W n * radix P ^ rank P n))
      (digits_lt (omega (arith, cc-length W n)) below)) (eq-zero-or-pos (cc P n))

  -- so two windows that weigh the same have the same digits
  digits_same : (W U : List ℕ) → length W ≤ length P → length U ≤ length P → (n : ℕ) → n ≤ 256 → weigh P W n ≡ weigh P U n
      → (c : ℕ) → c < n → 0 < cc P c → cc W c ≡ cc U c
  digits_same W U short_w short_u zero l e c m h = absurd (not-suc-le-zero m)
  digits_same W U short_w short_u (suc n) l e c m h =
      ⊎_elim
      (λ (o : cc P n ≡ 0).
      digits_same W U short_w short_u n (omega arith) (sym (other W o) ∙ e ∙ other U o) c (earlier o (below_or_not c n)) h)
      (λ (o : 0 < cc P n).
      let place : (cc W n ≡ cc U n) × (weigh P W n ≡ weigh P U n) =
      place_same (cc W n) (cc U n) (weigh P W n) (weigh P U n) (radix P ^ rank P n) (weigh-below W short_w n (omega arith))
      (weigh-below U short_u n (omega arith)) (sym (letter W o) ∙ e ∙ letter U o) in
      ⊎_elim (λ (k : c < n). digits_same W U short_w short_u n (omega arith) place.1 c k h)
      (λ (k : n ≤ c). let same : c ≡ n = omega arith in rw same place.0) (below_or_not c n)) (eq-zero-or-pos (cc P n))
    where
      other : (Y : List ℕ) → cc P n ≡ 0 → weigh P Y (suc n) ≡ weigh P Y n
      other Y o = rw (weigh-suc P Y n, heap_value-none P n o, mul-zero (cc Y n)) (add-zero (weigh P Y n))

      letter : (Y : List ℕ) → 0 < cc P n → weigh P Y (suc n) ≡ weigh P Y n + cc Y n * radix P ^ rank P n
      letter Y o = rw (weigh-suc P Y n, value-letter n l o) refl

      earlier : cc P n ≡ 0 → (c < n) ⊎ (n ≤ c) → c < n
      earlier o (inl k) = k
      earlier o (inr k) = absurd (let same : c ≡ n = omega arith in let none : cc P c ≡ cc P n = ap (cc P) same in omega arith)

  -- a candidate's counts are the pattern's
  candidate-counts : (W : List ℕ) → Bytes P → Bytes W → length W ≡ length P → heap_sum P W ≡ heap_sum P P → (c : ℕ) → c < 256 → cc W c ≡ cc P c
  candidate-counts W hP hW same e = counts-of-enough P W hP hW same (λ c l. ⊎_elim (λ (o : cc P c ≡ 0). omega arith) (λ (o : 0 < cc P c). le_of_eq (sym (digits_same W P (le_of_eq same) (le_refl (length P)) 256 (le_refl 256) weighs c l o))) (eq-zero-or-pos (cc P c)))
    where
      whole : (Y : List ℕ) → Bytes Y → length Y ≤ length P → heap_sum P Y ≡ weigh P Y 256
      whole Y hY short = sum-weigh P Y hY ∙ mod-eq_of_lt (lt_of_lt_of_le (weigh-below Y short 256 (le_refl 256)) fits)

      weighs : weigh P W 256 ≡ weigh P P 256
      weighs = sym (whole W hW (le_of_eq same)) ∙ e ∙ whole P hP (le_refl (length P))

-- ---- the judgement

module _ (P : List ℕ) (hP : Bytes P) (W : List ℕ) (hW : Bytes W) (same : length W ≡ length P) where
  -- where (m + 1)^q ≤ 2^64, a candidate matches
  candidate-matches : exact P ≡ true → heap_sum P W ≡ heap_sum P P → matches P 0 W ≡ true
  unfolding exact matches
  candidate-matches x e =
      le-leb (excess P W) 0
      (le_of_eq
      (excess-of-counts P W (candidate-counts P (leb-true (radix P ^ rank P 256) (2 ^ 64) x) W hP hW same e)))

  -- and in any case a window without a lost hour that is no candidate does not match
  others-differ : occurs W lost_hour ≡ false → (heap_sum P W ≡ heap_sum P P → ⊥) → matches P 0 W ≡ false
  unfolding matches
  others-differ none differ =
      ⊎_elim (λ (e : excess P W ≡ 0). absurd (differ (sum-of-counts P W hP hW (counts-of-excess P W hP hW same none e))))
      (λ (h : 0 < excess P W). lt-leb (excess P W) 0 h) (eq-zero-or-pos (excess P W))

  -- a window that is not verified is judged right by its sum
  unverified-right : occurs W lost_hour ≡ false → (candidate P W && not (exact P)) ≡ false → candidate P W ≡ matches P 0 W
  unfolding candidate
  unverified-right none sure = case (eqb (heap_sum P W) (heap_sum P P)) (exact P) refl refl sure
    where
      case : (t x : Bool) → eqb (heap_sum P W) (heap_sum P P) ≡ t → exact P ≡ x → (t && not x) ≡ false → t ≡ matches P 0 W
      case true true q x e = sym (candidate-matches x (eqb-true (heap_sum P W) (heap_sum P P) q))
      case true false q x e = absurd (true≢false e)
      case false x q known e = sym (others-differ none (eqb-false (heap_sum P W) (heap_sum P P) q))

  pub hcam-judges : (hcam_judged P W).listed ≡ matches P 0 W
  unfolding hcam_judged verified
  hcam-judges = case _ (occurs W lost_hour || (candidate P W && not (exact P))) refl
    where
      case : (taken : ℕ) (t : Bool) → (occurs W lost_hour || (candidate P W && not (exact P))) ≡ t
          → (cond {A = Judged} t (record { listed = matches P 0 W; verification = taken }) (unverified (candidate P W))).listed ≡ matches P 0 W
      case taken true q = refl
      case taken false q = let parts = or-false (occurs W lost_hour) (candidate P W && not (exact P)) q in unverified-right parts.0 parts.1
