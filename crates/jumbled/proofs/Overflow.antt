-- The fields of methods 2, 3 and 4 tell an excess exactly, and none carries into its neighbour before the scan stops.
use mathlib.Core.Path.{◌≡◌, refl, sym, ap, ap₂, ◌∙◌}
use mathlib.Core.Bool.{Bool, true, false, cond}
use mathlib.Core.List.{List, [], ◌∷◌, map}
use mathlib.Core.Logic.{⊎_elim}
use Prim.Native.Nat.{ℕ, zero, suc, ◌+◌, ◌-◌, ◌*◌, ◌/◌, ◌%◌, ◌^◌, ◌≤◌, ◌<◌, max}
use native.Mathlib.Nat.{le_refl, pow-succ', div-eq_of_lt, eq-zero-or-pos}
use native.Mathlib.Omega.{arith}
use lib.Dec.{leb, ltb, eqb, lit<}
use lib.Arith.{digits_div}
use lib.Pow.{pow_pos}
use borrow.Author.Tests.{eq-eqb, ne_eqb, lt-ltb, le-ltb, ltb-true, le-leb, lt-leb}
use Rattle.jumbled.specs.Match.{Bytes, bit, cc, lost, evidence, beyond, excess, used_up}
use Rattle.jumbled.specs.Fields.{lg, shared, field_count, field_of, Layout, bam_layout, bam2_layout, abam_layout, width_of, start_value, value_of, top_set, some, overflows, own_top_set, errors}
use Rattle.jumbled.proofs.Sums.{below_or_not, some_at, some-none}
use Rattle.jumbled.proofs.Counts.{bytes-head, bytes-tail, bytes-evidence, cc-cons, cc-out, beyond-nil, beyond-cons, beyond-at, evidence-kept, used-up-kept, excess-nil, excess-cons, excess-lost}
use Rattle.jumbled.proofs.Lg.{lg-enough, bam-letters, bam2-letters}
use Rattle.jumbled.proofs.Scans.{Exact}

-- ---- one field

-- A field of g bits that starts at 2^(g-1) - v - 1 and was added to h times, which is at most v + 2^(g-1): its top bit is set exactly where
-- h is over v, and it did not carry into its neighbour
record SaveResult (g v h : ℕ) : Type 0 where
  top : top_set g ((2 ^ (g - 1) - v - 1) + h) ≡ ltb v h
  holds : (2 ^ (g - 1) - v - 1) + h < 2 ^ g

kept : (g v h : ℕ) → 0 < g → v + 1 ≤ 2 ^ (g - 1) → h ≤ v + 2 ^ (g - 1) → SaveResult g v h
unfolding top_set
kept g v h some starts room =
    record { top = ⊎_elim over under (below_or_not v h); holds = omega (arith, doubled g some) }
  where
    doubled : (n : ℕ) → 0 < n → 2 * 2 ^ (n - 1) ≡ 2 ^ n
    doubled zero l = elim l [ ]
    doubled (suc n) l = let less : suc n - 1 ≡ n = omega arith in rw (less, pow-succ' 2 n) refl

    over : v < h → eqb (((2 ^ (g - 1) - v - 1) + h) / 2 ^ (g - 1) % 2) 1 ≡ ltb v h
    over l =
        let split : (2 ^ (g - 1) - v - 1) + h ≡ 1 * 2 ^ (g - 1) + (h - v - 1) = omega arith in
        rw (split, digits_div 1 {m = 2 ^ (g - 1)} {r = h - v - 1} (omega arith), lt-ltb v h l) refl

    under : h ≤ v → eqb (((2 ^ (g - 1) - v - 1) + h) / 2 ^ (g - 1) % 2) 1 ≡ ltb v h
    under l = rw (div-eq_of_lt {n = (2 ^ (g - 1) - v - 1) + h} {m = 2 ^ (g - 1)} (omega arith), le-ltb v h l) refl

-- a field of 0 bits that nothing was added to
kept-none : SaveResult 0 0 0
unfolding top_set
kept-none = record { top = refl; holds = lit< tt }

-- a width that leaves room for a letter's start is no 0
pub some_bits : (g v : ℕ) → 0 < v → v + 1 ≤ 2 ^ (g - 1) → 0 < g
some_bits zero v h starts = omega arith
some_bits (suc g) v h starts = omega arith

-- ---- the fields of a pattern

pub field-inside : (P : List ℕ) (c : ℕ) → 0 < cc P c → field_of P c ≡ c
unfolding field_of
field-inside P c h = rw (ne_eqb (cc P c) 0 (λ e. omega arith)) refl

pub field-outside : (P : List ℕ) (c : ℕ) → cc P c ≡ 0 → field_of P c ≡ shared
unfolding field_of
field-outside P c e = rw (eq-eqb (cc P c) 0 e) refl

pub width-own : (P : List ℕ) (layout : Layout) (f : ℕ) → f < 256 → 0 < cc P f → width_of P layout f ≡ layout.own (cc P f)
unfolding width_of
width-own P layout f l h = rw (ne_eqb f shared (λ e. omega arith), ne_eqb (cc P f) 0 (λ e. omega arith)) refl

pub width-shared : (P : List ℕ) (layout : Layout) → width_of P layout shared ≡ layout.common
unfolding width_of
width-shared P layout = refl

pub width-none : (P : List ℕ) (layout : Layout) (f : ℕ) → f < 256 → cc P f ≡ 0 → width_of P layout f ≡ 0
unfolding width_of
width-none P layout f l e = rw (ne_eqb f shared (λ q. omega arith), eq-eqb (cc P f) 0 e) refl

-- a number stands for the shared field, for that of a letter of P, or for none
pub data Stands (P : List ℕ) (f : ℕ) : Type 0 where
  for-others : f ≡ shared → Stands P f
  for-letter : f < 256 → 0 < cc P f → Stands P f
  for-none : f < 256 → cc P f ≡ 0 → Stands P f

pub stands : (P : List ℕ) (f : ℕ) → f < field_count → Stands P f
stands P f l =
    ⊎_elim (λ (h : f < 256). ⊎_elim (λ e. for-none h e) (λ e. for-letter h e) (eq-zero-or-pos (cc P f)))
    (λ (h : 256 ≤ f). for-others (omega arith)) (below_or_not f 256)

pub field-numbered : (P : List ℕ) (b : ℕ) → b < 256 → field_of P b < field_count
field-numbered P b h =
    ⊎_elim (λ e. rw (field-outside P b e) (omega arith)) (λ i. rw (field-inside P b i) (omega arith)) (eq-zero-or-pos (cc P b))

-- how often a field was added to by the inspections of the bytes R, none of which is a lost hour
hits : List ℕ → List ℕ → ℕ → ℕ
hits P R f = cc (map (field_of P) R) f

hits-cons : (P : List ℕ) (b : ℕ) (R : List ℕ) (f : ℕ) → hits P (b ∷ R) f ≡ bit (eqb (field_of P b) f) + hits P R f
unfolding hits
hits-cons P b R f = cc-cons (field_of P b) (map (field_of P) R) f

-- a letter's field counts that letter
hits-letter : (P R : List ℕ) (f : ℕ) → f < 256 → 0 < cc P f → hits P R f ≡ cc R f
unfolding hits cc
hits-letter P [] f l h = refl
hits-letter P (b ∷ R) f l h = ap₂ (λ (t : Bool) (n : ℕ). bit t + n) (⊎_elim outside inside (eq-zero-or-pos (cc P b))) (hits-letter P R f l h)
  where
    outside : cc P b ≡ 0 → eqb (field_of P b) f ≡ eqb b f
    outside e =
        rw (field-outside P b e, ne_eqb shared f (λ q. omega arith), ne_eqb b f (λ q. let same : cc P b ≡ cc P f = ap (cc P) q in omega arith)) refl

    inside : 0 < cc P b → eqb (field_of P b) f ≡ eqb b f
    inside i = rw (field-inside P b i) refl

-- and the shared field letters that P lacks, each of which is beyond P's counts
hits-shared : (P R : List ℕ) → Bytes R → hits P R shared ≤ beyond (cc P) R
unfolding hits cc
hits-shared P [] hR = omega arith
hits-shared P (b ∷ R) hR = let ih = hits-shared P R (bytes-tail hR) in ⊎_elim (outside ih) (inside ih) (eq-zero-or-pos (cc P b))
  where
    outside : hits P R shared ≤ beyond (cc P) R → cc P b ≡ 0 → bit (eqb (field_of P b) shared) + hits P R shared ≤ beyond (cc P) (b ∷ R)
    outside ih e =
        rw (field-outside P b e, beyond-cons (cc P) b R (bytes-head hR), le-leb (cc P b) (cc R b) (omega arith)) (omega arith)

    inside : hits P R shared ≤ beyond (cc P) R → 0 < cc P b → bit (eqb (field_of P b) shared) + hits P R shared ≤ beyond (cc P) (b ∷ R)
    inside ih i =
        let hb = bytes-head hR in
        rw (field-inside P b i, ne_eqb b shared (λ q. omega arith), beyond-cons (cc P) b R hb) (omega arith)

-- the inspection of b adds to its field past the letter's count exactly when P's count of b was reached before
hits-own : (P : List ℕ) (b : ℕ) (R : List ℕ) → Bytes P → b < 256
    → ltb (cc P (field_of P b)) (hits P (b ∷ R) (field_of P b)) ≡ leb (cc P b) (cc R b)
hits-own P b R hP hb = ⊎_elim outside inside (eq-zero-or-pos (cc P b))
  where
    outside : cc P b ≡ 0 → ltb (cc P (field_of P b)) (hits P (b ∷ R) (field_of P b)) ≡ leb (cc P b) (cc R b)
    outside e =
        rw (le-leb (cc P b) (cc R b) (omega arith))
        (lt-ltb (cc P (field_of P b)) (hits P (b ∷ R) (field_of P b))
        (rw (hits-cons P b R (field_of P b), eq-eqb (field_of P b) (field_of P b) refl, field-outside P b e, cc-out P shared hP (le_refl 256)) (omega arith)))

    inside : 0 < cc P b → ltb (cc P (field_of P b)) (hits P (b ∷ R) (field_of P b)) ≡ leb (cc P b) (cc R b)
    inside i =
        rw (field-inside P b i, hits-letter P (b ∷ R) b hb i, cc-cons b R b, eq-eqb b b refl)
        (⊎_elim (λ (l : cc R b < cc P b). rw (lt-leb (cc P b) (cc R b) l) (le-ltb (cc P b) (1 + cc R b) (omega arith)))
        (λ (l : cc P b ≤ cc R b). rw (le-leb (cc P b) (cc R b) l) (lt-ltb (cc P b) (1 + cc R b) (omega arith))) (below_or_not (cc R b) (cc P b)))

-- no byte adds to a number that stands for no field
hits-none : (P R : List ℕ) (f : ℕ) → f < 256 → cc P f ≡ 0 → hits P R f ≡ 0
unfolding hits cc
hits-none P [] f l e = refl
hits-none P (b ∷ R) f l e = rw (hits-none P R f l e) (⊎_elim outside inside (eq-zero-or-pos (cc P b)))
  where
    outside : cc P b ≡ 0 → bit (eqb (field_of P b) f) + 0 ≡ 0
    outside o = rw (field-outside P b o, ne_eqb shared f (λ q. omega arith)) refl

    inside : 0 < cc P b → bit (eqb (field_of P b) f) + 0 ≡ 0
    inside i = rw (field-inside P b i, ne_eqb b f (λ q. let same : cc P b ≡ cc P f = ap (cc P) q in omega arith)) refl

-- so no field was added to more often than its letter's count and what is beyond it allow
hits-within : (P R : List ℕ) (f : ℕ) → Bytes R → Stands P f → hits P R f ≤ cc P f + beyond (cc P) R
hits-within P R f hR (for-letter l h) = rw (hits-letter P R f l h) (omega (arith, beyond-at (cc P) R f l))
hits-within P R f hR (for-others e) = rw e (omega (arith, hits-shared P R hR))
hits-within P R f hR (for-none l e) = omega (arith, hits-none P R f l e)

-- a field that was added to more often than its letter's count
record Over (P R : List ℕ) : Type 0 where
  field : ℕ
  numbered : field < field_count
  more : cc P field < hits P R field

-- where something is beyond there is one
over : (P R : List ℕ) → Bytes P → Bytes R → 0 < beyond (cc P) R → Over P R
over P [] hP hR h = absurd (let none : beyond (cc P) [] ≡ 0 = beyond-nil (cc P) in omega arith)
over P (b ∷ R) hP hR h = ⊎_elim (before (over P R hP (bytes-tail hR))) now (below_or_not (cc R b) (cc P b))
  where
    now : cc P b ≤ cc R b → Over P (b ∷ R)
    now l =
        record {
          field = field_of P b;
          numbered = field-numbered P b (bytes-head hR);
          more = ltb-true (cc P (field_of P b)) (hits P (b ∷ R) (field_of P b)) (hits-own P b R hP (bytes-head hR) ∙ le-leb (cc P b) (cc R b) l);
        }

    before : (0 < beyond (cc P) R → Over P R) → cc R b < cc P b → Over P (b ∷ R)
    before earlier l =
        let same : beyond (cc P) (b ∷ R) ≡ beyond (cc P) R + 0 = beyond-cons (cc P) b R (bytes-head hR) ∙ ap (λ (t : Bool). beyond (cc P) R + bit t) (lt-leb (cc P b) (cc R b) l) in
        let was : Over P R = earlier (omega arith) in
        record {
          field = was.field;
          numbered = was.numbered;
          more = omega (arith, was.more, hits-cons P b R was.field);
        }

-- ---- what a layout has to show

-- A letter's start does not go below 0, there is a shared field, and every field still holds what can be added before the scan stops:
-- k past the letter's count without a stop, and q bytes until the next test
pub record Roomy (k q : ℕ) (layout : Layout) : Type 0 where
  pub starts : (v : ℕ) → 0 < v → v + 1 ≤ 2 ^ (layout.own v - 1)
  pub own-holds : (v : ℕ) → 0 < v → k + q ≤ 2 ^ (layout.own v - 1)
  pub common-some : 0 < layout.common
  pub common-holds : k + q ≤ 2 ^ (layout.common - 1)

module _ (P : List ℕ) (k q : ℕ) (layout : Layout) (bytes : Bytes P) (roomy : Roomy k q layout) where
  -- What a field tells after the bytes R: its top bit is set exactly where their evidence added to it more often than its letter's count, and
  -- it did not carry into its neighbour
  record Tells (R : List ℕ) (f : ℕ) : Type 0 where
    top : top_set (width_of P layout f) (value_of P layout R f) ≡ ltb (cc P f) (hits P (evidence R) f)
    holds : value_of P layout R f < 2 ^ width_of P layout f

  from-kept : (R : List ℕ) (f g : ℕ) → width_of P layout f ≡ g → SaveResult g (cc P f) (hits P (evidence R) f) → Tells R f
  unfolding value_of start_value hits
  from-kept R f g e field = record { top = rw e field.top; holds = rw e field.holds }

  tells : (R : List ℕ) (f : ℕ) → Bytes R → excess P R ≤ k + q → f < field_count → Tells R f
  unfolding excess
  tells R f hR within l = let at : Stands P f = stands P f l in case at (hits-within P (evidence R) f (bytes-evidence R hR) at)
    where
      case : Stands P f → hits P (evidence R) f ≤ cc P f + beyond (cc P) (evidence R) → Tells R f
      case (for-letter small h) most =
          from-kept R f (layout.own (cc P f)) (width-own P layout f small h)
          (kept (layout.own (cc P f)) (cc P f) (hits P (evidence R) f) (some_bits (layout.own (cc P f)) (cc P f) h (roomy.starts (cc P f) h))
          (roomy.starts (cc P f) h) (omega (arith, roomy.own-holds (cc P f) h)))
      case (for-others e) most =
          let none : cc P f ≡ 0 = ap (cc P) e ∙ cc-out P shared bytes (le_refl 256) in
          from-kept R f layout.common (ap (width_of P layout) e ∙ width-shared P layout)
          (rw none
          (kept layout.common 0 (hits P (evidence R) f) roomy.common-some (pow_pos (layout.common - 1)) (omega (arith, roomy.common-holds))))
      case (for-none small e) most = from-kept R f 0 (width-none P layout f small e) (rw (e, hits-none P (evidence R) f small e) kept-none)

  -- no field carries into its neighbour before the scan stops
  pub no-carry : (R : List ℕ) (f : ℕ) → Bytes R → excess P R ≤ k + q → f < field_count → value_of P layout R f < 2 ^ width_of P layout f
  no-carry R f hR within l = (tells R f hR within l).holds

  -- the own top bit of a byte that is no lost hour tells whether it is in excess
  own-top : (b : ℕ) (R : List ℕ) → Bytes (b ∷ R) → excess P (b ∷ R) ≤ k + q → lost b ≡ false → own_top_set P layout (b ∷ R) b ≡ used_up P R b
  unfolding own_top_set
  own-top b R hR within kept =
      (tells (b ∷ R) (field_of P b) hR within (field-numbered P b (bytes-head hR))).top
      ∙ rw (evidence-kept b R kept) (hits-own P b (evidence R) bytes (bytes-head hR)) ∙ sym (used-up-kept P R b kept)

  -- errors are the excess
  errors-excess : (R : List ℕ) → Bytes R → excess P R ≤ k + q → errors P layout R ≡ excess P R
  unfolding errors
  errors-excess [] hR within = sym (excess-nil P)
  errors-excess (b ∷ R) hR within =
      let grown : excess P (b ∷ R) ≡ excess P R + bit (used_up P R b) = excess-cons P b R (bytes-head hR) in
      let earlier : errors P layout R ≡ excess P R = errors-excess R (bytes-tail hR) (omega arith) in
      rw earlier (by (lost b) refl)
    where
      by : (t : Bool) → lost b ≡ t → cond t 0 (bit (own_top_set P layout (b ∷ R) b)) + excess P R ≡ excess P (b ∷ R)
      by true e = omega (arith, excess-lost P b R e)
      by false e = rw (own-top b R hR within e, excess-cons P b R (bytes-head hR)) (omega arith)

-- ---- the methods' tests

-- methods 2 and 3: a field's top bit is set exactly where there is an excess
pub overflows-exact : (P : List ℕ) (q : ℕ) (layout : Layout) → Bytes P → Roomy 0 q layout → Exact P 0 q (overflows P layout)
unfolding overflows excess
overflows-exact P q layout hP roomy = record { tells = λ U hU within. ⊎_elim (none U hU within) (found U hU within) (eq-zero-or-pos (excess P U)) }
  where
    none : (U : List ℕ) → Bytes U → excess P U ≤ 0 + q → excess P U ≡ 0 → overflows P layout U ≡ ltb 0 (excess P U)
    none U hU within e =
        some-none field_count (λ f. top_set (width_of P layout f) (value_of P layout U f))
        (λ f l. (tells P 0 q layout hP roomy U f hU within l).top ∙ le-ltb (cc P f) (hits P (evidence U) f) (omega (arith, hits-within P (evidence U) f (bytes-evidence U hU) (stands P f l))))
        ∙ sym (le-ltb 0 (excess P U) (omega arith))

    found : (U : List ℕ) → Bytes U → excess P U ≤ 0 + q → 0 < excess P U → overflows P layout U ≡ ltb 0 (excess P U)
    found U hU within h =
        let o : Over P (evidence U) = over P (evidence U) hP (bytes-evidence U hU) h in
        some_at field_count (λ f. top_set (width_of P layout f) (value_of P layout U f)) o.field o.numbered
        ((tells P 0 q layout hP roomy U o.field hU within o.numbered).top ∙ lt-ltb (cc P o.field) (hits P (evidence U) o.field) o.more)
        ∙ sym (lt-ltb 0 (excess P U) h)

-- method 4: the errors pass k exactly where the excess does
pub errors-exact : (P : List ℕ) (k q : ℕ) (layout : Layout) → Bytes P → Roomy k q layout → Exact P k q (λ R. ltb k (errors P layout R))
errors-exact P k q layout hP roomy = record { tells = λ U hU within. ap (ltb k) (errors-excess P k q layout hP roomy U hU within) }

-- ---- the layouts

-- where every letter's count stays below its top bit, an own field has room for a step of one byte or two
pub letters-roomy : (layout : Layout) (q : ℕ) → q ≤ 2 → ((v : ℕ) → v < 2 ^ (layout.own v - 1)) → 0 < layout.common → q ≤ 2 ^ (layout.common - 1)
    → Roomy 0 q layout
letters-roomy layout q few below some holds =
    record {
      starts = λ v h. omega (arith, below v);
      own-holds = λ v h. omega (arith, below v);
      common-some = some;
      common-holds = omega arith;
    }

pub bam-roomy : Roomy 0 1 bam_layout
bam-roomy = letters-roomy bam_layout 1 (omega arith) bam-letters.enough (omega arith) (omega arith)

pub bam2-roomy : Roomy 0 2 bam2_layout
bam2-roomy = letters-roomy bam2_layout 2 (omega arith) bam2-letters.enough (omega arith) (omega arith)

-- a field of lg(v) + 2 bits has 2^(lg(v) + 1), at least twice v and at least 2, below its top bit
pub doubled-lg : (v : ℕ) → 2 * max v 1 ≤ 2 ^ (lg v + 2 - 1)
doubled-lg v = let less : lg v + 2 - 1 ≡ suc (lg v) = omega arith in rw (less, pow-succ' 2 (lg v)) (omega (arith, lg-enough v))

-- so in method 4 a letter's field has twice the larger of its count and k there
abam-doubled : (k v : ℕ) → 2 * max (max v k) 1 ≤ 2 ^ ((abam_layout k).own v - 1)
abam-doubled k v = doubled-lg (max v k)

pub abam-roomy : (k : ℕ) → Roomy k 1 (abam_layout k)
abam-roomy k =
    record {
      starts = λ v h. omega (arith, abam-doubled k v);
      own-holds = λ v h. omega (arith, abam-doubled k v);
      common-some = omega arith;
      common-holds = omega (arith, doubled-lg k);
    }
