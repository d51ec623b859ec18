-- Laws of `Bytes`, `cc`, `occurs`, `evidence` and `excess`.
use mathlib.Core.Path.{◌≡◌, refl, sym, ap, ap₂, ◌∙◌}
use mathlib.Core.Bool.{Bool, true, false, cond}
use mathlib.Core.List.{List, [], ◌∷◌, ◌++◌, append-nil}
use mathlib.Core.Logic.{◌⊎◌, inl, inr}
use Prim.Native.Nat.{ℕ, zero, suc, ◌+◌, ◌-◌, ◌≤◌, ◌<◌}
use native.Mathlib.Nat.{add_assoc, add_comm, zero-add, zero-sub, le_refl, le_of_eq, le_antisymm}
use native.Mathlib.Omega.{arith}
use lib.Dec.{eqb, leb}
use lib.ListN.{length, get_or, take, drop, take-append-drop}
use lib.Seq.{take-append_seam, drop-append_seam}
use borrow.Author.Tests.{eq-eqb, ne_eqb, eqb-true, eqb-false, le-leb, lt-leb, not-false}
use Rattle.jumbled.specs.Match.{Bytes, bit, cc, occurs, sum, lost_hour, lost, evidence, beyond, excess, used_up}
use Rattle.jumbled.proofs.Sums.{below_or_not, sum_zeros, sum-ext, sum_mono, sum-add, sum-at, sum_same, sum-point}

-- ---- bytes

pub bytes-nil : Bytes []
bytes-nil = record { below = λ i. omega arith }

pub bytes-cons : {b : ℕ} {U : List ℕ} → b < 256 → Bytes U → Bytes (b ∷ U)
bytes-cons {b} {U} h hs = record { below = at }
  where
    at : (i : ℕ) → get_or (b ∷ U) i 0 < 256
    at zero = h
    at (suc i) = hs.below i

pub bytes-head : {b : ℕ} {U : List ℕ} → Bytes (b ∷ U) → b < 256
bytes-head h = h.below 0

pub bytes-tail : {b : ℕ} {U : List ℕ} → Bytes (b ∷ U) → Bytes U
bytes-tail h = record { below = λ i. h.below (suc i) }

pub bytes-append : (U W : List ℕ) → Bytes U → Bytes W → Bytes (U ++ W)
bytes-append [] W hU hV = hV
bytes-append (b ∷ U) W hU hV = bytes-cons (bytes-head hU) (bytes-append U W (bytes-tail hU) hV)

pub bytes_take : (n : ℕ) (U : List ℕ) → Bytes U → Bytes (take n U)
bytes_take zero U h = bytes-nil
bytes_take (suc n) [] h = bytes-nil
bytes_take (suc n) (b ∷ U) h = bytes-cons (bytes-head h) (bytes_take n U (bytes-tail h))

pub bytes_drop : (n : ℕ) (U : List ℕ) → Bytes U → Bytes (drop n U)
bytes_drop zero U h = h
bytes_drop (suc n) [] h = bytes-nil
bytes_drop (suc n) (b ∷ U) h = bytes_drop n U (bytes-tail h)

pub bytes-front : (U W : List ℕ) → Bytes (U ++ W) → Bytes U
bytes-front U W h = rw (take-append_seam U W) at (bytes_take (length U) (U ++ W) h)

pub bytes_back : (U W : List ℕ) → Bytes (U ++ W) → Bytes W
bytes_back U W h = rw (drop-append_seam U W) at (bytes_drop (length U) (U ++ W) h)

-- ---- cc

pub cc-nil : (c : ℕ) → cc [] c ≡ 0
unfolding cc
cc-nil c = refl

pub cc-cons : (b : ℕ) (U : List ℕ) (c : ℕ) → cc (b ∷ U) c ≡ bit (eqb b c) + cc U c
unfolding cc
cc-cons b U c = refl

pub cc-append : (U W : List ℕ) (c : ℕ) → cc (U ++ W) c ≡ cc U c + cc W c
unfolding cc
cc-append [] W c = sym (zero-add (cc W c))
cc-append (b ∷ U) W c = ap (λ (n : ℕ). bit (eqb b c) + n) (cc-append U W c) ∙ sym (add_assoc (bit (eqb b c)) (cc U c) (cc W c))

pub cc-take : (n : ℕ) (U : List ℕ) (c : ℕ) → cc (take n U) c ≤ cc U c
cc-take n U c = omega (arith, cc-append (take n U) (drop n U) c, ap (λ (l : List ℕ). cc l c) (take-append-drop n U))

pub cc-drop : (n : ℕ) (U : List ℕ) (c : ℕ) → cc (drop n U) c ≤ cc U c
cc-drop n U c = omega (arith, cc-append (take n U) (drop n U) c, ap (λ (l : List ℕ). cc l c) (take-append-drop n U))

pub bit_le : (t : Bool) → bit t ≤ 1
bit_le true = omega arith
bit_le false = omega arith

pub cc-length : (U : List ℕ) (c : ℕ) → cc U c ≤ length U
unfolding cc
cc-length [] c = omega arith
cc-length (b ∷ U) c = let ih = cc-length U c in omega (arith, bit_le (eqb b c))

-- no byte is 256 or more
pub cc-out : (U : List ℕ) (c : ℕ) → Bytes U → 256 ≤ c → cc U c ≡ 0
unfolding cc
cc-out [] c h l = refl
cc-out (b ∷ U) c h l =
    let hb = bytes-head h in
    rw (ne_eqb b c (λ e. omega arith), cc-out U c (bytes-tail h) l) refl

-- ---- occurs

pub occurs-some : (U : List ℕ) (c : ℕ) → 0 < cc U c → occurs U c ≡ true
unfolding occurs
occurs-some U c h = rw (ne_eqb (cc U c) 0 (λ e. omega arith)) refl

pub occurs-none : (U : List ℕ) (c : ℕ) → cc U c ≡ 0 → occurs U c ≡ false
unfolding occurs
occurs-none U c h = rw (eq-eqb (cc U c) 0 h) refl

-- a letter that does not occur has no count
pub lacked : (U : List ℕ) (c : ℕ) → occurs U c ≡ false → cc U c ≡ 0
unfolding occurs
lacked U c e = eqb-true (cc U c) 0 (not-false (eqb (cc U c) 0) e)

-- the counts of all bytes add up to the length
cc-total : (U : List ℕ) → Bytes U → sum 256 (cc U) ≡ length U
cc-total [] h = sum_zeros 256 (cc []) cc-nil
cc-total (b ∷ U) h =
    sum-ext 256 (cc (b ∷ U)) (λ c. bit (eqb b c) + cc U c) (λ c l. cc-cons b U c)
    ∙ sum-add 256 (λ c. bit (eqb b c)) (cc U)
    ∙ ap₂ ◌+◌ (sum-point 256 b 1 (bytes-head h)) (cc-total U (bytes-tail h))
    ∙ omega arith

-- ---- beyond a limit for each byte

pub beyond-nil : (limit : ℕ → ℕ) → beyond limit [] ≡ 0
unfolding beyond
beyond-nil limit = sum_zeros 256 (λ c. cc [] c - limit c) (λ c. rw (cc-nil c) (zero-sub (limit c)))

-- more of each byte, no less beyond
pub beyond-mono : (limit : ℕ → ℕ) (U W : List ℕ) → ((c : ℕ) → cc U c ≤ cc W c) → beyond limit U ≤ beyond limit W
unfolding beyond
beyond-mono limit U W h = sum_mono 256 (λ c. cc U c - limit c) (λ c. cc W c - limit c) (λ c l. omega (arith, h c))

-- a byte more adds 1 where its limit was reached before
pub beyond-cons : (limit : ℕ → ℕ) (b : ℕ) (R : List ℕ) → b < 256 → beyond limit (b ∷ R) ≡ beyond limit R + bit (leb (limit b) (cc R b))
unfolding beyond
beyond-cons limit b R h =
    sum-ext 256 (λ c. cc (b ∷ R) c - limit c) (λ c. (cc R c - limit c) + cond (eqb b c) (bit (leb (limit b) (cc R b))) 0) (λ c l. at c)
    ∙ sum-add 256 (λ c. cc R c - limit c) (λ c. cond (eqb b c) (bit (leb (limit b) (cc R b))) 0)
    ∙ ap (λ (n : ℕ). sum 256 (λ c. cc R c - limit c) + n) (sum-point 256 b (bit (leb (limit b) (cc R b))) h)
  where
    one_more : (p r : ℕ) → (r < p) ⊎ (p ≤ r) → (1 + r) - p ≡ (r - p) + bit (leb p r)
    one_more p r (inl l) = rw (lt-leb p r l) (omega arith)
    one_more p r (inr l) = rw (le-leb p r l) (omega arith)

    case : (c : ℕ) (t : Bool) → eqb b c ≡ t → (bit t + cc R c) - limit c ≡ (cc R c - limit c) + cond t (bit (leb (limit b) (cc R b))) 0
    case c true e = rw (eqb-true b c e) (one_more (limit c) (cc R c) (below_or_not (cc R c) (limit c)))
    case c false e = omega arith

    at : (c : ℕ) → cc (b ∷ R) c - limit c ≡ (cc R c - limit c) + cond (eqb b c) (bit (leb (limit b) (cc R b))) 0
    at c = rw (cc-cons b R c) (case c (eqb b c) refl)

-- a byte at the other end: the order does not matter to counts, nor to what is beyond
pub cc-turned : (b : ℕ) (U : List ℕ) (c : ℕ) → cc (U ++ (b ∷ [])) c ≡ cc (b ∷ U) c
cc-turned b U c = cc-append U (b ∷ []) c ∙ add_comm (cc U c) (cc (b ∷ []) c) ∙ sym (cc-append (b ∷ []) U c)

pub beyond-snoc : (limit : ℕ → ℕ) (U : List ℕ) (b : ℕ) → b < 256 → beyond limit (U ++ (b ∷ [])) ≡ beyond limit U + bit (leb (limit b) (cc U b))
unfolding beyond
beyond-snoc limit U b h =
    sum-ext 256 (λ c. cc (U ++ (b ∷ [])) c - limit c) (λ c. cc (b ∷ U) c - limit c) (λ c l. ap (λ (n : ℕ). n - limit c) (cc-turned b U c))
    ∙ beyond-cons limit b U h

-- what one byte has beyond its limit is part of the whole
pub beyond-at : (limit : ℕ → ℕ) (R : List ℕ) (c : ℕ) → c < 256 → cc R c - limit c ≤ beyond limit R
unfolding beyond
beyond-at limit R c h = sum-at 256 (λ d. cc R d - limit d) c h

-- the same limits, and the same counts wherever the limit can be passed
pub beyond-ext : (limit other : ℕ → ℕ) (U W : List ℕ) → ((c : ℕ) → c < 256 → cc U c - limit c ≡ cc W c - other c) → beyond limit U ≡ beyond other W
unfolding beyond
beyond-ext limit other U W h = sum-ext 256 (λ c. cc U c - limit c) (λ c. cc W c - other c) h

-- ---- evidence

pub evidence-nil : evidence [] ≡ []
unfolding evidence
evidence-nil = refl

pub evidence-lost : (b : ℕ) (U : List ℕ) → lost b ≡ true → evidence (b ∷ U) ≡ evidence U
unfolding evidence
evidence-lost b U e = rw e refl

pub evidence-kept : (b : ℕ) (U : List ℕ) → lost b ≡ false → evidence (b ∷ U) ≡ b ∷ evidence U
unfolding evidence
evidence-kept b U e = rw e refl

pub evidence-append : (U W : List ℕ) → evidence (U ++ W) ≡ evidence U ++ evidence W
unfolding evidence
evidence-append [] W = refl
evidence-append (b ∷ U) W = rw (evidence-append U W) (case (lost b))
  where
    case : (t : Bool) → cond t (evidence U ++ evidence W) (b ∷ (evidence U ++ evidence W)) ≡ cond t (evidence U) (b ∷ evidence U) ++ evidence W
    case true = refl
    case false = refl

-- it counts every byte but the lost hours as the text does
pub cc-evidence : (U : List ℕ) (c : ℕ) → cc (evidence U) c ≡ cond (lost c) 0 (cc U c)
cc-evidence [] c = rw (evidence-nil, cc-nil c) (case (lost c))
  where
    case : (t : Bool) → ◌≡◌ {A = ℕ} 0 (cond t 0 0)
    case true = refl
    case false = refl
cc-evidence (b ∷ U) c = by (cc-evidence U c) (lost b) refl
  where
    here : (t : Bool) → lost c ≡ t → lost b ≡ true → cond t 0 (cc U c) ≡ cond t 0 (bit (eqb b c) + cc U c)
    here true e l = refl
    here false e l = let differs : eqb b c ≡ false = rw (← eqb-true lost_hour b l) e in rw differs (omega arith)

    kept : (t : Bool) → lost c ≡ t → lost b ≡ false → bit (eqb b c) + cond t 0 (cc U c) ≡ cond t 0 (bit (eqb b c) + cc U c)
    kept true e l =
        let differs : eqb b c ≡ false = ne_eqb b c (λ q. eqb-false lost_hour b l (eqb-true lost_hour c e ∙ sym q)) in
        rw differs refl
    kept false e l = refl

    by : cc (evidence U) c ≡ cond (lost c) 0 (cc U c) → (t : Bool) → lost b ≡ t → cc (evidence (b ∷ U)) c ≡ cond (lost c) 0 (cc (b ∷ U) c)
    by before true l = rw (evidence-lost b U l, before, cc-cons b U c) (here (lost c) refl l)
    by before false l = rw (evidence-kept b U l, cc-cons b (evidence U) c, before, cc-cons b U c) (kept (lost c) refl l)

pub cc-kept : (U : List ℕ) (c : ℕ) → lost c ≡ false → cc (evidence U) c ≡ cc U c
cc-kept U c e = rw e at (cc-evidence U c)

pub cc-evidence-le : (U : List ℕ) (c : ℕ) → cc (evidence U) c ≤ cc U c
cc-evidence-le U c = rw (cc-evidence U c) (case (lost c))
  where
    case : (t : Bool) → cond t 0 (cc U c) ≤ cc U c
    case true = omega arith
    case false = le_refl (cc U c)

pub bytes-evidence : (U : List ℕ) → Bytes U → Bytes (evidence U)
bytes-evidence [] h = rw evidence-nil bytes-nil
bytes-evidence (b ∷ U) h = by (bytes-evidence U (bytes-tail h)) (lost b) refl
  where
    by : Bytes (evidence U) → (t : Bool) → lost b ≡ t → Bytes (evidence (b ∷ U))
    by before true e = rw (evidence-lost b U e) before
    by before false e = rw (evidence-kept b U e) (bytes-cons (bytes-head h) before)

-- ---- excess

pub excess-nil : (P : List ℕ) → excess P [] ≡ 0
unfolding excess
excess-nil P = rw evidence-nil (beyond-nil (cc P))

-- more of each byte, no less excess
pub excess-mono : (P U W : List ℕ) → ((c : ℕ) → cc U c ≤ cc W c) → excess P U ≤ excess P W
unfolding excess
excess-mono P U W h = beyond-mono (cc P) (evidence U) (evidence W) (λ c. rw (cc-evidence U c, cc-evidence W c) (case c (lost c)))
  where
    case : (c : ℕ) (t : Bool) → cond t 0 (cc U c) ≤ cond t 0 (cc W c)
    case c true = omega arith
    case c false = h c

-- what P allows of a byte is used up, and is not
pub used-up : (P R : List ℕ) (b : ℕ) → lost b ≡ false → cc P b ≤ cc R b → used_up P R b ≡ true
unfolding used_up
used-up P R b e l = rw (e, le-leb (cc P b) (cc R b) l) refl

pub not-used-up : (P R : List ℕ) (b : ℕ) → cc R b < cc P b → used_up P R b ≡ false
unfolding used_up
not-used-up P R b l = rw (lt-leb (cc P b) (cc R b) l) (case (lost b))
  where
    case : (t : Bool) → cond t false false ≡ false
    case true = refl
    case false = refl

-- nothing of a lost hour
pub used-up-lost : (P R : List ℕ) (b : ℕ) → lost b ≡ true → used_up P R b ≡ false
unfolding used_up
used-up-lost P R b e = rw e refl

-- by the counts
pub used-up-test : (P R : List ℕ) (b : ℕ) → lost b ≡ false → used_up P R b ≡ leb (cc P b) (cc R b)
unfolding used_up
used-up-test P R b e = rw e refl

-- of the evidence as of the text
pub used-up-kept : (P R : List ℕ) (b : ℕ) → lost b ≡ false → used_up P R b ≡ leb (cc P b) (cc (evidence R) b)
used-up-kept P R b e = used-up-test P R b e ∙ ap (leb (cc P b)) (sym (cc-kept R b e))

-- a lost hour more, on either side, adds nothing
pub excess-lost : (P : List ℕ) (b : ℕ) (R : List ℕ) → lost b ≡ true → excess P (b ∷ R) ≡ excess P R
unfolding excess
excess-lost P b R e = rw (evidence-lost b R e) refl

-- a byte more adds 1 where what P allows of it was used up before
pub excess-cons : (P : List ℕ) (b : ℕ) (R : List ℕ) → b < 256 → excess P (b ∷ R) ≡ excess P R + bit (used_up P R b)
unfolding excess
excess-cons P b R h = by (lost b) refl
  where
    by : (t : Bool) → lost b ≡ t → beyond (cc P) (evidence (b ∷ R)) ≡ beyond (cc P) (evidence R) + bit (used_up P R b)
    by true e = rw (evidence-lost b R e, used-up-lost P R b e) (omega arith)
    by false e = rw (evidence-kept b R e, used-up-kept P R b e) (beyond-cons (cc P) b (evidence R) h)

-- and so it does at the other end
pub excess-turned : (P U : List ℕ) (b : ℕ) → excess P (U ++ (b ∷ [])) ≡ excess P (b ∷ U)
excess-turned P U b =
    le_antisymm
    (excess-mono P (U ++ (b ∷ [])) (b ∷ U) (λ c. le_of_eq (cc-turned b U c))) (excess-mono P (b ∷ U) (U ++ (b ∷ [])) (λ c. le_of_eq (sym (cc-turned b U c))))

pub excess-snoc : (P U : List ℕ) (b : ℕ) → b < 256 → excess P (U ++ (b ∷ [])) ≡ excess P U + bit (used_up P U b)
excess-snoc P U b h = excess-turned P U b ∙ excess-cons P b U h

-- the excess never shrinks when a part of a window is extended to the left, and grows by at most 1 a byte
pub excess-append : (P A R : List ℕ) → Bytes A → excess P (A ++ R) ≤ length A + excess P R
excess-append P [] R h = omega arith
excess-append P (b ∷ A) R h =
    let ih = excess-append P A R (bytes-tail h) in
    omega (arith, excess-cons P b (A ++ R) (bytes-head h), bit_le (used_up P (A ++ R) b))

pub excess-length : (P U : List ℕ) → Bytes U → excess P U ≤ length U
excess-length P U h = omega (arith, rw (append-nil U, excess-nil P) at (excess-append P U [] h))

pub excess-left : (P A R : List ℕ) → excess P R ≤ excess P (A ++ R)
excess-left P A R = excess-mono P R (A ++ R) (λ c. omega (arith, cc-append A R c))

-- ---- windows of the pattern's length

module _ (P W : List ℕ) (hP : Bytes P) (hW : Bytes W) (same : length W ≡ length P) where
  totals : sum 256 (cc W) ≡ sum 256 (cc P)
  totals = cc-total W hW ∙ same ∙ sym (cc-total P hP)

  -- no lost hour and no excess: the counts are the pattern's
  pub counts-of-excess : occurs W lost_hour ≡ false → excess P W ≡ 0 → (c : ℕ) → c < 256 → cc W c ≡ cc P c
  unfolding excess
  counts-of-excess none e = sum_same 256 (cc W) (cc P) (λ c l. case c l (lost c) refl) totals
    where
      case : (c : ℕ) → c < 256 → (t : Bool) → lost c ≡ t → cc W c ≤ cc P c
      case c l true q =
          let no : cc W c ≡ 0 = ap (cc W) (sym (eqb-true lost_hour c q)) ∙ lacked W lost_hour none in
          omega arith
      case c l false q = omega (arith, cc-kept W c q, beyond-at (cc P) (evidence W) c l)

  -- no byte too few: the counts are the pattern's
  pub counts-of-enough : ((c : ℕ) → c < 256 → cc P c ≤ cc W c) → (c : ℕ) → c < 256 → cc W c ≡ cc P c
  counts-of-enough h c l = sym (sum_same 256 (cc P) (cc W) h (sym totals) c l)

pub excess-of-counts : (P W : List ℕ) → ((c : ℕ) → c < 256 → cc W c ≡ cc P c) → excess P W ≡ 0
unfolding excess
excess-of-counts P W h =
    beyond-ext (cc P) (λ c. 0) (evidence W) [] (λ c l. omega (arith, h c l, cc-evidence-le W c, cc-nil c)) ∙ beyond-nil (λ c. 0)
