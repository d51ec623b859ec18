-- The excess of bytes that are counted one after another, and what their counters say of it.
use mathlib.Core.Path.{◌≡◌, refl, sym, ap, ◌∙◌}
use mathlib.Core.Bool.{Bool, true, false, cond}
use mathlib.Core.List.{List}
use Prim.Native.Nat.{ℕ, ◌+◌, ◌-◌, ◌≤◌, ◌<◌}
use native.Mathlib.Nat.{le_of_eq}
use native.Mathlib.Omega.{arith}
use lib.Dec.{leb}
use lib.ListN.{length, get_or, take}
use lib.Seq.{take_all}
use borrow.Author.Tests.{le-leb, lt-leb}
use Rattle.jumbled.specs.Match.{bit, cc, lost, evidence, beyond, excess, used_up, matches}
use Rattle.jumbled.proofs.Counts.{cc-take, cc-length, cc-evidence, cc-kept, beyond-nil, beyond-snoc, beyond-mono, beyond-ext, used-up-test, used-up-lost}
use Rattle.table_parikh.specs.Table.{parikh, allowances, within_counts}
use Rattle.table_parikh.proofs.Tables.{get_d_tabulate}
use Rattle.table_parikh.proofs.Parikh.{get_or-parikh}
use Rattle.table_parikh.proofs.Letters.{take_more}

-- what P allows of a byte
pub allowance : (P : List ℕ) {allowed : List ℕ} → allowed ≡ allowances P → (c : ℕ) → c < 256 → get_or allowed c 0 ≡ cond (lost c) 255 (cc P c)
unfolding allowances
allowance P known c l = rw known (get_d_tabulate 256 (λ d. cond (lost d) 255 (cc P d)) c l)

-- what the allowances of the pattern and the counters of the bytes U say of a byte
pub spent : (P U : List ℕ) {allowed counts : List ℕ} {b : ℕ} → allowed ≡ allowances P → counts ≡ parikh U → length U < 255 → b < 256
    → leb (get_or allowed b 0) (get_or counts b 0) ≡ used_up P U b
spent P U {b = b} known counted few byte = rw (allowance P known b byte, counted, get_or-parikh U b byte) (by (lost b) refl)
  where
    by : (t : Bool) → lost b ≡ t → leb (cond t 255 (cc P b)) (cc U b) ≡ used_up P U b
    by true e = lt-leb 255 (cc U b) (omega (arith, cc-length U b)) ∙ sym (used-up-lost P U b e)
    by false e = sym (used-up-test P U b e)

-- so a window that stays within the allowances is a match
pub within-matches : (P W : List ℕ) {allowed : List ℕ} → length W < 255 → allowed ≡ allowances P → within_counts allowed W ≡ matches P 0 W
unfolding within_counts matches excess
within-matches P W {allowed} few known =
    ap (λ (n : ℕ). leb n 0) (beyond-ext (λ c. get_or allowed c 0) (cc P) W (evidence W) (λ c l. rw (allowance P known c l) (by c (lost c) refl)))
  where
    by : (c : ℕ) (t : Bool) → lost c ≡ t → cc W c - cond t 255 (cc P c) ≡ cc (evidence W) c - cc P c
    by c true e = let none : cc (evidence W) c ≡ 0 = rw e at (cc-evidence W c) in omega (arith, cc-length W c)
    by c false e = ap (λ (n : ℕ). n - cc P c) (sym (cc-kept W c e))

-- ---- the bytes of a window, from its first one on, by any table

-- how often a table allows each byte
abbrev limit : List ℕ → ℕ → ℕ
limit allowed c = get_or allowed c 0

-- None of the first i bytes of W is too many
pub record Passed (allowed W : List ℕ) (i : ℕ) : Type 0 where
  pub inside : i ≤ length W
  pub none_over : beyond (limit allowed) (take i W) ≡ 0

pub passed_none : (allowed W : List ℕ) → Passed allowed W 0
passed_none allowed W = record { inside = omega arith; none_over = beyond-nil (limit allowed) }

module _ {allowed W : List ℕ} {i : ℕ} (so_far : Passed allowed W i) where
  -- where the counters are those of these bytes, the next one is not too many, or it is
  module _ {counts : List ℕ} (counted : counts ≡ parikh (take i W)) (more : i < length W) (byte : get_or W i 0 < 256) where
    next : beyond (limit allowed) (take (i + 1) W) ≡ bit (leb (limit allowed (get_or W i 0)) (get_or counts (get_or W i 0) 0))
    next =
        rw (counted, get_or-parikh (take i W) (get_or W i 0) byte)
        (ap (beyond (limit allowed)) (sym (take_more W i more)) ∙ beyond-snoc (limit allowed) (take i W) (get_or W i 0) byte ∙ omega (arith, so_far.none_over))

    pub passes_on : get_or counts (get_or W i 0) 0 < limit allowed (get_or W i 0) → Passed allowed W (i + 1)
    passes_on h = record { inside = omega arith; none_over = rw (lt-leb (limit allowed (get_or W i 0)) (get_or counts (get_or W i 0) 0) h) at next }

    pub exceeds : limit allowed (get_or W i 0) ≤ get_or counts (get_or W i 0) 0 → within_counts allowed W ≡ false
    unfolding within_counts
    exceeds h =
        let one : beyond (limit allowed) (take (i + 1) W) ≡ 1 = rw (le-leb (limit allowed (get_or W i 0)) (get_or counts (get_or W i 0) 0) h) at next in
        lt-leb (beyond (limit allowed) W) 0 (omega (arith, beyond-mono (limit allowed) (take (i + 1) W) W (cc-take (i + 1) W)))

  pub exceeds-nowhere : length W ≤ i → within_counts allowed W ≡ true
  unfolding within_counts
  exceeds-nowhere all =
      le-leb (beyond (limit allowed) W) 0 (le_of_eq (ap (beyond (limit allowed)) (sym (take_all i W all)) ∙ so_far.none_over))
