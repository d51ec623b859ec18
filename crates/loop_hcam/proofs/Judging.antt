-- How method 5 judges a window by its sum and its lost hours.
use Rattle.std.proofs.Common.{◌≡◌, ℕ, zero, suc, ◌<◌, Bool, true, false, cond, not, ◌||◌, eqb, ltb, List, length, sym, refl, true≢false, arith, lt-ltb, ne_eqb}
use Rattle.jumbled.specs.Match.{occurs, lost_hour}
use Rattle.jumbled.specs.Heap.{exact}
use Rattle.jumbled.specs.Steps.{candidate, verified, hcam_judged}
use Rattle.table_parikh.specs.Table.{allowances, within_counts}
use Rattle.table_parikh.proofs.Excess.{within-matches}
use Rattle.table_heap.specs.declared.Target.{Target}
use Rattle.table_heap.specs.Table.{HeapTabled}
use Rattle.loop_hcam.specs.Hashing.{Summing}
use Rattle.loop_hcam.specs.declared.Finding.{Finding}
use Rattle.loop_hcam.specs.Hashing.{Finds}

-- some lost hours, or none
some-lost : (n : ℕ) → ltb 0 n ≡ not (eqb n 0)
some-lost zero = refl
some-lost (suc n) = rw (lt-ltb 0 (suc n) (omega arith), ne_eqb (suc n) 0 (λ e. omega arith)) refl

-- What is found of a window is what the steps say of it
pub record Rightly (P W : List ℕ) (listed : Bool) (verification : ℕ) : Type 0 where
  pub lists : listed ≡ (hcam_judged P W).listed
  pub verifies : verification ≡ (hcam_judged P W).verification

module _ {P W values : List ℕ} {sum lost : ℕ} {target : Target} (tabled : HeapTabled P values target) (state : Summing P W (record { sum = sum; lost = lost })) where
  -- by the sum a window is a candidate, and by the number whether it holds a lost hour
  candidate-told : eqb sum target.sum ≡ candidate P W
  unfolding candidate
  candidate-told = rw (state.sums, tabled.own-sum) refl

  lost-told : ltb 0 lost ≡ occurs W lost_hour
  unfolding occurs
  lost-told = rw (some-lost lost, state.holds-lost) refl

  -- neither: it is not listed
  pub judged-none : (ltb 0 lost || eqb sum target.sum) ≡ false → Rightly P W false 0
  unfolding hcam_judged verified
  judged-none e = by (ltb 0 lost) (eqb sum target.sum) lost-told candidate-told e
    where
      by : (l c : Bool) → l ≡ occurs W lost_hour → c ≡ candidate P W → (l || c) ≡ false → Rightly P W false 0
      by true c el ec q = absurd (true≢false q)
      by false true el ec q = absurd (true≢false q)
      by false false el ec q = record { lists = rw (← el, ← ec) refl; verifies = rw (← el, ← ec) refl }

  -- one of the two: it is listed where that is sure, and verified otherwise
  pub judged-found : {allowed : List ℕ} → allowed ≡ allowances P → length W ≡ length P → length W < 255
      → (ltb 0 lost || eqb sum target.sum) ≡ true → {r : Finding} → Finds allowed lost target.exact W r → Rightly P W r.listed r.verification
  unfolding hcam_judged verified
  judged-found {allowed} allows sized few e found =
      rw found (by (ltb 0 lost) (eqb sum target.sum) target.exact lost-told candidate-told tabled.exact e)
    where
      findings : Bool → Finding
      findings t = cond t (record { listed = within_counts allowed W; verification = length W }) (record { listed = true; verification = 0 })

      by : (l c x : Bool) → l ≡ occurs W lost_hour → c ≡ candidate P W → x ≡ exact P → (l || c) ≡ true
          → Rightly P W (findings (l || not x)).listed (findings (l || not x)).verification
      by true c x el ec ex q = record { lists = rw (← el) (within-matches P W few allows); verifies = rw (← el) sized }
      by false true true el ec ex q = record { lists = rw (← el, ← ec, ← ex) refl; verifies = rw (← el, ← ec, ← ex) refl }
      by false true false el ec ex q = record { lists = rw (← el, ← ec, ← ex) (within-matches P W few allows); verifies = rw (← el, ← ec, ← ex) sized }
      by false false x el ec ex q = absurd (true≢false (sym q))
