-- 13 of several patterns (document 02, T-07): where 1 and 12 are not given, it is given exactly where one of the patterns holds a lost hour.
use mathlib.Core.Path.{◌≡◌, refl, sym, ◌∙◌}
use mathlib.Core.Bool.{Bool, true, false, true≢false}
use mathlib.Core.List.{List, ◌++◌}
use Prim.Native.Nat.{ℕ, suc, ◌-◌, ◌≤◌}
use native.Mathlib.Omega.{arith}
use lib.ListN.{length, get_or}
use Rattle.jumbled.specs.Match.{occurs, lost_hour}
use Rattle.jumbled.specs.Refusals.{given, each_length_tests, set_tests, lost_tests, tolerance_tests, text_tests, pair_place_tests, several_pattern_tests, several_size_tests, several_tests}
use Rattle.jumbled.proofs.Counts.{occurs-none, lacked}
use Rattle.jumbled.proofs.Admission.{given-refused, lost-numbered}
use Rattle.jumbled.proofs.Lost.{lost-given}
use Rattle.jumbled.proofs.Never.{next, none, other, never-append, never-given}
use Rattle.jumbled.proofs.Selections.{total-alike}
use Rattle.answers.proofs.Refused.{tested-later}
use Rattle.admit_several.proofs.Taken.{set-taken, several-pattern-numbered, several-pattern-number}
use Rattle.several_form.specs.Finds.{numbered}
use Rattle.several_form.specs.Handed.{patterns_of}
use Rattle.several_form.proofs.Handed.{as-many-patterns, none-in-each, none-in-all}
use Rattle.several.specs.Whole.{several_number}

module _ (bytes lengths : List ℕ) (k : ℕ) (T positions numbers : List ℕ) (set-right : given (each_length_tests lengths ++ set_tests lengths (length bytes)) ≡ 0) where
  abbrev Ps : List (List ℕ)
  Ps = patterns_of lengths bytes

  bytes-hold : (number : ℕ) → occurs (numbered Ps number) lost_hour ≡ true → (t : Bool) → occurs bytes lost_hour ≡ t → t ≡ true
  bytes-hold number holds true e = refl
  bytes-hold number holds false e =
      absurd
      (true≢false
      (sym holds ∙ occurs-none (numbered Ps number) lost_hour (none-in-each lengths bytes lost_hour (lacked bytes lost_hour e) (number - 1))))

  -- one of them holds a lost hour
  pub lost-in-one : (number : ℕ) → occurs (numbered Ps number) lost_hour ≡ true → several_number bytes lengths k T positions numbers ≡ 13
  unfolding several_number several_tests
  lost-in-one number holds =
      given-refused (several_pattern_tests lengths bytes k) _ (several-pattern-numbered lengths bytes k)
      (several-pattern-number lengths bytes k
      ∙ sym (tested-later _ (given (lost_tests bytes ++ tolerance_tests (get_or lengths 0 0) k)) set-right)
      ∙ given-refused (lost_tests bytes) (tolerance_tests (get_or lengths 0 0) k) (lost-numbered bytes)
      (lost-given bytes (bytes-hold number holds (occurs bytes lost_hour) refl)))

  -- or none does
  module _ (free : (number : ℕ) → 1 ≤ number → number ≤ length Ps → occurs (numbered Ps number) lost_hour ≡ false) where
    bytes-free : occurs bytes lost_hour ≡ false
    bytes-free =
        let set = set-taken lengths (length bytes) set-right in
        occurs-none bytes lost_hour
        (none-in-all lengths bytes lost_hour (total-alike (get_or lengths 0 0) lengths set.alike ∙ set.all)
        (λ f l.
        let same : suc f - 1 ≡ f = omega arith in
        rw same at (lacked (numbered Ps (suc f)) lost_hour (free (suc f) (omega arith) (omega (arith, as-many-patterns lengths bytes))))))

    pub lost-in-none : several_number bytes lengths k T positions numbers ≡ 13 → ⊥
    unfolding several_number several_tests several_pattern_tests several_size_tests each_length_tests set_tests lost_tests tolerance_tests text_tests pair_place_tests
    lost-in-none =
        never-given
        (never-append
        (never-append (other (λ e. omega arith))
        (never-append (other (λ e. omega arith)) (never-append (next (λ e. bytes-free) none) (other (λ e. omega arith)))))
        (never-append (other (λ e. omega arith)) (other (λ e. omega arith))))
