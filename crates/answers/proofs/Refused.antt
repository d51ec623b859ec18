-- What is said on a refusal, and what where nothing is refused.
use mathlib.Core.Path.{◌≡◌, refl, sym, ap, ◌∙◌}
use mathlib.Core.Bool.{false}
use Prim.Native.Nat.{ℕ, ◌<◌}
use Rattle.std.specs.Prelude.{Result, Err}
use native.Mathlib.Omega.{arith}
use lib.Dec.{eqb, lit<}
use borrow.Author.Tests.{eq-eqb, ne_eqb}
use Rattle.answers.specs.declared.Refusal.{Refusal}
use Rattle.answers.specs.declared.Refusal.TheVariants.{PatternLength, ToleranceTooLarge, UnknownMethod, ToleranceNotTaken, FieldsTooWide, TextTooLong, TooFewPlaces, TotalTooLarge, Malformed, BufferTooShort, BadRequest, PatternSet, LostHourInPattern, BadEntries, ConflictingEntries}
use Rattle.answers.specs.Numbers.{number_of, answer_number, unless_refused}

pub number-positive : (refusal : Refusal) → 0 < number_of refusal
number-positive PatternLength = lit< tt
number-positive ToleranceTooLarge = lit< tt
number-positive UnknownMethod = lit< tt
number-positive ToleranceNotTaken = lit< tt
number-positive FieldsTooWide = lit< tt
number-positive TextTooLong = lit< tt
number-positive TooFewPlaces = lit< tt
number-positive TotalTooLarge = lit< tt
number-positive Malformed = lit< tt
number-positive BufferTooShort = lit< tt
number-positive BadRequest = lit< tt
number-positive PatternSet = lit< tt
number-positive LostHourInPattern = lit< tt
number-positive BadEntries = lit< tt
number-positive ConflictingEntries = lit< tt

-- and every number has one or two digits
pub number_small : (refusal : Refusal) → number_of refusal < 100
number_small PatternLength = lit< tt
number_small ToleranceTooLarge = lit< tt
number_small UnknownMethod = lit< tt
number_small ToleranceNotTaken = lit< tt
number_small FieldsTooWide = lit< tt
number_small TextTooLong = lit< tt
number_small TooFewPlaces = lit< tt
number_small TotalTooLarge = lit< tt
number_small Malformed = lit< tt
number_small BufferTooShort = lit< tt
number_small BadRequest = lit< tt
number_small PatternSet = lit< tt
number_small LostHourInPattern = lit< tt
number_small BadEntries = lit< tt
number_small ConflictingEntries = lit< tt

-- what is said on a refusal, and what where nothing is refused
pub on-refusal : {A : Type 0} (refusal : Refusal) (number : ℕ) (accepted refused : A) → number_of refusal ≡ number → refused ≡ unless_refused number accepted refused
on-refusal refusal number accepted refused e =
    rw (ne_eqb number 0 (λ q. let positive = number-positive refusal in omega arith)) refl

pub on-accepted : {A : Type 0} (number : ℕ) (accepted refused : A) → number ≡ 0 → accepted ≡ unless_refused number accepted refused
on-accepted number accepted refused e = rw (eq-eqb number 0 e) refl

-- ---- tests after other tests: the first number, or the later one where nothing is refused before

module _ (first later : ℕ) where
  pub still-refused : (refusal : Refusal) → number_of refusal ≡ first → number_of refusal ≡ unless_refused first later first
  still-refused refusal e = e ∙ on-refusal refusal first later first e

  pub tested-later : first ≡ 0 → later ≡ unless_refused first later first
  tested-later none = on-accepted first later first none

-- ---- by the number that a call gave

-- A call was refused: its number is not 0
abbrev pub IsRefused : ℕ → Type 0
IsRefused number = number ≡ 0 → ⊥

-- the test of a contract's number, by the number that the call gave
pub is_zero : {said number : ℕ} → said ≡ number → said ≡ 0 → number ≡ 0
is_zero same ok = sym same ∙ ok

pub not-zero : {said number : ℕ} → said ≡ number → IsRefused said → eqb number 0 ≡ false
not-zero {number = number} same refusal = ne_eqb number 0 (λ e. refusal (same ∙ e))
