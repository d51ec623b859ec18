-- The sentences of document 02, T-08, of accepted calls: none exactly where nothing matches, the first entry at or after a of every whole search's list,
-- the list's first entry from 0 on, one answer for every start between two matches, and the inspections of the forward methods.
use mathlib.Core.Path.{◌≡◌, refl, sym, ap, subst, ◌∙◌}
use mathlib.Core.Bool.{Bool, true, false, cond, false≢true}
use mathlib.Core.List.{List, [], ◌∷◌}
use mathlib.Core.Option.{Option, none, some, none-ne-some, some-ne-none, some-injective}
use mathlib.Core.Logic.{⊎_elim}
use Prim.Native.Nat.{ℕ, zero, suc, ◌+◌, ◌-◌, ◌*◌, ◌≤◌, ◌<◌}
use native.Mathlib.Nat.{zero-add, zero-sub, sub-zero, suc-sub-suc, le_refl}
use native.Mathlib.Omega.{arith}
use lib.ListN.{length, take}
use borrow.Author.Tests.{le-leb, lt-leb, leb-true}
use Rattle.jumbled.specs.Match.{Bytes, excess, matches, window, starts, select, positions, earliest, first_match}
use Rattle.jumbled.specs.Scan.{Result}
use Rattle.jumbled.specs.Steps.{verified}
use Rattle.jumbled.specs.Refusals.{given, pattern_tests}
use Rattle.jumbled.proofs.Sums.{below_or_not}
use Rattle.jumbled.proofs.Admission.{first-as-whole, whole-taken}
use Rattle.jumbled.proofs.Drivers.{matches_at}
use Rattle.jumbled.proofs.First.{Earliest, nowhere, found, is-earliest, first_alike, nothing-after, first_short, count-from, hcam-from}
use Rattle.answers.specs.Numbers.{answer_number}
use Rattle.answers.specs.Answers.{Answer, FirstAnswer, answer_found, first_position, first_inspections}
use Rattle.answers.proofs.Refused.{is_zero}
use Rattle.search_whole.specs.Whole.{Whole}
use Rattle.search_whole.proofs.Contract.{whole-accepted}
use Rattle.search_whole.proofs.Places.{places-first}
use Rattle.first.specs.Call.{at_or_after_number, AtOrAfter}
use Rattle.first.specs.Claims.{MatchFrom, IsFirst, entry_from, first_entry}
use Rattle.first.proofs.Contract.{first-accepted}

-- ---- of the definition

module _ (P : List ℕ) (k : ℕ) (T : List ℕ) where
  -- a position that matches passes the test, and one that passes it matches
  passes : {a s : ℕ} → MatchFrom P k T a s → matches_at P k T s ≡ true
  unfolding matches
  passes {s = s} m = le-leb (excess P (window (length P) T s)) k m.matching

  matched : {a s : ℕ} → a ≤ s → s < a + (starts (length P) T - a) → matches_at P k T s ≡ true → MatchFrom P k T a s
  unfolding matches
  matched {s = s} least below e = record { not-before = least; inside = omega arith; matching = leb-true (excess P (window (length P) T s)) k e }

  in-range : {a s : ℕ} → MatchFrom P k T a s → s < a + (starts (length P) T - a)
  in-range m = omega (arith, m.not-before, m.inside)

  fails : {a s : ℕ} → MatchFrom P k T a s → matches_at P k T s ≡ false → ⊥
  fails m e = false≢true (sym e ∙ passes m)

  first_of : (a : ℕ) {o : Option ℕ} → Earliest (matches_at P k T) a (starts (length P) T - a) o → IsFirst P k T a o
  first_of a (nowhere rest) =
      record {
        none-exactly = (λ e s m. fails m (rest s m.not-before (in-range m)), λ never. refl);
        is-match = λ p e. absurd (none-ne-some p e);
        smallest = λ p e s m. absurd (none-ne-some p e);
      }
  first_of a (found p least below e rest) =
      let here : MatchFrom P k T a p = matched least below e in
      record {
        none-exactly = (λ q s m. absurd (some-ne-none p q), λ never. absurd (never p here));
        is-match = λ q same. rw (← some-injective p q same) here;
        smallest = λ q same s m. rw (← some-injective p q same) (⊎_elim (λ (before : s < p). absurd (fails m (rest s m.not-before before))) (λ (l : p ≤ s). l) (below_or_not s p));
      }

-- ---- the sentences

-- None exactly where nothing at or after a matches; else the smallest that does
pub is-first : {P : List ℕ} {k method : ℕ} {T : List ℕ} {a : ℕ} {r : FirstAnswer} → AtOrAfter P k method T a r → answer_number r ≡ 0
    → IsFirst P k T a (first_position r)
unfolding first_match
is-first {P} {k} {T = T} {a} contract ok =
    subst (IsFirst P k T a) (sym (first-accepted contract ok).position) (first_of P k T a (is-earliest (matches_at P k T) a (starts (length P) T - a)))

-- A position that is found answers for every start after the last match before it, up to itself, by every method
pub answers-between : {P : List ℕ} {k method method' : ℕ} {T : List ℕ} {a a' : ℕ} {r r' : FirstAnswer}
    → AtOrAfter P k method T a r → answer_number r ≡ 0 → AtOrAfter P k method' T a' r' → answer_number r' ≡ 0 → (p : ℕ) → first_position r ≡ some p
    → a' ≤ p → ((s : ℕ) → MatchFrom P k T 0 s → s < p → s < a') → first_position r' ≡ some p
answers-between {P} {k} {T = T} {a' = a'} {r' = r'} contract ok contract' ok' p e up_to_lem past = by (first_position r') refl
  where
    here : MatchFrom P k T a' p
    here = let m = (is-first contract ok).is-match p e in record { not-before = up_to_lem; inside = m.inside; matching = m.matching }

    by : (o : Option ℕ) → first_position r' ≡ o → o ≡ some p
    by none q = absurd ((is-first contract' ok').none-exactly.0 q p here)
    by (some p') q =
        let m = (is-first contract' ok').is-match p' q in
        let least = (is-first contract' ok').smallest p' q p here in
        let same : p' ≡ p =
        ⊎_elim
        (λ (before : p' < p).
        let early = past p' (record { not-before = omega arith; inside = m.inside; matching = m.matching }) before in
        absurd (omega (arith, early, m.not-before)))
        (λ (l : p ≤ p'). omega (arith, least)) (below_or_not p' p)
        in
        ap some same

-- ---- and the list of a whole search

module _ (test : ℕ → Bool) where
  from-passed : (a s count : ℕ) → a ≤ s → entry_from a (select test s count) ≡ earliest test s count
  unfolding entry_from select earliest
  from-passed a s zero h = refl
  from-passed a s (suc count) h = case (test s) (from-passed a (suc s) count (omega arith))
    where
      case : (t : Bool) → entry_from a (select test (suc s) count) ≡ earliest test (suc s) count
          → entry_from a (cond t (s ∷ select test (suc s) count) (select test (suc s) count)) ≡ cond t (some s) (earliest test (suc s) count)
      case true more = rw (le-leb a s h) refl
      case false more = more

  -- the first d numbers are before a
  from-later : (d a s count : ℕ) → a ≡ s + d → entry_from a (select test s count) ≡ earliest test a (count - d)
  unfolding entry_from select earliest
  from-later zero a s count e = let same : a ≡ s = omega arith in rw (sub-zero count, same) (from-passed s s count (le_refl s))
  from-later (suc d) a s zero e = rw (zero-sub (suc d)) refl
  from-later (suc d) a s (suc count) e = rw (suc-sub-suc count d) (case (test s) (from-later d a (suc s) count (omega arith)))
    where
      case : (t : Bool) → entry_from a (select test (suc s) count) ≡ earliest test a (count - d)
          → entry_from a (cond t (s ∷ select test (suc s) count) (select test (suc s) count)) ≡ earliest test a (count - d)
      case true more = rw (lt-leb a s (omega arith)) more
      case false more = more

first_match-entry : (P : List ℕ) (k : ℕ) (T : List ℕ) (a : ℕ) → first_match P k T a ≡ entry_from a (positions P k T)
unfolding first_match positions
first_match-entry P k T a = sym (from-later (matches_at P k T) a a 0 (starts (length P) T) (sym (zero-add a)))

from_zero : (list : List ℕ) → entry_from 0 list ≡ first_entry list
unfolding entry_from
from_zero [] = refl
from_zero (p ∷ list) = rw (le-leb 0 p (omega arith)) refl

-- The position is the first entry at or after a of the list that any whole search of the text left, whatever its method
pub entry-of-list : {P : List ℕ} {k method method' : ℕ} {T : List ℕ} {a : ℕ} {r : FirstAnswer} {before after : List ℕ} {w : Answer}
    → AtOrAfter P k method T a r → answer_number r ≡ 0 → Whole P k method' T before after w → answer_number w ≡ 0
    → first_position r ≡ entry_from a (take (answer_found w) after)
entry-of-list {P} {k} {method' = method'} {T = T} {a = a} {before = before} {after = after} {w = w} contract ok whole done =
    let accepted = whole-accepted whole done in
    let listed : take (answer_found w) after ≡ positions P k T =
    ap (λ (n : ℕ). take n after) accepted.found ∙ places-first P k method' T before (is_zero whole.number done) accepted.list
    in
    (first-accepted contract ok).position ∙ first_match-entry P k T a ∙ ap (entry_from a) (sym listed)

-- and from 0 on it is the list's first one
pub entry-from-start : {P : List ℕ} {k method method' : ℕ} {T : List ℕ} {r : FirstAnswer} {before after : List ℕ} {w : Answer}
    → AtOrAfter P k method T 0 r → answer_number r ≡ 0 → Whole P k method' T before after w → answer_number w ≡ 0
    → first_position r ≡ first_entry (take (answer_found w) after)
entry-from-start contract ok whole done = entry-of-list contract ok whole done ∙ from_zero _

-- ---- inspections

-- the pattern's tests are among those of the call
pattern-taken : {P : List ℕ} {k method : ℕ} {T : List ℕ} {a : ℕ} {r : FirstAnswer} → AtOrAfter P k method T a r → answer_number r ≡ 0
    → given (pattern_tests P k method) ≡ 0
unfolding at_or_after_number
pattern-taken {P} {k} {method} {T} contract ok =
    (whole-taken P k method (length T) (length T) (first-as-whole P k method (length T) (length T) (le_refl (length T)) ∙ is_zero contract.number ok)).pattern-right

-- Two texts that are alike up to the end of the window found have one answer: nothing after it is looked at
pub not-past : {P : List ℕ} {k method : ℕ} {T U : List ℕ} {a : ℕ} {r r' : FirstAnswer} → Bytes P → Bytes T → Bytes U
    → AtOrAfter P k method T a r → answer_number r ≡ 0 → AtOrAfter P k method U a r' → answer_number r' ≡ 0 → (p : ℕ) → first_position r ≡ some p
    → take (p + length P) T ≡ take (p + length P) U → (first_position r' ≡ some p) × (first_inspections r' ≡ first_inspections r)
not-past {P} {k} {method} {T} {U} {a} hP hT hU contract ok contract' ok' p e alike =
    let accepted = first-accepted contract ok in
    let accepted' = first-accepted contract' ok' in
    let at_p : first_match P k T a ≡ some p = sym accepted.position ∙ e in
    let steps-same = nothing-after P k T U a p alike method hP hT hU (pattern-taken contract ok) at_p in (
      accepted'.position ∙ first_alike P k T U a p alike at_p,
      accepted'.inspections ∙ ap (λ (x : Result). x.inspections) (sym steps-same) ∙ sym accepted.inspections,
    )

-- With fewer than m bytes from a on there is no position and no inspection
pub too-late : {P : List ℕ} {k method : ℕ} {T : List ℕ} {a : ℕ} {r : FirstAnswer} → AtOrAfter P k method T a r → answer_number r ≡ 0 → length T < a + length P
    → (first_position r ≡ none) × (first_inspections r ≡ 0)
too-late {P} {k} {method} {T} {a} contract ok short =
    let accepted = first-accepted contract ok in
    let nothing-there = first_short P k method T a short in
    (accepted.position ∙ nothing-there.1, accepted.inspections ∙ rw nothing-there.0 refl)

module _ {P : List ℕ} {k : ℕ} {T : List ℕ} {a : ℕ} (hP : Bytes P) (hT : Bytes T) (there : a + length P ≤ length T) where
  -- Counting takes all m bytes of the window at a and the last one of each window after it, up to the position that is found
  pub counted-to : {r : FirstAnswer} → AtOrAfter P k 1 T a r → answer_number r ≡ 0 → (p : ℕ) → first_position r ≡ some p → first_inspections r ≡ length P + (p - a)
  counted-to contract ok p e =
      let accepted = first-accepted contract ok in
      let at_p : first_match P k T a ≡ some p = sym accepted.position ∙ e in
      let found-there = (is-first contract ok).is-match p e in
      accepted.inspections ∙ count-from P k T a hP hT (omega arith) (pattern-taken contract ok)
      ∙ rw at_p (omega (arith, found-there.not-before))

  -- or the text's end
  pub counted-out : {r : FirstAnswer} → AtOrAfter P k 1 T a r → answer_number r ≡ 0 → first_position r ≡ none → first_inspections r ≡ length T - a
  counted-out contract ok e =
      let accepted = first-accepted contract ok in
      let nowhere-there : first_match P k T a ≡ none = sym accepted.position ∙ e in
      accepted.inspections ∙ count-from P k T a hP hT (omega arith) (pattern-taken contract ok) ∙ rw nowhere-there (omega arith)

  -- Heap values take as many, and m more for each of these windows that is verified
  pub summed-to : {r : FirstAnswer} → AtOrAfter P k 5 T a r → answer_number r ≡ 0 → (p : ℕ) → first_position r ≡ some p
      → first_inspections r ≡ length P + (p - a) + length P * length (select (λ s. verified P (window (length P) T s)) a (suc p - a))
  summed-to contract ok p e =
      let accepted = first-accepted contract ok in
      let at_p : first_match P k T a ≡ some p = sym accepted.position ∙ e in
      let found-there = (is-first contract ok).is-match p e in
      let further : suc p - a - 1 ≡ p - a = omega (arith, found-there.not-before) in
      accepted.inspections ∙ hcam-from P k T a hP hT (omega arith) (pattern-taken contract ok) ∙ rw (at_p, further) refl

  pub summed-out : {r : FirstAnswer} → AtOrAfter P k 5 T a r → answer_number r ≡ 0 → first_position r ≡ none
      → first_inspections r ≡ length T - a + length P * length (select (λ s. verified P (window (length P) T s)) a (starts (length P) T - a))
  summed-out contract ok e =
      let accepted = first-accepted contract ok in
      let nowhere-there : first_match P k T a ≡ none = sym accepted.position ∙ e in
      let all : length P + (starts (length P) T - a - 1) ≡ length T - a = omega arith in
      accepted.inspections ∙ hcam-from P k T a hP hT (omega arith) (pattern-taken contract ok) ∙ rw (nowhere-there, all) refl
