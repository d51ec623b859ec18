-- The tests of a search handed in, and the answers of the calls that hand one back.
use mathlib.Core.Path.{◌≡◌, refl, sym, ap, ◌∙◌}
use mathlib.Core.Bool.{or-true}
use mathlib.Core.List.{List, [], ◌++◌}
use Prim.Native.Nat.{ℕ, ◌≤◌, ◌<◌}
use native.Mathlib.Omega.{arith}
use lib.Dec.{eqb}
use lib.ListN.{length, length-take}
use borrow.Author.Tests.{lt-ltb}
use Rattle.jumbled.specs.Match.{Bytes}
use Rattle.jumbled.specs.Refusals.{given, length_tests, tail_length, pattern_tests, method_tests, search_tests, set_method_tests}
use Rattle.jumbled.proofs.Admission.{Numbered, given-append, given-append-none, numbered-append, length-numbered, length_taken, length-again, search-numbered, search-taken, search-fresh}
use Rattle.std.proofs.Common.{Result}
use Rattle.answers.specs.Numbers.{number_of, unless_refused}
use Rattle.answers.specs.declared.Refusal.{Refusal}
use Rattle.answers.specs.declared.Refusal.TheVariants.{PatternLength}
use Rattle.image_form.specs.Image.{parts_with}
use Rattle.answers.proofs.Refused.{still-refused, tested-later}
use Rattle.search.specs.declared.Search.{Search}
use Rattle.search.specs.Searches.{pattern_of, tail_of}
use Rattle.search.specs.Calls.{handed_tests, handed_number, open_number, set_method_number, parts_tests, parts_number, Makes}

-- ---- the tests of a search handed in

pub handed-numbered : (s : Search) → Numbered (handed_tests s)
unfolding handed_tests
handed-numbered s =
    numbered-append (length_tests s.pattern_len) _ (length-numbered s.pattern_len)
    (search-numbered (pattern_of s) s.k s.method s.total s.tail_len)

pub handed-long : (s : Search) → 64 < s.pattern_len → number_of PatternLength ≡ handed_number s
unfolding handed_number handed_tests length_tests given
handed-long s h = rw (lt-ltb 64 s.pattern_len h, or-true (eqb s.pattern_len 0)) refl

pub handed-short : (s : Search) → s.pattern_len ≤ 64 → length s.pattern ≡ 64
    → handed_number s ≡ given (search_tests (pattern_of s) s.k s.method s.total s.tail_len)
unfolding handed_number handed_tests
handed-short s short long =
    let m : s.pattern_len ≡ length (pattern_of s) = omega (arith, length-take s.pattern_len s.pattern) in
    ap (λ (n : ℕ). given (length_tests n ++ search_tests (pattern_of s) s.k s.method s.total s.tail_len)) m
    ∙ length-again (pattern_of s) s.k s.method s.total s.tail_len

-- what it says that none of them applies
pub record SoundSearch (s : Search) : Type 0 where
  pub short : s.pattern_len ≤ 64
  pub admits : given (pattern_tests (pattern_of s) s.k s.method) ≡ 0
  pub tail-right : s.tail_len ≡ tail_length (length (pattern_of s)) s.total

pub sound : (s : Search) → handed_number s ≡ 0 → SoundSearch s
unfolding handed_number handed_tests
sound s e =
    let tests = given-append-none (length_tests s.pattern_len) _ (length-numbered s.pattern_len) e in
    let parts = search-taken (pattern_of s) s.k s.method s.total s.tail_len tests.1 in
    record { short = (length_taken s.pattern_len tests.0).short; admits = parts.0; tail-right = parts.1 }

-- the stored bytes of a search handed in
pub record StoredBytes (held : Search) : Type 0 where
  pub pattern-long : length held.pattern ≡ 64
  pub pattern-bytes : Bytes held.pattern
  pub tail-bytes : Bytes held.tail

-- then the lengths that it says are those of its pattern and its tail
module _ {held : Search} (right : SoundSearch held) where
  pub pattern-length : length held.pattern ≡ 64 → length (pattern_of held) ≡ held.pattern_len
  pattern-length long = omega (arith, length-take held.pattern_len held.pattern, right.short)

  pub tail-fits : held.tail_len ≤ 63
  tail-fits = omega (arith, length-take held.pattern_len held.pattern, right.short, right.tail-right)

  pub tail-length : length held.tail ≡ 63 → length (tail_of held) ≡ held.tail_len
  tail-length long = omega (arith, length-take held.tail_len held.tail, tail-fits)

-- ---- open

-- a fresh search is the one with nothing searched
pub fresh : (P : List ℕ) (k method : ℕ) {search : Search} {r : Result Search Refusal} → Makes (parts_number (parts_with P k method 0 [])) search r → Makes (open_number P k method) search r
unfolding open_number parts_tests
fresh P k method made = record { given = made.given ∙ search-fresh P k method; made = made.made }

-- ---- set method

module _ (s : Search) (new_method : ℕ) where
  set-method-number : set_method_number s new_method ≡ unless_refused (handed_number s) (given (method_tests (pattern_of s) s.k new_method)) (handed_number s)
  unfolding set_method_number set_method_tests handed_number
  set-method-number = given-append (handed_tests s) (method_tests (pattern_of s) s.k new_method) (handed-numbered s)

  pub method-early : (refusal : Refusal) → number_of refusal ≡ handed_number s → number_of refusal ≡ set_method_number s new_method
  method-early refusal e = still-refused _ _ refusal e ∙ sym set-method-number

  pub method-late : handed_number s ≡ 0 → given (method_tests (pattern_of s) s.k new_method) ≡ set_method_number s new_method
  method-late right = tested-later _ _ right ∙ sym set-method-number
