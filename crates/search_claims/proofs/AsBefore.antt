-- What the calls say, measured by what they said before document 02, T-03, and from their contracts alone: each gives the number that it gave, unless
-- that was 5, and positions and inspections are those of the steps with the widths of that time.
use mathlib.Core.Path.{◌≡◌, ap, ◌∙◌}
use mathlib.Core.List.{List, ◌++◌}
use Prim.Native.Nat.{ℕ, ◌-◌}
use native.Mathlib.Omega.{arith}
use lib.ListN.{length, take}
use Rattle.jumbled.specs.Match.{Bytes}
use Rattle.jumbled.specs.Scan.{Result}
use Rattle.jumbled.specs.Refusals.{Test, given, length_tests, form_tests, buffer_tests, tail_tests, size_tests, chunk_tests, whole_tests, search_tests, feed_tests, set_method_tests, save_tests, load_tests}
use Rattle.jumbled.specs.Former.{former_steps, former_method_tests, former_pattern_tests, former_whole_tests, former_search_tests}
use Rattle.jumbled.proofs.Former.{Amended, amended-number, amended-append, amended-after, amended-before, method-amended, pattern-amended, steps-as-before}
use Rattle.lent.specs.Placed.{placed, shifted}
use Rattle.image_form.specs.Image.{Parts}
use Rattle.image_form.specs.Decode.{bad_form, parts_of}
use Rattle.answers.specs.Numbers.{answer_number}
use Rattle.answers.specs.Answers.{Answer, answer_found, answer_inspections}
use Rattle.search_whole.specs.Whole.{Whole, whole_number}
use Rattle.search.specs.declared.Search.{Search}
use Rattle.search.specs.declared.SearchResult.{SearchResult}
use Rattle.search.specs.declared.FeedResult.{FeedResult}
use Rattle.search.specs.declared.SaveResult.{SaveResult}
use Rattle.search.specs.Searches.{pattern_of}
use Rattle.search.specs.Calls.{handed_tests, parts_tests, Opened, open_number, Feeds, feed_number, searched_text, SetsMethod, set_method_number, Saves, save_number, image_of, Loads, load_number}
use Rattle.search_series.proofs.Contracts.{feed-accepted}
use Rattle.search_claims.proofs.Consequences.{whole-by-steps, feed-by-steps}

-- ---- the tests of each call as they were, and as they are

-- A call gives the number of the former tests, unless that is 5
abbrev Still : (former : List Test) (number : ℕ) → Type 0
Still former number = (given former ≡ 5 → ⊥) → number ≡ given former

-- of a search handed in
abbrev former_handed_tests : Search → List Test
former_handed_tests s = length_tests s.pattern_len ++ former_search_tests (pattern_of s) s.k s.method s.total s.tail_len

search-amended : (P : List ℕ) (k method n t : ℕ) → Amended (former_search_tests P k method n t) (search_tests P k method n t)
unfolding search_tests former_search_tests
search-amended P k method n t = amended-before (pattern-amended P k method) (tail_tests (length P) n t)

handed-amended : (s : Search) → Amended (former_handed_tests s) (handed_tests s)
unfolding handed_tests
handed-amended s = amended-after (length_tests s.pattern_len) (search-amended (pattern_of s) s.k s.method s.total s.tail_len)

-- ---- numbers

pub open-number-as-before : {P : List ℕ} {k method : ℕ} {r : SearchResult} → Opened P k method r
    → Still (former_pattern_tests P k method) (answer_number r.admission)
unfolding open_number
open-number-as-before {P} {k} {method} contract not5 = contract.number ∙ amended-number (pattern-amended P k method) not5

pub whole-number-as-before : {P : List ℕ} {k method : ℕ} {T before after : List ℕ} {r : Answer} → Whole P k method T before after r
    → Still (former_whole_tests P k method (length T) (length before)) (answer_number r)
unfolding whole_number whole_tests former_whole_tests
whole-number-as-before {P} {k} {method} {T} {before} contract not5 =
    contract.number ∙ amended-number (amended-before (pattern-amended P k method) (size_tests (length T) (length before))) not5

pub feed-number-as-before : {s : Search} {chunk before after : List ℕ} {r : FeedResult} → Feeds s chunk before after r
    → Still (feed_tests (former_handed_tests s) s.total (length chunk) (length before)) (answer_number r.answer)
unfolding feed_number feed_tests
feed-number-as-before {s} {chunk} {before} contract not5 =
    contract.number ∙ amended-number (amended-before (handed-amended s) (chunk_tests s.total (length chunk) (length before))) not5

pub set-number-as-before : {s : Search} {new_method : ℕ} {r : SearchResult} → SetsMethod s new_method r
    → Still (former_handed_tests s ++ former_method_tests (pattern_of s) s.k new_method) (answer_number r.admission)
unfolding set_method_number set_method_tests
set-number-as-before {s} {new_method} contract not5 =
    contract.number ∙ amended-number (amended-append (handed-amended s) (method-amended (pattern_of s) s.k new_method)) not5

pub save-number-as-before : {s : Search} {before after : List ℕ} {r : SaveResult} → Saves s before after r
    → Still (save_tests (former_handed_tests s) (length before) (length (image_of s))) (answer_number r.saving)
unfolding save_number save_tests
save-number-as-before {s} {before} contract not5 =
    contract.number ∙ amended-number (amended-before (handed-amended s) (buffer_tests (length before) (length (image_of s)))) not5

-- of the parts that an image holds
abbrev former_parts_tests : Parts → List Test
former_parts_tests parts = former_search_tests parts.pattern parts.k parts.method parts.total (length parts.tail)

pub load-number-as-before : {bytes : List ℕ} {r : SearchResult} → Loads bytes r
    → Still (load_tests (bad_form bytes) (former_parts_tests (parts_of bytes))) (answer_number r.admission)
unfolding load_number load_tests parts_tests
load-number-as-before {bytes} contract not5 =
    let parts = parts_of bytes in
    contract.number
    ∙ amended-number
    (amended-after (form_tests (bad_form bytes)) (search-amended parts.pattern parts.k parts.method parts.total (length parts.tail))) not5

-- ---- positions and inspections

-- A whole search that was not refused lists what was listed, and inspects as often
pub whole-as-before : {P : List ℕ} {k method : ℕ} {T before after : List ℕ} {r : Answer} → Whole P k method T before after r → Bytes P → Bytes T
    → given (former_whole_tests P k method (length T) (length before)) ≡ 0
    → (take (answer_found r) after ≡ (former_steps P k method T).occurrences) × (answer_inspections r ≡ (former_steps P k method T).inspections)
whole-as-before {P} {k} {method} {T} contract hP hT was =
    let now = whole-by-steps contract (whole-number-as-before contract (λ five. omega arith) ∙ was) in
    let same = steps-as-before P k method T hP hT in
    (now.0 ∙ ap (λ (r : Result). r.occurrences) same, now.1 ∙ ap (λ (r : Result). r.inspections) same)

-- and so does a feed
pub feed-as-before : {s : Search} {chunk before after : List ℕ} {r : FeedResult} → Feeds s chunk before after r → Bytes (pattern_of s)
    → Bytes (searched_text s chunk) → given (feed_tests (former_handed_tests s) s.total (length chunk) (length before)) ≡ 0
    → (after ≡ placed before 0 (shifted (s.total - s.tail_len) (former_steps (pattern_of s) s.k s.method (searched_text s chunk)).occurrences))
    × (answer_inspections r.answer ≡ (former_steps (pattern_of s) s.k s.method (searched_text s chunk)).inspections)
feed-as-before {s} {chunk} {before} contract hP hT was =
    let ok = feed-number-as-before contract (λ five. omega arith) ∙ was in
    let same = steps-as-before (pattern_of s) s.k s.method (searched_text s chunk) hP hT in (
      feed-by-steps contract ok ∙ ap (λ (r : Result). placed before 0 (shifted (s.total - s.tail_len) r.occurrences)) same,
      (feed-accepted contract ok).inspections ∙ ap (λ (r : Result). r.inspections) same,
    )
