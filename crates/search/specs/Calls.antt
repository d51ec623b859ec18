-- What each call says: document 01, "A search and its calls" and "When a call says no". Each record has an equation for every result.
use Rattle.std.specs.Prelude.{◌≡◌, List, [], ◌++◌, ℕ, ◌+◌, ◌-◌, ◌≤◌, length, Result, IfOk}
use Rattle.jumbled.specs.Match.{positions}
use Rattle.jumbled.specs.Steps.{steps}
use Rattle.jumbled.specs.Refusals.{Test, given, length_tests, tail_length, pattern_tests, search_tests, chunk_tests, feed_tests, set_method_tests, save_tests, load_tests}
use Rattle.lent.specs.Placed.{placed, shifted}
use Rattle.lent.specs.Found.{Found}
use Rattle.lent.specs.declared.SearchCounts.{SearchCounts}
use Rattle.image_form.specs.Image.{Parts, parts_with, image}
use Rattle.image_form.specs.Decode.{bad_form, parts_of}
use Rattle.answers.specs.declared.Refusal.{Refusal}
use Rattle.answers.specs.Numbers.{answer_number, unless_refused}
use Rattle.answers.specs.Answers.{Answer, answer_found, answer_inspections, saving_length}
use Rattle.admit_pattern.specs.declared.Admitted.{Admitted}
use Rattle.admit_pattern.specs.Admits.{TakenAlong}
use Rattle.search_state.specs.Stored.{last_of}
use Rattle.search.specs.declared.Search.{Search}
use Rattle.search.specs.declared.SearchResult.{SearchResult}
use Rattle.search.specs.declared.FeedResult.{FeedResult}
use Rattle.search.specs.declared.SaveResult.{SaveResult}
use Rattle.search.specs.Searches.{pattern_of, tail_of, parts_of_search, stored, blank_search}

-- The tests of a search handed in: those of open, and 9 for a tail of another length than n and m say. 1 comes first of the length that it says: no
-- pattern over 64 is stored.
unfoldable pub handed_tests : Search → List Test
handed_tests s =
    length_tests s.pattern_len ++ search_tests (pattern_of s) s.k s.method s.total s.tail_len

unfoldable pub handed_number : Search → ℕ
handed_number s = given (handed_tests s)

-- ---- what hands back a search

-- A search that was made, unless a test with this number applies
pub record Makes (number : ℕ) (search : Search) (r : Result Search Refusal) : Type 0 where
  pub given : answer_number r ≡ number
  pub made : IfOk r (λ made. made ≡ search)

-- What a call hands back: the number, and the search that it made, or where it is refused another
pub record HandsBack (given : ℕ) (made otherwise : Search) (r : SearchResult) : Type 0 where
  pub number : answer_number r.admission ≡ given
  pub search : r.search ≡ unless_refused given made otherwise

-- ---- open

unfoldable pub open_number : List ℕ → ℕ → ℕ → ℕ
open_number P k method = given (pattern_tests P k method)

-- The three calls that make a search have a record each, not `HandsBack` at their numbers: of a record antt finds the arguments in the theorems above
pub record Opened (P : List ℕ) (k method : ℕ) (r : SearchResult) : Type 0 where
  pub number : answer_number r.admission ≡ open_number P k method
  pub search : r.search ≡ unless_refused (open_number P k method) (stored (parts_with P k method 0 [])) blank_search

-- ---- feed

unfoldable pub feed_number : Search → List ℕ → List ℕ → ℕ
feed_number s chunk list = given (feed_tests (handed_tests s) s.total (length chunk) (length list))

-- The text that a feed goes through by the search's method
abbrev pub searched_text : Search → List ℕ → List ℕ
searched_text s chunk = tail_of s ++ chunk

-- What the search of a chunk goes by: nothing is refused, and what is taken along is that of the search's pattern and method
pub record Feedable (s : Search) (admitted : Admitted) (chunk list : List ℕ) : Type 0 where
  pub handed : handed_number s ≡ 0
  pub along : TakenAlong (pattern_of s) s.method admitted
  pub chunk-right : given (chunk_tests s.total (length chunk) (length list)) ≡ 0

-- What the steps of the set method list of it, and where
abbrev pub FoundBy : Search → (chunk before after : List ℕ) → SearchCounts → Type 0
FoundBy s chunk before after search_counts =
    Found (steps (pattern_of s) s.k s.method (searched_text s chunk)) (s.total - s.tail_len) before after search_counts

-- The parts after an accepted feed: n has grown, and the tail is the last min(n, m − 1) bytes
abbrev pub fed_parts : Search → List ℕ → Parts
fed_parts s chunk =
    parts_with (pattern_of s) s.k s.method (s.total + length chunk)
    (last_of (tail_length (length (pattern_of s)) (s.total + length chunk)) (searched_text s chunk))

-- What makes these parts fit a search: a search that passed its tests, and a total that fits 32 bits
pub record Advancing (s : Search) (chunk : List ℕ) : Type 0 where
  pub short : s.pattern_len ≤ 64
  pub some : 1 ≤ s.pattern_len
  pub tail-right : s.tail_len ≡ tail_length s.pattern_len s.total
  pub fits : s.total + length chunk ≤ 4294967295

pub record Feeds (s : Search) (chunk before after : List ℕ) (r : FeedResult) : Type 0 where
  pub number : answer_number r.answer ≡ feed_number s chunk before
  pub found : answer_found r.answer ≡ unless_refused (feed_number s chunk before) (length (positions (pattern_of s) s.k (searched_text s chunk))) 0
  pub inspections : answer_inspections r.answer ≡ unless_refused (feed_number s chunk before) (steps (pattern_of s) s.k s.method (searched_text s chunk)).inspections 0
  -- positions count from the first byte fed: the tail starts at n less its length
  pub list :
      after
      ≡ unless_refused (feed_number s chunk before)
      (placed before 0 (shifted (s.total - s.tail_len) (positions (pattern_of s) s.k (searched_text s chunk)))) before
  pub by-steps :
      feed_number s chunk before ≡ 0
      → (steps (pattern_of s) s.k s.method (searched_text s chunk)).occurrences ≡ positions (pattern_of s) s.k (searched_text s chunk)
  pub search : r.search ≡ unless_refused (feed_number s chunk before) (stored (fed_parts s chunk)) s

-- What a feed answers: with the search that it is to hand back, this is a feed
abbrev pub AnswersFeed : Search → (chunk before after : List ℕ) → Answer → Type 0
AnswersFeed s chunk before after answer =
    (next : Search) → next ≡ unless_refused (feed_number s chunk before) (stored (fed_parts s chunk)) s
    → Feeds s chunk before after (record { answer = answer; search = next })

-- ---- set method

unfoldable pub set_method_number : Search → ℕ → ℕ
set_method_number s new_method = given (set_method_tests (handed_tests s) (pattern_of s) s.k new_method)

-- The search with another method, and all else as it came, bytes past the lengths included
abbrev pub search_with_method : Search → ℕ → Search
search_with_method s new_method =
    record {
      pattern = s.pattern;
      pattern_len = s.pattern_len;
      k = s.k;
      method = new_method;
      total = s.total;
      tail = s.tail;
      tail_len = s.tail_len;
    }

pub record SetsMethod (s : Search) (new_method : ℕ) (r : SearchResult) : Type 0 where
  pub number : answer_number r.admission ≡ set_method_number s new_method
  pub search : r.search ≡ unless_refused (set_method_number s new_method) (search_with_method s new_method) s

-- ---- save

-- The image that a save writes
abbrev pub image_of : Search → List ℕ
image_of s = image (parts_of_search s)

unfoldable pub save_number : Search → List ℕ → ℕ
save_number s buffer = given (save_tests (handed_tests s) (length buffer) (length (image_of s)))

pub record Saves (s : Search) (before after : List ℕ) (r : SaveResult) : Type 0 where
  pub number : answer_number r.saving ≡ save_number s before
  pub len : saving_length r.saving ≡ unless_refused (save_number s before) (length (image_of s)) 0
  pub buffer : after ≡ unless_refused (save_number s before) (placed before 0 (image_of s)) before
  pub search : r.search ≡ s

-- ---- load

-- The tests of a search's parts: those of open, then 9 for the tail
unfoldable pub parts_tests : Parts → List Test
parts_tests parts = search_tests parts.pattern parts.k parts.method parts.total (length parts.tail)

abbrev pub parts_number : Parts → ℕ
parts_number parts = given (parts_tests parts)

unfoldable pub load_number : List ℕ → ℕ
load_number bytes = given (load_tests (bad_form bytes) (parts_tests (parts_of bytes)))

pub record Loads (bytes : List ℕ) (r : SearchResult) : Type 0 where
  pub number : answer_number r.admission ≡ load_number bytes
  pub search : r.search ≡ unless_refused (load_number bytes) (stored (parts_of bytes)) blank_search
