-- What the contracts of the calls say where a call is accepted and where it is refused: document 01, "A search and its calls" and the last
-- lines of "When a call says no" (demand 1: a refusal changes nothing).
use mathlib.Core.Path.{◌≡◌, ap₂, ◌∙◌}
use mathlib.Core.List.{List, []}
use Prim.Native.Nat.{ℕ, ◌-◌}
use lib.ListN.{length, take}
use Rattle.jumbled.specs.Match.{positions}
use Rattle.jumbled.specs.Steps.{steps}
use Rattle.lent.specs.Placed.{placed, shifted}
use Rattle.lent.proofs.Placing.{take-placed-first}
use Rattle.image_form.specs.Image.{parts_with}
use Rattle.image_form.specs.Decode.{parts_of}
use Rattle.answers.specs.Numbers.{answer_number}
use Rattle.answers.specs.Answers.{answer_found, answer_inspections, saving_length}
use Rattle.answers.proofs.Refused.{IsRefused, is_zero, not-zero}
use Rattle.search_whole.proofs.Contract.{NothingListed}
use Rattle.search.specs.declared.Search.{Search}
use Rattle.search.specs.declared.SearchResult.{SearchResult}
use Rattle.search.specs.declared.FeedResult.{FeedResult}
use Rattle.search.specs.declared.SaveResult.{SaveResult}
use Rattle.search.specs.Searches.{pattern_of, stored, blank_search}
use Rattle.search.specs.Calls.{Opened, Feeds, searched_text, fed_parts, SetsMethod, search_with_method, Saves, image_of, Loads}
use Rattle.search_series.specs.Series.{written_image}

-- ---- feed

-- Accepted: as a whole search of the tail followed by the chunk, each position with n less the tail's length added; the search has moved on
pub record FeedAccepted (s : Search) (chunk before after : List ℕ) (r : FeedResult) : Type 0 where
  pub list : after ≡ placed before 0 (shifted (s.total - s.tail_len) (positions (pattern_of s) s.k (searched_text s chunk)))
  pub by-steps : (steps (pattern_of s) s.k s.method (searched_text s chunk)).occurrences ≡ positions (pattern_of s) s.k (searched_text s chunk)
  pub found : answer_found r.answer ≡ length (positions (pattern_of s) s.k (searched_text s chunk))
  pub inspections : answer_inspections r.answer ≡ (steps (pattern_of s) s.k s.method (searched_text s chunk)).inspections
  pub search : r.search ≡ stored (fed_parts s chunk)

module _ {s : Search} {chunk before after : List ℕ} {r : FeedResult} (contract : Feeds s chunk before after r) where
  pub feed-accepted : answer_number r.answer ≡ 0 → FeedAccepted s chunk before after r
  feed-accepted ok =
      record {
        list = rw (is_zero contract.number ok) at contract.list;
        by-steps = contract.by-steps (is_zero contract.number ok);
        found = rw (is_zero contract.number ok) at contract.found;
        inspections = rw (is_zero contract.number ok) at contract.inspections;
        search = rw (is_zero contract.number ok) at contract.search;
      }

  module _ (refusal : IsRefused (answer_number r.answer)) where
    pub feed-refused : NothingListed before after r.answer
    feed-refused =
        record {
          list = rw (not-zero contract.number refusal) at contract.list;
          found = rw (not-zero contract.number refusal) at contract.found;
          inspections = rw (not-zero contract.number refusal) at contract.inspections;
        }

    pub feed-keeps-search : r.search ≡ s
    feed-keeps-search = rw (not-zero contract.number refusal) at contract.search

-- ---- set method: stored bytes past the lengths stay, accepted or refused

module _ {s : Search} {new_method : ℕ} {r : SearchResult} (contract : SetsMethod s new_method r) where
  pub set-accepted : answer_number r.admission ≡ 0 → r.search ≡ search_with_method s new_method
  set-accepted ok = rw (is_zero contract.number ok) at contract.search

  pub set-refused : IsRefused (answer_number r.admission) → r.search ≡ s
  set-refused refusal = rw (not-zero contract.number refusal) at contract.search

-- ---- save: the search is handed back in every byte, accepted or refused (`search` of its contract)

-- Accepted: the image stands in the buffer's first bytes
pub record SaveAccepted (s : Search) (before after : List ℕ) (r : SaveResult) : Type 0 where
  pub buffer : after ≡ placed before 0 (image_of s)
  pub len : saving_length r.saving ≡ length (image_of s)

-- Refused, it leaves every byte of the buffer and reports no length
pub record NothingSaved (before after : List ℕ) (r : SaveResult) : Type 0 where
  pub buffer : after ≡ before
  pub len : saving_length r.saving ≡ 0

module _ {s : Search} {before after : List ℕ} {r : SaveResult} (contract : Saves s before after r) where
  pub save-accepted : answer_number r.saving ≡ 0 → SaveAccepted s before after r
  save-accepted ok =
      record {
        buffer = rw (is_zero contract.number ok) at contract.buffer;
        len = rw (is_zero contract.number ok) at contract.len;
      }

  -- what was written is the image of the search
  pub save-written : answer_number r.saving ≡ 0 → written_image after r ≡ image_of s
  save-written ok =
      let accepted : SaveAccepted s before after r = save-accepted ok in
      ap₂ (λ (n : ℕ) (l : List ℕ). take n l) accepted.len accepted.buffer ∙ take-placed-first before (image_of s)

  pub save-refused : IsRefused (answer_number r.saving) → NothingSaved before after r
  save-refused refusal =
      record {
        buffer = rw (not-zero contract.number refusal) at contract.buffer;
        len = rw (not-zero contract.number refusal) at contract.len;
      }

-- ---- open and load

module _ {P : List ℕ} {k method : ℕ} {r : SearchResult} (contract : Opened P k method r) where
  pub open-accepted : answer_number r.admission ≡ 0 → r.search ≡ stored (parts_with P k method 0 [])
  open-accepted ok = rw (is_zero contract.number ok) at contract.search

  pub open-refused : IsRefused (answer_number r.admission) → r.search ≡ blank_search
  open-refused refusal = rw (not-zero contract.number refusal) at contract.search

module _ {bytes : List ℕ} {r : SearchResult} (contract : Loads bytes r) where
  pub load-accepted : answer_number r.admission ≡ 0 → r.search ≡ stored (parts_of bytes)
  load-accepted ok = rw (is_zero contract.number ok) at contract.search

  pub load-refused : IsRefused (answer_number r.admission) → r.search ≡ blank_search
  load-refused refusal = rw (not-zero contract.number refusal) at contract.search
