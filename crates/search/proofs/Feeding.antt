-- A feed's answer, and the search that it hands back.
use mathlib.Core.Path.{◌≡◌, sym, ap, ◌∙◌}
use mathlib.Core.List.{List}
use Prim.Native.Nat.{ℕ, ◌-◌, ◌≤◌}
use native.Mathlib.Omega.{arith}
use lib.ListN.{length, length-drop}
use Rattle.jumbled.specs.Match.{Bytes, positions}
use Rattle.jumbled.specs.Steps.{steps}
use Rattle.jumbled.specs.Refusals.{given, chunk_tests, feed_tests}
use Rattle.jumbled.proofs.Admission.{given-append, given-append-none}
use Rattle.jumbled.proofs.Methods.{methods-list}
use Rattle.lent.specs.Placed.{placed, shifted}
use Rattle.answers.specs.Numbers.{number_of, unless_refused}
use Rattle.answers.specs.declared.Refusal.{Refusal}
use Rattle.lent.specs.declared.SearchCounts.{SearchCounts}
use Rattle.search_state.specs.Stored.{last_of}
use Rattle.answers.proofs.Refused.{number-positive, on-refusal, on-accepted, still-refused, tested-later}
use Rattle.std.proofs.Common.{Ok, Err}
use Rattle.search.specs.declared.Search.{Search}
use Rattle.search.specs.Searches.{pattern_of}
use Rattle.search.specs.Calls.{handed_tests, handed_number, feed_number, searched_text, FoundBy, AnswersFeed}
use Rattle.search.proofs.Handed.{handed-numbered, sound}

pub length_last : (j : ℕ) (U : List ℕ) → j ≤ length U → length (last_of j U) ≡ j
length_last j U h = omega (arith, length-drop (length U - j) U)

module _ (s : Search) (chunk list : List ℕ) where
  feed-number : feed_number s chunk list ≡ unless_refused (handed_number s) (given (chunk_tests s.total (length chunk) (length list))) (handed_number s)
  unfolding feed_number feed_tests handed_number
  feed-number = given-append (handed_tests s) (chunk_tests s.total (length chunk) (length list)) (handed-numbered s)

  -- a refusal leaves everything as it was
  fed-refused : (refusal : Refusal) → number_of refusal ≡ feed_number s chunk list → AnswersFeed s chunk list list (Err refusal)
  fed-refused refusal e next handed =
      record {
        number = e;
        found = on-refusal refusal (feed_number s chunk list) (length (positions (pattern_of s) s.k (searched_text s chunk))) 0 e;
        inspections = on-refusal refusal (feed_number s chunk list) (steps (pattern_of s) s.k s.method (searched_text s chunk)).inspections 0 e;
        list =
            on-refusal refusal (feed_number s chunk list)
            (placed list 0 (shifted (s.total - s.tail_len) (positions (pattern_of s) s.k (searched_text s chunk)))) list e;
        by-steps = λ q. absurd (let positive = number-positive refusal in omega arith);
        search = handed;
      }

  pub fed-refused-early : (refusal : Refusal) → number_of refusal ≡ handed_number s → AnswersFeed s chunk list list (Err refusal)
  fed-refused-early refusal e = fed-refused refusal (still-refused _ _ refusal e ∙ sym feed-number)

  module _ (right : handed_number s ≡ 0) where
    late : given (chunk_tests s.total (length chunk) (length list)) ≡ feed_number s chunk list
    late = tested-later _ _ right ∙ sym feed-number

    pub fed-refused-late : (refusal : Refusal) → number_of refusal ≡ given (chunk_tests s.total (length chunk) (length list))
        → AnswersFeed s chunk list list (Err refusal)
    fed-refused-late refusal e = fed-refused refusal (e ∙ late)

    pub fed-listed : Bytes (pattern_of s) → Bytes (searched_text s chunk) → given (chunk_tests s.total (length chunk) (length list)) ≡ 0
        → (after : List ℕ) (search_counts : SearchCounts) → FoundBy s chunk list after search_counts → AnswersFeed s chunk list after (Ok search_counts)
    fed-listed hP hX within after search_counts found next handed =
        let none : feed_number s chunk list ≡ 0 = sym late ∙ within in
        let same : (steps (pattern_of s) s.k s.method (searched_text s chunk)).occurrences ≡ positions (pattern_of s) s.k (searched_text s chunk) =
        methods-list (pattern_of s) s.k s.method (searched_text s chunk) hP hX (sound s right).admits in
        record {
          number = sym none;
          found = found.found ∙ ap length same ∙ on-accepted (feed_number s chunk list) (length (positions (pattern_of s) s.k (searched_text s chunk))) 0 none;
          inspections = found.inspections ∙ on-accepted (feed_number s chunk list) (steps (pattern_of s) s.k s.method (searched_text s chunk)).inspections 0 none;
          list =
              found.filled ∙ ap (λ (l : List ℕ). placed list 0 (shifted (s.total - s.tail_len) l)) same
              ∙ on-accepted (feed_number s chunk list)
              (placed list 0 (shifted (s.total - s.tail_len) (positions (pattern_of s) s.k (searched_text s chunk)))) list none;
          by-steps = λ q. same;
          search = handed;
        }

  -- a feed that is not refused was of a search and of a chunk that are taken
  pub fed-taken : feed_number s chunk list ≡ 0 → (handed_number s ≡ 0) × (given (chunk_tests s.total (length chunk) (length list)) ≡ 0)
  unfolding feed_number feed_tests handed_number
  fed-taken none = given-append-none (handed_tests s) (chunk_tests s.total (length chunk) (length list)) (handed-numbered s) none
