-- Method 6 (document 02, T-04) in plain sentences about the calls, each from the contracts and from the theorem on series alone: 5 never comes from it, and a
-- search is handed to it and from it wherever 4 and 5 allow that, with the reports of a single search.
use mathlib.Core.Path.{◌≡◌, sym, ◌∙◌, subst}
use mathlib.Core.Bool.{cond}
use mathlib.Core.List.{List, ◌++◌}
use Prim.Native.Nat.{ℕ}
use lib.Dec.{ltb}
use lib.ListN.{length, take}
use Rattle.jumbled.specs.Refusals.{Test, given, method_tests, search_tests, feed_tests, set_method_tests, save_tests, load_tests}
use Rattle.jumbled.proofs.Admission.{given-later}
use Rattle.jumbled.proofs.Never as Never
use Rattle.image_form.specs.Decode.{bad_form, parts_of}
use Rattle.answers.specs.Numbers.{answer_number}
use Rattle.answers.specs.Answers.{Answer, answer_found}
use Rattle.search_whole.specs.Whole.{Whole, whole_number}
use Rattle.search.specs.declared.Search.{Search}
use Rattle.search.specs.declared.SearchResult.{SearchResult}
use Rattle.search.specs.declared.FeedResult.{FeedResult}
use Rattle.search.specs.declared.SaveResult.{SaveResult}
use Rattle.search.specs.Searches.{pattern_of}
use Rattle.search.specs.Calls.{handed_tests, handed_number, parts_tests, Opened, open_number, Feeds, feed_number, SetsMethod, set_method_number, Saves, save_number, image_of, Loads, load_number}
use Rattle.search.proofs.Handed.{handed-numbered}
use Rattle.search_claims.proofs.Consequences.{Chunked, fed-on, handed-over, handed-on, whole-as-chunks}

-- ---- 5 never comes from it

abbrev Not5 : ℕ → Type 0
Not5 number = number ≡ 5 → ⊥

not-5 : {number : ℕ} {ts : List Test} → number ≡ given ts → Never.Never 5 ts → Not5 number
not-5 same never e = Never.never-given never (sym same ∙ e)

pub open-never-5 : {P : List ℕ} {k : ℕ} {r : SearchResult} → Opened P k 6 r → Not5 (answer_number r.admission)
unfolding open_number
open-never-5 {P} {k} contract = not-5 contract.number (Never.pattern-not-5 P k)

pub whole-never-5 : {P : List ℕ} {k : ℕ} {T before after : List ℕ} {r : Answer} → Whole P k 6 T before after r → Not5 (answer_number r)
unfolding whole_number
whole-never-5 {P} {k} {T} {before} contract = not-5 contract.number (Never.whole-not-5 P k (length T) (length before))

-- of a search handed in that has the method, whatever else it holds
handed-not-5 : (s : Search) → s.method ≡ 6 → Never.Never 5 (handed_tests s)
unfolding handed_tests
handed-not-5 s six =
    Never.never-append (Never.length-not-5 s.pattern_len)
    (subst (λ (method : ℕ). Never.Never 5 (search_tests (pattern_of s) s.k method s.total s.tail_len)) (sym six)
    (Never.search-not-5 (pattern_of s) s.k s.total s.tail_len))

pub feed-never-5 : {s : Search} {chunk before after : List ℕ} {r : FeedResult} → Feeds s chunk before after r → s.method ≡ 6 → Not5 (answer_number r.answer)
unfolding feed_number feed_tests
feed-never-5 {s} {chunk} {before} contract six =
    not-5 contract.number (Never.never-append (handed-not-5 s six) (Never.chunk-not-5 s.total (length chunk) (length before)))

pub save-never-5 : {s : Search} {before after : List ℕ} {r : SaveResult} → Saves s before after r → s.method ≡ 6 → Not5 (answer_number r.saving)
unfolding save_number save_tests
save-never-5 {s} {before} contract six =
    not-5 contract.number (Never.never-append (handed-not-5 s six) (Never.buffer-not-5 (length before) (length (image_of s))))

-- of a search that is handed to it: unless the search was not in order before
pub set-never-5 : {s : Search} {r : SearchResult} → SetsMethod s 6 r → handed_number s ≡ 0 → Not5 (answer_number r.admission)
unfolding set_method_number set_method_tests handed_number
set-never-5 {s} contract in_order =
    not-5 (contract.number ∙ given-later (handed_tests s) (method_tests (pattern_of s) s.k 6) (handed-numbered s) in_order)
    (Never.method-not-5 (pattern_of s) s.k)

-- of an image whose search has the method
pub load-never-5 : {bytes : List ℕ} {r : SearchResult} → Loads bytes r → (parts_of bytes).method ≡ 6 → Not5 (answer_number r.admission)
unfolding load_number load_tests parts_tests
load-never-5 {bytes} contract six =
    let parts = parts_of bytes in
    not-5 contract.number
    (Never.never-append (Never.form-not-5 (bad_form bytes))
    (subst (λ (method : ℕ). Never.Never 5 (search_tests parts.pattern parts.k method parts.total (length parts.tail))) (sym six)
    (Never.search-not-5 parts.pattern parts.k parts.total (length parts.tail))))

-- ---- handed to it and from it

-- A search of a record that came in pieces is handed to 6 exactly where k = 0; elsewhere 4 is given
pub handed-to-ebl : {P : List ℕ} {k : ℕ} {s : Search} {text joined : List ℕ} → Chunked P k s text joined
    → {r : SearchResult} → SetsMethod s 6 r → answer_number r.admission ≡ cond (ltb 0 k) 4 0
handed-to-ebl {P} {k} chunked contract = handed-on chunked contract ∙ Never.ebl-number P k

-- Handed to 6, fed, handed on, and fed again: what a whole search of the joined record finds, by whichever method, are the positions reported
-- before, then those of the feed by 6, then those of the feed by the method after it
pub fed-by-ebl : {P : List ℕ} {k : ℕ} {s : Search} {text joined : List ℕ} → Chunked P k s text joined
    → {to : SearchResult} → SetsMethod s 6 to → answer_number to.admission ≡ 0
    → {chunk before after : List ℕ} {fed : FeedResult} → Feeds to.search chunk before after fed → answer_number fed.answer ≡ 0
    → {new_method : ℕ} {on : SearchResult} → SetsMethod fed.search new_method on → answer_number on.admission ≡ 0
    → {chunk' before' after' : List ℕ} {fed' : FeedResult} → Feeds on.search chunk' before' after' fed' → answer_number fed'.answer ≡ 0
    → {method : ℕ} {list list' : List ℕ} {w : Answer} → Whole P k method (text ++ chunk ++ chunk') list list' w → answer_number w ≡ 0
    → take (answer_found w) list' ≡ joined ++ take (answer_found fed.answer) after ++ take (answer_found fed'.answer) after'
fed-by-ebl chunked sets ok feeds fine sets' ok' feeds' fine' whole taken =
    (whole-as-chunks (fed-on (handed-over (fed-on (handed-over chunked sets ok) feeds fine) sets' ok') feeds' fine') whole taken).first
