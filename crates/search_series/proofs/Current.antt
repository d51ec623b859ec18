-- The current ledger and the search that the last call handed back: the search represents the ledger, or both are blank.
use mathlib.Core.Path.{◌≡◌, subst}
use mathlib.Core.List.{List}
use Prim.Native.Nat.{ℕ}
use native.Mathlib.Omega.{arith}
use Rattle.answers.specs.Numbers.{answer_number}
use Rattle.search.specs.declared.Search.{Search}
use Rattle.search.specs.declared.SearchResult.{SearchResult}
use Rattle.search.specs.declared.FeedResult.{FeedResult}
use Rattle.search.specs.declared.SaveResult.{SaveResult}
use Rattle.search.specs.Searches as Searches
use Rattle.search.specs.Calls.{Feeds, SetsMethod, Saves}
use Rattle.search_series.specs.History.{Ledger, Current, blank, holds, Copy, with_chunk, ledger_with_method, changed, keep}
use Rattle.search_series.specs.Series.{written_image, AfterCall}
use Rattle.search_series.proofs.Ledgers.{Represents, agrees, feed-represents, feed-while-blank, set-represents, set-while-blank}
use Rattle.search_series.proofs.Copies.{CopiesInvariant, copy-kept}

pub data RepresentsCurrent : Current → Search → Type 0 where
  is-blank : {s : Search} → s ≡ Searches.blank_search → RepresentsCurrent blank s
  is_held : {L : Ledger} {s : Search} → Represents L s → RepresentsCurrent (holds L) s

-- by what the current ledger is
pub represents : {c : Current} {s : Search} → RepresentsCurrent c s → (L : Ledger) → c ≡ holds L → Represents L s
represents (is-blank e) L q = absurd (let z : ◌≡◌ {A = ℕ} 0 1 = cc in omega arith)
represents {s = s} (is_held {L = M} now) L q = let same : M ≡ L = cc in subst (λ (l : Ledger). Represents l s) same now

pub blank-search : {c : Current} {s : Search} → RepresentsCurrent c s → c ≡ blank → s ≡ Searches.blank_search
blank-search (is-blank e) q = e
blank-search (is_held now) q = absurd (let z : ◌≡◌ {A = ℕ} 0 1 = cc in omega arith)

pub agrees-current : {c : Current} {s : Search} → RepresentsCurrent c s → AfterCall c s
agrees-current (is-blank e) = e
agrees-current (is_held now) = agrees now

-- a call that changes nothing
pub unchanged : {c : Current} {s : Search} → RepresentsCurrent c s → {next : Search} → next ≡ s → RepresentsCurrent c next
unchanged now same = rw same now

pub feed-current : {c : Current} {s : Search} → RepresentsCurrent c s → {chunk before after : List ℕ} {r : FeedResult} → Feeds s chunk before after r → answer_number r.answer ≡ 0
    → RepresentsCurrent (changed (with_chunk chunk) c) r.search
feed-current (is-blank e) contract q = absurd (let one = feed-while-blank contract e in omega arith)
feed-current (is_held now) contract q = is_held (feed-represents contract now q)

pub set-current : {c : Current} {s : Search} → RepresentsCurrent c s → {new_method : ℕ} {r : SearchResult} → SetsMethod s new_method r → answer_number r.admission ≡ 0
    → RepresentsCurrent (changed (ledger_with_method new_method) c) r.search
set-current (is-blank e) contract q = absurd (let one = set-while-blank contract e in omega arith)
set-current (is_held now) contract q = is_held (set-represents contract now q)

-- the copies after an accepted save
pub save-copies : {c : Current} {s : Search} → RepresentsCurrent c s → {before after : List ℕ} {r : SaveResult} → Saves s before after r → answer_number r.saving ≡ 0
    → {kept : List Copy} → CopiesInvariant kept → CopiesInvariant (keep (written_image after r) c kept)
save-copies (is-blank e) contract q copies = copies
save-copies (is_held now) contract q copies = copy-kept now contract q copies
