-- The sentences of the three demands in their plain form, each from the theorem on series (`series`) and the contracts alone: a claim or a
-- contract that said less would not give them.
use mathlib.Core.Path.{◌≡◌, refl, sym, ap, ap₂, ◌∙◌, subst}
use mathlib.Core.List.{List, [], ◌∷◌, ◌++◌, Memᴰ}
use mathlib.Core.Logic.{◌↔◌, inl}
use Prim.Native.Nat.{ℕ, ◌+◌, ◌-◌, ◌≤◌}
use native.Mathlib.Omega.{arith}
use lib.ListN.{length, take}
use Rattle.jumbled.specs.Match.{excess, window, positions}
use Rattle.jumbled.specs.Steps.{steps}
use Rattle.jumbled.specs.Refusals.{given, length_tests, pattern_tests, method_tests, chunk_tests, feed_tests, set_method_tests, save_tests, buffer_tests, tail_length}
use Rattle.jumbled.proofs.Admission.{given-later, search-fresh}
use Rattle.jumbled.proofs.Positions as Positions
use Rattle.lent.specs.Placed.{placed, shifted, FirstPlaces}
use Rattle.lent.proofs.Placing.{shifted-zero, first-places}
use Rattle.image_form.specs.Image.{Parts, parts_with, image}
use Rattle.answers.specs.Numbers.{answer_number, unless_refused}
use Rattle.answers.specs.Answers.{Answer, answer_found, answer_inspections}
use Rattle.search_whole.specs.Whole.{Whole, whole_number}
use Rattle.search_whole.proofs.Wholes.{whole-late}
use Rattle.search_state.specs.Stored.{last_of}
use Rattle.search.specs.declared.Search.{Search}
use Rattle.search.specs.declared.SearchResult.{SearchResult}
use Rattle.search.specs.declared.FeedResult.{FeedResult}
use Rattle.search.specs.declared.SaveResult.{SaveResult}
use Rattle.search.specs.Searches.{pattern_of, parts_of_search, stored, blank_search}
use Rattle.search.specs.Calls.{handed_tests, handed_number, parts_tests, Opened, open_number, Feeds, feed_number, searched_text, SetsMethod, set_method_number, Saves, save_number, image_of, Loads}
use Rattle.search.proofs.Handed.{handed-numbered}
use Rattle.search_series.specs.History.{Ledger, Current, blank, holds, verdict, Event, saved, start_with, with_chunk, ledger_with_method, ledger_report, brought_back, after_event, history}
use Rattle.search_series.specs.Series.{KeptAs, latest, written_image, Run, fresh, opens, feeds, sets, saves, loads, wholes, ledger_tail, ledger_parts, ledger_search, Reports, Agrees, AfterCall, Right}
use Rattle.search_series.proofs.Reports.{positions-append}
use Rattle.search_series.proofs.Tests.{pattern-stored, parts-stored, handed-stored}
use Rattle.search_whole.proofs.Contract.{NothingListed, whole-accepted}
use Rattle.search_series.proofs.Contracts.{open-accepted, feed-accepted, feed-refused, feed-keeps-search, NothingSaved, save-refused}
use Rattle.search_series.proofs.Theorem.{series}

-- Demand 1, what a refusal leaves, is `whole-refused` of search_whole's Contract.antt, and Contracts.antt's `feed-refused`, `feed-keeps-search`, `set-refused`, `save-refused`,
-- `open-refused` and `load-refused`; what it adds in a series stands below.

-- ---- demand 2: each method lists exactly the matching positions, in rising order

module _ {P : List ℕ} {k method : ℕ} {T before after : List ℕ} {r : Answer} (contract : Whole P k method T before after r) (ok : answer_number r ≡ 0) where
  -- as many first places as were found hold the listed positions,
  pub whole-places : FirstPlaces before after (answer_found r) (positions P k T)
  whole-places = first-places (whole-accepted contract ok).list (whole-accepted contract ok).found

  -- a position stands there exactly where its window is whole and has an excess of at most k,
  pub whole-exact : (s : ℕ) → Memᴰ s (take (answer_found r) after) ↔ ((s + length P ≤ length T) × (excess P (window (length P) T s) ≤ k))
  whole-exact s = rw whole-places.first (Positions.listed P k T s)

  -- they rise,
  pub whole-ascending : Positions.Ascending 0 (take (answer_found r) after)
  whole-ascending = rw whole-places.first (Positions.ascending P k T)

  -- and positions and inspections are what the steps of this very method come to
  pub whole-by-steps : (take (answer_found r) after ≡ (steps P k method T).occurrences) × (answer_inspections r ≡ (steps P k method T).inspections)
  whole-by-steps = (whole-places.first ∙ sym (whole-accepted contract ok).by-steps, (whole-accepted contract ok).inspections)

-- two methods that take a pattern and k find the same in a text, and leave the same list
pub methods-agree : {P : List ℕ} {k method method' : ℕ} {T before after after' : List ℕ} {r r' : Answer}
    → Whole P k method T before after r → Whole P k method' T before after' r' → answer_number r ≡ 0 → answer_number r' ≡ 0
    → (after ≡ after') × (answer_found r ≡ answer_found r') × ((steps P k method T).occurrences ≡ (steps P k method' T).occurrences)
methods-agree contract contract' ok ok' =
    let one = whole-accepted contract ok in
    let other = whole-accepted contract' ok' in
    (one.list ∙ sym other.list, one.found ∙ sym other.found, one.by-steps ∙ sym other.by-steps)

-- a feed puts into its list what the steps of the set method list of the tail followed by the chunk, n less the tail's length added
pub feed-by-steps : {s : Search} {chunk before after : List ℕ} {r : FeedResult} → Feeds s chunk before after r → answer_number r.answer ≡ 0
    → after ≡ placed before 0 (shifted (s.total - s.tail_len) (steps (pattern_of s) s.k s.method (searched_text s chunk)).occurrences)
feed-by-steps {s} {chunk} {before} contract ok =
    let accepted = feed-accepted contract ok in
    accepted.list ∙ ap (λ (l : List ℕ). placed before 0 (shifted (s.total - s.tail_len) l)) (sym accepted.by-steps)

-- a whole search answers as a feed of all of the text on a fresh search does ("Whole search")
module _ {P : List ℕ} {k method : ℕ} {T before after after' : List ℕ} {o : SearchResult} {fed : FeedResult} {r : Answer}
    (open-contract : Opened P k method o) (ok : answer_number o.admission ≡ 0) (feed-contract : Feeds o.search T before after fed)
    (contract : Whole P k method T before after' r) where
  abbrev begun-search : Search
  begun-search = stored (parts_with P k method 0 [])

  on-fresh : Feeds begun-search T before after fed
  on-fresh = subst (λ (s : Search). Feeds s T before after fed) (open-accepted open-contract ok) feed-contract

  same-pattern : pattern_of begun-search ≡ P
  same-pattern = pattern-stored (parts_with P k method 0 [])

  admitted : given (pattern_tests P k method) ≡ 0
  unfolding open_number
  admitted = sym open-contract.number ∙ ok

  same_number : feed_number begun-search T before ≡ whole_number P k method T before
  unfolding feed_number feed_tests handed_number parts_tests
  same_number =
      given-later (handed_tests begun-search) (chunk_tests 0 (length T) (length before)) (handed-numbered begun-search)
      (handed-stored (parts_with P k method 0 []) ∙ search-fresh P k method ∙ admitted)
      ∙ sym (whole-late P k method T before admitted)

  same-positions : shifted 0 (positions (pattern_of begun-search) k T) ≡ positions P k T
  same-positions = shifted-zero (positions (pattern_of begun-search) k T) ∙ ap (λ (pattern : List ℕ). positions pattern k T) same-pattern

  pub as-fresh-feed : (answer_number fed.answer ≡ answer_number r) × (after ≡ after')
      × (answer_found fed.answer ≡ answer_found r) × (answer_inspections fed.answer ≡ answer_inspections r)
  as-fresh-feed = (
    on-fresh.number ∙ same_number ∙ sym contract.number,
    on-fresh.list
        ∙ ap₂ (λ (n : ℕ) (l : List ℕ). unless_refused n (placed before 0 l) before) same_number same-positions
        ∙ sym contract.list,
    on-fresh.found
        ∙ ap₂ (λ (n : ℕ) (pattern : List ℕ). unless_refused n (length (positions pattern k T)) 0) same_number same-pattern
        ∙ sym contract.found,
    on-fresh.inspections
        ∙ ap₂ (λ (n : ℕ) (pattern : List ℕ). unless_refused n (steps pattern k method T).inspections 0) same_number same-pattern
        ∙ sym contract.inspections,
  )

-- ---- demand 3: after every call

handed-blank : handed_number blank_search ≡ 1
unfolding handed_number handed_tests length_tests given
handed-blank = refl

module _ {P : List ℕ} {k method : ℕ} where
  -- the claim about a series is a claim about every call in it: after each the ledger and the search agree
  unfoldable pub AfterEvery : {s : Search} {now : List Event} → Run P k method s now → Type 0
  AfterEvery {s} {now} (fresh contract ok) = AfterCall (history P k method now).current s
  AfterEvery {s} {now} (opens run contract) = AfterEvery run × AfterCall (history P k method now).current s
  AfterEvery {s} {now} (feeds run contract) = AfterEvery run × AfterCall (history P k method now).current s
  AfterEvery {s} {now} (sets run contract) = AfterEvery run × AfterCall (history P k method now).current s
  AfterEvery {s} {now} (saves run contract) = AfterEvery run × AfterCall (history P k method now).current s
  AfterEvery {s} {now} (loads run contract got) = AfterEvery run × AfterCall (history P k method now).current s
  AfterEvery {s} {now} (wholes run contract) = AfterEvery run × AfterCall (history P k method now).current s

  after-each : {s : Search} {now : List Event} (run : Run P k method s now) → Right run → AfterEvery run
  unfolding Right AfterEvery
  after-each (fresh contract ok) right = right
  after-each (opens run contract) right = (after-each run right.0, right.1)
  after-each (feeds run contract) right = (after-each run right.0, right.3)
  after-each (sets run contract) right = (after-each run right.0, right.2)
  after-each (saves run contract) right = (after-each run right.0, right.2)
  after-each (loads run contract got) right = (after-each run right.0, right.2)
  after-each (wholes run contract) right = (after-each run right.0, right.1)

  pub after-every-call : {s : Search} {now : List Event} (run : Run P k method s now) → AfterEvery run
  after-every-call run = after-each run (series run)

  after_last : {s : Search} {now : List Event} (run : Run P k method s now) → AfterEvery run → AfterCall (history P k method now).current s
  unfolding AfterEvery
  after_last (fresh contract ok) after = after
  after_last (opens run contract) after = after.1
  after_last (feeds run contract) after = after.1
  after_last (sets run contract) after = after.1
  after_last (saves run contract) after = after.1
  after_last (loads run contract got) after = after.1
  after_last (wholes run contract) after = after.1

  module _ {s : Search} {events : List Event} (run : Run P k method s events) where
    holding : (L : Ledger) → (history P k method events).current ≡ holds L → Agrees L s
    holding L e = subst (λ (c : Current). AfterCall c s) e (after_last run (after-every-call run))

    -- the search is blank exactly where the ledger is
    pub blank-together : ((history P k method events).current ≡ blank) ↔ (s ≡ blank_search)
    blank-together = (λ e. subst (λ (c : Current). AfterCall c s) e (after_last run (after-every-call run)), λ e. back (history P k method events).current (after_last run (after-every-call run)) e)
      where
        back : (c : Current) → AfterCall c s → s ≡ blank_search → c ≡ blank
        back blank now e = refl
        back (holds L) now e = absurd (let both = sym now.in_order ∙ ap handed_number e ∙ handed-blank in omega arith)

    module _ (L : Ledger) (current : (history P k method events).current ≡ holds L) where
      -- elsewhere it has the ledger's pattern, k and method, the text's length and the text's last bytes, and nothing in its other stored bytes
      pub search-known : s ≡ ledger_search L
      search-known = (holding L current).search

      pub parts-known : parts_of_search s ≡ parts_with L.pattern L.k L.method (length L.text) (last_of (tail_length (length L.pattern) (length L.text)) L.text)
      parts-known = ap parts_of_search search-known ∙ parts-stored (ledger_parts L)

      -- a feed is refused for its chunk and its list alone,
      pub feed-number : {chunk before after : List ℕ} {r : FeedResult} → Feeds s chunk before after r
          → answer_number r.answer ≡ given (chunk_tests (length L.text) (length chunk) (length before))
      unfolding feed_number feed_tests handed_number
      feed-number {chunk} {before} contract =
          contract.number
          ∙ given-later (handed_tests s) (chunk_tests s.total (length chunk) (length before)) (handed-numbered s) (holding L current).in_order
          ∙ ap (λ (held : Search). given (chunk_tests held.total (length chunk) (length before))) search-known

      -- a set method for the new method alone,
      pub set-number : {new_method : ℕ} {r : SearchResult} → SetsMethod s new_method r
          → answer_number r.admission ≡ given (method_tests L.pattern L.k new_method)
      unfolding set_method_number set_method_tests handed_number
      set-number {new_method} contract =
          contract.number
          ∙ given-later (handed_tests s) (method_tests (pattern_of s) s.k new_method) (handed-numbered s) (holding L current).in_order
          ∙ ap (λ (parts : Parts). given (method_tests parts.pattern parts.k new_method)) parts-known

      -- and a save for its buffer alone, which needs the room of the ledger's image
      pub save-number : {before after : List ℕ} {r : SaveResult} → Saves s before after r
          → answer_number r.saving ≡ given (buffer_tests (length before) (length (image (ledger_parts L))))
      unfolding save_number save_tests handed_number
      save-number {before} contract =
          contract.number
          ∙ given-later (handed_tests s) (buffer_tests (length before) (length (image_of s))) (handed-numbered s) (holding L current).in_order
          ∙ ap (λ (parts : Parts). given (buffer_tests (length before) (length (image parts)))) parts-known

      -- the reports, joined, are the listed positions of the text,
      pub reports-listed : L.reported ≡ positions L.pattern L.k L.text
      reports-listed = (holding L current).reported

      -- and an accepted whole search of that text finds the same, by whichever method
      pub whole-finds-reports : {new_method : ℕ} {before after : List ℕ} {r : Answer} → Whole L.pattern L.k new_method L.text before after r → answer_number r ≡ 0
          → FirstPlaces before after (answer_found r) L.reported
      whole-finds-reports contract ok = first-places ((holding L current).whole-list _ _ _ _ contract ok) ((holding L current).whole-found _ _ _ _ contract ok)

      -- What an accepted feed puts in its list, as many places as it says: the ledger's report,
      module _ {chunk before after : List ℕ} {r : FeedResult} (contract : Feeds s chunk before after r) (ok : answer_number r.answer ≡ 0) where
        reports : Reports L chunk before after r
        unfolding Right
        reports = (series (feeds run contract)).1 L current ok

        pub feed-places : FirstPlaces before after (answer_found r.answer) (ledger_report L chunk)
        feed-places = first-places reports.list reports.found

        -- which is what the longer text lists beyond the text before it;
        pub feed-adds : positions L.pattern L.k (L.text ++ chunk) ≡ positions L.pattern L.k L.text ++ take (answer_found r.answer) after
        feed-adds =
            positions-append L.pattern L.k L.text chunk
            ∙ ap (λ (l : List ℕ). positions L.pattern L.k L.text ++ l) (sym feed-places.first)

        -- and its inspections are those of a whole search, by the ledger's method, of the text's last bytes followed by the chunk
        pub feed-inspects : {list list' : List ℕ} {w : Answer} → Whole L.pattern L.k L.method (ledger_tail L ++ chunk) list list' w → answer_number w ≡ 0
            → answer_inspections r.answer ≡ answer_inspections w
        feed-inspects whole taken = reports.inspections ∙ sym (whole-accepted whole taken).inspections

    -- while the ledger is blank, each of the three calls on the search gives 1, and nothing changes
    module _ (current : (history P k method events).current ≡ blank) where
      pub feed-while-blank : {chunk before after : List ℕ} {r : FeedResult} → Feeds s chunk before after r
          → (answer_number r.answer ≡ 1) × NothingListed before after r.answer × (r.search ≡ blank_search)
      unfolding Right
      feed-while-blank {r = r} contract =
          let one : answer_number r.answer ≡ 1 = (series (feeds run contract)).2 current in
          (one, feed-refused contract (λ e. omega arith), feed-keeps-search contract (λ e. omega arith) ∙ blank-together.0 current)

      pub set-while-blank : {new_method : ℕ} {r : SearchResult} → SetsMethod s new_method r → answer_number r.admission ≡ 1
      unfolding Right
      set-while-blank contract = (series (sets run contract)).1 current

      pub save-while-blank : {before after : List ℕ} {r : SaveResult} → Saves s before after r → (answer_number r.saving ≡ 1) × NothingSaved before after r
      unfolding Right
      save-while-blank {r = r} contract =
          let one : answer_number r.saving ≡ 1 = (series (saves run contract)).1 current in
          (one, save-refused contract (λ e. omega arith))

    -- a load of an image that a save of the series wrote is accepted, and gives the search of the copy that it means
    pub load-brings-back : {bytes : List ℕ} {which : ℕ} {r : SearchResult} → Loads bytes r → KeptAs bytes (history P k method events).kept which
        → (L : Ledger) → brought_back (history P k method events).kept which ≡ holds L → (answer_number r.admission ≡ 0) × (r.search ≡ ledger_search L)
    unfolding Right history after_event
    load-brings-back {r = r} contract found L meant =
        let right = series (loads run contract (inl found)) in
        let ok : answer_number r.admission ≡ 0 = right.1 found in
        (ok, (subst (λ (c : Current). AfterCall c r.search) meant (rw ok at right.2)).search)

  -- save then load, with nothing between, gives the search back in every stored byte
  module _ {s : Search} {events : List Event} (run : Run P k method s events) (L : Ledger) (current : (history P k method events).current ≡ holds L)
      {before after : List ℕ} {r : SaveResult} (contract : Saves s before after r) (ok : answer_number r.saving ≡ 0) where
    abbrev with-save : List Event
    with-save = saved (written_image after r) (verdict (answer_number r.saving)) ∷ events

    kept-first : KeptAs (written_image after r) (history P k method with-save).kept 0
    unfolding history after_event
    kept-first = rw (ok, current) (latest refl)

    kept-ledger : brought_back (history P k method with-save).kept 0 ≡ holds L
    unfolding history after_event
    kept-ledger = rw (ok, current) refl

    pub save-then-load : {r' : SearchResult} → Loads (written_image after r) r' → (answer_number r'.admission ≡ 0) × (r'.search ≡ s)
    save-then-load loaded =
        let back = load-brings-back (saves run contract) loaded kept-first L kept-ledger in
        (back.0, back.1 ∙ sym (search-known run L current))

-- ---- demand 3: it never matters where a text is cut, saved, loaded or handed to another method

-- A search for P and k of a text that came in chunks, each call accepted; `joined` is what the feeds put in the first places of their lists,
-- one after the other. Between two chunks the method may change, and the search may be saved and loaded.
pub data Chunked (P : List ℕ) (k : ℕ) : Search → (text joined : List ℕ) → Type 0 where
  begun : {method : ℕ} {r : SearchResult} → Opened P k method r → answer_number r.admission ≡ 0 → Chunked P k r.search [] []
  fed-on : {s : Search} {text joined : List ℕ} → Chunked P k s text joined
      → {chunk before after : List ℕ} {r : FeedResult} → Feeds s chunk before after r → answer_number r.answer ≡ 0
      → Chunked P k r.search (text ++ chunk) (joined ++ take (answer_found r.answer) after)
  handed-over : {s : Search} {text joined : List ℕ} → Chunked P k s text joined
      → {new_method : ℕ} {r : SearchResult} → SetsMethod s new_method r → answer_number r.admission ≡ 0 → Chunked P k r.search text joined
  taken-up : {s : Search} {text joined : List ℕ} → Chunked P k s text joined
      → {before after : List ℕ} {r : SaveResult} → Saves s before after r → answer_number r.saving ≡ 0
      → {r' : SearchResult} → Loads (written_image after r) r' → Chunked P k r'.search text joined

-- it is a series, and its ledger has this text and these reports
record AsSeries (P : List ℕ) (k : ℕ) (s : Search) (text joined : List ℕ) : Type 0 where
  method : ℕ
  events : List Event
  run : Run P k method s events
  ledger : Ledger
  current : (history P k method events).current ≡ holds ledger
  same-pattern : ledger.pattern ≡ P
  same-k : ledger.k ≡ k
  same_text : ledger.text ≡ text
  same-reports : ledger.reported ≡ joined

as-series : {P : List ℕ} {k : ℕ} {s : Search} {text joined : List ℕ} → Chunked P k s text joined → AsSeries P k s text joined
unfolding history after_event
as-series {P} {k} (begun {method = method} contract ok) =
    record {
      method = method;
      events = [];
      run = fresh contract ok;
      ledger = start_with P k method;
      current = refl;
      same-pattern = refl;
      same-k = refl;
      same_text = refl;
      same-reports = refl;
    }
as-series (fed-on before-it {chunk = chunk} contract ok) =
    let past = as-series before-it in
    record {
      method = past.method;
      events = _;
      run = feeds past.run contract;
      ledger = with_chunk chunk past.ledger;
      current = rw (ok, past.current) refl;
      same-pattern = past.same-pattern;
      same-k = past.same-k;
      same_text = ap (λ (l : List ℕ). l ++ chunk) past.same_text;
      same-reports = ap₂ ◌++◌ past.same-reports (sym (feed-places past.run past.ledger past.current contract ok).first);
    }
as-series (handed-over before-it {new_method = new_method} contract ok) =
    let past = as-series before-it in
    record {
      method = past.method;
      events = _;
      run = sets past.run contract;
      ledger = ledger_with_method new_method past.ledger;
      current = rw (ok, past.current) refl;
      same-pattern = past.same-pattern;
      same-k = past.same-k;
      same_text = past.same_text;
      same-reports = past.same-reports;
    }
as-series (taken-up before-it contract ok loaded) =
    let past = as-series before-it in
    record {
      method = past.method;
      events = _;
      run = loads (saves past.run contract) {which = 0} loaded (inl (kept-first past.run past.ledger past.current contract ok));
      ledger = past.ledger;
      current =
          rw (save-then-load past.run past.ledger past.current contract ok loaded).0
          (kept-ledger past.run past.ledger past.current contract ok);
      same-pattern = past.same-pattern;
      same-k = past.same-k;
      same_text = past.same_text;
      same-reports = past.same-reports;
    }

-- It is handed to another method wherever 3, 4 and 5 of that method allow it
pub handed-on : {P : List ℕ} {k : ℕ} {s : Search} {text joined : List ℕ} → Chunked P k s text joined
    → {new_method : ℕ} {r : SearchResult} → SetsMethod s new_method r → answer_number r.admission ≡ given (method_tests P k new_method)
handed-on chunked {new_method} contract =
    let all = as-series chunked in
    set-number all.run all.ledger all.current contract
    ∙ ap₂ (λ (pattern : List ℕ) (n : ℕ). given (method_tests pattern n new_method)) all.same-pattern all.same-k

-- The joined lists are the listed positions of the whole text,
pub chunks-listed : {P : List ℕ} {k : ℕ} {s : Search} {text joined : List ℕ} → Chunked P k s text joined → joined ≡ positions P k text
chunks-listed {P} {k} {text = text} chunked =
    let all = as-series chunked in
    sym all.same-reports
    ∙ reports-listed all.run all.ledger all.current
    ∙ ap₂ (λ (pattern whole : List ℕ). positions pattern all.ledger.k whole) all.same-pattern all.same_text
    ∙ ap (λ (n : ℕ). positions P n text) all.same-k

-- so any two ways of cutting a text, by any methods, saved and loaded anywhere, join to the same,
pub two_ways : {P : List ℕ} {k : ℕ} {s s' : Search} {text joined joined' : List ℕ} → Chunked P k s text joined → Chunked P k s' text joined'
    → joined ≡ joined'
two_ways one other = chunks-listed one ∙ sym (chunks-listed other)

-- which is what an accepted whole search of the text leaves in its first places
pub whole-as-chunks : {P : List ℕ} {k method : ℕ} {s : Search} {text joined before after : List ℕ} {r : Answer} → Chunked P k s text joined
    → Whole P k method text before after r → answer_number r ≡ 0 → FirstPlaces before after (answer_found r) joined
whole-as-chunks chunked contract ok = rw (chunks-listed chunked) (whole-places contract ok)
