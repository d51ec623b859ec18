-- Every finite series of calls, and what is claimed of it: document 01, "The ledger", its last paragraph (demand 3).
use Rattle.std.specs.Prelude.{◌≡◌, List, [], ◌∷◌, ◌++◌, ◌⊎◌, ℕ, zero, suc, length, take}
use Rattle.jumbled.specs.Match.{positions}
use Rattle.jumbled.specs.Steps.{steps}
use Rattle.jumbled.specs.Refusals.{tail_length}
use Rattle.lent.specs.Placed.{placed}
use Rattle.answers.specs.Numbers.{answer_number}
use Rattle.answers.specs.Answers.{Answer, answer_found, answer_inspections, saving_length}
use Rattle.search.specs.declared.Search.{Search}
use Rattle.search.specs.declared.SearchResult.{SearchResult}
use Rattle.search.specs.declared.FeedResult.{FeedResult}
use Rattle.search.specs.declared.SaveResult.{SaveResult}
use Rattle.search_whole.specs.Whole.{Whole}
use Rattle.search_state.specs.Stored.{last_of}
use Rattle.image_form.specs.Image.{Parts, parts_with}
use Rattle.search.specs.Searches.{stored, blank_search}
use Rattle.search.specs.Calls.{handed_number, Opened, Feeds, SetsMethod, Saves, Loads}
use Rattle.search_series.specs.History.{Ledger, Current, blank, holds, Copy, History, verdict, Event, opened, fed, method_set, saved, loaded, searched, ledger_report, history}

-- ---- a series of calls

-- The bytes that a load gets are the image kept with the copy that it means, byte for byte ("Load")
pub data KeptAs (bytes : List ℕ) : List Copy → ℕ → Type 0 where
  latest : {copy : Copy} {kept : List Copy} → copy.image ≡ bytes → KeptAs bytes (copy ∷ kept) zero
  older : {copy : Copy} {kept : List Copy} {which : ℕ} → KeptAs bytes kept which → KeptAs bytes (copy ∷ kept) (suc which)

-- The image that a save wrote into its buffer, which then holds `after`: as many of its first bytes as the save says
abbrev pub written_image : List ℕ → SaveResult → List ℕ
written_image after r = take (saving_length r.saving) after

-- A series of calls on the fresh search for P, k and method: the search that the last call left, and what the history is told, the latest
-- call first. Of each call its contract's record is known and nothing else. Feed, set method and save are handed the search of the series and
-- hand one back; open and load are handed none and put theirs in its place; a whole search touches none. Whether a call was refused is read off
-- the number that it gives.
pub data Run (P : List ℕ) (k method : ℕ) : Search → List Event → Type 0 where
  -- It begins with an open that was accepted.
  fresh : {r : SearchResult} → Opened P k method r → answer_number r.admission ≡ 0 → Run P k method r.search []
  opens : {s : Search} {events : List Event} → Run P k method s events
      → {P' : List ℕ} {k' method' : ℕ} {r : SearchResult} → Opened P' k' method' r
      → Run P k method r.search (opened P' k' method' (verdict (answer_number r.admission)) ∷ events)
  feeds : {s : Search} {events : List Event} → Run P k method s events
      → {chunk before after : List ℕ} {r : FeedResult} → Feeds s chunk before after r
      → Run P k method r.search (fed chunk (verdict (answer_number r.answer)) ∷ events)
  sets : {s : Search} {events : List Event} → Run P k method s events
      → {method' : ℕ} {r : SearchResult} → SetsMethod s method' r
      → Run P k method r.search (method_set method' (verdict (answer_number r.admission)) ∷ events)
  saves : {s : Search} {events : List Event} → Run P k method s events
      → {before after : List ℕ} {r : SaveResult} → Saves s before after r
      → Run P k method r.search (saved (written_image after r) (verdict (answer_number r.saving)) ∷ events)
  -- What it loads was written by a save of this series, or the load is refused.
  loads : {s : Search} {events : List Event} → Run P k method s events
      → {bytes : List ℕ} {which : ℕ} {r : SearchResult} → Loads bytes r
      → KeptAs bytes (history P k method events).kept which ⊎ (answer_number r.admission ≡ 0 → ⊥)
      → Run P k method r.search (loaded bytes which (verdict (answer_number r.admission)) ∷ events)
  -- The search of the series stays.
  wholes : {s : Search} {events : List Event} → Run P k method s events
      → {P' : List ℕ} {k' method' : ℕ} {text before after : List ℕ} {r : Answer} → Whole P' k' method' text before after r
      → Run P k method s (searched P' k' method' text (verdict (answer_number r)) ∷ events)

-- ---- what is claimed

-- The last min(n, m − 1) bytes of a ledger's text, n being the text's length
abbrev pub ledger_tail : Ledger → List ℕ
ledger_tail L = last_of (tail_length (length L.pattern) (length L.text)) L.text

-- The search of a ledger: its pattern, k and method, the text's length as the total, and the text's last bytes. In a series every stored byte
-- past the lengths is 0: open, load and an accepted feed write it so, and every other call leaves it as it is.
abbrev pub ledger_parts : Ledger → Parts
ledger_parts L = parts_with L.pattern L.k L.method (length L.text) (ledger_tail L)

abbrev pub ledger_search : Ledger → Search
ledger_search L = stored (ledger_parts L)

-- Of an accepted feed, by the ledger before it:
pub record Reports (L : Ledger) (chunk before after : List ℕ) (r : FeedResult) : Type 0 where
  -- the list's first places hold the ledger's report, in its order, and every other place is as it was;
  pub list : after ≡ placed before 0 (ledger_report L chunk)
  -- so many positions were found;
  pub found : answer_found r.answer ≡ length (ledger_report L chunk)
  -- and the inspections are those that the ledger's method makes on the tail followed by the chunk.
  pub inspections : answer_inspections r.answer ≡ (steps L.pattern L.k L.method (ledger_tail L ++ chunk)).inspections

-- Of any feed, by the history before it
abbrev pub FeedReports : History → List ℕ → List ℕ → List ℕ → FeedResult → Type 0
FeedReports h chunk before after r =
    (L : Ledger) → h.current ≡ holds L → answer_number r.answer ≡ 0 → Reports L chunk before after r

-- Of feed, set method and save, by the history before them: they give 1 while it is blank ("Refused open or load")
abbrev pub OneWhileBlank : History → ℕ → Type 0
OneWhileBlank h number = h.current ≡ blank → number ≡ 1

-- Of a load, by the history before it: the image of a save is taken
abbrev pub TakesKept : History → List ℕ → ℕ → ℕ → Type 0
TakesKept h bytes which number = KeptAs bytes h.kept which → number ≡ 0

-- Of a ledger, and the search that the last call left:
pub record Agrees (L : Ledger) (s : Search) : Type 0 where
  -- the search is the ledger's, in every stored byte,
  pub search : s ≡ ledger_search L
  -- and no call refuses it: of feed, set method and save only what else they are handed can be refused;
  pub in_order : handed_number s ≡ 0
  -- all reports, joined, are what the text's matching windows give,
  pub reported : L.reported ≡ positions L.pattern L.k L.text
  -- and what any accepted whole search of the text for this pattern and k puts in its list, by whichever method.
  pub whole-list : (method : ℕ) (before after : List ℕ) (r : Answer) → Whole L.pattern L.k method L.text before after r
      → answer_number r ≡ 0 → after ≡ placed before 0 L.reported
  pub whole-found : (method : ℕ) (before after : List ℕ) (r : Answer) → Whole L.pattern L.k method L.text before after r
      → answer_number r ≡ 0 → answer_found r ≡ length L.reported

-- After every call, by what the history then holds: a blank ledger and the blank search go together
abbrev pub AfterCall : Current → Search → Type 0
AfterCall blank s = s ≡ blank_search
AfterCall (holds L) s = Agrees L s

-- One claim about a series as a whole: `Right run` says it of the last call, and by `Right` of the series before it of every other. `past` is
-- what the history was told before the last call, `now` what it was told with it, and s the search that it left.
unfoldable pub Right : {P : List ℕ} {k method : ℕ} {s : Search} {now : List Event} → Run P k method s now → Type 0
Right {P} {k} {method} {s} {now} (fresh contract ok) = AfterCall (history P k method now).current s
Right {P} {k} {method} {s} {now} (opens run contract) = Right run × AfterCall (history P k method now).current s
Right {P} {k} {method} {s} {now} (feeds {events = past} run {chunk} {before} {after} {r} contract) =
    Right run
    × FeedReports (history P k method past) chunk before after r
    × OneWhileBlank (history P k method past) (answer_number r.answer)
    × AfterCall (history P k method now).current s
Right {P} {k} {method} {s} {now} (sets {events = past} run {r = r} contract) =
    Right run × OneWhileBlank (history P k method past) (answer_number r.admission) × AfterCall (history P k method now).current s
Right {P} {k} {method} {s} {now} (saves {events = past} run {r = r} contract) =
    Right run × OneWhileBlank (history P k method past) (answer_number r.saving) × AfterCall (history P k method now).current s
Right {P} {k} {method} {s} {now} (loads {events = past} run {bytes} {which} {r} contract got) =
    Right run × TakesKept (history P k method past) bytes which (answer_number r.admission) × AfterCall (history P k method now).current s
Right {P} {k} {method} {s} {now} (wholes run contract) = Right run × AfterCall (history P k method now).current s
