-- The history of a series of calls: document 01, "The ledger". Of the fresh search it knows pattern, k and method, and of each call its
-- arguments, whether it was refused, and what image an accepted save wrote; it sees no answer. Document 01 calls a text a record, a chunk a
-- piece, and the history without its copies the ledger.
use Rattle.std.specs.Prelude.{◌&&◌, List, [], ◌∷◌, ◌++◌, ℕ, zero, suc, ◌+◌, ltb, length}
use Rattle.jumbled.specs.Match.{matches, window, starts, select}

-- What it keeps of one search; `reported` are all reports so far, joined
pub record Ledger : Type 0 where
  pub pattern : List ℕ
  pub k : ℕ
  pub method : ℕ
  pub text : List ℕ
  pub reported : List ℕ

-- A ledger, or none: blank, from a refused open or load on
pub data Current : Type 0 where
  blank : Current
  holds : Ledger → Current

-- What an accepted save leaves: the ledger as it then was, and the image that the save wrote
pub record Copy : Type 0 where
  pub image : List ℕ
  pub ledger : Ledger

-- The kept copies stand with the latest first.
pub record History : Type 0 where
  pub current : Current
  pub kept : List Copy

-- ---- what it is told

pub data Verdict : Type 0 where
  accepted : Verdict
  refused : Verdict

-- The number 0 says that nothing is refused
abbrev pub verdict : ℕ → Verdict
verdict zero = accepted
verdict (suc n) = refused

-- A call with its arguments. Of an accepted save it is told the image that it wrote. Of an accepted load it is told which of the kept copies
-- is meant, by how many copies were kept after that one: where several saves wrote equal images, any of them may be, and what is claimed is
-- claimed for each.
pub data Event : Type 0 where
  opened : (P : List ℕ) (k method : ℕ) → Verdict → Event
  fed : (chunk : List ℕ) → Verdict → Event
  method_set : (method : ℕ) → Verdict → Event
  saved : (image : List ℕ) → Verdict → Event
  loaded : (bytes : List ℕ) (which : ℕ) → Verdict → Event
  searched : (P : List ℕ) (k method : ℕ) (text : List ℕ) → Verdict → Event

-- ---- what it then holds

-- "Start": nothing searched yet, nothing reported
abbrev pub start_with : List ℕ → ℕ → ℕ → Ledger
start_with P k method = record { pattern = P; k = k; method = method; text = []; reported = [] }

-- The report of a feed ("Accepted feed"): of the matching windows of the longer text those that end in the chunk, by their starts, in rising order
unfoldable pub report_of : List ℕ → ℕ → List ℕ → List ℕ → List ℕ
report_of P k text chunk =
    select (λ s. matches P k (window (length P) (text ++ chunk) s) && ltb (length text) (s + length P)) 0 (starts (length P) (text ++ chunk))

abbrev pub ledger_report : Ledger → List ℕ → List ℕ
ledger_report L chunk = report_of L.pattern L.k L.text chunk

-- Once a chunk was fed: text and reports have both grown at their ends
abbrev pub with_chunk : List ℕ → Ledger → Ledger
with_chunk chunk L =
    record {
      pattern = L.pattern;
      k = L.k;
      method = L.method;
      text = L.text ++ chunk;
      reported = L.reported ++ ledger_report L chunk;
    }

-- Once the method was set: only the method is another
abbrev pub ledger_with_method : ℕ → Ledger → Ledger
ledger_with_method method L = record { pattern = L.pattern; k = L.k; method = method; text = L.text; reported = L.reported }

-- A change of the ledger, where it is not blank
abbrev pub changed : (Ledger → Ledger) → Current → Current
changed change blank = blank
changed change (holds L) = holds (change L)

-- One copy more, of the current ledger
abbrev pub keep : List ℕ → Current → List Copy → List Copy
keep image blank kept = kept
keep image (holds L) kept = record { image = image; ledger = L } ∷ kept

-- The copy that a load means; there is none past the kept ones
abbrev pub brought_back : List Copy → ℕ → Current
brought_back [] which = blank
brought_back (copy ∷ kept) zero = holds copy.ledger
brought_back (copy ∷ kept) (suc which) = brought_back kept which

-- One call more
unfoldable pub after_event : History → Event → History
-- a new search: only the kept copies stay
after_event h (opened P k method accepted) = record { current = holds (start_with P k method); kept = h.kept }
after_event h (fed chunk accepted) = record { current = changed (with_chunk chunk) h.current; kept = h.kept }
after_event h (method_set method accepted) = record { current = changed (ledger_with_method method) h.current; kept = h.kept }
after_event h (saved image accepted) = record { current = h.current; kept = keep image h.current h.kept }
-- the search goes on where the copy was kept
after_event h (loaded bytes which accepted) = record { current = brought_back h.kept which; kept = h.kept }
-- open and load that are refused hand back the blank search
after_event h (opened P k method refused) = record { current = blank; kept = h.kept }
after_event h (loaded bytes which refused) = record { current = blank; kept = h.kept }
-- every other refused call leaves all as it was
after_event h (fed chunk refused) = h
after_event h (method_set method refused) = h
after_event h (saved image refused) = h
-- a whole search has no part in it, accepted or refused
after_event h (searched P k method text verdict) = h

-- The history after some calls, the latest first, on the fresh search for P, k and method
unfoldable pub history : List ℕ → ℕ → ℕ → List Event → History
history P k method [] = record { current = holds (start_with P k method); kept = [] }
history P k method (event ∷ events) = after_event (history P k method events) event
