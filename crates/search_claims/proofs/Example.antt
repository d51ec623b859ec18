-- Series that exist, made of the calls' records: for `ab`, k 0, from a fresh search of method 2. The first is the pencil table of
-- docs/EXAMINERS.md, row by row; the second has two saves that wrote equal images of different texts.
use mathlib.Core.Path.{◌≡◌, refl}
use mathlib.Core.List.{List, [], ◌∷◌, map}
use mathlib.Core.Logic.{inl, inr}
use Prim.Native.Nat.{ℕ}
use native.Mathlib.Omega.{arith}
use lib.ListN.{drop, replicate}
use Rattle.jumbled.specs.Match.{cc, occurs, sum, evidence, beyond, excess, matches, select, positions}
use Rattle.jumbled.specs.Scan.{scan, singles, backward}
use Rattle.jumbled.specs.Fields.{first, letter_width, field_of, layout_of, width_of, bits, start_value, value_of, top_set, some, overflows}
use Rattle.jumbled.specs.Steps.{bam_scan, way_of, steps}
use Rattle.jumbled.specs.Refusals.{given, is_method, exact_only, length_tests, lost_tests, tolerance_tests, known_tests, exact_tests, width_tests, text_tests, place_tests, total_tests, tail_tests, form_tests, buffer_tests, method_tests, pattern_tests, size_tests, search_tests, chunk_tests, feed_tests, set_method_tests, save_tests, load_tests}
use Rattle.lent.specs.Placed.{placed, shifted}
use Rattle.image_form.specs.Image.{parts_with, low_first, contents, image}
use Rattle.image_form.specs.Decode.{from_low_first, kind_at, length_of, end_of, body_of, kinds_right, bad_form}
use Rattle.answers.specs.declared.Refusal.TheVariants.{PatternLength, UnknownMethod, Malformed}
use Rattle.std.proofs.Common.{Ok, Err}
use Rattle.search.specs.declared.Search.{Search}
use Rattle.search.specs.Searches.{stored, blank_search}
use Rattle.search.specs.Calls.{handed_tests, handed_number, Opened, open_number, Feeds, feed_number, SetsMethod, set_method_number, Saves, save_number, parts_tests, Loads, load_number}
use Rattle.search_series.specs.History.{Current, blank, holds, accepted, refused, Event, opened, fed, method_set, saved, loaded, report_of, after_event, history}
use Rattle.search_series.specs.Series.{KeptAs, latest, older, Run, fresh, opens, feeds, sets, saves, loads}

abbrev a : List ℕ
a = 97 ∷ []

abbrev b : List ℕ
b = 98 ∷ []

abbrev ab : List ℕ
ab = 97 ∷ 98 ∷ []

abbrev bb : List ℕ
bb = 98 ∷ 98 ∷ []

-- ---- the calls

-- The search after n bytes with this tail,
abbrev search_at : ℕ → List ℕ → Search
search_at n tail = stored (parts_with ab 0 2 n tail)

-- and its image where the tail is one byte: 22 bytes
abbrev image_at : ℕ → ℕ → List ℕ
image_at n t =
    4 ∷ 1 ∷ 2 ∷ 0 ∷ 2 ∷ 2 ∷ 0 ∷ 3 ∷ 4 ∷ 0 ∷ 4 ∷ 1 ∷ 0 ∷ 97 ∷ 98 ∷ 0 ∷ 2 ∷ n ∷ 0 ∷ 0 ∷ 0 ∷ t ∷ []

abbrev OpensWith : Search → Type 0
OpensWith s = Opened ab 0 2 (record { admission = Ok tt; search = s })

-- A list of two places that hold 7 is lent.
abbrev FeedsTo : Search → (chunk after : List ℕ) (found inspections : ℕ) → Search → Type 0
FeedsTo s chunk after found inspections next =
    Feeds s chunk (7 ∷ 7 ∷ []) after (record { answer = Ok (record { found = found; inspections = inspections }); search = next })

abbrev SavesAs : Search → List ℕ → Type 0
SavesAs s bytes = Saves s (replicate 22 0) bytes (record { saving = Ok 22; search = s })

abbrev LoadsAs : List ℕ → Search → Type 0
LoadsAs bytes s = Loads bytes (record { admission = Ok tt; search = s })

record Calls : Type 0 where
  fresh-search : OpensWith (search_at 0 [])
  feed-a : FeedsTo (search_at 0 []) a (7 ∷ 7 ∷ []) 0 0 (search_at 1 a)
  save-a : SavesAs (search_at 1 a) (image_at 1 97)
  feed-ab : FeedsTo (search_at 1 a) ab (1 ∷ 7 ∷ []) 1 4 (search_at 3 b)
  set-9 : SetsMethod (search_at 3 b) 9 (record { admission = Err UnknownMethod; search = search_at 3 b })
  load-a : LoadsAs (image_at 1 97) (search_at 1 a)
  feed-b : FeedsTo (search_at 1 a) b (0 ∷ 7 ∷ []) 1 2 (search_at 2 b)
  load-04 : Loads (4 ∷ []) (record { admission = Err Malformed; search = blank_search })
  feed-blank : Feeds blank_search a (7 ∷ 7 ∷ []) (7 ∷ 7 ∷ []) (record { answer = Err PatternLength; search = blank_search })
  feed-ab-first : FeedsTo (search_at 0 []) ab (0 ∷ 7 ∷ []) 1 2 (search_at 2 b)
  feed-bb : FeedsTo (search_at 0 []) bb (7 ∷ 7 ∷ []) 0 2 (search_at 2 b)
  save-b : SavesAs (search_at 2 b) (image_at 2 98)
  load-b : LoadsAs (image_at 2 98) (search_at 2 b)

calls : Calls
unfolding occurs given is_method exact_only length_tests lost_tests tolerance_tests known_tests exact_tests width_tests text_tests place_tests total_tests tail_tests form_tests buffer_tests method_tests pattern_tests size_tests search_tests chunk_tests feed_tests set_method_tests save_tests load_tests cc sum evidence beyond excess matches select positions scan singles backward first letter_width field_of layout_of width_of bits start_value value_of top_set some overflows bam_scan steps way_of placed shifted low_first contents image from_low_first kind_at length_of end_of body_of kinds_right bad_form handed_tests handed_number open_number feed_number set_method_number save_number parts_tests load_number
calls =
    record {
      fresh-search = record { number = refl; search = refl };
      feed-a = record { number = refl; found = refl; inspections = refl; list = refl; by-steps = λ e. refl; search = refl };
      save-a = record { number = refl; len = refl; buffer = refl; search = refl };
      feed-ab = record { number = refl; found = refl; inspections = refl; list = refl; by-steps = λ e. refl; search = refl };
      set-9 = record { number = refl; search = refl };
      load-a = record { number = refl; search = refl };
      feed-b = record { number = refl; found = refl; inspections = refl; list = refl; by-steps = λ e. refl; search = refl };
      load-04 = record { number = refl; search = refl };
      feed-blank = record { number = refl; found = refl; inspections = refl; list = refl; by-steps = λ e. absurd (omega arith); search = refl };
      feed-ab-first = record { number = refl; found = refl; inspections = refl; list = refl; by-steps = λ e. refl; search = refl };
      feed-bb = record { number = refl; found = refl; inspections = refl; list = refl; by-steps = λ e. refl; search = refl };
      save-b = record { number = refl; len = refl; buffer = refl; search = refl };
      load-b = record { number = refl; search = refl };
    }

-- ---- the pencil table

-- what the history is told, the latest call first
abbrev table_events : List Event
table_events =
    loaded (image_at 1 97) 0 accepted
    ∷ fed a refused
    ∷ loaded (4 ∷ []) 0 refused
    ∷ fed b accepted
    ∷ loaded (image_at 1 97) 0 accepted
    ∷ method_set 9 refused
    ∷ fed ab accepted
    ∷ saved (image_at 1 97) accepted
    ∷ fed a accepted
    ∷ []

pub table-run : Run ab 0 2 (search_at 1 a) table_events
unfolding history after_event
table-run =
    let saved-once = saves (feeds (fresh calls.fresh-search refl) calls.feed-a) calls.save-a in
    let changed = sets (feeds saved-once calls.feed-ab) calls.set-9 in
    let gone-on = feeds (loads changed calls.load-a (inl (latest refl))) calls.feed-b in
    let lost = feeds (loads gone-on {which = 0} calls.load-04 (inr (λ e. omega arith))) calls.feed-blank in
    loads lost calls.load-a (inl (latest refl))

abbrev ledger_of : (text reported : List ℕ) → Current
ledger_of text reported = holds (record { pattern = ab; k = 0; method = 2; text = text; reported = reported })

-- the ledger after each call, from the first feed on
pub table-ledgers :
    map (λ i. (history ab 0 2 (drop i table_events)).current) (8 ∷ 7 ∷ 6 ∷ 5 ∷ 4 ∷ 3 ∷ 2 ∷ 1 ∷ 0 ∷ [])
    ≡ ledger_of a []
    ∷ ledger_of a []
    ∷ ledger_of (97 ∷ ab) (1 ∷ [])
    ∷ ledger_of (97 ∷ ab) (1 ∷ [])
    ∷ ledger_of a []
    ∷ ledger_of ab (0 ∷ [])
    ∷ blank
    ∷ blank
    ∷ ledger_of a []
    ∷ []
unfolding history after_event report_of select matches evidence beyond excess sum cc
table-ledgers = refl

-- ---- equal images of different texts: `ab` and `bb` leave the same total and the same tail

abbrev twice_saved : List Event
twice_saved =
    saved (image_at 2 98) accepted
    ∷ fed bb accepted
    ∷ opened ab 0 2 accepted
    ∷ saved (image_at 2 98) accepted
    ∷ fed ab accepted
    ∷ []

twice-saved : Run ab 0 2 (search_at 2 b) twice_saved
twice-saved =
    let once = saves (feeds (fresh calls.fresh-search refl) calls.feed-ab-first) calls.save-b in
    saves (feeds (opens once calls.fresh-search) calls.feed-bb) calls.save-b

-- a load of that image may mean either copy,
either-copy : (which : ℕ) → KeptAs (image_at 2 98) (history ab 0 2 twice_saved).kept which → Run ab 0 2 (search_at 2 b) (loaded (image_at 2 98) which accepted ∷ twice_saved)
either-copy which found = loads twice-saved calls.load-b (inl found)

pub latest-meant : Run ab 0 2 (search_at 2 b) (loaded (image_at 2 98) 0 accepted ∷ twice_saved)
unfolding history after_event
latest-meant = either-copy 0 (latest refl)

pub first-meant : Run ab 0 2 (search_at 2 b) (loaded (image_at 2 98) 1 accepted ∷ twice_saved)
unfolding history after_event
first-meant = either-copy 1 (older (latest refl))

-- with another text and other reports for each, and one search for both
pub copies-differ :
    map (λ which. (history ab 0 2 (loaded (image_at 2 98) which accepted ∷ twice_saved)).current) (0 ∷ 1 ∷ [])
    ≡ ledger_of bb [] ∷ ledger_of ab (0 ∷ []) ∷ []
unfolding history after_event report_of select matches evidence beyond excess sum cc
copies-differ = refl
