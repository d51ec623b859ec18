-- A ledger and the search that represents it, call by call.
use mathlib.Core.Path.{◌≡◌, sym, ap, ap₂, ◌∙◌, subst}
use mathlib.Core.List.{List, [], ◌++◌}
use Prim.Native.Nat.{ℕ, ◌+◌, ◌-◌, ◌≤◌, ◌<◌, ◌^◌}
use native.Mathlib.Omega.{arith}
use lib.ListN.{length, length-append, length-drop}
use lib.Seq.{drop-nil}
use Rattle.jumbled.specs.Match.{matches, window, starts, select, positions}
use Rattle.jumbled.specs.Steps.{steps}
use Rattle.jumbled.specs.Refusals.{given, tail_length, pattern_tests}
use Rattle.jumbled.proofs.Admission.{admitted, search-right}
use Rattle.lent.specs.Placed.{placed, shifted}
use Rattle.lent.proofs.Placing.{length-shifted}
use Rattle.image_form.specs.Image.{parts_with, image}
use Rattle.image_form.specs.Decode.{parts_of}
use Rattle.answers.specs.Numbers.{answer_number}
use Rattle.search.specs.declared.Search.{Search}
use Rattle.search.specs.declared.SearchResult.{SearchResult}
use Rattle.search.specs.declared.FeedResult.{FeedResult}
use Rattle.search.specs.declared.SaveResult.{SaveResult}
use Rattle.search_state.specs.Stored.{last_of}
use Rattle.search.specs.Searches.{pattern_of, stored, blank_search}
use Rattle.search.specs.Calls.{handed_number, parts_tests, Opened, open_number, Feeds, feed_number, searched_text, fed_parts, SetsMethod, set_method_number, Saves, save_number, image_of, Loads, load_number}
use Rattle.search_series.specs.History.{Ledger, start_with, with_chunk, ledger_with_method, ledger_report}
use Rattle.search_series.specs.Series.{written_image, ledger_tail, ledger_parts, ledger_search, Reports, Agrees}
use Rattle.search_whole.proofs.Contract.{whole-accepted}
use Rattle.search_series.proofs.Contracts.{FeedAccepted, feed-accepted, set-accepted, save-written, open-accepted, load-accepted}
use Rattle.search_series.proofs.Reports.{positions-append, report-by-tail, tail-after}
use Rattle.search_series.proofs.Tests.{pattern-stored, tail-stored, parts-stored, handed-stored, feed-total, set-admitted, feed-blank, set-blank, save-blank, load-parts, load-taken}

-- ---- what the search holds

pub record SoundLedger (L : Ledger) : Type 0 where
  pub taken : given (pattern_tests L.pattern L.k L.method) ≡ 0
  pub reported : L.reported ≡ positions L.pattern L.k L.text
  pub fits : length L.text < 2 ^ 32

-- the search represents the ledger
pub record Represents (L : Ledger) (s : Search) : Type 0 where
  pub sound : SoundLedger L
  pub held : s ≡ ledger_search L

-- ---- what agrees with the ledger

-- the tail is as long as it should be
tail-length : (L : Ledger) → length (ledger_tail L) ≡ tail_length (length L.pattern) (length L.text)
tail-length L =
    length-drop (length L.text - tail_length (length L.pattern) (length L.text)) L.text ∙ back (length L.text) _ (omega arith)
  where
    back : (n t : ℕ) → t ≤ n → n - (n - t) ≡ t
    back n t h = omega arith

ledger-in-order : (L : Ledger) → SoundLedger L → handed_number (ledger_search L) ≡ 0
unfolding parts_tests
ledger-in-order L sound =
    handed-stored (ledger_parts L)
    ∙ search-right L.pattern L.k L.method (length L.text) (length (ledger_tail L)) sound.taken (tail-length L)

pub agrees : {L : Ledger} {s : Search} → Represents L s → Agrees L s
agrees {L} now =
    record {
      search = now.held;
      in_order = ap handed_number now.held ∙ ledger-in-order L now.sound;
      reported = now.sound.reported;
      whole-list = λ method before after r contract ok. (whole-accepted contract ok).list ∙ ap (placed before 0) (sym now.sound.reported);
      whole-found = λ method before after r contract ok. (whole-accepted contract ok).found ∙ ap length (sym now.sound.reported);
    }

-- ---- open

-- an empty text has no positions
positions-nil : (P : List ℕ) (k : ℕ) → 0 < length P → positions P k [] ≡ []
unfolding positions select
positions-nil P k some =
    let no_start : starts (length P) [] ≡ 0 = omega arith in
    ap (select (λ s. matches P k (window (length P) [] s)) 0) no_start

module _ {P : List ℕ} {k method : ℕ} {r : SearchResult} (contract : Opened P k method r) where
  opened-admitted : open_number P k method ≡ 0 → given (pattern_tests P k method) ≡ 0
  unfolding open_number
  opened-admitted ok = ok

  pub open-represents : answer_number r.admission ≡ 0 → Represents (start_with P k method) r.search
  open-represents e =
      let ok : open_number P k method ≡ 0 = sym contract.number ∙ e in
      record {
        sound = fresh (opened-admitted ok);
        held =
            open-accepted contract e
            ∙ ap (λ (tail : List ℕ). stored (parts_with P k method 0 tail)) (sym (drop-nil (0 - tail_length (length P) 0)));
      }
    where
      fresh : given (pattern_tests P k method) ≡ 0 → SoundLedger (start_with P k method)
      fresh ok = record { taken = ok; reported = sym (positions-nil P k (admitted P k method ok).some); fits = omega arith }

-- ---- feed

module _ (L : Ledger) (chunk : List ℕ) where
  fed-parts : fed_parts (ledger_search L) chunk ≡ ledger_parts (with_chunk chunk L)
  fed-parts =
      ap₂
      (λ (P tail : List ℕ). parts_with P L.k L.method (length L.text + length chunk)
      (last_of (tail_length (length P) (length L.text + length chunk)) (tail ++ chunk))) (pattern-stored (ledger_parts L)) (tail-stored (ledger_parts L))
      ∙ ap₂ (λ (n : ℕ) (tail : List ℕ). parts_with L.pattern L.k L.method n tail) (sym (length-append L.text chunk))
      (tail-after L.pattern L.k L.text chunk)

  fed-sound : SoundLedger L → length L.text + length chunk < 2 ^ 32 → SoundLedger (with_chunk chunk L)
  fed-sound sound fits =
      record {
        taken = sound.taken;
        reported =
            ap (λ (l : List ℕ). l ++ ledger_report L chunk) sound.reported ∙ sym (positions-append L.pattern L.k L.text chunk);
        fits = omega (arith, length-append L.text chunk);
      }

  module _ {before after : List ℕ} {r : FeedResult} (right : SoundLedger L) (contract : Feeds (ledger_search L) chunk before after r) (e : answer_number r.answer ≡ 0) where
    ok : feed_number (ledger_search L) chunk before ≡ 0
    ok = sym contract.number ∙ e

    accepted : FeedAccepted (ledger_search L) chunk before after r
    accepted = feed-accepted contract e

    fed-represents : Represents (with_chunk chunk L) r.search
    fed-represents =
        record {
          sound = fed-sound right (feed-total (ledger_search L) chunk before ok);
          held = accepted.search ∙ ap stored fed-parts;
        }

    -- its positions, before they are shifted
    reached-positions :
        positions (pattern_of (ledger_search L)) L.k (searched_text (ledger_search L) chunk)
        ≡ positions L.pattern L.k (ledger_tail L ++ chunk)
    reached-positions =
        ap₂ (λ (P tail : List ℕ). positions P L.k (tail ++ chunk)) (pattern-stored (ledger_parts L)) (tail-stored (ledger_parts L))

    by-tail : shifted (length L.text - length (ledger_tail L)) (positions L.pattern L.k (ledger_tail L ++ chunk)) ≡ ledger_report L chunk
    by-tail =
        ap (λ (t : ℕ). shifted (length L.text - t) (positions L.pattern L.k (ledger_tail L ++ chunk))) (tail-length L)
        ∙ report-by-tail L.pattern L.k L.text chunk (admitted L.pattern L.k L.method right.taken).some

    fed-reports : Reports L chunk before after r
    fed-reports =
        record {
          list =
              accepted.list
              ∙ ap (placed before 0) (ap (shifted (length L.text - length (ledger_tail L))) reached-positions ∙ by-tail);
          found =
              accepted.found
              ∙ ap length reached-positions
              ∙ sym (length-shifted (length L.text - length (ledger_tail L)) (positions L.pattern L.k (ledger_tail L ++ chunk)))
              ∙ ap length by-tail;
          inspections =
              accepted.inspections
              ∙ ap₂ (λ (P tail : List ℕ). (steps P L.k L.method (tail ++ chunk)).inspections) (pattern-stored (ledger_parts L)) (tail-stored (ledger_parts L));
        }

module _ {s : Search} {chunk before after : List ℕ} {r : FeedResult} (contract : Feeds s chunk before after r) where
  module _ {L : Ledger} (now : Represents L s) (e : answer_number r.answer ≡ 0) where
    contract-held : Feeds (ledger_search L) chunk before after r
    contract-held = subst (λ (held : Search). Feeds held chunk before after r) now.held contract

    pub feed-represents : Represents (with_chunk chunk L) r.search
    feed-represents = fed-represents L chunk now.sound contract-held e

    pub feed-reports : Reports L chunk before after r
    feed-reports = fed-reports L chunk now.sound contract-held e

  pub feed-while-blank : s ≡ blank_search → answer_number r.answer ≡ 1
  feed-while-blank e = contract.number ∙ ap (λ (held : Search). feed_number held chunk before) e ∙ feed-blank chunk before

-- ---- set method

module _ {s : Search} {new_method : ℕ} {r : SearchResult} (contract : SetsMethod s new_method r) where
  pub set-represents : {L : Ledger} → Represents L s → answer_number r.admission ≡ 0 → Represents (ledger_with_method new_method L) r.search
  set-represents {L} now e =
      let contract-held = subst (λ (held : Search). SetsMethod held new_method r) now.held contract in
      let ok : set_method_number (ledger_search L) new_method ≡ 0 = sym contract-held.number ∙ e in
      record {
        sound =
            record {
              taken =
                  ap (λ (P : List ℕ). given (pattern_tests P L.k new_method)) (sym (pattern-stored (ledger_parts L)))
                  ∙ set-admitted (ledger_search L) new_method ok;
              reported = now.sound.reported;
              fits = now.sound.fits;
            };
        held = set-accepted contract-held e;
      }

  pub set-while-blank : s ≡ blank_search → answer_number r.admission ≡ 1
  set-while-blank e = contract.number ∙ ap (λ (held : Search). set_method_number held new_method) e ∙ set-blank new_method

-- ---- save

module _ {s : Search} {before after : List ℕ} {r : SaveResult} (contract : Saves s before after r) where
  -- what was written is the image of the ledger
  pub save-image : {L : Ledger} → Represents L s → answer_number r.saving ≡ 0 → written_image after r ≡ image (ledger_parts L)
  save-image {L} now e = save-written contract e ∙ ap image_of now.held ∙ ap (image) (parts-stored (ledger_parts L))

  pub save-while-blank : s ≡ blank_search → answer_number r.saving ≡ 1
  save-while-blank e = contract.number ∙ ap (λ (held : Search). save_number held before) e ∙ save-blank before

-- ---- load

module _ {bytes : List ℕ} {r : SearchResult} (contract : Loads bytes r) where
  -- the image of a ledger
  module _ (L : Ledger) (sound : SoundLedger L) (e : image (ledger_parts L) ≡ bytes) where
    load_ok : load_number bytes ≡ 0
    load_ok = ap load_number (sym e) ∙ load-taken (ledger_parts L) sound.taken (tail-length L) sound.fits

    pub load-takes : answer_number r.admission ≡ 0
    load-takes = contract.number ∙ load_ok

    pub load-represents : Represents L r.search
    load-represents =
        record {
          sound = sound;
          held =
              load-accepted contract load-takes
              ∙ ap (λ (b : List ℕ). stored (parts_of b)) (sym e)
              ∙ ap stored (load-parts (ledger_parts L) sound.taken (tail-length L) sound.fits);
        }
