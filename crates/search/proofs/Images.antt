-- The answers of save and load.
use mathlib.Core.Path.{◌≡◌, refl, sym, ◌∙◌}
use mathlib.Core.Bool.{true, false}
use mathlib.Core.List.{List}
use Prim.Native.Nat.{ℕ}
use lib.ListN.{length}
use Rattle.jumbled.specs.Refusals.{given, form_tests, buffer_tests, save_tests, load_tests}
use Rattle.jumbled.proofs.Admission.{given-append}
use Rattle.lent.specs.Placed.{placed}
use Rattle.image_form.specs.Decode.{bad_form, parts_of}
use Rattle.answers.specs.Numbers.{number_of, unless_refused}
use Rattle.answers.specs.declared.Refusal.{Refusal}
use Rattle.answers.specs.declared.Refusal.TheVariants.{Malformed}
use Rattle.std.proofs.Common.{Result, Err}
use Rattle.answers.proofs.Refused.{on-refusal, still-refused, tested-later}
use Rattle.search.specs.declared.Search.{Search}
use Rattle.answers.specs.Answers.{Saving}
use Rattle.image_write.specs.Saved.{buffer_number, Saved}
use Rattle.search.specs.Searches.{parts_of_search}
use Rattle.search.specs.Calls.{handed_tests, handed_number, image_of, save_number, Saves, parts_number, load_number, Makes}
use Rattle.search.proofs.Handed.{handed-numbered}

-- ---- save

module _ (s : Search) (buffer : List ℕ) where
  save-number : save_number s buffer ≡ unless_refused (handed_number s) (buffer_number (parts_of_search s) buffer) (handed_number s)
  unfolding save_number save_tests handed_number
  save-number = given-append (handed_tests s) (buffer_tests (length buffer) (length (image_of s))) (handed-numbered s)

  -- a search that is not taken leaves the buffer as it was
  pub saved-refused : (refusal : Refusal) → number_of refusal ≡ handed_number s
      → Saves s buffer buffer (record { saving = Err refusal; search = s })
  saved-refused refusal e =
      let number : number_of refusal ≡ save_number s buffer = still-refused _ _ refusal e ∙ sym save-number in
      record {
        number = number;
        len = on-refusal refusal (save_number s buffer) (length (image_of s)) 0 number;
        buffer = on-refusal refusal (save_number s buffer) (placed buffer 0 (image_of s)) buffer number;
        search = refl;
      }

  -- and of one that is taken the parts are saved
  pub saved-parts : handed_number s ≡ 0 → (after : List ℕ) (saving : Saving) → Saved (parts_of_search s) buffer after saving
      → Saves s buffer after (record { saving = saving; search = s })
  saved-parts right after saving saved =
      let same : buffer_number (parts_of_search s) buffer ≡ save_number s buffer = tested-later _ _ right ∙ sym save-number in
      record { number = saved.number ∙ same; len = rw same at saved.len; buffer = rw same at saved.buffer; search = refl }

-- ---- load

pub loaded-bad : (bytes : List ℕ) {search : Search} → bad_form bytes ≡ true → Makes (load_number bytes) search (Err Malformed)
unfolding load_number load_tests form_tests given
loaded-bad bytes bad = record { given = rw bad refl; made = tt }

pub loaded-good : (bytes : List ℕ) {search : Search} {r : Result Search Refusal} → bad_form bytes ≡ false → Makes (parts_number (parts_of bytes)) search r
    → Makes (load_number bytes) search r
unfolding load_number load_tests form_tests given
loaded-good bytes good made = record { given = rw good made.given; made = made.made }
