-- The kept copies: each has the image of its ledger, whichever search was saved.
use mathlib.Core.Path.{◌≡◌, refl, sym, ◌∙◌}
use mathlib.Core.List.{List, [], ◌∷◌}
use Prim.Native.Nat.{ℕ}
use Rattle.image_form.specs.Image.{image}
use Rattle.answers.specs.Numbers.{answer_number}
use Rattle.search.specs.declared.Search.{Search}
use Rattle.search.specs.declared.SaveResult.{SaveResult}
use Rattle.search.specs.Calls.{Saves}
use Rattle.search_series.specs.History.{Ledger, holds, Copy, brought_back}
use Rattle.search_series.specs.Series.{KeptAs, latest, older, written_image, ledger_parts}
use Rattle.search_series.proofs.Ledgers.{SoundLedger, Represents, save-image}

pub data CopiesInvariant : List Copy → Type 0 where
  none : CopiesInvariant []
  more : {copy : Copy} {kept : List Copy} → SoundLedger copy.ledger → copy.image ≡ image (ledger_parts copy.ledger) → CopiesInvariant kept
      → CopiesInvariant (copy ∷ kept)

-- an accepted save adds one, of the ledger that the search represents
pub copy-kept : {L : Ledger} {s : Search} {before after : List ℕ} {r : SaveResult} {kept : List Copy} → Represents L s → Saves s before after r
    → answer_number r.saving ≡ 0 → CopiesInvariant kept → CopiesInvariant (record { image = written_image after r; ledger = L } ∷ kept)
copy-kept now contract e copies = more now.sound (save-image contract now e) copies

-- the ledger of the copy that a load means
pub record Meant (bytes : List ℕ) (kept : List Copy) (which : ℕ) : Type 0 where
  pub ledger : Ledger
  pub back : brought_back kept which ≡ holds ledger
  pub sound : SoundLedger ledger
  pub written_as : image (ledger_parts ledger) ≡ bytes

pub copy-meant : {bytes : List ℕ} {kept : List Copy} {which : ℕ} → CopiesInvariant kept → KeptAs bytes kept which → Meant bytes kept which
copy-meant {bytes = bytes} {which = which} none x3 = elim x3 [ ]
copy-meant (more {copy = copy} sound e copies) (latest q) =
    record { ledger = copy.ledger; back = refl; sound = sound; written_as = sym e ∙ q }
copy-meant (more sound e copies) (older found) =
    let meant = copy-meant copies found in
    record { ledger = meant.ledger; back = meant.back; sound = meant.sound; written_as = meant.written_as }
