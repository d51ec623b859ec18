-- Save then load gives the search back (document 01, demand 2), images are equal exactly when the searches are alike, and load takes one order of
-- the entries (document 02, T-06).
use mathlib.Core.Path.{◌≡◌, refl, sym, ap, ◌∙◌, subst}
use mathlib.Core.Bool.{Bool, true, false}
use mathlib.Core.List.{List}
use Prim.Native.Nat.{ℕ, ◌≤◌, ◌<◌, ◌^◌}
use native.Mathlib.Omega.{arith}
use lib.ListN.{length, length-take}
use Rattle.jumbled.specs.Match.{Bytes}
use Rattle.jumbled.specs.Refusals.{given, form_tests, load_tests, tail_length}
use Rattle.image_form.specs.Image.{image, Sized}
use Rattle.image_form.specs.Decode.{kind_at, bad_form, parts_of}
use Rattle.image_form.proofs.Contents.{kind-refused}
use Rattle.image_form.proofs.Images.{image_injective}
use Rattle.image_form.proofs.Again.{image-again}
use Rattle.answers.specs.Numbers.{answer_number}
use Rattle.search.specs.declared.Search.{Search}
use Rattle.search.specs.declared.SearchResult.{SearchResult}
use Rattle.search.specs.declared.SaveResult.{SaveResult}
use Rattle.search.specs.Searches.{pattern_of, tail_of, parts_of_search, stored, blank_search}
use Rattle.search.specs.Calls.{Saves, save_number, image_of, Loads, load_number}
use Rattle.search.proofs.Handed.{SoundSearch, sound}
use Rattle.search_series.specs.Series.{written_image}
use Rattle.search_series.proofs.Tests.{handed-saved, parts-stored, sized, load-parts, load-taken}
use Rattle.search_series.proofs.Contracts.{save-written, load-accepted}

-- What the types of a search's fields say: the places of its arrays, and 32 bits
pub record FieldSizes (s : Search) : Type 0 where
  pub pattern-places : length s.pattern ≡ 64
  pub tail-places : length s.tail ≡ 63
  pub total-fits : s.total < 2 ^ 32

-- a search that save accepts
module _ (s : Search) (fields : FieldSizes s) (buffer : List ℕ) (accepted : save_number s buffer ≡ 0) where
  right : SoundSearch s
  right = sound s (handed-saved s buffer accepted)

  tail-measured : length (tail_of s) ≡ tail_length (length (pattern_of s)) s.total
  tail-measured =
      omega (
        arith,
        length-take s.tail_len s.tail,
        length-take s.pattern_len s.pattern,
        fields.pattern-places,
        fields.tail-places,
        right.short,
        right.tail-right,
      )

  saved-sized : Sized (parts_of_search s)
  saved-sized = sized (parts_of_search s) right.admits tail-measured fields.total-fits

  module _ {r : SearchResult} (contract : Loads (image_of s) r) where
    taken : load_number (image_of s) ≡ 0
    taken = load-taken (parts_of_search s) right.admits tail-measured fields.total-fits

    -- Load takes its image,
    pub loaded-number : answer_number r.admission ≡ 0
    loaded-number = contract.number ∙ taken

    -- hands it back with every stored byte past the lengths 0,
    pub loaded-search : r.search ≡ stored (parts_of_search s)
    loaded-search = rw taken at contract.search ∙ ap stored (load-parts (parts_of_search s) right.admits tail-measured fields.total-fits)

    -- and so with all of its five parts.
    pub loaded-parts : parts_of_search r.search ≡ parts_of_search s
    loaded-parts = ap parts_of_search loaded-search ∙ parts-stored (parts_of_search s)

-- What a save that was accepted wrote, load takes, and gives a search with the same five parts: any search that a caller can hand in, also
-- one that was filled in by hand.
pub save-load : {s : Search} {before after : List ℕ} {r : SaveResult} {r' : SearchResult} → FieldSizes s → Saves s before after r
    → answer_number r.saving ≡ 0 → Loads (written_image after r) r'
    → (answer_number r'.admission ≡ 0) × (parts_of_search r'.search ≡ parts_of_search s)
save-load {s} {before} {r' = r'} fields contract ok loaded =
    let accepted : save_number s before ≡ 0 = sym contract.number ∙ ok in
    let image-loaded = subst (λ (bytes : List ℕ). Loads bytes r') (save-written contract ok) loaded in
    (loaded-number s fields before accepted image-loaded, loaded-parts s fields before accepted image-loaded)

-- Two searches with the same five parts, whatever else their arrays hold
pub record Alike (s s' : Search) : Type 0 where
  pub pattern : pattern_of s ≡ pattern_of s'
  pub k : s.k ≡ s'.k
  pub method : s.method ≡ s'.method
  pub total : s.total ≡ s'.total
  pub tail : tail_of s ≡ tail_of s'

-- Two accepted saves write equal images exactly when the searches are alike, whatever their arrays hold past the lengths.
pub equal-images : {s s' : Search} {before after before' after' : List ℕ} {r r' : SaveResult} → FieldSizes s → FieldSizes s'
    → Saves s before after r → Saves s' before' after' r' → answer_number r.saving ≡ 0 → answer_number r'.saving ≡ 0
    → (written_image after r ≡ written_image after' r' → Alike s s') × (Alike s s' → written_image after r ≡ written_image after' r')
equal-images {s} {s'} {before} {before' = before'} fields fields' contract contract' ok ok' =
    let sized-s = saved-sized s fields before (sym contract.number ∙ ok) in
    let sized-s' = saved-sized s' fields' before' (sym contract'.number ∙ ok') in
    let parts-alike : Alike s s' → parts_of_search s ≡ parts_of_search s' =
    λ alike. rw (alike.pattern, alike.k, alike.method, alike.total, alike.tail) refl in
    let alike-parts : parts_of_search s ≡ parts_of_search s' → Alike s s' =
    λ e. record {
      pattern = ap (λ p. p.pattern) e;
      k = ap (λ p. p.k) e;
      method = ap (λ p. p.method) e;
      total = ap (λ p. p.total) e;
      tail = ap (λ p. p.tail) e;
    } in (
      λ same. alike-parts (image_injective sized-s sized-s' (sym (save-written contract ok) ∙ same ∙ save-written contract' ok')),
      λ alike. save-written contract ok ∙ ap image (parts-alike alike) ∙ sym (save-written contract' ok'),
    )

load-formed : (bytes : List ℕ) → load_number bytes ≡ 0 → bad_form bytes ≡ false
unfolding load_number load_tests form_tests given
load-formed bytes h = by (bad_form bytes) refl
  where
    by : (bad : Bool) → bad_form bytes ≡ bad → bad_form bytes ≡ false
    by true e = absurd (omega (arith, rw e at h))
    by false e = e

-- Load takes no other bytes than an image: what it took is what a save of the search that it gave writes.
pub load-save : {bytes before after : List ℕ} {r : SearchResult} {r' : SaveResult} → Bytes bytes → Loads bytes r → answer_number r.admission ≡ 0
    → Saves r.search before after r' → answer_number r'.saving ≡ 0 → written_image after r' ≡ bytes
load-save {bytes} good loaded ok contract ok' =
    save-written contract ok'
    ∙ ap image_of (load-accepted loaded ok)
    ∙ ap image (parts-stored (parts_of bytes))
    ∙ image-again bytes good (load-formed bytes (sym loaded.number ∙ ok))

-- Load gives 9 for bytes with an entry of another kind than its place, so for every other order of the four.
pub other-order-refused : {bytes : List ℕ} {r : SearchResult} → Loads bytes r → (i : ℕ) → 1 ≤ i → i ≤ 4 → (kind_at i bytes ≡ i → ⊥)
    → (answer_number r.admission ≡ 9) × (r.search ≡ blank_search)
unfolding load_number load_tests form_tests given
other-order-refused {bytes} {r} contract i least most other =
    let bad = kind-refused bytes i least most other in
    (rw bad at contract.number, rw bad at contract.search)
