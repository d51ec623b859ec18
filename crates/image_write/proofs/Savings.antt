-- The answers of the saving of a search's parts.
use mathlib.Core.Path.{◌≡◌, sym, ◌∙◌}
use mathlib.Core.List.{List}
use Prim.Native.Nat.{ℕ, ◌≤◌, ◌<◌}
use native.Mathlib.Nat.{zero-add}
use lib.ListN.{length}
use Rattle.std.proofs.Common.{Ok, Err}
use Rattle.jumbled.proofs.Admission.{buffer-short, buffer-fits}
use Rattle.lent.specs.Placed.{placed}
use Rattle.image_form.specs.Image.{Parts, image}
use Rattle.lent.specs.Written.{Written}
use Rattle.answers.specs.Numbers.{number_of}
use Rattle.answers.specs.declared.Refusal.TheVariants.{BufferTooShort}
use Rattle.answers.proofs.Refused.{on-refusal, on-accepted}
use Rattle.image_write.specs.Saved.{buffer_number, Saved}

module _ (parts : Parts) (buffer : List ℕ) where
  abbrev written : List ℕ
  written = image parts

  -- a refusal leaves the buffer as it was
  pub saved-short : length buffer < length written → Saved parts buffer buffer (Err BufferTooShort)
  saved-short h =
      let number : number_of BufferTooShort ≡ buffer_number parts buffer = sym (buffer-short (length buffer) (length written) h) in
      record {
        number = number;
        len = on-refusal BufferTooShort (buffer_number parts buffer) (length written) 0 number;
        buffer = on-refusal BufferTooShort (buffer_number parts buffer) (placed buffer 0 written) buffer number;
      }

  pub saved-written : length written ≤ length buffer → (after : List ℕ) (len : ℕ) → Written buffer 0 written after len → Saved parts buffer after (Ok len)
  saved-written h after len w =
      let none : buffer_number parts buffer ≡ 0 = buffer-fits (length buffer) (length written) h in
      record {
        number = sym none;
        len = w.place ∙ zero-add _ ∙ on-accepted (buffer_number parts buffer) (length written) 0 none;
        buffer = w.filled ∙ on-accepted (buffer_number parts buffer) (placed buffer 0 written) buffer none;
      }
