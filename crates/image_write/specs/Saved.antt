-- What the saving of a search's parts yields: document 01, "A search and its calls" and "When a call says no".
use Rattle.std.specs.Prelude.{◌≡◌, List, ℕ, length}
use Rattle.jumbled.specs.Refusals.{given, buffer_tests}
use Rattle.lent.specs.Placed.{placed}
use Rattle.image_form.specs.Image.{Parts, image}
use Rattle.answers.specs.Numbers.{answer_number, unless_refused}
use Rattle.answers.specs.Answers.{Saving, saving_length}

-- 10, of the parts' image
abbrev pub buffer_number : Parts → List ℕ → ℕ
buffer_number parts buffer = given (buffer_tests (length buffer) (length (image parts)))

pub record Saved (parts : Parts) (before after : List ℕ) (r : Saving) : Type 0 where
  pub number : answer_number r ≡ buffer_number parts before
  pub len : saving_length r ≡ unless_refused (buffer_number parts before) (length (image parts)) 0
  pub buffer : after ≡ unless_refused (buffer_number parts before) (placed before 0 (image parts)) before
