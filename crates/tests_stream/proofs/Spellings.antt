-- Texts: made of the letters of a part, and in each of their forms.
use borrow.Author.Tests.{lt-ltb, le-ltb, eq-eqb, ne_eqb}
use mathlib.Core.Path.{◌≡◌, ap, sym, ◌∙◌}
use mathlib.Core.Bool.{false}
use mathlib.Core.List.{List}
use mathlib.Core.Logic.{⊎_elim}
use Prim.Native.Nat.{ℕ, ◌+◌, ◌*◌, ◌-◌, ◌≤◌, ◌<◌}
use native.Mathlib.Nat.{mod-eq_of_lt}
use native.Mathlib.Omega.{arith}
use lib.Dec.{eqb}
use lib.ListN.{length, get_or, take, drop, replicate, length-take, length-drop}
use lib.Seq.{ext_get_or}
use Rattle.jumbled.proofs.Sums.{below_or_not}
use Rattle.table_parikh.specs.Table.{tabulate}
use Rattle.lent.proofs.Placing.{placed-nil}
use Rattle.tests_stream.specs.Fillings.{Filled, letter_at, made_length}
use Rattle.tests_stream.proofs.Filling.{filled-empty, filled-held, made_none, made_all}
use Rattle.tests_stream.specs.declared.Number.{Number}
use Rattle.tests_stream.specs.declared.Part.{Part}
use Rattle.tests_stream.specs.declared.Text.{Text}
use Rattle.tests_stream.specs.Reading.{nowhere, part_at, bytes_in, number_at}
use Rattle.tests_stream.specs.Texts.{Spelling, spelling, letters, text_byte, text_with, text_of, Spelled, plain_spelling, made_spelling, spelling_at, text_at, TextRead}
use Rattle.tests_stream.specs.Cases.{array_at}
use Rattle.tests_stream.proofs.Places.{part-there, part-short}

module _
    (stream : List ℕ) (s : Spelling) {before after : List ℕ} {part : Part} (is : part ≡ part_at stream s.at s.count)
    {made : ℕ} (long : made ≡ made_length (bytes_in stream part) s.len)
    (filled : Filled (letter_at (bytes_in stream part) s.picked s.seed) made before after) where
  -- the length and the bytes, put as the part says where the letters stand
  length-is : made ≡ made_length (letters stream s) s.len
  length-is = long ∙ ap (λ (p : Part). made_length (bytes_in stream p) s.len) is

  bytes-are : Filled (text_byte stream s) made before after
  unfolding text_byte
  bytes-are = rw is at filled

  pub spelled-short : made < s.len → Spelled stream s (text_with made nowhere) before after
  unfolding text_of
  spelled-short h = record { is = rw (← length-is, lt-ltb made s.len h); bytes = bytes-are }

  pub spelled-whole : s.len ≤ made → Spelled stream s (text_with made part.next) before after
  unfolding text_of
  spelled-whole h = record { is = rw (← length-is, le-ltb made s.len h, is); bytes = bytes-are }

-- ---- the forms of a text

pub made-spelled : (stream : List ℕ) (at form longest : ℕ) {text : Text} {before after : List ℕ} {len seed count : Number}
    → len ≡ number_at stream at 4 longest
    → seed ≡ number_at stream len.next ((form - 1) * 4) 4294967295
    → count ≡ number_at stream seed.next 1 255
    → Spelled stream (spelling count.next count.value (eqb form 2) seed.value len.value) text before after
    → Spelled stream (made_spelling stream at form longest) text before after
unfolding made_spelling
made-spelled stream at form longest el es ec spelled = rw (ec, es, el) at spelled

pub plain-spelled : (stream : List ℕ) (at longest : ℕ) {text : Text} {before after : List ℕ} {len : Number}
    → len ≡ number_at stream at 2 longest
    → Spelled stream (spelling len.next len.value false 0 len.value) text before after
    → Spelled stream (plain_spelling stream at longest) text before after
unfolding plain_spelling
plain-spelled stream at longest el spelled = rw el at spelled

module _ (stream : List ℕ) (at longest : ℕ) where
  pub text-none : (buffer : List ℕ) → longest ≡ 0 → TextRead stream at longest (text_with 0 at) buffer buffer
  unfolding text_at
  text-none buffer none = record { is = rw (eq-eqb longest 0 none); bytes = filled-empty _ _ }

  text-some : {text : Text} {before after : List ℕ} → (longest ≡ 0 → ⊥) → Spelled stream (spelling_at stream at longest) text before after
      → TextRead stream at longest text before after
  unfolding text_at
  text-some some spelled = record { is = rw (ne_eqb longest 0 some) spelled.is; bytes = spelled.bytes }

  pub text-made : {text : Text} {before after : List ℕ} {form : Number} → (longest ≡ 0 → ⊥) → form ≡ number_at stream at 1 2 → 0 < form.value
      → Spelled stream (made_spelling stream form.next form.value longest) text before after → TextRead stream at longest text before after
  unfolding spelling_at
  text-made {form = form} some e h spelled = text-some some (rw (← e, lt-ltb 0 form.value h) spelled)

  pub text-plain : {text : Text} {before after : List ℕ} {form : Number} → (longest ≡ 0 → ⊥) → form ≡ number_at stream at 1 2 → form.value ≤ 0
      → Spelled stream (plain_spelling stream form.next longest) text before after → TextRead stream at longest text before after
  unfolding spelling_at
  text-plain {form = form} some e h spelled = text-some some (rw (← e, le-ltb 0 form.value h) spelled)

-- ---- a text that is its letters

letter-plain : (letters : List ℕ) (seed i : ℕ) → i < length letters → letter_at letters false seed i ≡ get_or letters i 0
letter-plain letters seed i h = rw (mod-eq_of_lt h)

-- an array of its length
module _ (stream : List ℕ) (at n : ℕ) {text : Text} {after : List ℕ} (spelled : Spelled stream (spelling at n false 0 n) text (replicate n 0) after) where
  letters-made : text.len ≡ made_length (letters stream (spelling at n false 0 n)) n
  unfolding text_of
  letters-made = ap (λ (t : Text). t.len) spelled.is

  -- the bytes aren't all there: nothing is put
  array-short : length stream < at + n → after ≡ replicate n 0
  unfolding text_byte tabulate
  array-short short =
      let no-letters : length (letters stream (spelling at n false 0 n)) ≡ 0 = ap (λ (p : Part). length (bytes_in stream p)) (sym (part-short stream at n short)) in
      let none : text.len ≡ 0 = letters-made ∙ sym (made_none (letters stream (spelling at n false 0 n)) n no-letters) in
      (rw none at spelled.bytes).written.filled ∙ placed-nil (replicate n 0) 0

  array-there : at + n ≤ length stream → length after ≡ n → after ≡ take n (drop at stream)
  unfolding text_byte
  array-there there long =
      let bytes = take n (drop at stream) in
      let few : at + n - at ≡ n = omega arith in
      let are : letters stream (spelling at n false 0 n) ≡ bytes =
      ap (λ (p : Part). bytes_in stream p) (sym (part-there stream at n there)) ∙ ap (λ (k : ℕ). take k (drop at stream)) few
      in
      let same : length bytes ≡ n = simp (length-take, length-drop) (omega arith) in
      ext_get_or 0 after bytes (omega arith)
      (λ i h.
      let whole : n ≡ made_length (letters stream (spelling at n false 0 n)) n =
      made_all (letters stream (spelling at n false 0 n)) n (λ none. omega (arith, ap length are))
      in
      filled-held spelled.bytes i (omega (arith, letters-made))
      ∙ (ap (λ (l : List ℕ). letter_at l false 0 i) are ∙ letter-plain bytes 0 i (omega arith)))

  pub array-spelled : length after ≡ n → after ≡ array_at stream at n
  unfolding array_at
  array-spelled long =
      ⊎_elim (λ (h : length stream < at + n). rw (lt-ltb (length stream) (at + n) h) (array-short h))
      (λ (h : at + n ≤ length stream). rw (le-ltb (length stream) (at + n) h) (array-there h long)) (below_or_not (length stream) (at + n))
