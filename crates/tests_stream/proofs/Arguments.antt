-- Cases, as the code reads them.
use borrow.Author.Tests.{eq-eqb, ne_eqb, lt-ltb}
use mathlib.Core.Path.{◌≡◌, refl, sym, ap, subst, ◌∙◌}
use mathlib.Core.Bool.{true, false, true≢false}
use mathlib.Core.List.{List}
use Prim.Native.Nat.{ℕ, zero, suc, ◌≤◌}
use native.Mathlib.Omega.{arith}
use lib.ListN.{take}
use Rattle.tests_stream.specs.declared.Number.{Number}
use Rattle.tests_stream.specs.declared.Text.{Text}
use Rattle.tests_stream.specs.Reading.{nowhere, number_at}
use Rattle.tests_stream.specs.Texts.{spelling, spelling_at, text_byte, Spelled, TextRead}
use Rattle.table_parikh.specs.Table.{tabulate}
use Rattle.tests_stream.specs.Kinds.{kind_number, is_kind, is_hand}
use Rattle.tests_stream.specs.declared.cases.Kind.{Kind}
use Rattle.tests_stream.specs.declared.cases.Kind.TheVariants.{Unknown, Whole, Open, Feed, SetMethod, Save, Load, Hand, Report, FieldBits, Exact, Several, Marked, First, Resent}
use Rattle.tests_stream.specs.declared.cases.Case.{Case}
use Rattle.tests_stream.specs.declared.cases.Shape.{Shape}
use Rattle.tests_stream.specs.Arguments.{shape_of, case_text_spelling, case_text_at, CaseTextRead, method_at, case_at, CaseRead, kind_at, stored_case_at, stored_pattern, stored_text, StoredCase}
use Rattle.tests_stream.proofs.Filling.{filled-part}

not-hand : (kind : Kind) → (kind ≡ Hand → ⊥) → is_hand kind ≡ false
not-hand Unknown other = refl
not-hand Whole other = refl
not-hand Open other = refl
not-hand Feed other = refl
not-hand SetMethod other = refl
not-hand Save other = refl
not-hand Load other = refl
not-hand Hand other = absurd (other refl)
not-hand Report other = refl
not-hand FieldBits other = refl
not-hand Exact other = refl
not-hand Several other = refl
not-hand Marked other = refl
not-hand First other = refl
not-hand Resent other = refl

module _ (stream : List ℕ) (at : ℕ) (kind : Kind) (longest : ℕ) {text : Text} {before after : List ℕ} where
  pub searched-hand : kind ≡ Hand → Spelled stream (spelling at 149 false 0 149) text before after → CaseTextRead stream at kind longest text before after
  unfolding case_text_spelling case_text_at
  searched-hand hand spelled =
      record { is = rw hand spelled.is; bytes = rw hand spelled.bytes }

  pub searched-text : (kind ≡ Hand → ⊥) → TextRead stream at longest text before after → CaseTextRead stream at kind longest text before after
  unfolding case_text_spelling case_text_at
  searched-text other read = record { is = rw (not-hand kind other) read.is; bytes = rw (not-hand kind other) read.bytes }

-- each argument was read where the one before it ends
pub case-read : (stream : List ℕ) (at : ℕ) (kind : Kind) {shape : Shape} {pattern text : Text} {k method places : Number} {P P' T T' : List ℕ}
    → shape ≡ shape_of kind
    → TextRead stream at shape.pattern pattern P P'
    → k ≡ number_at stream pattern.next shape.k 255
    → method ≡ number_at stream k.next shape.method 255
    → CaseTextRead stream method.next kind shape.text text T T'
    → places ≡ number_at stream text.next shape.places shape.most
    → CaseRead stream at kind
    (record { kind = kind; pattern = pattern.len; k = k.value; method = method.value; text = text.len; places = places.value; next = places.next })
    P P' T T'
unfolding case_at method_at
case-read stream at kind es sought ek em searched ep =
    record {
      is = rw (ep, searched.is, em, ek, sought.is, es);
      pattern = rw es at sought.bytes;
      text = rw (em, ek, sought.is, es) at searched.bytes;
    }

-- the number of a kind is not 0, and of those up to 14 only 0 is no kind's
is_some : (n : ℕ) → is_kind n ≡ true → n ≡ 0 → ⊥
is_some zero known none = true≢false (sym known)
is_some (suc n) known none = omega arith

is_none : (n : ℕ) → n ≤ 14 → is_kind n ≡ false → n ≡ 0
is_none zero small unknown = refl
is_none (suc n) small unknown = absurd (true≢false (rw (lt-ltb 0 (suc n) (omega arith), lt-ltb (suc n) 15 (omega arith)) at unknown))

module _ (stream : List ℕ) (at : ℕ) {number : Number} {kind : Kind} {case : Case} {P P' T T' : List ℕ} where
  of-kind : kind_at stream at ≡ number → kind_number kind ≡ number.value → CaseRead stream number.next kind case P P' T T'
      → StoredCase stream at case P P' T T'
  unfolding case_at
  of-kind found named read =
      let same : case.kind ≡ kind = ap (λ (c : Case). c.kind) read.is in
      subst (λ (k : Kind). (kind_number k ≡ (kind_at stream at).value) × CaseRead stream (kind_at stream at).next k case P P' T T') (sym same)
      (rw found (named, read))

  -- a case of the kind whose number was read
  pub kind-some : number ≡ number_at stream at 1 14 → kind_number kind ≡ number.value → is_kind number.value ≡ true
      → CaseRead stream number.next kind case P P' T T' → StoredCase stream at case P P' T T'
  unfolding kind_at
  kind-some is named known read = of-kind (rw (← is, ne_eqb number.value 0 (is_some number.value known))) named read

-- or of none
pub kind-none : (stream : List ℕ) (at : ℕ) {number : Number} {case : Case} {P P' T T' : List ℕ}
    → number ≡ number_at stream at 1 14 → number.value ≤ 14 → is_kind number.value ≡ false
    → CaseRead stream nowhere Unknown case P P' T T' → StoredCase stream at case P P' T T'
unfolding kind_at
kind-none stream at {number} is small unknown read =
    of-kind stream at (rw (← is, eq-eqb number.value 0 (is_none number.value small unknown))) refl read

-- what was read is the case at that place, with its pattern and its text in the first bytes of the buffers
module _ {stream : List ℕ} (at : ℕ) {case : Case} {P P' T T' : List ℕ} (read : CaseRead stream (kind_at stream at).next case.kind case P P' T T') where
  pub stored-case : case ≡ stored_case_at stream at case.kind
  unfolding stored_case_at
  stored-case = read.is

  pub stored-pattern : take case.pattern P' ≡ stored_pattern stream at case.kind
  unfolding stored_pattern
  stored-pattern = filled-part read.pattern ∙ ap (λ (c : Case). tabulate c.pattern (text_byte stream (spelling_at stream (kind_at stream at).next (shape_of case.kind).pattern))) stored-case

  pub stored-text : take case.text T' ≡ stored_text stream at case.kind
  unfolding stored_text
  stored-text =
      filled-part read.text
      ∙ ap (λ (c : Case). tabulate c.text (text_byte stream (case_text_spelling stream (method_at stream (kind_at stream at).next case.kind).next case.kind (shape_of case.kind).text))) stored-case
