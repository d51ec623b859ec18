-- Laws that tie the parts together: what is refused, and what is printed.
use mathlib.Core.Path.{◌≡◌, refl, sym, ap, ◌∙◌}
use mathlib.Core.List.{List}
use Prim.Native.Nat.{ℕ, suc, ◌-◌, ◌≤◌, ◌<◌}
use native.Mathlib.Omega.{arith}
use native.Mathlib.Nat.{suc-ne-zero}
use lib.ListN.{length}
use borrow.Author.Tests.{eq-eqb, ne_eqb}
use Rattle.jumbled.specs.Match.{positions}
use Rattle.jumbled.specs.Steps.{steps}
use Rattle.jumbled.specs.Refusals.{given, pattern_tests, request_tests, program_tests}
use Rattle.jumbled.proofs.Admission.{given-refused, given-later, given-small, request-numbered, program-numbered}
use Rattle.jumbled.proofs.Never.{never-given, program-not-5}
use Rattle.program_request.specs.Request.{request_method, request_tolerance, request_pattern, request_text, bad_line, request_number}
use Rattle.program_request.specs.declared.Request.{Request}
use Rattle.lent.specs.Written.{Written}
use Rattle.answers.specs.Numbers.{number_of}
use Rattle.answers.specs.declared.Refusal.{Refusal}
use Rattle.answers.proofs.Refused.{number-positive}
use Rattle.std.specs.Prelude.{Ok}
use Rattle.program_request.specs.Parsing.{Parses}
use Rattle.program_request.proofs.Answered.{Requested, parsed-ordered, text-shorter, not-long}
use Rattle.program_lines.specs.Lines.{output_text, refusal_text}
use Rattle.program_report.specs.Output.{request_refusal, answer_text, output}

-- ---- the refusal

-- 5 never comes from method 6 (document 02, T-04)
pub program-never-5 : (input : List ℕ) → request_method input ≡ 6 → request_refusal input ≡ 5 → ⊥
unfolding request_refusal
program-never-5 input six e =
    never-given (program-not-5 (request_pattern input) (request_tolerance input) (length input) (bad_line input)) (rw six at e)

module _ (input : List ℕ) where
  refusal-early : {n : ℕ} → request_number input ≡ suc n → request_refusal input ≡ suc n
  unfolding request_refusal program_tests request_number
  refusal-early e =
      given-refused (request_tests (length input) (bad_line input)) _ (request-numbered (length input) (bad_line input)) e

  refusal-good : request_number input ≡ 0 → request_refusal input ≡ given (pattern_tests (request_pattern input) (request_tolerance input) (request_method input))
  unfolding request_refusal program_tests request_number
  refusal-good e =
      given-later (request_tests (length input) (bad_line input)) _ (request-numbered (length input) (bad_line input)) e

  -- ---- and what is printed

  pub output-refused : (request_refusal input ≡ 0 → ⊥) → output input ≡ refusal_text (request_refusal input)
  unfolding output
  output-refused h = rw (ne_eqb (request_refusal input) 0 h) refl

  -- 6 or 11
  output-early : {n : ℕ} → request_number input ≡ suc n → output input ≡ refusal_text (suc n)
  output-early {n} e =
      let number : request_refusal input ≡ suc n = refusal-early e in
      output-refused (λ (q : request_refusal input ≡ 0). suc-ne-zero n (sym number ∙ q)) ∙ ap refusal_text number

  pub output-found : request_refusal input ≡ 0
      → output input
      ≡ output_text (request_pattern input) (request_tolerance input) (request_method input)
      (positions (request_pattern input) (request_tolerance input) (request_text input))
      (steps (request_pattern input) (request_tolerance input) (request_method input) (request_text input)).inspections
  unfolding output
  output-found h = rw (eq-eqb (request_refusal input) 0 h) refl

  -- past 6 and 11, what is printed is what the request asks for
  output-answer : request_number input ≡ 0
      → output input ≡ answer_text (request_pattern input) (request_tolerance input) (request_method input) (request_text input)
  unfolding output answer_text
  output-answer e = rw (refusal-good e) refl

  -- so of a request that `parse` reads, and of an input that it refuses
  pub request-output : {r : Request} → Requested input r → output input ≡ answer_text r.pattern.now r.k r.method r.text.now
  request-output q = output-answer q.accepted ∙ rw (q.pattern-is, q.text-is, q.k-is, q.method-is) refl

  -- put there, whichever way its text was cut from the input
  pub request-written : {r : Request} {T before after : List ℕ} {n : ℕ} → Requested input r
      → Written before 0 (answer_text r.pattern.now r.k r.method T) after n → T ≡ request_text input → Written before 0 (output input) after n
  request-written q put text = rw (request-output q, q.text-is, ← text) put

  pub output-refusal : (refusal : Refusal) → request_number input ≡ number_of refusal → output input ≡ refusal_text (number_of refusal)
  output-refusal refusal e =
      let positive = number-positive refusal in
      let whole : number_of refusal ≡ suc (number_of refusal - 1) = omega arith in
      output-early (e ∙ whole) ∙ ap refusal_text (sym whole)

-- every refusal's number has one or two digits
pub refusal-small : (input : List ℕ) → request_refusal input < 100
unfolding request_refusal
refusal-small input =
    given-small _ (program-numbered (length input) (bad_line input) (request_pattern input) (request_tolerance input) (request_method input))

-- ---- the places of a request that `parse` reads, and its text, which fits

module _ {input : List ℕ} {r : Request} (p : Parses input (Ok r)) where
  pub text_begins : r.line_end < r.end
  text_begins = (parsed-ordered input p).text

  pub text_ends : r.end ≤ length input
  text_ends = (parsed-ordered input p).within

pub text-fits : (input : List ℕ) {T : List ℕ} → request_number input ≡ 0 → T ≡ request_text input → length T ≤ 16384
text-fits input accepted text = omega (arith, ap length text, text-shorter input, not-long input accepted)
