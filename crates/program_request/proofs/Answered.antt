-- What the answer of `parse` says: the number of the tests 6 and 11, what a request asks for, and where its pattern and its text stand.
use mathlib.Core.Path.{◌≡◌, refl, sym, ap, ◌∙◌}
use mathlib.Core.Bool.{Bool, true, false, cond, not, ◌&&◌, true≢false}
use mathlib.Core.List.{List}
use Prim.Native.Nat.{ℕ, zero, suc, ◌+◌, ◌≤◌, ◌<◌}
use native.Mathlib.Omega.{arith}
use lib.Dec.{eqb, eqb-suc-zero}
use lib.ListN.{length, length-drop}
use Rattle.std.specs.Prelude.{Result, Ok, Err}
use Rattle.jumbled.proofs.Admission.{request-taken}
use Rattle.answers.specs.declared.Refusal.{Refusal}
use Rattle.answers.specs.Numbers.{number_of}
use Rattle.program_request.specs.Line.{has, before_first, after_first, good_line}
use Rattle.program_request.specs.Request.{first_line, request_method, request_tolerance, request_pattern, request_text, bad_line, request_number}
use Rattle.program_request.specs.Parsing.{Asked, refused_with, asked, meaning, Places, places, between, Parses}
use Rattle.program_request.specs.declared.Request.{Request}
use Rattle.program_request.proofs.Cuts.{after-drop, sides-length}
use Rattle.program_request.proofs.Splits.{pattern-ends}
use Rattle.program_request.proofs.Texts.{less-shorter}

-- ---- the number of the tests 6 and 11, from what is answered

number-asked : (input : List ℕ) → (asked input).refusal ≡ request_number input
unfolding asked
number-asked input = by (request_number input) _ refl
  where
    by : (n : ℕ) (a : Asked) → a.refusal ≡ 0 → (cond (eqb n 0) a (refused_with n)).refusal ≡ n
    by zero a e = e
    by (suc n) a e = rw (eqb-suc-zero n) refl

module _ (input : List ℕ) where
  answered : (answer : Result Request Refusal) → Parses input answer → request_number input ≡ (meaning answer).refusal
  answered answer p = sym (number-asked input) ∙ sym (ap (λ (a : Asked). a.refusal) p.values)

  pub parsed-refused : (refusal : Refusal) → Parses input (Err refusal) → request_number input ≡ number_of refusal
  parsed-refused refusal p = answered (Err refusal) p

  pub record Requested (r : Request) : Type 0 where
    pub accepted : request_number input ≡ 0
    pub method-is : r.method ≡ request_method input
    pub k-is : r.k ≡ request_tolerance input
    pub pattern-is : r.pattern.now ≡ request_pattern input
    pub text-is : r.text.now ≡ request_text input
    pub pattern-at : between input r.from r.line_end ≡ request_pattern input
    pub text-at : between input (r.line_end + 1) r.end ≡ request_text input

  pub parsed-request : {r : Request} → Parses input (Ok r) → Requested r
  unfolding asked
  parsed-request {r} p =
      let none = answered (Ok r) p in
      let fields = rw none at p.values in
      let parts = rw none at p.parts in
      record {
        accepted = none;
        method-is = ap (λ (a : Asked). a.method) fields;
        k-is = ap (λ (a : Asked). a.k) fields;
        pattern-is = ap (λ (a : Asked). a.pattern) fields;
        text-is = ap (λ (a : Asked). a.text) fields;
        pattern-at = ap (λ (a : Asked). a.pattern) parts;
        text-at = ap (λ (a : Asked). a.text) parts;
      }

-- ---- an input that is not refused, and its text

pub not-long : (input : List ℕ) → request_number input ≡ 0 → length input ≤ 16384
unfolding request_number
not-long input e = (request-taken (length input) (bad_line input) e).short

-- the text is no longer than the input
pub text-shorter : (input : List ℕ) → length (request_text input) ≤ length input
unfolding request_text
text-shorter input =
    omega (
      arith,
      less-shorter (after_first 10 input),
      ap length (after-drop 10 input),
      length-drop (length (before_first 10 input) + 1) input,
    )

-- the newline is there, and the line before it is good
good-first : (input : List ℕ) → request_number input ≡ 0 → (has 10 input ≡ true) × (good_line (first_line input) ≡ true)
unfolding request_number bad_line
good-first input e = both (has 10 input) (good_line (first_line input)) (request-taken (length input) (bad_line input) e).good
  where
    both : (a b : Bool) → not (a && b) ≡ false → (a ≡ true) × (b ≡ true)
    both true true q = (refl, refl)
    both true false q = absurd (true≢false q)
    both false b q = absurd (true≢false q)

-- ---- the places of a request lie within the input, in this order

pub record Ordered (input : List ℕ) (r : Request) : Type 0 where
  pub pattern : r.from ≤ r.line_end
  pub text : r.line_end < r.end
  pub within : r.end ≤ length input

pub parsed-ordered : (input : List ℕ) {r : Request} → Parses input (Ok r) → Ordered input r
unfolding places request_text first_line
parsed-ordered input {r} p =
    let none = answered input (Ok r) p in
    let stand = rw none at p.stand in
    let good = good-first input none in
    let from_is = ap (λ (q : Places). q.from) stand in
    let line-is = ap (λ (q : Places). q.line_end) stand in
    let end_is = ap (λ (q : Places). q.end) stand in
    record {
      pattern = omega (arith, from_is, line-is, pattern-ends (first_line input) good.1);
      text = omega (arith, line-is, end_is);
      within = omega (arith, end_is, sides-length 10 input good.0, less-shorter (after_first 10 input));
    }
