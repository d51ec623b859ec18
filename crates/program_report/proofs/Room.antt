-- How much the program prints: a buffer of 98,416 bytes has room for the output of every input. And how much of its input it has to read.
use mathlib.Core.Path.{◌≡◌, sym, ap, ◌∙◌}
use mathlib.Core.Bool.{false}
use mathlib.Core.List.{List}
use mathlib.Core.Logic.{⊎_elim}
use Prim.Native.Nat.{ℕ, ◌+◌, ◌≤◌, ◌<◌}
use native.Mathlib.Omega.{arith}
use lib.ListN.{length, take}
use lib.Seq.{length-take-le, take_all}
use Rattle.jumbled.specs.Match.{positions}
use Rattle.jumbled.specs.Steps.{steps}
use Rattle.jumbled.specs.Refusals.{request_tests, program_tests}
use Rattle.jumbled.proofs.Admission.{given-append-none, Admitted, admitted, request-taken, request-numbered}
use Rattle.jumbled.proofs.Sums.{below_or_not}
use Rattle.jumbled.proofs.Positions.{positions-few, positions-below}
use Rattle.lent.specs.Written.{Written}
use Rattle.lent.proofs.Writing.{written-length}
use Rattle.answers.specs.declared.Refusal.TheVariants.{TextTooLong}
use Rattle.program_request.specs.Request.{request_method, request_tolerance, request_pattern, request_text, bad_line}
use Rattle.program_request.proofs.Requests.{too_long}
use Rattle.program_request.proofs.Answered.{parsed-refused, text-shorter}
use Rattle.program_lines.specs.Lines.{output_text, refusal_text}
use Rattle.program_lines.proofs.Lines.{output-most, refusal-most}
use Rattle.program_report.specs.Output.{request_refusal, output}
use Rattle.program_report.specs.Reads.{input_room, ReadInto, FirstBytes, ReportsRead}
use Rattle.program_report.proofs.Answers.{output-refusal, output-found, output-refused, refusal-small}
use Rattle.program_report.proofs.Inspections.{steps-few}

-- ---- what is not refused

pub record Taken (input : List ℕ) : Type 0 where
  pub short : length input ≤ 16384
  pub good : bad_line input ≡ false
  pub request : Admitted (request_pattern input) (request_tolerance input) (request_method input)

pub taken : (input : List ℕ) → request_refusal input ≡ 0 → Taken input
unfolding request_refusal program_tests
taken input e =
    let parts = given-append-none (request_tests (length input) (bad_line input)) _ (request-numbered (length input) (bad_line input)) e in
    let early = request-taken (length input) (bad_line input) parts.0 in
    record {
      short = early.short;
      good = early.good;
      request = admitted (request_pattern input) (request_tolerance input) (request_method input) parts.1;
    }

-- ---- room for a refusal, for what is found, and for every output

pub refusal-room : {number room : ℕ} → number < 100 → 98416 ≤ room → 0 + length (refusal_text number) ≤ room
refusal-room {number} small most = omega (arith, refusal-most number small)

pub found-room : (P : List ℕ) (k method : ℕ) (T : List ℕ) → Admitted P k method → length T ≤ 16384
    → length (output_text P k method (positions P k T) (steps P k method T).inspections) ≤ 98416
found-room P k method T request fits =
    let some = request.some in
    let short = request.short in
    let within = request.within in
    let most = request.taken.most in
    let few = positions-few P k T in
    let inspections = steps-few P k method T request in
    omega (
      arith,
      output-most P k method (positions P k T) (steps P k method T).inspections short (omega arith) (omega arith)
          (positions-below P k T 100000 (omega arith)) (omega arith) (omega arith),
    )

output-room : (input : List ℕ) → length (output input) ≤ 98416
output-room input =
    ⊎_elim (λ (l : request_refusal input < 1). answered (omega arith)) (λ (l : 1 ≤ request_refusal input). refused l) (below_or_not (request_refusal input) 1)
  where
    answered : request_refusal input ≡ 0 → length (output input) ≤ 98416
    answered e =
        let t = taken input e in
        let fits = t.short in
        rw (output-found input e)
        (found-room (request_pattern input) (request_tolerance input) (request_method input) (request_text input) t.request (omega (arith, text-shorter input)))

    refused : 1 ≤ request_refusal input → length (output input) ≤ 98416
    refused l =
        rw (output-refused input (λ (e : request_refusal input ≡ 0). omega arith))
        (omega (arith, refusal-most (request_refusal input) (refusal-small input)))

-- so what is printed lies within a buffer of 98,560 bytes
pub output-inside : (input : List ℕ) {before after : List ℕ} {n : ℕ} → Written before 0 (output input) after n → length before ≡ 98560 → n ≤ length after
output-inside input w long = omega (arith, output-room input, w.place, written-length w (omega (arith, output-room input)))

-- ---- one byte more than the longest input is all that has to be read

long-output : (input : List ℕ) → 16384 < length input → output input ≡ refusal_text 6
long-output input l = output-refusal input TextTooLong (parsed-refused input TextTooLong (too_long input l))

pub output-cut : (input : List ℕ) → output (take input_room input) ≡ output input
output-cut input =
    ⊎_elim (λ (l : length input < input_room). ap output (take_all input_room input (omega arith)))
    (λ (l : input_room ≤ length input). long-output (take input_room input) (omega (arith, length-take-le input_room input l)) ∙ sym (long-output input (omega arith)))
    (below_or_not (length input) input_room)

-- so what is printed for the bytes read is what is printed for the input
pub output-read : (input bytes : List ℕ) (read : ℕ) → ReadInto bytes read → FirstBytes input bytes read → output (take read bytes) ≡ output input
output-read input bytes read r first = ap output (first ∙ ap (λ (n : ℕ). take n input) r.room) ∙ output-cut input

-- and it lies within the buffer: the bytes read are an input of their own
pub read-inside : {bytes before after : List ℕ} {read n : ℕ} → ReadInto bytes read → ReportsRead bytes read before after n → length before ≡ 98560
    → n ≤ length after
read-inside {bytes} {read = read} r reports long =
    output-inside (take read bytes)
    (reports (take read bytes) (sym (take_all (length bytes) (take read bytes) (omega (arith, length-take-le read bytes r.within, r.within))))) long
