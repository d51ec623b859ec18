-- What `parse` answers in each case is what the input asks for.
use mathlib.Core.Path.{◌≡◌, refl, sym, ap, ap₂, ◌∙◌}
use mathlib.Core.Bool.{Bool, true, false, not, ◌&&◌}
use mathlib.Core.List.{List}
use Prim.Native.Nat.{ℕ, ◌+◌, ◌-◌, ◌≤◌, ◌<◌}
use native.Mathlib.Omega.{arith}
use lib.ListN.{length, take, drop}
use borrow.Author.Tests.{lt-ltb, le-ltb}
use Rattle.std.specs.Prelude.{Ok, Err, None}
use Rattle.jumbled.specs.Refusals.{given, input_tests, line_tests, request_tests}
use Rattle.jumbled.proofs.Windows.{drop-take}
use Rattle.answers.specs.declared.Refusal.TheVariants.{TextTooLong, BadRequest}
use Rattle.program_request.specs.Line.{has, after_first, good_line}
use Rattle.program_request.specs.Reading.{Cut, line_meaning, line_parts, pattern_place}
use Rattle.program_request.specs.Request.{less_newline, first_line, request_method, request_tolerance, request_pattern, request_text, bad_line, request_number}
use Rattle.program_request.specs.Parsing.{asked, places, between, Parses}
use Rattle.program_request.specs.declared.Request.{Request}
use Rattle.program_request.specs.declared.Line.{Line}
use Rattle.program_request.proofs.Cuts.{before-take, after-drop}
use Rattle.program_request.proofs.Splits.{pattern-is, pattern-ends}
use Rattle.program_request.proofs.Texts.{less-first}
use Rattle.program_request.proofs.Lines.{LineFields, bad-said}

not_good : (a b : Bool) → b ≡ false → not (a && b) ≡ true
not_good true b e = ap not e
not_good false b e = refl

module _ (input : List ℕ) where
  pub too_long : 16384 < length input → Parses input (Err TextTooLong)
  unfolding asked places request_number request_tests input_tests line_tests given
  too_long l =
      let long = lt-ltb 16384 (length input) l in
      record { values = rw long refl; stand = rw long refl; parts = rw long refl }

  -- ---- where a request says that its pattern and its text stand

  record Stands (r : Request) : Type 0 where
    from_is : r.from ≡ pattern_place (first_line input)
    line_end_is : r.line_end ≡ length (first_line input)
    end_is : r.end ≡ length (first_line input) + 1 + length (request_text input)

  places-are : {line : List ℕ} (r : Request) → line ≡ first_line input → good_line (first_line input) ≡ true
      → r.pattern.now ≡ request_pattern input → r.text.now ≡ request_text input
      → r.from ≡ length line - length r.pattern.now → r.line_end ≡ length line → r.end ≡ length line + 1 + length r.text.now → Stands r
  unfolding request_pattern
  places-are r line good pattern text from line_end end =
      let size = ap length line in
      record {
        from_is = omega (arith, from, size, ap length pattern, pattern-ends (first_line input) good);
        line_end_is = omega (arith, line_end, size);
        end_is = omega (arith, end, size, ap length text);
      }

  module _ (r : Request) (at : Stands r) where
    pattern-stands : between input r.from r.line_end ≡ request_pattern input
    unfolding request_pattern first_line
    pattern-stands =
        sym (drop-take input r.from r.line_end)
        ∙ ap₂ (λ (n m : ℕ). drop n (take m input)) at.from_is at.line_end_is
        ∙ ap (drop (pattern_place (first_line input))) (before-take 10 input)
        ∙ pattern-is (first_line input)

    text-stands : between input (r.line_end + 1) r.end ≡ request_text input
    unfolding request_text first_line
    text-stands =
        let size : r.end - (r.line_end + 1) ≡ length (request_text input) = omega (arith, at.line_end_is, at.end_is) in
        ap₂ (λ (n m : ℕ). take n (drop (m + 1) input)) size at.line_end_is
        ∙ ap (take (length (request_text input))) (after-drop 10 input)
        ∙ less-first (after_first 10 input)

  module _ (short : length input ≤ 16384) where
    bad-line : bad_line input ≡ true → Parses input (Err BadRequest)
    unfolding asked places request_number request_tests input_tests line_tests given
    bad-line e =
        let taken = le-ltb 16384 (length input) short in
        record { values = rw (taken, e) refl; stand = rw (taken, e) refl; parts = rw (taken, e) refl }

    pub no-newline : has 10 input ≡ false → Parses input (Err BadRequest)
    unfolding bad_line
    no-newline e = bad-line (rw e refl)

    module _ {line rest : List ℕ} (cut : Cut 10 input line rest) where
      line-is : line ≡ first_line input
      unfolding first_line
      line-is = cut.before

      pub bad-fields : line_meaning None ≡ line_parts line → Parses input (Err BadRequest)
      unfolding bad_line
      bad-fields e = bad-line (not_good (has 10 input) (good_line (first_line input)) (rw line-is at (bad-said line e)))

      -- a good line, and the text after it
      pub request : (r : Request) (l : Line) → LineFields line l → r.method ≡ l.method → r.k ≡ l.k → r.pattern.now ≡ l.pattern.now
          → r.text.now ≡ less_newline rest
          → r.from ≡ length line - length r.pattern.now → r.line_end ≡ length line → r.end ≡ length line + 1 + length r.text.now
          → Parses input (Ok r)
      unfolding asked places request_number request_tests input_tests line_tests given bad_line request_method request_tolerance request_pattern request_text
      request r l fields method k pattern text from line_end end =
          let taken = le-ltb 16384 (length input) short in
          let good : good_line (first_line input) ≡ true = rw line-is at fields.good in
          let pattern_is : r.pattern.now ≡ request_pattern input = rw (pattern, fields.pattern-is, line-is) refl in
          let text_is : r.text.now ≡ request_text input = rw (text, cut.after) refl in
          let at : Stands r = places-are r line-is good pattern_is text_is from line_end end in
          record {
            values =
                rw (taken, cut.there, good, method, k, pattern, text, fields.method-is, fields.k-is, fields.pattern-is, line-is, cut.after) refl;
            stand = rw (taken, cut.there, good, at.from_is, at.line_end_is, at.end_is) refl;
            parts =
                rw (taken, cut.there, good, pattern-stands r at, text-stands r at, method, k, fields.method-is, fields.k-is, line-is) refl;
          }
