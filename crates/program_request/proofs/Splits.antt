-- When the first line, cut at its two spaces, is good, and where its pattern stands.
use mathlib.Core.Path.{◌≡◌, refl, sym, ◌∙◌}
use mathlib.Core.Bool.{Bool, true, false, ◌&&◌, true≢false}
use mathlib.Core.List.{List}
use Prim.Native.Nat.{ℕ, ◌+◌}
use native.Mathlib.Omega.{arith}
use lib.ListN.{length, drop}
use lib.Seq.{drop-drop}
use Rattle.program_request.specs.Line.{has, before_first, after_first, method_form, tolerance_form, method_field, tolerance_field, pattern_field, good_line}
use Rattle.program_request.specs.Reading.{pattern_place}
use Rattle.program_request.proofs.Cuts.{after-drop, sides-length}

-- ---- the four conditions of a good line: each is needed, and together they are enough

and_second : (a c d : Bool) → (a && false && c && d) ≡ false
and_second true c d = refl
and_second false c d = refl

and-third : (a b d : Bool) → (a && b && false && d) ≡ false
and-third true true d = refl
and-third true false d = refl
and-third false b d = refl

and-fourth : (a b c : Bool) → (a && b && c && false) ≡ false
and-fourth true true true = refl
and-fourth true true false = refl
and-fourth true false c = refl
and-fourth false b c = refl

and_both : (a b : Bool) → (a && b) ≡ true → (a ≡ true) × (b ≡ true)
and_both true b e = (refl, e)
and_both false b e = absurd (true≢false (sym e))

module _ (line : List ℕ) where
  pub bad-no-space : has 32 line ≡ false → good_line line ≡ false
  unfolding good_line
  bad-no-space e = rw e refl

  pub bad-one-space : has 32 (after_first 32 line) ≡ false → good_line line ≡ false
  unfolding good_line
  bad-one-space e = rw e (and_second (has 32 line) _ _)

  pub bad-method : method_form (method_field line) ≡ false → good_line line ≡ false
  unfolding good_line
  bad-method e = rw e (and-third (has 32 line) (has 32 (after_first 32 line)) _)

  pub bad-tolerance : tolerance_form (tolerance_field line) ≡ false → good_line line ≡ false
  unfolding good_line
  bad-tolerance e = rw e (and-fourth (has 32 line) (has 32 (after_first 32 line)) (method_form (method_field line)))

  pub good-all : has 32 line ≡ true → has 32 (after_first 32 line) ≡ true → method_form (method_field line) ≡ true
      → tolerance_form (tolerance_field line) ≡ true → good_line line ≡ true
  unfolding good_line
  good-all a b c d = rw (a, b, c, d) refl

  pub good-forms : good_line line ≡ true → (method_form (method_field line) ≡ true) × (tolerance_form (tolerance_field line) ≡ true)
  unfolding good_line
  good-forms e =
      let all = and_both (has 32 line && has 32 (after_first 32 line) && method_form (method_field line)) (tolerance_form (tolerance_field line)) e in
      ((and_both (has 32 line && has 32 (after_first 32 line)) (method_form (method_field line)) all.0).1, all.1)

  good-spaces : good_line line ≡ true → (has 32 line ≡ true) × (has 32 (after_first 32 line) ≡ true)
  unfolding good_line
  good-spaces e =
      let forms = and_both (has 32 line && has 32 (after_first 32 line) && method_form (method_field line)) (tolerance_form (tolerance_field line)) e in
      and_both (has 32 line) (has 32 (after_first 32 line))
      (and_both (has 32 line && has 32 (after_first 32 line)) (method_form (method_field line)) forms.0).0

  -- ---- where the pattern stands

  pub pattern-is : drop (pattern_place line) line ≡ pattern_field line
  unfolding pattern_place method_field tolerance_field pattern_field
  pattern-is =
      sym (drop-drop (length (before_first 32 (after_first 32 line)) + 1) (length (before_first 32 line) + 1) line)
      ∙ rw (after-drop 32 line) (after-drop 32 (after_first 32 line))

  -- in a good line it is all that follows
  pub pattern-ends : good_line line ≡ true → pattern_place line + length (pattern_field line) ≡ length line
  unfolding pattern_place method_field tolerance_field pattern_field
  pattern-ends good =
      let spaces = good-spaces good in
      omega (arith, sides-length 32 line spaces.0, sides-length 32 (after_first 32 line) spaces.1)
