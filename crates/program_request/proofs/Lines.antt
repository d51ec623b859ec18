-- What `first_line` says in each case of its answer, of a line cut at its two spaces.
use mathlib.Core.Path.{◌≡◌, refl, ap}
use mathlib.Core.Bool.{Bool, true, false}
use mathlib.Core.List.{List}
use Prim.Native.Nat.{ℕ, ◌≤◌}
use native.Mathlib.Omega.{arith}
use lib.ListN.{length}
use Rattle.std.specs.Prelude.{Some, None}
use Rattle.ascii.specs.Decimal.{decimal_value}
use Rattle.program_request.specs.Line.{has, method_form, tolerance_form, method_field, tolerance_field, pattern_field, good_line}
use Rattle.program_request.specs.Reading.{Cut, LineParts, line_meaning, line_parts}
use Rattle.program_request.specs.declared.Line.{Line}
use Rattle.program_request.proofs.Splits.{bad-no-space, bad-one-space, bad-method, bad-tolerance, good-all, pattern-ends}

module _ (line : List ℕ) where
  says-bad : good_line line ≡ false → line_meaning None ≡ line_parts line
  unfolding line_parts
  says-bad e = rw e refl

  pub without-space : has 32 line ≡ false → line_meaning None ≡ line_parts line
  without-space e = says-bad (bad-no-space line e)

  module _ {method rest : List ℕ} (first : Cut 32 line method rest) where
    method-is : method ≡ method_field line
    unfolding method_field
    method-is = first.before

    pub with-one-space : has 32 rest ≡ false → line_meaning None ≡ line_parts line
    with-one-space e = says-bad (bad-one-space line (rw first.after at e))

    pub without-method : method_form method ≡ false → line_meaning None ≡ line_parts line
    without-method e = says-bad (bad-method line (rw method-is at e))

    module _ {k pattern : List ℕ} (second : Cut 32 rest k pattern) where
      k-is : k ≡ tolerance_field line
      unfolding tolerance_field
      k-is = rw (← first.after) second.before

      pattern-is : pattern ≡ pattern_field line
      unfolding pattern_field
      pattern-is = rw (← first.after) second.after

      pub without-tolerance : tolerance_form k ≡ false → line_meaning None ≡ line_parts line
      without-tolerance e = says-bad (bad-tolerance line (rw k-is at e))

      pub with-fields : (l : Line) → l.pattern.now ≡ pattern → (method_form method ≡ true) × (l.method ≡ decimal_value 0 method)
          → (tolerance_form k ≡ true) × (l.k ≡ decimal_value 0 k) → line_meaning (Some l) ≡ line_parts line
      unfolding line_parts
      with-fields l is m t =
          let good : good_line line ≡ true =
          good-all line first.there (rw first.after at second.there) (rw method-is at m.0) (rw k-is at t.0) in
          rw (good, m.1, t.1, is, method-is, k-is, pattern-is) refl

  -- ---- and what an answer says of the line

  pub bad-said : line_meaning None ≡ line_parts line → good_line line ≡ false
  unfolding line_parts
  bad-said e = by (good_line line) refl
    where
      by : (t : Bool) → good_line line ≡ t → good_line line ≡ false
      by true good = let none = ap (λ (p : LineParts). p.refusal) (rw good at e) in absurd (omega arith)
      by false good = good

  -- the fields of a good line
  pub record LineFields (l : Line) : Type 0 where
    pub good : good_line line ≡ true
    pub method-is : l.method ≡ decimal_value 0 (method_field line)
    pub k-is : l.k ≡ decimal_value 0 (tolerance_field line)
    pub pattern-is : l.pattern.now ≡ pattern_field line

  pub fields-said : {l : Line} → line_meaning (Some l) ≡ line_parts line → LineFields l
  unfolding line_parts
  fields-said {l} e = by (good_line line) refl
    where
      by : (t : Bool) → good_line line ≡ t → LineFields l
      by true good =
          let parts = rw good at e in
          record {
            good = good;
            method-is = ap (λ (p : LineParts). p.method) parts;
            k-is = ap (λ (p : LineParts). p.k) parts;
            pattern-is = ap (λ (p : LineParts). p.pattern) parts;
          }
      by false good = let none = ap (λ (p : LineParts). p.refusal) (rw good at e) in absurd (omega arith)

  -- the pattern is a part of the line
  pub pattern-within : (l : Line) → LineFields l → length l.pattern.now ≤ length line
  pattern-within l fields = omega (arith, ap length fields.pattern-is, pattern-ends line fields.good)
