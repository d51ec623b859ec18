-- `search_state::admit_parts` meets its contract: a test a return.
use Rattle.std.proofs.Common.{Bool, true, false, cond, not, ℕ, List, ◌≡◌, refl, sym, ap, ◌∙◌, length, eqb, arith}
use Rattle.std.proofs.lemmas.Result.{err_from_is_err_and}
use borrow.Author.Tests.{eq-eqb, ne_eqb}
use Rattle.jumbled.specs.Refusals.{given, tail_length, tail_tests, pattern_tests, search_tests}
use Rattle.jumbled.proofs.Admission.{given-later, pattern-numbered, admitted}
use Rattle.admit_pattern.proofs.Refusing.{refused-first}
use Rattle.search_state.proofs.admit_parts.Goals as goal

pub returns-in_err-admitted : goal.returns-in_err-admitted
unfolding search_tests
returns-in_err-admitted c =
    let args = c.args in
    let refused = err_from_is_err_and c.from_residual.result c.from_residual.ensures.1 in
    rw (refused.1, refused.2)
    (record {
      number =
          refused-first (pattern_tests args.pattern.now args.k args.method) (tail_tests (length args.pattern.now) args.total args.tail)
          (pattern-numbered args.pattern.now args.k args.method) _ c.in_err-admitted.ensures.number;
      taken = tt;
    })

pub tail_length-requires : goal.tail_length-requires
tail_length-requires c =
    let args = c.args in
    omega (arith, (admitted args.pattern.now args.k args.method (sym c.in_ok-admitted.ensures.number)).some)

-- past the tests of the pattern, the number is that of the tail's test
by-tail : (P : List ℕ) (k method n t : ℕ) → given (pattern_tests P k method) ≡ 0 → (wrong : Bool) → not (eqb t (tail_length (length P) n)) ≡ wrong
    → cond wrong 9 0 ≡ given (search_tests P k method n t)
unfolding given search_tests tail_tests
by-tail P k method n t accepted wrong e = ap (λ (b : Bool). cond b 9 0) (sym e) ∙ sym (given-later (pattern_tests P k method) _ (pattern-numbered P k method) accepted)

pub returns-then-tail-tail_length : goal.returns-then-tail-tail_length
returns-then-tail-tail_length c =
    let args = c.args in
    record {
      number =
          by-tail args.pattern.now args.k args.method args.total args.tail (sym c.in_ok-admitted.ensures.number) true
          (rw (ne_eqb args.tail (tail_length (length args.pattern.now) args.total) (λ e. c.if-tail-tail_length.true (e ∙ sym c.tail_length.ensures))) refl);
      taken = tt;
    }

pub returns : goal.returns
returns c =
    let args = c.args in
    record {
      number =
          by-tail args.pattern.now args.k args.method args.total args.tail (sym c.in_ok-admitted.ensures.number) false
          (rw (eq-eqb args.tail (tail_length (length args.pattern.now) args.total) (c.if-tail-tail_length.false ∙ c.tail_length.ensures)) refl);
      taken = c.in_ok-admitted.ensures.taken;
    }
