-- `program_request::tolerance_number` meets its contract: each arm by the field's length and by what its bytes are.
use Rattle.std.proofs.Common.{◌≡◌, length, sym, arith}
use Rattle.program_request.proofs.Fields.{tolerance-read, tolerance-no-digit, tolerance-zero, tolerance-none, spelled-two, spelled-one-byte}
use Rattle.program_request.proofs.tolerance_number.Goals as goal

pub returns-in-len1 : goal.returns-in-len1
returns-in-len1 c = spelled-one-byte c.args.field.now (omega arith) c.method_number.result c.method_number.ensures

pub returns-in-len2 : goal.returns-in-len2
returns-in-len2 c =
    let two : length c.args.field.now ≡ 2 = omega arith in (
      tolerance-read c.args.field.now two c.if-tens-ne48.true c.is_ascii_digit.ensures.value c.if-is_ascii_digit.true
          c.is_ascii_digit-then-is_ascii_digit.ensures.value c.if-is_ascii_digit-2.true,
      sym (spelled-two c.args.field.now two),
    )

pub returns-in_default : goal.returns-in_default
returns-in_default c =
    tolerance-none c.args.field.now (λ (one : length c.args.field.now ≡ 1). omega arith) (λ (two : length c.args.field.now ≡ 2). omega arith)

pub returns-in_default-2 : goal.returns-in_default-2
returns-in_default-2 c =
    tolerance-read c.args.field.now (omega arith) c.if-tens-ne48.true c.is_ascii_digit.ensures.value c.if-is_ascii_digit.true
    c.is_ascii_digit-then-is_ascii_digit.ensures.value c.if-is_ascii_digit-2.false

pub returns-in_default-3 : goal.returns-in_default-3
returns-in_default-3 c = tolerance-no-digit c.args.field.now (omega arith) c.is_ascii_digit.ensures.value c.if-is_ascii_digit.false

pub returns-in_default-4 : goal.returns-in_default-4
returns-in_default-4 c = tolerance-zero c.args.field.now (omega arith) c.if-tens-ne48.false

pub returns-in_default-5 : goal.returns-in_default-5
returns-in_default-5 c =
    tolerance-none c.args.field.now (λ (one : length c.args.field.now ≡ 1). omega arith) (λ (two : length c.args.field.now ≡ 2). omega arith)
