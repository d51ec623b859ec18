-- `program_request::method_number` meets its contract: a field of another length has another form.
use Rattle.std.proofs.Common.{◌≡◌, length, sym, arith}
use Rattle.program_request.proofs.Fields.{method-other, method-read, spelled-one}
use Rattle.program_request.proofs.method_number.Goals as goal

pub returns-in-len1 : goal.returns-in-len1
returns-in-len1 c =
    let one : length c.args.field.now ≡ 1 = omega arith in
    (method-read c.args.field.now one c.is_ascii_digit.ensures.value c.if-is_ascii_digit.true, sym (spelled-one c.args.field.now one))

pub returns-in_default : goal.returns-in_default
returns-in_default c = method-other c.args.field.now (λ (one : length c.args.field.now ≡ 1). absurd (omega arith))

pub returns-in_default-2 : goal.returns-in_default-2
returns-in_default-2 c =
    let one : length c.args.field.now ≡ 1 = omega arith in
    method-read c.args.field.now one c.is_ascii_digit.ensures.value c.if-is_ascii_digit.false

pub returns-in_default-3 : goal.returns-in_default-3
returns-in_default-3 c = method-other c.args.field.now (λ (one : length c.args.field.now ≡ 1). absurd (omega arith))
